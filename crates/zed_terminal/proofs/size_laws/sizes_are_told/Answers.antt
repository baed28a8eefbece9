use Rattle.zed_terminal.proofs.Sizes.{sizes_are_told}
use Rattle.zed_terminal.proofs.size_laws.sizes_are_told.Goals as goal

pub returns : goal.returns
returns c = record { result = sizes_are_told }
