use Rattle.zed_look.proofs.Stripping.{lines_are_rows}
use Rattle.zed_look.proofs.laws.lines_are_rows.Goals as goal

pub returns : goal.returns
returns c = record { result = lines_are_rows }
