use Rattle.zed_look.proofs.Stripping.{codes_only_colour}
use Rattle.zed_look.proofs.laws.codes_only_colour.Goals as goal

pub returns : goal.returns
returns c = record { result = codes_only_colour }
