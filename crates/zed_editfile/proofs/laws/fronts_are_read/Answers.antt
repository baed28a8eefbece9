use Rattle.zed_editfile.proofs.Faults.{cut_is_told_at_the_end}
use Rattle.zed_editfile.proofs.Fronts.{fronts_are_read}
use Rattle.zed_editfile.proofs.laws.fronts_are_read.Goals as goal

pub returns-clause-front : goal.returns-clause-front
returns-clause-front c = fronts_are_read

pub returns-clause-cut : goal.returns-clause-cut
returns-clause-cut c = cut_is_told_at_the_end
