use Rattle.std.proofs.Common.{Some, ap}
use Rattle.zed_compare.proofs.stats.step_in.Goals as goal

pub returns-in-Some : goal.returns-in-Some
returns-in-Some c = λ x. rw c.in-Some.is (ap (λ v. Some v) (c.step_of.ensures x))
