use Rattle.std.proofs.Common.{Some, ap}
use Rattle.zed_compare.proofs.stats.under_in.Goals as goal

pub returns-in-Some : goal.returns-in-Some
returns-in-Some c = λ x. rw c.in-Some.is (ap (λ v. Some v) (c.under_of.ensures x))
