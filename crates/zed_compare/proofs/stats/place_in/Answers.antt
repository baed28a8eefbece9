use Rattle.std.proofs.Common.{Some, ap}
use Rattle.zed_compare.proofs.stats.place_in.Goals as goal

pub returns-in-Some : goal.returns-in-Some
returns-in-Some c = λ x. rw c.in-Some.is (ap (λ v. Some v) (c.place_of.ensures x))
