use Rattle.std.proofs.Common.{refl}
use Rattle.zed_link.proofs.Deliveries.{delivered_more}
use Rattle.zed_link.proofs.laws.deliveries_go_on.Goals as goal

pub returns : goal.returns
returns c = λ d first next mid left r all more. delivered_more d (record d { edits = mid }) first next r left refl refl all more
