use Rattle.zed_laws.proofs.SameThings.{made_stays_made, made_outlasts_edits}
use Rattle.zed_laws.proofs.laws.made_things_stay.Goals as goal

pub returns : goal.returns
returns c = record { step = made_stays_made; edits = made_outlasts_edits }
