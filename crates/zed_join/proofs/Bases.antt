-- A document that these edits were delivered to.
use Rattle.std.proofs.Common.{◌≡◌, Bool, true, false, List, [], MatchBool, Result, Ok, Err, inl, inr}
use Rattle.std.specs.Prelude.{◌⊎◌}
use Rattle.zed_op.specs.declared.op.Edit.{Edit}
use Rattle.zed_op.specs.Set.{AllFit, set_of}
use Rattle.zed_document.specs.declared.error.DocumentError.{DocumentError}
use Rattle.zed_document.specs.declared.error.DocumentError.TheVariants.{Memory}
use Rattle.zed_document.specs.Delivery.{AnswersEach, DeliveriesComeToSets}
use Rattle.zed_document.specs.Replica.{Replica}

abbrev done : Result (Unit {0}) DocumentError
done = Ok tt

by_false : (P Q : Type 0) (b : Bool) → b ≡ false → MatchBool b P Q → Q
by_false P Q true is so = absurd (let no : true ≡ false = is in cc)
by_false P Q false is so = so

-- it has their set
pub set_delivered : DeliveriesComeToSets → (d : Replica) (es left : List Edit) → d.is_stale ≡ false → d.edits ≡ [] → AllFit es
    → (done ≡ Err Memory) ⊎ AnswersEach d es done left → left ≡ set_of es
set_delivered law d es left sound none fit (inl lack) = absurd (cc)
set_delivered law d es left sound none fit (inr answers) =
    elim (law d es done left sound none fit (by_false _ _ d.is_stale sound answers)) [
      | inl is ↦ is.2
      | inr clash ↦ absurd (let no = clash.2 in cc)
    ]
