-- What is answered of an edit that is refused by its check.
use Rattle.std.proofs.Common.{◌≡◌, ◌⊎◌, inl, inr, Option, Some, None, Result, Err}
use Rattle.zed_op.specs.declared.cause.Cause.{Cause}
use Rattle.zed_op.specs.declared.cause.EditError.{EditError}
use Rattle.zed_op.specs.declared.cause.EditError.TheVariants as edit
use Rattle.zed_op.specs.Verdict.{verdict}
use Rattle.zed_document.specs.declared.error.DocumentError.{DocumentError}
use Rattle.zed_document.specs.declared.error.DocumentError.TheVariants.{Memory, BadEdit}
use Rattle.zed_document.specs.Errors.{refusal_of}

abbrev pub Checked : Type 0
Checked = Result (Unit {0}) EditError

-- where every cause answers as it is told, so does a check that refuses
pub refused-answers : {X : Type 0} (P : Option Cause → Result X DocumentError → Type 0)
    → ((c : Cause) (d : Result X DocumentError) → d ≡ Err (BadEdit c) → P (Some c) d)
    → (f : Option Cause) (r : EditError) (a : Checked) (d : Result X DocumentError) → a ≡ Err r → (a ≡ Err edit.Memory) ⊎ (a ≡ verdict f)
    → d ≡ Err (refusal_of r)
    → (d ≡ Err Memory) ⊎ P f d
refused-answers P law f edit.Memory a d is h k = inl k
refused-answers P law None (edit.BadEdit c) a d is (inl h) k = absurd (cc)
refused-answers P law None (edit.BadEdit c) a d is (inr h) k = absurd (cc)
refused-answers P law (Some x) (edit.BadEdit c) a d is (inl h) k = absurd (cc)
refused-answers P law (Some x) (edit.BadEdit c) a d is (inr h) k = inr (law x d (cc))
