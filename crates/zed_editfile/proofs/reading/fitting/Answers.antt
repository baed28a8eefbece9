use Rattle.std.proofs.Common.{◌≡◌, ◌⊎◌, inl, inr, Option, Some, None, Result, Ok, Err, refl}
use Rattle.zed_op.specs.declared.cause.Cause.{Cause}
use Rattle.zed_op.specs.declared.cause.EditError.{EditError}
use Rattle.zed_op.specs.declared.cause.EditError.TheVariants as edit
use Rattle.zed_op.specs.declared.op.Edit.{Edit}
use Rattle.zed_op.specs.Fit.{fault}
use Rattle.zed_op.specs.Verdict.{verdict, HangsOnItsWorld}
use Rattle.zed_editfile.specs.declared.error.EditFileError.TheVariants.{Memory, BadEdit}
use Rattle.zed_editfile.specs.Refusals.{of_edit}
use Rattle.std.proofs.lemmas.Result.{err_from_is_err_and}
use Rattle.zed_editfile.specs.Reading.{unless_faulty}
use Rattle.zed_editfile.proofs.reading.fitting.Goals as goal

good : (r : Result (Unit {0}) EditError) (o : Option Cause) (u : Unit {0}) (e : Edit) → r ≡ Ok u → (r ≡ Err edit.Memory) ⊎ (r ≡ verdict o)
    → unless_faulty o e ≡ Ok e
good r None u e h v = refl
good r (Some c) u e h v = elim v [ inl m ↦ absurd cc | inr n ↦ absurd cc ]

bad : (r : Result (Unit {0}) EditError) (o : Option Cause) (cause : Cause) (e : Edit) → r ≡ Err (edit.BadEdit cause)
    → (r ≡ Err edit.Memory) ⊎ (r ≡ verdict o)
    → unless_faulty o e ≡ Err (BadEdit cause)
bad r None cause e h v = elim v [ inl m ↦ absurd cc | inr n ↦ absurd cc ]
bad r (Some c) cause e h v = elim v [ inl m ↦ absurd cc | inr n ↦ cc ]

told : (r : Result (Unit {0}) EditError) (o : Option Cause) (x : EditError) (e : Edit) (Wants : Type 0) → r ≡ Err x
    → (r ≡ Err edit.Memory) ⊎ (r ≡ verdict o) → (r ≡ Err edit.Memory → Wants)
    → ((of_edit x ≡ Memory) × Wants) ⊎ (unless_faulty o e ≡ Err (of_edit x))
told r o edit.Memory e Wants h v w = inl (refl, w h)
told r o (edit.BadEdit cause) e Wants h v w = inr (bad r o cause e h v)

pub returns-in_err-check : goal.returns-in_err-check
returns-in_err-check c =
    let p = err_from_is_err_and c.from_residual.result c.from_residual.ensures.1 in
    rw (p.1, p.2) (told c.check.result (fault c.args.edit) c.in_err-check.field-0.0 c.args.edit (HangsOnItsWorld c.args.edit) c.in_err-check.was c.check.ensures.result c.check.ensures.err)

pub returns : goal.returns
returns c = good c.check.result (fault c.args.edit) c.in_ok-check.field-0 c.args.edit c.in_ok-check.was c.check.ensures.result
