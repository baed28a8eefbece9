-- Edits: what is read is spelled so and fits, and what fits is read again from its spelling.
use Rattle.std.proofs.Common.{◌≡◌, ℕ, Bool, true, false, cond, eqb, List, [], ◌++◌, length, Option, Some, None, Result, Ok, Err, refl, ap, subst, ◌∙◌}
use Rattle.std.proofs.lemmas.Bool.{eqb-true}
use Rattle.std.proofs.lemmas.List.{append-nil, nil_from_length}
use Rattle.zed_types.specs.declared.stamp.Stamp.{Stamp}
use Rattle.zed_op.specs.declared.cause.Cause.{Cause}
use Rattle.zed_op.specs.declared.cause.Cause.TheVariants.{Long}
use Rattle.zed_op.specs.declared.op.Op.{Op}
use Rattle.zed_op.specs.declared.op.Edit.{Edit}
use Rattle.zed_op.specs.Fit.{fault, Fits}
use Rattle.zed_editfile.specs.declared.error.EditFileError.{EditFileError}
use Rattle.zed_editfile.specs.declared.error.EditFileError.TheVariants.{BadEdit}
use Rattle.zed_editfile.specs.Spelling.{stamp, op_text, spelling, IsOf}
use Rattle.zed_types.specs.Steps.{◌>>=◌}
use Rattle.zed_editfile.specs.Reading.{Field, byte_at, stamp_at, op_at, unchecked_edit_at, unless_faulty, edit_at}
use Rattle.zed_op.specs.Sizes.{HasSizes}
use Rattle.zed_editfile.proofs.Numbers.{IsBytes}
use Rattle.zed_types.proofs.Steps.{bind_ok, ok_is}
use Rattle.zed_editfile.proofs.Codec.{byte_field, stamp_field}
use Rattle.zed_editfile.proofs.Actions.{op_completes, op_again}

choice_ok : {A : Type 0} (b : Bool) (r : Result A EditFileError) (d : EditFileError) (y : A) → cond b r (Err d) ≡ Ok y
    → (b ≡ true) × (r ≡ Ok y)
choice_ok true r d y h = (refl, h)
choice_ok false r d y h = absurd cc

abbrev ended : Stamp → Op × List ℕ → Result Edit EditFileError
ended made op = cond (eqb (length op.1) 0) (Ok (record { stamp = made; op = op.0 })) (Err (BadEdit Long))

fields_take : (v : ℕ) (bytes : List ℕ) (e : Edit) → IsBytes bytes → unchecked_edit_at v bytes ≡ Ok e
    → (bytes ≡ spelling e) × HasSizes e × IsOf v e
unfolding unchecked_edit_at spelling
fields_take v bytes e fits h =
    let a = bind_ok (stamp_at bytes) (λ made. byte_at made.1 >>= λ n. op_at v n.0 n.1 >>= λ op. ended made.0 op) e h in
    let made = a.0 in
    let t0 = stamp_field.takes bytes made fits a.1 in
    let b = bind_ok (byte_at made.1) (λ n. op_at v n.0 n.1 >>= λ op. ended made.0 op) e a.2 in
    let n = b.0 in
    let t1 = byte_field.takes made.1 n t0.behind b.1 in
    let c = bind_ok (op_at v n.0 n.1) (λ op. ended made.0 op) e b.2 in
    let op = c.0 in
    let t2 = (op_completes v n.0).takes n.1 op t1.behind c.1 in
    let d = choice_ok (eqb (length op.1) 0) (Ok (record { stamp = made.0; op = op.0 })) (BadEdit Long) e c.2 in
    let nothing : op.1 ≡ [] = nil_from_length op.1 (eqb-true _ _ d.0) in
    let text : made.1 ≡ op_text op.0 = t1.parts ∙ t2.0 ∙ ap (λ (r : List ℕ). op_text op.0 ++ r) nothing ∙ append-nil (op_text op.0) in
    let whole : bytes ≡ stamp made.0 ++ op_text op.0 = t0.parts ∙ ap (λ (r : List ℕ). stamp made.0 ++ r) text in
    let P : Edit → Type 0 = λ e. (bytes ≡ stamp e.stamp ++ op_text e.op) × HasSizes e × IsOf v e in
    subst P (ok_is (record { stamp = made.0; op = op.0 }) e d.1) (whole, (t0.fits, t2.2.0), t2.2.1)

unfaulty : (o : Option Cause) (x e : Edit) → unless_faulty o x ≡ Ok e → (o ≡ None) × (x ≡ e)
unfaulty None x e h = (refl, ok_is x e h)
unfaulty (Some c) x e h = absurd cc

-- what is read is spelled so, and fits
pub edit_takes : (v : ℕ) (bytes : List ℕ) (e : Edit) → IsBytes bytes → edit_at v bytes ≡ Ok e
    → (bytes ≡ spelling e) × HasSizes e × Fits e × IsOf v e
unfolding edit_at
edit_takes v bytes e fits h =
    let a = bind_ok (unchecked_edit_at v bytes) (λ x. unless_faulty (fault x) x) e h in
    let u = unfaulty (fault a.0) a.0 e a.2 in
    let t = fields_take v bytes a.0 fits a.1 in
    let P : Edit → Type 0 = λ x. (bytes ≡ spelling x) × HasSizes x × Fits x × IsOf v x in
    subst P u.1 (t.0, t.1, u.0, t.2)

bind_bind : {A B C : Type 0} (r : Result A EditFileError) (f : A → Result B EditFileError) (k : B → Result C EditFileError)
    → (r >>= λ x. f x >>= k) ≡ ((r >>= f) >>= k)
bind_bind (Ok x) f k = refl
bind_bind (Err d) f k = refl

fields_again : (v : ℕ) (e : Edit) → HasSizes e → IsOf v e → unchecked_edit_at v (spelling e) ≡ Ok e
unfolding unchecked_edit_at spelling
fields_again v e room of =
    let k : Op × List ℕ → Result Edit EditFileError = λ op. ended e.stamp op in
    let second : (byte_at (op_text e.op) >>= λ n. op_at v n.0 n.1 >>= k) ≡ Ok e =
    bind_bind (byte_at (op_text e.op)) (λ n. op_at v n.0 n.1) k ∙ ap (λ (x : Field Op). x >>= k) (op_again v e.op (room.1, of)) in
    ap (λ (x : Field Stamp). x >>= λ made. byte_at made.1 >>= λ n. op_at v n.0 n.1 >>= λ op. ended made.0 op) (stamp_field.again e.stamp (op_text e.op) room.0) ∙ second

-- what fits is read again
pub edit_again : (v : ℕ) (e : Edit) → HasSizes e → Fits e → IsOf v e → edit_at v (spelling e) ≡ Ok e
unfolding edit_at
edit_again v e room fits of = rw (fields_again v e room of, fits) refl
