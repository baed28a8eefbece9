-- Whether an edit is there, by its place.
use Rattle.std.proofs.Common.{◌≡◌, ◌∙◌, ℕ, Bool, true, false, cond, List, [], ◌∷◌, Some, None, Result, Ok, Err, IfOk, OnErr, is_ok, is_some, refl, ap, sym}
use Rattle.std.specs.Prelude.{◌||◌}
use Rattle.std.specs.Borrow.{Bor}
use Rattle.std.specs.List.{find, list_any}
use Rattle.zed_types.specs.declared.stamp.Stamp.{Stamp}
use Rattle.zed_types.specs.Stamp.{same_stamp}
use Rattle.zed_op.specs.declared.op.Edit.{Edit}
use Rattle.zed_history.specs.Finding.{edit_with}
use Rattle.zed_join.specs.Sides.{has_stamp}

any_found : (p : Edit → Bool) (es : List Edit) → is_some (find p es) ≡ list_any p es
any_found p [] = refl
any_found p (e ∷ es) = go (p e) (any_found p es)
  where
    go : (b : Bool) → is_some (find p es) ≡ list_any p es → is_some (cond b (Some e) (find p es)) ≡ (b || list_any p es)
    go true more = refl
    go false more = more

-- it is there where its place holds it
pub spot_tells : (s : Stamp) (es : List Edit) (r : Result (Bor Edit) ℕ) → IfOk r (λ f. edit_with s es ≡ Some f.now)
    → OnErr r (edit_with s es ≡ None) → is_ok r ≡ has_stamp es s
spot_tells s es (Ok f) there free = sym (ap is_some there) ∙ any_found (λ f. same_stamp f.stamp s) es
spot_tells s es (Err i) there free = sym (ap is_some free) ∙ any_found (λ f. same_stamp f.stamp s) es
