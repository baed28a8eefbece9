-- Flags that change.
use Rattle.std.proofs.Common.{◌≡◌, ◌≢◌, ◌∙◌, ℕ, zero, suc, ◌<◌, Bool, true, false, ◌||◌, List, [], ◌∷◌, length, position, slice_set, Some, refl, sym, ap, arith}
use Rattle.std.specs.Str.{bytes_eq}
use Rattle.std.proofs.lemmas.Slice.Eq.{bytes_eq-Decides}
use Rattle.zed_scene.specs.Flags.{flagged, has_flag, is_free}

neither : (a b : Bool) → (a || b) ≡ false → (a ≡ false) × (b ≡ false)
neither true b e = absurd (cc)
neither false b e = (refl, e)

same_head : (f w : List ℕ) (fs gs : List (List ℕ)) → f ∷ fs ≡ w ∷ gs → f ≡ w
same_head f w fs gs e = cc

same_tail : (f w : List ℕ) (fs gs : List (List ℕ)) → f ∷ fs ≡ w ∷ gs → fs ≡ gs
same_tail f w fs gs e = cc

-- a word that no flag has changes the flag into which it is put
put_changes : (w : List ℕ) (fs : List (List ℕ)) (i : ℕ) → has_flag fs w ≡ false → i < length fs → slice_set fs i w ≢ fs
put_changes w [] i none h e = absurd (omega arith)
put_changes w (f ∷ fs) zero none h e =
    let same : f ≡ w = same_head f w fs fs (sym e) in
    let is : bytes_eq f w ≡ true = (bytes_eq-Decides f w).1 same in
    let other : bytes_eq f w ≡ false = (neither (bytes_eq f w) (has_flag fs w) none).0 in
    absurd (cc)
put_changes w (f ∷ fs) (suc i) none h e =
    put_changes w fs i (neither (bytes_eq f w) (has_flag fs w) none).1 (omega arith) (same_tail f f (slice_set fs i w) fs e)

-- where no flag has a word and one is free, the word changes the flags
pub flag_changes : (w : List ℕ) (fs : List (List ℕ)) (i : ℕ) → has_flag fs w ≡ false → position is_free fs ≡ Some i → i < length fs
    → flagged w fs ≢ fs
unfolding flagged
flag_changes w fs i none free h e =
    let put : flagged w fs ≡ slice_set fs i w = rw (none, free) refl in
    put_changes w fs i none h (sym put ∙ e)
