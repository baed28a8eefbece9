-- When an old file may go.
use Rattle.std.proofs.Common.{◌≡◌, ◌≢◌, ◌↔◌, Bool, Err, List, Ok, Result, false, inl, inr, refl, subst, sym, true, ℕ}
use Rattle.std.specs.Prelude.{IfOk, MatchBool}
use Rattle.zed_system.specs.Loss.{HasAll, MayGo, begins_as_edits}

-- the new bytes are the same
pub same_goes : (is_drawing : Bool) (new old : List ℕ) → old ≡ new → false ≡ false ↔ MayGo is_drawing new old
same_goes is_drawing new old is = (λ well. inl is, λ may. refl)

abbrev Unkept : Bool → List ℕ → List ℕ → Bool → Type 0
Unkept is_drawing new old edits = MatchBool edits (HasAll new old) (is_drawing ≡ false)

-- an edit file
pub edits_go : {E : Type 0} (is_drawing : Bool) (new old : List ℕ) (result : Result Bool E) → old ≢ new → begins_as_edits old ≡ true
    → IfOk result (λ lost. lost ≡ false ↔ HasAll new old)
    → IfOk result (λ lost. lost ≡ false ↔ MayGo is_drawing new old)
edits_go is_drawing new old (Err e) other begins is = tt
edits_go is_drawing new old (Ok lost) other begins is = (
  λ well. inr (subst (Unkept is_drawing new old) (sym begins) (is.0 well)),
  λ may. elim may [
    | inl same ↦ absurd (other same)
    | inr has ↦ is.1 (subst (Unkept is_drawing new old) begins has)
  ],
)

-- another file
pub others_go : (is_drawing : Bool) (new old : List ℕ) → old ≢ new → begins_as_edits old ≡ false → is_drawing ≡ false ↔ MayGo is_drawing new old
others_go is_drawing new old other begins = (
  λ none. inr (subst (Unkept is_drawing new old) (sym begins) none),
  λ may. elim may [
    | inl same ↦ absurd (other same)
    | inr none ↦ subst (Unkept is_drawing new old) begins none
  ],
)
