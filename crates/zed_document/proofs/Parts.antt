-- A part of a text's alive bytes, walked by positions.
use Rattle.std.proofs.Common.{◌≡◌, ℕ, zero, suc, ◌+◌, ◌<◌, ◌≤◌, List, [], ◌∷◌, ◌++◌, Option, Some, None, refl, ap, subst, sym, ◌∙◌, arith, add-one}
use Rattle.std.specs.Prelude.{slice_get, option_map}
use Rattle.zed_types.specs.declared.names.ElemId.{ElemId}
use Rattle.zed_types.specs.declared.text.TextByte.{TextByte}
use Rattle.zed_document.specs.Authoring.{part, stretches}
use Rattle.zed_document.specs.Stretches.{begun, with_last}
use Rattle.zed_document.proofs.Counted.{Counts, count-next, count-few}
use Rattle.zed_document.proofs.Stretched.{stretches-behind}

part-next : {X : Type 0} (from k : ℕ) (xs : List X) (x : X) → from ≤ k → slice_get xs k ≡ Some x
    → part from (suc k) xs ≡ part from k xs ++ x ∷ []
part-next from k [] x l h = absurd (cc)
part-next zero zero (y ∷ ys) x l h = let q : y ≡ x = cc in ap (λ z. z ∷ []) q
part-next zero (suc k) (y ∷ ys) x l h = ap (λ zs. y ∷ zs) (part-next zero k ys x (omega arith) h)
part-next (suc from) zero (y ∷ ys) x l h = absurd (omega arith)
part-next (suc from) (suc k) (y ∷ ys) x l h = part-next from k ys x (omega arith) h

-- the byte of a name
named : (o : Option TextByte) (name : ElemId) → option_map (λ x. x.id) o ≡ Some name → (x : TextByte) × (o ≡ Some x) × (x.id ≡ name)
named None name h = absurd (cc)
named (Some x) name h = (x, refl, cc)

pub next-counts : (n : ℕ) (b : Option ElemId) (from k : ℕ) (xs : List TextByte) (name : ElemId) → from ≤ k → Counts n b (part from k xs)
    → option_map (λ x. x.id) (slice_get xs k) ≡ Some name
    → Counts (n + begun b name) (Some name) (part from (k + 1) xs)
next-counts n b from k xs name l h get =
    rw add-one next
  where
    next : Counts (n + begun b name) (Some name) (part from (suc k) xs)
    next =
        let x = named (slice_get xs k) name get in
        let more = count-next n b (part from k xs) x.0 h in
        let is : part from (suc k) xs ≡ part from k xs ++ x.0 ∷ [] = part-next from k xs x.0 l x.1 in
        subst (λ a. Counts (n + begun b a) (Some a) (part from (suc k) xs)) x.2 (subst (λ ys. Counts (n + begun b x.0.id) (Some x.0.id) ys) (sym is) more)

pub next-fits : (n : ℕ) (b : Option ElemId) (a : ElemId) (from k to : ℕ) (xs : List TextByte) → k < to → Counts n b (part from k xs)
    → n + begun b a ≤ to
next-fits n b a from k to xs l h = let few = count-few n b a from k xs h in omega arith

pub next-stretches : (from k : ℕ) (xs : List TextByte) (name : ElemId) → from ≤ k → option_map (λ x. x.id) (slice_get xs k) ≡ Some name
    → stretches (part from (k + 1) xs) ≡ with_last (stretches (part from k xs)) name
next-stretches from k xs name l get =
    rw add-one next
  where
    next : stretches (part from (suc k) xs) ≡ with_last (stretches (part from k xs)) name
    next =
        let x = named (slice_get xs k) name get in
        let is : part from (suc k) xs ≡ part from k xs ++ x.0 ∷ [] = part-next from k xs x.0 l x.1 in
        ap stretches is ∙ stretches-behind (part from k xs) x.0 ∙ ap (with_last (stretches (part from k xs))) x.2
