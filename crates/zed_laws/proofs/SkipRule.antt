-- The skip rule and a direct insertion of a later edit can change places.
use Rattle.std.proofs.Common.{◌≡◌, Bool, true, false, List, [], ◌∷◌, ◌++◌, Option, Some, None, refl, ap, sym}
use Rattle.std.specs.List.{AllByRecursion}
use Rattle.zed_types.specs.declared.stamp.Stamp.{Stamp}
use Rattle.zed_types.specs.declared.names.ElemId.{ElemId}
use Rattle.zed_types.specs.Stamp.{before}
use Rattle.zed_types.specs.Names.{same_element}
use Rattle.zed_types.specs.Text.{NoneLater, behind, put_after, pass_later, put_late}
use Rattle.zed_types.specs.declared.text.TextByte.{TextByte}

-- no element of a run has this name
abbrev pub NotNamed : ElemId → List TextByte → Type 0
NotNamed a xs = AllByRecursion (λ x. same_element x.id a ≡ false) xs

-- every element of a run is of a later edit
abbrev pub Later : Stamp → List TextByte → Type 0
Later s xs = AllByRecursion (λ x. before s x.id.name.stamp ≡ true) xs

pub behind-run : (a : ElemId) (f : List TextByte → List TextByte) (run xs : List TextByte) → NotNamed a run
    → behind a f (run ++ xs) ≡ run ++ behind a f xs
behind-run a f [] xs n = refl
behind-run a f (x ∷ run) xs n = rw (n.0, behind-run a f run xs n.1)

pub pass_later-run : (s : Stamp) (e run xs : List TextByte) → Later s run → pass_later s e (run ++ xs) ≡ run ++ pass_later s e xs
pass_later-run s e [] xs n = refl
pass_later-run s e (x ∷ run) xs n = rw (n.0, pass_later-run s e run xs n.1)

pub behind-none : (a : ElemId) (f : List TextByte → List TextByte) (run : List TextByte) → NotNamed a run → behind a f run ≡ run
behind-none a f [] n = refl
behind-none a f (x ∷ run) n = rw (n.0, behind-none a f run n.1)

-- past the later elements, and a later run behind `q`: in either order
pub pass_later-behind : (s : Stamp) (e h : List TextByte) (q : ElemId) (xs : List TextByte) → NotNamed q e → Later s h
    → pass_later s e (behind q (λ rest. h ++ rest) xs) ≡ behind q (λ rest. h ++ rest) (pass_later s e xs)
pass_later-behind s e h q [] ne lh = sym (behind-none q (λ rest. h ++ rest) e ne)
pass_later-behind s e h q (x ∷ xs) ne lh =
    go (pass_later-behind s e h q xs ne lh) (before s x.id.name.stamp) refl (same_element x.id q) refl
  where
    go : pass_later s e (behind q (λ rest. h ++ rest) xs) ≡ behind q (λ rest. h ++ rest) (pass_later s e xs) → (b : Bool)
        → before s x.id.name.stamp ≡ b → (c : Bool) → same_element x.id q ≡ c
        → pass_later s e (behind q (λ rest. h ++ rest) (x ∷ xs)) ≡ behind q (λ rest. h ++ rest) (pass_later s e (x ∷ xs))
    go more true b true c = rw (b, c) (ap (λ rest. x ∷ rest) (pass_later-run s e h xs lh))
    go more true b false c = rw (b, c) (ap (λ rest. x ∷ rest) more)
    go more false b true c = rw (b, behind-run q (λ rest. h ++ rest) e (x ∷ xs) ne, c)
    go more false b false c = rw (b, behind-run q (λ rest. h ++ rest) e (x ∷ xs) ne, c)

-- no element of `e` has the name of the place `q`, if it is one
abbrev pub PlaceNotIn : Option ElemId → List TextByte → Type 0
PlaceNotIn None e = Unit {0}
PlaceNotIn (Some q) e = NotNamed q e

behind-behind : (s : Stamp) (e h : List TextByte) (p q : ElemId) (xs : List TextByte) → NotNamed q e → NotNamed p h → Later s h
    → behind p (pass_later s e) (behind q (λ rest. h ++ rest) xs) ≡ behind q (λ rest. h ++ rest) (behind p (pass_later s e) xs)
behind-behind s e h p q [] qe ph lh = refl
behind-behind s e h p q (x ∷ xs) qe ph lh =
    go (behind-behind s e h p q xs qe ph lh) (same_element x.id p) refl (same_element x.id q) refl
  where
    go : behind p (pass_later s e) (behind q (λ rest. h ++ rest) xs) ≡ behind q (λ rest. h ++ rest) (behind p (pass_later s e) xs)
        → (b : Bool) → same_element x.id p ≡ b → (c : Bool) → same_element x.id q ≡ c
        → behind p (pass_later s e) (behind q (λ rest. h ++ rest) (x ∷ xs))
        ≡ behind q (λ rest. h ++ rest) (behind p (pass_later s e) (x ∷ xs))
    go more true b true c = rw (b, c) (ap (λ rest. x ∷ rest) (pass_later-run s e h xs lh))
    go more true b false c = rw (b, c) (ap (λ rest. x ∷ rest) (pass_later-behind s e h q xs qe lh))
    go more false b true c = rw (b, c) (ap (λ rest. x ∷ rest) (behind-run p (pass_later s e) h xs ph))
    go more false b false c = rw (b, c) (ap (λ rest. x ∷ rest) more)

-- the skip rule and a later direct insertion: in either order
pub put_late-put_after : (s : Stamp) (e h : List TextByte) (p q : Option ElemId) (xs : List TextByte) → PlaceNotIn q e → PlaceNotIn p h
    → Later s h
    → put_late p s e (put_after q h xs) ≡ put_after q h (put_late p s e xs)
put_late-put_after s e h None None xs qe ph lh = pass_later-run s e h xs lh
put_late-put_after s e h None (Some q) xs qe ph lh = pass_later-behind s e h q xs qe lh
put_late-put_after s e h (Some p) None xs qe ph lh = behind-run p (pass_later s e) h xs ph
put_late-put_after s e h (Some p) (Some q) xs qe ph lh = behind-behind s e h p q xs qe ph lh
