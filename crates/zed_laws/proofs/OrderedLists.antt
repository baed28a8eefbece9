-- Lists in the order of names.
use Rattle.std.proofs.Common.{◌≡◌, ℕ, Bool, true, false, ◌&&◌, ◌||◌, List, [], ◌∷◌, find, Some, None, refl, ap, ◌∙◌, sym, arith, eqb, ltb}
use Rattle.std.specs.List.{AllByRecursion}
use Rattle.std.proofs.lemmas.Bool.{and_parts, or_parts}
use Rattle.zed_types.specs.declared.stamp.Stamp.{Stamp}
use Rattle.zed_types.specs.declared.names.Name.{Name}
use Rattle.zed_types.specs.Stamp.{before, same_stamp}
use Rattle.zed_types.specs.Names.{name_of, same_name, NamesRise, is_earlier}
use mathlib.Core.Logic.{◌⊎◌, inl, inr}
use Rattle.zed_types.proofs.StampOrder.{same_stamp-true, same_stamp-itself, before_trans}
use Rattle.zed_types.proofs.Facts.{some_is, or_right}
use Rattle.zed_laws.specs.Ordered.{OrderedAreTheirMembers}

-- a stamp and an index before another
abbrev earlier : Stamp → ℕ → Stamp → ℕ → Bool
earlier r m s n = is_earlier (name_of r m) (name_of s n)

-- names are the same, or one is earlier
itself : (s : Stamp) (n : ℕ) → (same_stamp s s && eqb n n) ≡ true
itself s n = grind (arith)

not-itself : (r s : Stamp) (m n : ℕ) → earlier r m s n ≡ true → (same_stamp s r && eqb n m) ≡ false
not-itself r s m n h = grind (arith, h)

stamps-linear : (r s : Stamp) → before r s ≡ false → before s r ≡ false → same_stamp s r ≡ true
stamps-linear r s h k = grind (arith, h, k)

one-way : (r s : Stamp) → same_stamp s r ≡ true → same_stamp r s ≡ true
one-way r s h = grind (arith, h)

indices-linear : (m n : ℕ) → ltb m n ≡ false → ltb n m ≡ false → eqb n m ≡ true
indices-linear m n h k = grind (arith, h, k)

linear : (r s : Stamp) (m n : ℕ) → earlier r m s n ≡ false → earlier s n r m ≡ false → (same_stamp s r && eqb n m) ≡ true
linear r s m n h k =
    let a = or_parts (before r s) (same_stamp r s && ltb m n) h in
    let b = or_parts (before s r) (same_stamp s r && ltb n m) k in
    let t : same_stamp s r ≡ true = stamps-linear r s a.0 b.0 in
    let u : same_stamp r s ≡ true = one-way r s t in
    let c : ltb m n ≡ false = sym (ap (λ v. v && ltb m n) u) ∙ a.1 in
    let d : ltb n m ≡ false = sym (ap (λ v. v && ltb n m) t) ∙ b.1 in
    ap (λ v. v && eqb n m) t ∙ indices-linear m n c d

earlier-parts : (a u b : Bool) → (a || (u && b)) ≡ true → (a ≡ true) ⊎ ((u ≡ true) × (b ≡ true))
earlier-parts true u b h = inl refl
earlier-parts false true true h = inr (refl, refl)
earlier-parts false true false h = absurd (cc)
earlier-parts false false b h = absurd (cc)

by-stamp : (r s : Stamp) (m n : ℕ) → before r s ≡ true → earlier r m s n ≡ true
by-stamp r s m n h = ap (λ v. v || (same_stamp r s && ltb m n)) h

below : (l m n : ℕ) → ltb l m ≡ true → ltb m n ≡ true → ltb l n ≡ true
below l m n h k = grind (arith, h, k)

by-index : (r : Stamp) (m n : ℕ) → ltb m n ≡ true → earlier r m r n ≡ true
by-index r m n h = or_right (before r r) (same_stamp r r && ltb m n) (ap (λ v. v && ltb m n) (same_stamp-itself r) ∙ h)

earlier-through : (r s t : Stamp) (l m n : ℕ) → earlier r l s m ≡ true → earlier s m t n ≡ true → earlier r l t n ≡ true
earlier-through r s t l m n h k =
    elim (earlier-parts (before r s) (same_stamp r s) (ltb l m) h) [
      | inl a ↦ elim (earlier-parts (before s t) (same_stamp s t) (ltb m n) k) [
        | inl b ↦ by-stamp r t l n (before_trans r s t a b)
        | inr b ↦ by-stamp r t l n (ap (before r) (sym (same_stamp-true s t b.0)) ∙ a)
      ]
      | inr a ↦ elim (earlier-parts (before s t) (same_stamp s t) (ltb m n) k) [
        | inl b ↦ by-stamp r t l n (ap (λ q. before q t) (same_stamp-true r s a.0) ∙ b)
        | inr b ↦ ap (λ q. earlier r l q n) (sym (same_stamp-true r s a.0 ∙ same_stamp-true s t b.0)) ∙ by-index r l n (below l m n a.1 b.1)
      ]
    ]

same-index : (m n : ℕ) → eqb m n ≡ true → m ≡ n
same-index m n h = grind (arith, h)

earlier-same : (r s t : Stamp) (m n k : ℕ) → (same_stamp r s && eqb m n) ≡ true → earlier r m t k ≡ true → earlier s n t k ≡ true
earlier-same r s t m n k h e =
    let p = and_parts (same_stamp r s) (eqb m n) h in
    ap (λ q. earlier q n t k) (sym (same_stamp-true r s p.0)) ∙ ap (λ i. earlier r i t k) (sym (same-index m n p.1)) ∙ e

module _ (X : Type 0) (name : X → Name) where
  abbrev stamp : X → Stamp
  stamp x = (name x).stamp

  abbrev index : X → ℕ
  index x = (name x).index

  abbrev named : Stamp → ℕ → X → Bool
  named s n x = same_name (name x) (name_of s n)

  -- a name that comes before all members finds none
  find-none : (s : Stamp) (n : ℕ) (xs : List X) → AllByRecursion (λ y. earlier s n (stamp y) (index y) ≡ true) xs
      → find (named s n) xs ≡ None
  find-none s n [] h = refl
  find-none s n (y ∷ xs) h =
      let out : named s n y ≡ false = not-itself s (stamp y) n (index y) h.0 in
      rw out (find-none s n xs h.1)

  -- an earlier name than the first member's finds none
  all-later : (s : Stamp) (n : ℕ) (y : X) (xs : List X) → earlier s n (stamp y) (index y) ≡ true
      → AllByRecursion (λ z. earlier (stamp y) (index y) (stamp z) (index z) ≡ true) xs
      → AllByRecursion (λ z. earlier s n (stamp z) (index z) ≡ true) xs
  all-later s n y [] e h = tt
  all-later s n y (z ∷ xs) e h = (earlier-through s (stamp y) (stamp z) n (index y) (index z) e h.0, all-later s n y xs e h.1)

  find-first : (x : X) (xs : List X) → find (named (stamp x) (index x)) (x ∷ xs) ≡ Some x
  find-first x xs = let i : named (stamp x) (index x) x ≡ true = itself (stamp x) (index x) in rw i refl

  not-earlier : (x y : X) (xs ys : List X) → NamesRise name (y ∷ ys)
      → find (named (stamp x) (index x)) (x ∷ xs) ≡ find (named (stamp x) (index x)) (y ∷ ys)
      → earlier (stamp x) (index x) (stamp y) (index y) ≡ false
  not-earlier x y xs ys r e = go (earlier (stamp x) (index x) (stamp y) (index y)) refl
    where
      go : (b : Bool) → earlier (stamp x) (index x) (stamp y) (index y) ≡ b → b ≡ false
      go false b = refl
      go true b =
          let none : find (named (stamp x) (index x)) (y ∷ ys) ≡ None =
          find-none (stamp x) (index x) (y ∷ ys) (b, all-later (stamp x) (index x) y ys b r.0) in
          let c : Some x ≡ None = sym (find-first x xs) ∙ e ∙ none in
          absurd (cc)

  same-first : (x y : X) (xs ys : List X) → NamesRise name (x ∷ xs) → NamesRise name (y ∷ ys)
      → ((s : Stamp) (n : ℕ) → find (named s n) (x ∷ xs) ≡ find (named s n) (y ∷ ys))
      → x ≡ y
  same-first x y xs ys p q e =
      let a = not-earlier x y xs ys q (e (stamp x) (index x)) in
      let b = not-earlier y x ys xs p (sym (e (stamp y) (index y))) in
      let same : named (stamp x) (index x) y ≡ true = linear (stamp x) (stamp y) (index x) (index y) a b in
      let there : find (named (stamp x) (index x)) (y ∷ ys) ≡ Some y = rw same refl in
      some_is x y (sym (find-first x xs) ∙ e (stamp x) (index x) ∙ there)

  -- behind the first members each name finds the same too
  same-rest : (x y : X) (xs ys : List X) → x ≡ y → NamesRise name (x ∷ xs) → NamesRise name (y ∷ ys)
      → ((s : Stamp) (n : ℕ) → find (named s n) (x ∷ xs) ≡ find (named s n) (y ∷ ys)) → (s : Stamp) (n : ℕ)
      → find (named s n) xs ≡ find (named s n) ys
  same-rest x y xs ys i p q e s n = go (named s n x) refl (named s n y) refl
    where
      rest-find : (z : X) (zs : List X) → named s n z ≡ false → find (named s n) (z ∷ zs) ≡ find (named s n) zs
      rest-find z zs b = rw b refl

      later-same : (z : X) (zs : List X) → named s n z ≡ true
          → AllByRecursion (λ w. earlier (stamp z) (index z) (stamp w) (index w) ≡ true) zs
          → AllByRecursion (λ w. earlier s n (stamp w) (index w) ≡ true) zs
      later-same z [] b h = tt
      later-same z (w ∷ zs) b h = (earlier-same (stamp z) s (stamp w) (index z) n (index w) b h.0, later-same z zs b h.1)

      go : (b : Bool) → named s n x ≡ b → (c : Bool) → named s n y ≡ c → find (named s n) xs ≡ find (named s n) ys
      go false b false c = sym (rest-find x xs b) ∙ e s n ∙ rest-find y ys c
      go true b true c = find-none s n xs (later-same x xs b p.0) ∙ sym (find-none s n ys (later-same y ys c q.0))
      go true b false c = let f = ap (named s n) i in absurd (cc)
      go false b true c = let f = ap (named s n) i in absurd (cc)

pub ordered_are_their_members : {X : Type 0} → OrderedAreTheirMembers X
ordered_are_their_members name [] [] p q e = refl
ordered_are_their_members {X = X} name [] (y ∷ ys) p q e = let c : None ≡ Some y = e (name y) ∙ find-first X name y ys in absurd (cc)
ordered_are_their_members {X = X} name (x ∷ xs) [] p q e = let c : None ≡ Some x = sym (e (name x)) ∙ find-first X name x xs in absurd (cc)
ordered_are_their_members {X = X} name (x ∷ xs) (y ∷ ys) p q e =
    let f = λ (s : Stamp) (n : ℕ). e (name_of s n) in
    let i = same-first X name x y xs ys p q f in
    rw (i, ordered_are_their_members name xs ys p.1 q.1 (λ n. same-rest X name x y xs ys i p q f n.stamp n.index)) refl
