-- Hints in a map.
use mathlib.Core.Logic.{◌⊎◌, inl, inr}
use Rattle.std.proofs.Common.{◌≡◌, ◌<◌, ℕ, zero, suc, ◌+◌, List, [], ◌∷◌, ◌++◌, length, take, drop, get_or, slice_get, Some, refl, ap, ◌∙◌, sym, arith}
use Rattle.std.specs.BTreeMap.{insert_entry}
use Rattle.std.specs.declared.cmp.Ordering.{Ordering}
use Rattle.std.specs.declared.cmp.Ordering.TheVariants.{Less, Equal, Greater}
use Rattle.std.specs.Ordering.{nat_cmp, ordering_then, match_ordering}
use Rattle.zed_types.specs.declared.names.ElemId.{ElemId}
use Rattle.zed_types.specs.Stamp.{stamp_cmp}
use Rattle.zed_code.specs.Kept.{IsOne}

-- the order of names
abbrev pub elem_cmp : ElemId → ElemId → Ordering
elem_cmp a b = ordering_then (stamp_cmp a.name.stamp b.name.stamp) (nat_cmp a.name.index b.name.index)

pub same_elem : (a b : ElemId) → elem_cmp a b ≡ Equal → a ≡ b
same_elem a b h =
    let make : ℕ → ℕ → ℕ → ElemId = λ n m i. record { name = record { stamp = record { time = n; replica = m }; index = i } } in
    let times : a.name.stamp.time ≡ b.name.stamp.time = grind (arith) in
    let replicas : a.name.stamp.replica ≡ b.name.stamp.replica = grind (arith) in
    let indices : a.name.index ≡ b.name.index = grind (arith) in
    let path : make a.name.stamp.time a.name.stamp.replica a.name.index ≡ make b.name.stamp.time b.name.stamp.replica b.name.index =
    rw (times, replicas, indices) refl in
    path

module _ (k : ElemId) (v : ℕ) (hint : ElemId × ℕ) where
  later : (e : ElemId × ℕ) (es : List (ElemId × ℕ)) → (IsOne es hint ⊎ ((hint.0 ≡ k) × (hint.1 ≡ v)))
      → (IsOne (e ∷ es) hint ⊎ ((hint.0 ≡ k) × (hint.1 ≡ v)))
  later e es (inl one) = inl (suc one.0, one.1)
  later e es (inr own) = inr own

  some-is : (e : ElemId × ℕ) → Some e ≡ Some hint → e ≡ hint
  some-is e h = cc

  pub adds-one : (es : List (ElemId × ℕ)) → IsOne (insert_entry elem_cmp es k v) hint → IsOne es hint ⊎ ((hint.0 ≡ k) × (hint.1 ≡ v))
  adds-one [] (zero, g) = let e = some-is (k, v) g in inr (ap (λ p. p.0) (sym e), ap (λ p. p.1) (sym e))
  adds-one [] (suc i, g) = absurd (cc)
  adds-one (e ∷ es) one = go (elem_cmp k e.0) refl one (adds-one es)
    where
      go : (o : Ordering) → elem_cmp k e.0 ≡ o
          → IsOne (match_ordering o ((k, v) ∷ e ∷ es) ((e.0, v) ∷ es) (e ∷ insert_entry elem_cmp es k v)) hint
          → (IsOne (insert_entry elem_cmp es k v) hint → IsOne es hint ⊎ ((hint.0 ≡ k) × (hint.1 ≡ v)))
          → IsOne (e ∷ es) hint ⊎ ((hint.0 ≡ k) × (hint.1 ≡ v))
      go Less h (zero, g) more = let f = some-is (k, v) g in inr (ap (λ p. p.0) (sym f), ap (λ p. p.1) (sym f))
      go Less h (suc i, g) more = inl (i, g)
      go Equal h (zero, g) more = let f = some-is (e.0, v) g in inr (ap (λ p. p.0) (sym f) ∙ sym (same_elem k e.0 h), ap (λ p. p.1) (sym f))
      go Equal h (suc i, g) more = inl (suc i, g)
      go Greater h (zero, g) more = inl (zero, g)
      go Greater h (suc i, g) more = later e es (more (i, g))

get-drop : (es : List (ElemId × ℕ)) (i k : ℕ) → slice_get (drop i es) k ≡ slice_get es (i + k)
get-drop es zero k = ap (slice_get es) (omega arith)
get-drop [] (suc i) k = refl
get-drop (x ∷ es) (suc i) k = let e : suc i + k ≡ suc (i + k) = omega arith in rw e (get-drop es i k)

get-take : (es : List (ElemId × ℕ)) (n k : ℕ) (e : ElemId × ℕ) → slice_get (take n es) k ≡ Some e → slice_get es k ≡ Some e
get-take es zero k e g = absurd (cc)
get-take [] (suc n) k e g = absurd (cc)
get-take (x ∷ es) (suc n) zero e g = g
get-take (x ∷ es) (suc n) (suc k) e g = get-take es n k e g

get-last : (ts : List (ElemId × ℕ)) (e : ElemId × ℕ) → slice_get (ts ++ e ∷ []) (length ts) ≡ Some e
get-last [] e = refl
get-last (t ∷ ts) e = get-last ts e

-- the last of some of the hints is one of them
pub last-one : (es ts part : List (ElemId × ℕ)) (e : ElemId × ℕ) (i n : ℕ) → part ≡ take n (drop i es) → part ≡ ts ++ e ∷ [] → IsOne es e
last-one es ts part e i n p q = (i + length ts, sym (get-drop es i (length ts)) ∙ get-take (drop i es) n (length ts) e (ap (λ xs. slice_get xs (length ts)) (sym p ∙ q) ∙ get-last ts e))

pub some-place : (ps : List ℕ) (i d : ℕ) → i < length ps → slice_get ps i ≡ Some (get_or ps i d)
some-place [] i d l = absurd (omega (arith, l))
some-place (p ∷ ps) zero d l = refl
some-place (p ∷ ps) (suc i) d l = some-place ps i d (omega (arith, l))

pub some-number : (m n : ℕ) → Some m ≡ Some n → m ≡ n
some-number m n e = cc
