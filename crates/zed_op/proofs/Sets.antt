-- Sets of edits: what stands in them, and that a rising list is all that its members say.
use Rattle.std.proofs.Common.{◌≡◌, ℕ, zero, suc, ◌<◌, Bool, true, false, cond, List, [], ◌∷◌, length, get_or, refl, ap, ◌∙◌, sym, subst, arith}
use Rattle.std.specs.List.{AllByRecursion, Contains}
use mathlib.Core.Logic.{◌⊎◌, inl, inr}
use Rattle.zed_types.specs.declared.stamp.Stamp.{Stamp}
use Rattle.zed_types.specs.Stamp.{before, same_stamp}
use Rattle.zed_op.specs.declared.op.Edit.{Edit}
use Rattle.zed_op.specs.Set.{IsRising, with_edit, union}
use Rattle.zed_types.proofs.StampOrder.{same_stamp-true, before_irrefl, before_trans, before_asym, before_other}

-- an edit is one of a list
abbrev pub Member : Edit → List Edit → Type 0
Member e [] = ⊥
Member e (x ∷ xs) = (x ≡ e) ⊎ Member e xs

pub Member-from : (e : Edit) (xs : List Edit) → Contains xs e → Member e xs
Member-from e xs h = go xs h.0 h.1 h.2
  where
    go : (ys : List Edit) (k : ℕ) → k < length ys → get_or ys k e ≡ e → Member e ys
    go [] k l q = absurd (omega arith)
    go (y ∷ ys) zero l q = inl q
    go (y ∷ ys) (suc k) l q = inr (go ys k (omega arith) q)

pub Member-to : (e : Edit) (xs : List Edit) → Member e xs → Contains xs e
Member-to e [] h = absurd h
Member-to e (x ∷ xs) h = elim h [ inl q ↦ (zero, omega arith, q) | inr m ↦ (let r = Member-to e xs m in (suc r.0, omega (arith, r.1), r.2)) ]

pub Member-all : (P : Edit → Type 0) (xs : List Edit) → AllByRecursion P xs → (e : Edit) → Member e xs → P e
Member-all P [] h e m = absurd m
Member-all P (x ∷ xs) h e m = elim m [ inl q ↦ subst P q h.0 | inr n ↦ Member-all P xs h.1 e n ]

-- (1) a list stays rising
after : (s : Stamp) (e : Edit) (es : List Edit) → before s e.stamp ≡ true → AllByRecursion (λ f. before s f.stamp ≡ true) es
    → AllByRecursion (λ f. before s f.stamp ≡ true) (with_edit e es)
after s e [] b h = (b, tt)
after s e (f ∷ fs) b h = go (before e.stamp f.stamp) (same_stamp e.stamp f.stamp) (after s e fs b h.1)
  where
    go : (c d : Bool) → AllByRecursion (λ f. before s f.stamp ≡ true) (with_edit e fs)
        → AllByRecursion (λ f. before s f.stamp ≡ true) (cond c (e ∷ f ∷ fs) (cond d (f ∷ fs) (f ∷ with_edit e fs)))
    go true d more = (b, h)
    go false true more = h
    go false false more = (h.0, more)

all_after : (s r : Stamp) (es : List Edit) → before s r ≡ true → AllByRecursion (λ f. before r f.stamp ≡ true) es
    → AllByRecursion (λ f. before s f.stamp ≡ true) es
all_after s r [] b h = tt
all_after s r (f ∷ fs) b h = (before_trans s r f.stamp b h.0, all_after s r fs b h.1)

pub with_edit-rising : (e : Edit) (es : List Edit) → IsRising es → IsRising (with_edit e es)
with_edit-rising e [] r = (tt, tt)
with_edit-rising e (f ∷ fs) r = go (before e.stamp f.stamp) refl (same_stamp e.stamp f.stamp) refl (with_edit-rising e fs r.1)
  where
    go : (c : Bool) → before e.stamp f.stamp ≡ c → (d : Bool) → same_stamp e.stamp f.stamp ≡ d → IsRising (with_edit e fs)
        → IsRising (cond c (e ∷ f ∷ fs) (cond d (f ∷ fs) (f ∷ with_edit e fs)))
    go true c d same more = ((c, all_after e.stamp f.stamp fs c r.0), r)
    go false c true same more = r
    go false c false same more = (after f.stamp e fs (before_other e.stamp f.stamp c same) r.0, more)

pub union-rising : (es fs : List Edit) → IsRising es → IsRising (union es fs)
union-rising es [] r = r
union-rising es (f ∷ fs) r = union-rising (with_edit f es) fs (with_edit-rising f es r)

-- (2) what stands in a set with one more edit
pub with_edit-members : (g e : Edit) (es : List Edit) → Member g (with_edit e es) → (e ≡ g) ⊎ Member g es
with_edit-members g e [] m = elim m [ inl q ↦ inl q | inr n ↦ absurd n ]
with_edit-members g e (f ∷ fs) m = go (before e.stamp f.stamp) (same_stamp e.stamp f.stamp) m (λ k. with_edit-members g e fs k)
  where
    go : (c d : Bool) → Member g (cond c (e ∷ f ∷ fs) (cond d (f ∷ fs) (f ∷ with_edit e fs)))
        → (Member g (with_edit e fs) → (e ≡ g) ⊎ Member g fs)
        → (e ≡ g) ⊎ Member g (f ∷ fs)
    go true d n more = n
    go false true n more = inr n
    go false false n more = elim n [ inl q ↦ inr (inl q) | inr k ↦ elim (more k) [ inl q ↦ inl q | inr l ↦ inr (inr l) ] ]

pub with_edit-keeps : (g e : Edit) (es : List Edit) → Member g es → Member g (with_edit e es)
with_edit-keeps g e [] m = absurd m
with_edit-keeps g e (f ∷ fs) m = go (before e.stamp f.stamp) (same_stamp e.stamp f.stamp) (λ k. with_edit-keeps g e fs k)
  where
    go : (c d : Bool) → (Member g fs → Member g (with_edit e fs)) → Member g (cond c (e ∷ f ∷ fs) (cond d (f ∷ fs) (f ∷ with_edit e fs)))
    go true d more = inr m
    go false true more = m
    go false false more = elim m [ inl q ↦ inl q | inr k ↦ inr (more k) ]

pub with_edit-has : (e : Edit) (es : List Edit) → ((f : Edit) → Member f es → e.stamp ≡ f.stamp → f ≡ e) → Member e (with_edit e es)
with_edit-has e [] a = inl refl
with_edit-has e (f ∷ fs) a = go (before e.stamp f.stamp) (same_stamp e.stamp f.stamp) refl (with_edit-has e fs (λ g m s. a g (inr m) s))
  where
    go : (c d : Bool) → same_stamp e.stamp f.stamp ≡ d → Member e (with_edit e fs)
        → Member e (cond c (e ∷ f ∷ fs) (cond d (f ∷ fs) (f ∷ with_edit e fs)))
    go true d same more = inl refl
    go false true same more = inl (a f (inl refl) (same_stamp-true e.stamp f.stamp same))
    go false false same more = inr more

-- (3) and in a union
pub union-members : (g : Edit) (es fs : List Edit) → Member g (union es fs) → Member g es ⊎ Member g fs
union-members g es [] m = inl m
union-members g es (f ∷ fs) m =
    elim (union-members g (with_edit f es) fs m) [
      | inl k ↦ elim (with_edit-members g f es k) [ inl q ↦ inr (inl q) | inr l ↦ inl l ]
      | inr k ↦ inr (inr k)
    ]

pub union-keeps : (g : Edit) (es fs : List Edit) → Member g es → Member g (union es fs)
union-keeps g es [] m = m
union-keeps g es (f ∷ fs) m = union-keeps g (with_edit f es) fs (with_edit-keeps g f es m)

-- no edit of the one list has the stamp of another edit of the other
abbrev pub AgreeWith : List Edit → List Edit → Type 0
AgreeWith es fs = (e f : Edit) → Member e es → Member f fs → e.stamp ≡ f.stamp → e ≡ f

pub union-adds : (g : Edit) (es fs : List Edit) → AgreeWith es fs → AgreeWith fs fs → Member g fs → Member g (union es fs)
union-adds g es [] a b m = absurd m
union-adds g es (f ∷ fs) a b m = elim m [ inl q ↦ first q | inr k ↦ union-adds g (with_edit f es) fs a' b' k ]
  where
    a' : AgreeWith (with_edit f es) fs
    a' x y m n s = elim (with_edit-members x f es m) [
      | inl q ↦ b x y (inl q) (inr n) s
      | inr k ↦ a x y k (inr n) s
    ]

    b' : AgreeWith fs fs
    b' x y m n s = b x y (inr m) (inr n) s

    first : f ≡ g → Member g (union (with_edit f es) fs)
    first q = subst (λ x. Member x (union (with_edit f es) fs)) q (union-keeps f (with_edit f es) fs (with_edit-has f es (λ x k s. a x f k (inl refl) (sym s))))

-- (4) rising lists
later_than_first : (e g : Edit) (es : List Edit) → IsRising (e ∷ es) → Member g es → before e.stamp g.stamp ≡ true
later_than_first e g es r m = Member-all (λ f. before e.stamp f.stamp ≡ true) es r.0 g m

-- two edits, each of which would be before the other
no_cycle : {P : Type 0} (a b : Stamp) → before a b ≡ true → before b a ≡ true → P
no_cycle a b p q = let r = before_asym a b p in absurd (cc)

pub rising-agree : (es : List Edit) → IsRising es → AgreeWith es es
rising-agree [] r e f m n s = absurd m
rising-agree (x ∷ xs) r e f m n s =
    elim m [
      | inl q ↦ elim n [
        | inl p ↦ sym q ∙ p
        | inr k ↦ (let b = later_than_first x f xs r k in
            no_cycle x.stamp f.stamp b (rw (ap (λ y. y.stamp) q, s) (let c = rw (ap (λ y. y.stamp) q, s) at b in c)))
      ]
      | inr l ↦ elim n [
        | inl p ↦ (let b = later_than_first x e xs r l in
            no_cycle x.stamp e.stamp b (rw (ap (λ y. y.stamp) p, ← s) (let c = rw (ap (λ y. y.stamp) p, ← s) at b in c)))
        | inr k ↦ rising-agree xs r.1 e f l k s
      ]
    ]

-- two rising lists with the same members are equal
pub rising-same : (es fs : List Edit) → IsRising es → IsRising fs → ((e : Edit) → Member e es → Member e fs)
    → ((e : Edit) → Member e fs → Member e es)
    → es ≡ fs
rising-same [] [] r s there back = refl
rising-same [] (f ∷ fs) r s there back = absurd (back f (inl refl))
rising-same (e ∷ es) [] r s there back = absurd (there e (inl refl))
rising-same (e ∷ es) (f ∷ fs) r s there back =
    ap (λ x. x ∷ es) same ∙ ap (λ xs. f ∷ xs) (rising-same es fs r.1 s.1 there' back')
  where
    same : e ≡ f
    same =
        elim (there e (inl refl)) [
          | inl q ↦ sym q
          | inr m ↦ elim (back f (inl refl)) [
            | inl q ↦ q
            | inr n ↦ no_cycle e.stamp f.stamp (later_than_first e f es r n) (later_than_first f e fs s m)
          ]
        ]

    there' : (g : Edit) → Member g es → Member g fs
    there' g m =
        elim (there g (inr m)) [
          | inl q ↦ (let b = later_than_first e g es r m in let c = rw (same, q) at b in let i = before_irrefl g.stamp in absurd (cc))
          | inr n ↦ n
        ]

    back' : (g : Edit) → Member g fs → Member g es
    back' g m =
        elim (back g (inr m)) [
          | inl q ↦ (let b = later_than_first f g fs s m in let c = rw (← same, q) at b in let i = before_irrefl g.stamp in absurd (cc))
          | inr n ↦ n
        ]
