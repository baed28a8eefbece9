-- What stands in the edits taken, in those held, and in those that pass a test; and where a new edit goes.
use Rattle.std.proofs.Common.{◌≡◌, Bool, true, false, cond, List, [], ◌∷◌, ◌++◌, filter, refl, ap, subst}
use Rattle.std.specs.List.{AllByRecursion}
use mathlib.Core.Logic.{◌⊎◌, inl, inr}
use Rattle.zed_types.specs.Stamp.{before, same_stamp}
use Rattle.zed_types.proofs.StampOrder.{before_irrefl}
use Rattle.zed_op.specs.declared.op.Edit.{Edit}
use Rattle.zed_op.specs.Set.{IsRising, with_edit}
use Rattle.zed_op.proofs.Sets.{Member, Member-all}
use Rattle.zed_edit.specs.declared.plain.Plain.{Plain}
use Rattle.zed_edit.specs.Replay.{can, step, replay_on, taken_on, held_on}
use Rattle.zed_laws.proofs.HeldAlone.{held-all}

-- what holds of each member holds of all
pub all-members : (P : Edit → Type 0) (es : List Edit) → ((e : Edit) → Member e es → P e) → AllByRecursion P es
all-members P [] h = tt
all-members P (e ∷ es) h = (h e (inl refl), all-members P es (λ f m. h f (inr m)))

-- no edit comes before itself
pub never : (f e : Edit) → f ≡ e → before f.stamp e.stamp ≡ true → ⊥
never f e q b =
    let c : before e.stamp e.stamp ≡ true = subst (λ (x : Edit). before x.stamp e.stamp ≡ true) q b in
    let i = before_irrefl e.stamp in
    absurd (cc)

pub later : (f e : Edit) (es : List Edit) → AllByRecursion (λ g. before f.stamp g.stamp ≡ true) es → Member e es
    → before f.stamp e.stamp ≡ true
later f e es a m = Member-all (λ g. before f.stamp g.stamp ≡ true) es a e m

-- ---- those taken and those held

pub held-rising : (p : Plain) (es : List Edit) → IsRising es → IsRising (held_on p es)
held-rising p [] r = tt
held-rising p (e ∷ es) r = go (can p e) (held-all (λ f. before e.stamp f.stamp ≡ true) (step p e) es r.0) (held-rising (step p e) es r.1)
  where
    go : (b : Bool) → AllByRecursion (λ f. before e.stamp f.stamp ≡ true) (held_on (step p e) es) → IsRising (held_on (step p e) es)
        → IsRising (cond b (held_on (step p e) es) (e ∷ held_on (step p e) es))
    go true a more = more
    go false a more = (a, more)

pub either : (p : Plain) (e : Edit) (es : List Edit) → Member e es → Member e (taken_on p es) ⊎ Member e (held_on p es)
either p e [] m = absurd m
either p e (f ∷ es) m = go (can p f) m (λ k. either (step p f) e es k)
  where
    go : (b : Bool) → Member e (f ∷ es) → (Member e es → Member e (taken_on (step p f) es) ⊎ Member e (held_on (step p f) es))
        → Member e (cond b (f ∷ taken_on (step p f) es) (taken_on (step p f) es))
        ⊎ Member e (cond b (held_on (step p f) es) (f ∷ held_on (step p f) es))
    go true m more = elim m [ inl q ↦ inl (inl q) | inr k ↦ elim (more k) [ inl t ↦ inl (inr t) | inr h ↦ inr h ] ]
    go false m more = elim m [ inl q ↦ inr (inl q) | inr k ↦ elim (more k) [ inl t ↦ inl t | inr h ↦ inr (inr h) ] ]

pub taken-in : (p : Plain) (e : Edit) (es : List Edit) → Member e (taken_on p es) → Member e es
taken-in p e [] m = absurd m
taken-in p e (f ∷ es) m = go (can p f) m (λ k. taken-in (step p f) e es k)
  where
    go : (b : Bool) → Member e (cond b (f ∷ taken_on (step p f) es) (taken_on (step p f) es))
        → (Member e (taken_on (step p f) es) → Member e es)
        → Member e (f ∷ es)
    go true m more = elim m [ inl q ↦ inl q | inr k ↦ inr (more k) ]
    go false m more = inr (more m)

pub held-in : (p : Plain) (e : Edit) (es : List Edit) → Member e (held_on p es) → Member e es
held-in p e [] m = absurd m
held-in p e (f ∷ es) m = go (can p f) m (λ k. held-in (step p f) e es k)
  where
    go : (b : Bool) → Member e (cond b (held_on (step p f) es) (f ∷ held_on (step p f) es))
        → (Member e (held_on (step p f) es) → Member e es)
        → Member e (f ∷ es)
    go true m more = inr (more m)
    go false m more = elim m [ inl q ↦ inl q | inr k ↦ inr (more k) ]

pub not-both : (p : Plain) (e : Edit) (es : List Edit) → IsRising es → Member e (taken_on p es) → Member e (held_on p es) → ⊥
not-both p e [] r m n = absurd m
not-both p e (f ∷ es) r m n = go (can p f) m n (λ k l. not-both (step p f) e es r.1 k l)
  where
    first : f ≡ e → Member e es → ⊥
    first q k = never f e q (later f e es r.0 k)

    go : (b : Bool) → Member e (cond b (f ∷ taken_on (step p f) es) (taken_on (step p f) es))
        → Member e (cond b (held_on (step p f) es) (f ∷ held_on (step p f) es))
        → (Member e (taken_on (step p f) es) → Member e (held_on (step p f) es) → ⊥)
        → ⊥
    go true m n more = elim m [ inl q ↦ first q (held-in (step p f) e es n) | inr k ↦ more k n ]
    go false m n more = elim n [ inl q ↦ first q (taken-in (step p f) e es m) | inr k ↦ more m k ]

-- where one of those held stands, it couldn't be done
pub record HeldAt (p : Plain) (e : Edit) (es : List Edit) : Type 0 where
  pub low : List Edit
  pub high : List Edit
  pub whole : es ≡ low ++ e ∷ high
  pub held : can (replay_on p low) e ≡ false

pub held-at : (p : Plain) (e : Edit) (es : List Edit) → Member e (held_on p es) → HeldAt p e es
held-at p e [] m = absurd m
held-at p e (f ∷ es) m = go (can p f) refl m (λ k. held-at (step p f) e es k)
  where
    behind : HeldAt (step p f) e es → HeldAt p e (f ∷ es)
    behind k = record { low = f ∷ k.low; high = k.high; whole = ap (λ xs. f ∷ xs) k.whole; held = k.held }

    go : (b : Bool) → can p f ≡ b → Member e (cond b (held_on (step p f) es) (f ∷ held_on (step p f) es))
        → (Member e (held_on (step p f) es) → HeldAt (step p f) e es)
        → HeldAt p e (f ∷ es)
    go true c m more = behind (more m)
    go false c m more = elim m [
      | inl q ↦ record { low = []; high = es; whole = ap (λ x. x ∷ es) q; held = subst (λ x. can p x ≡ false) q c }
      | inr k ↦ behind (more k)
    ]

-- ---- those that pass a test

pub in-filter : (test : Edit → Bool) (e : Edit) (es : List Edit) → Member e (filter test es) → Member e es × (test e ≡ true)
in-filter test e [] m = absurd m
in-filter test e (f ∷ es) m = go (test f) refl m (λ k. in-filter test e es k)
  where
    go : (b : Bool) → test f ≡ b → Member e (cond b (f ∷ filter test es) (filter test es))
        → (Member e (filter test es) → Member e es × (test e ≡ true))
        → Member e (f ∷ es) × (test e ≡ true)
    go true b m more = elim m [ inl q ↦ (inl q, subst (λ x. test x ≡ true) q b) | inr k ↦ (inr (more k).0, (more k).1) ]
    go false b m more = (inr (more m).0, (more m).1)

pub to-filter : (test : Edit → Bool) (e : Edit) (es : List Edit) → Member e es → test e ≡ true → Member e (filter test es)
to-filter test e [] m h = absurd m
to-filter test e (f ∷ es) m h = go (test f) refl m (λ k. to-filter test e es k h)
  where
    go : (b : Bool) → test f ≡ b → Member e (f ∷ es) → (Member e es → Member e (filter test es))
        → Member e (cond b (f ∷ filter test es) (filter test es))
    go true b m more = elim m [ inl q ↦ inl q | inr k ↦ inr (more k) ]
    go false b m more = elim m [ inl q ↦ (let c = subst (λ x. test x ≡ false) q b in absurd (cc)) | inr k ↦ more k ]

filter-all : (P : Edit → Type 0) (test : Edit → Bool) (es : List Edit) → AllByRecursion P es → AllByRecursion P (filter test es)
filter-all P test [] h = tt
filter-all P test (e ∷ es) h = go (test e) (filter-all P test es h.1)
  where
    go : (b : Bool) → AllByRecursion P (filter test es) → AllByRecursion P (cond b (e ∷ filter test es) (filter test es))
    go true more = (h.0, more)
    go false more = more

pub filter-rising : (test : Edit → Bool) (es : List Edit) → IsRising es → IsRising (filter test es)
filter-rising test [] r = tt
filter-rising test (e ∷ es) r = go (test e) (filter-all (λ f. before e.stamp f.stamp ≡ true) test es r.0) (filter-rising test es r.1)
  where
    go : (b : Bool) → AllByRecursion (λ f. before e.stamp f.stamp ≡ true) (filter test es) → IsRising (filter test es)
        → IsRising (cond b (e ∷ filter test es) (filter test es))
    go true a more = (a, more)
    go false a more = more

-- ---- the place of a new edit

pub record IsCut (e : Edit) (es : List Edit) : Type 0 where
  pub low : List Edit
  pub high : List Edit
  pub whole : es ≡ low ++ high
  pub with_it : with_edit e es ≡ low ++ e ∷ high

pub cut : (e : Edit) (es : List Edit) → AllByRecursion (λ f. same_stamp e.stamp f.stamp ≡ false) es → IsCut e es
cut e [] n = record { low = []; high = []; whole = refl; with_it = refl }
cut e (f ∷ es) n = go (before e.stamp f.stamp) refl (cut e es n.1)
  where
    go : (b : Bool) → before e.stamp f.stamp ≡ b → IsCut e es → IsCut e (f ∷ es)
    go true b k = record { low = []; high = f ∷ es; whole = refl; with_it = rw b refl }
    go false b k =
        record { low = f ∷ k.low; high = k.high; whole = ap (λ xs. f ∷ xs) k.whole; with_it = rw (b, n.0) (ap (λ xs. f ∷ xs) k.with_it) }

pub all-behind : (P : Edit → Type 0) (low high : List Edit) → AllByRecursion P (low ++ high) → AllByRecursion P high
all-behind P [] high a = a
all-behind P (e ∷ low) high a = all-behind P low high a.1
