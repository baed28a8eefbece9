-- The latest write of a union is the later one of those of its sides.
use Rattle.std.proofs.Common.{◌≡◌, Bool, true, false, cond, List, [], ◌∷◌, ◌++◌, Option, Some, None, refl, ap, ◌∙◌, sym, arith}
use mathlib.Core.Logic.{◌⊎◌, inl, inr}
use Rattle.std.specs.List.{AllByRecursion, Contains}
use Rattle.std.proofs.lemmas.List.Elements.{Contains-append_left, Contains-append_right}
use Rattle.zed_types.specs.declared.stamp.Stamp.{Stamp}
use Rattle.zed_types.specs.declared.written.Written.{Written}
use Rattle.zed_types.specs.Stamp.{before, same_stamp}
use Rattle.zed_types.specs.Register.{keep_later, latest_of, written_at}
use Rattle.zed_types.proofs.StampOrder.{before_asym, before_irrefl, before_trans, same_stamp-true}
use Rattle.zed_op.specs.declared.op.Edit.{Edit}
use Rattle.zed_op.specs.Set.{Agrees, IsRising, union, with_edit}
use Rattle.zed_op.proofs.Sets.{Member, Member-all, Member-to, with_edit-members, with_edit-rising}
use Rattle.zed_laws.specs.Registers.{kept_after, writes_of}
use Rattle.zed_laws.specs.Winners.{Register}
use Rattle.zed_laws.proofs.LatestWrites.{keep_later-swap, late_write_is_compared}
use Rattle.zed_sides.specs.Laws.{UnionHasTheLater, later_of}

-- ---- what is kept

-- a write that is kept already changes nothing
kept_twice : {V : Type 0} (s : Stamp) (k : Option (Written V)) (o : Option V) → kept_after s (kept_after s k o) o ≡ kept_after s k o
kept_twice s k None = refl
kept_twice s None (Some v) = rw (before_irrefl s) refl
kept_twice s (Some w) (Some v) = go (before w.stamp s) refl
  where
    go : (b : Bool) → before w.stamp s ≡ b
        → keep_later (cond b (Some (written_at s v)) (Some w)) (written_at s v) ≡ cond b (Some (written_at s v)) (Some w)
    go true is = rw (before_irrefl s) refl
    go false is = rw is refl

-- two writes of different stamps can change places
kept_swap : {V : Type 0} (r s : Stamp) (k : Option (Written V)) (o p : Option V) → same_stamp r s ≡ false
    → kept_after s (kept_after r k o) p ≡ kept_after r (kept_after s k p) o
kept_swap r s k None None d = refl
kept_swap r s k None (Some w) d = refl
kept_swap r s k (Some v) None d = refl
kept_swap r s k (Some v) (Some w) d = keep_later-swap k (written_at r v) (written_at s w) d

-- what is kept is behind a stamp
abbrev pub IsBehind : {V : Type 0} → Stamp → Option (Written V) → Type 0
IsBehind s None = Unit {0}
IsBehind s (Some w) = before s w.stamp ≡ true

behind_after : {V : Type 0} (s r : Stamp) (k : Option (Written V)) (o : Option V) → IsBehind s k → before s r ≡ true
    → IsBehind s (kept_after r k o)
behind_after s r k None b later = b
behind_after s r None (Some v) b later = later
behind_after s r (Some w) (Some v) b later = go (before w.stamp r)
  where
    go : (c : Bool) → IsBehind s (cond c (Some (written_at r v)) (Some w))
    go true = later
    go false = b

-- a write before all that the second side keeps may be compared on either side
pub later_step : {V : Type 0} (s : Stamp) (k m : Option (Written V)) (o : Option V) → IsBehind s m
    → later_of (kept_after s k o) m ≡ later_of k (kept_after s m o)
later_step s k m None b = refl
later_step s k None (Some v) b = refl
later_step s k (Some x) (Some v) b = rw (before_asym s x.stamp b) (go k)
  where
    go : (k : Option (Written _)) → keep_later (keep_later k (written_at s v)) x ≡ keep_later k x
    go None = rw b refl
    go (Some y) = split (before y.stamp s) refl
      where
        split : (c : Bool) → before y.stamp s ≡ c
            → keep_later (cond c (Some (written_at s v)) (Some y)) x ≡ keep_later (Some y) x
        split true is = rw (b, before_trans y.stamp s x.stamp is b) refl
        split false is = refl

-- ---- edits

module _ {V : Type 0} (writes : Edit → Option V) where
  abbrev pub kept : List Edit → Option (Written V)
  kept es = latest_of None (writes_of writes es)

  -- an edit before all others
  pub kept-cons : (e : Edit) (es : List Edit) → IsRising (e ∷ es) → kept (e ∷ es) ≡ kept_after e.stamp (kept es) (writes e)
  kept-cons e es r = late_write_is_compared writes e [] es r

  pub kept-with : (e : Edit) (es : List Edit) → IsRising es → ((f : Edit) → Member f es → e.stamp ≡ f.stamp → f ≡ e)
      → kept (with_edit e es) ≡ kept_after e.stamp (kept es) (writes e)
  kept-with e [] r agree = kept-cons e [] (tt, tt)
  kept-with e (f ∷ fs) r agree =
      go (before e.stamp f.stamp) (same_stamp e.stamp f.stamp) refl (with_edit-rising e (f ∷ fs) r) (kept-with e fs r.1 (λ g m. agree g (inr m)))
    where
      there : f ≡ e → kept (f ∷ fs) ≡ kept_after e.stamp (kept (f ∷ fs)) (writes e)
      there q =
          let k = kept-cons f fs r in
          k ∙ sym (kept_twice f.stamp (kept fs) (writes f)) ∙ ap (λ x. kept_after f.stamp x (writes f)) (sym k)
          ∙ ap (λ (g : Edit). kept_after g.stamp (kept (f ∷ fs)) (writes g)) q

      go : (c d : Bool) → same_stamp e.stamp f.stamp ≡ d
          → IsRising (cond c (e ∷ f ∷ fs) (cond d (f ∷ fs) (f ∷ with_edit e fs)))
          → kept (with_edit e fs) ≡ kept_after e.stamp (kept fs) (writes e)
          → kept (cond c (e ∷ f ∷ fs) (cond d (f ∷ fs) (f ∷ with_edit e fs))) ≡ kept_after e.stamp (kept (f ∷ fs)) (writes e)
      go true d same risen more = kept-cons e (f ∷ fs) risen
      go false true same risen more = there (agree f (inl refl) (same_stamp-true e.stamp f.stamp same))
      go false false same risen more =
          kept-cons f (with_edit e fs) risen
          ∙ ap (λ x. kept_after f.stamp x (writes f)) more
          ∙ kept_swap e.stamp f.stamp (kept fs) (writes e) (writes f) same
          ∙ ap (λ x. kept_after e.stamp x (writes e)) (sym (kept-cons f fs r))

  -- what edits behind a stamp write is behind it
  pub kept-behind : (s : Stamp) (es : List Edit) → AllByRecursion (λ f. before s f.stamp ≡ true) es → IsRising es → IsBehind s (kept es)
  kept-behind s [] b r = tt
  kept-behind s (e ∷ es) b r =
      rw (kept-cons e es r) (behind_after s e.stamp (kept es) (writes e) (kept-behind s es b.1 r.1) b.0)

  pub kept-union : (es fs : List Edit) → IsRising es → IsRising fs
      → ((e f : Edit) → Member e es → Member f fs → e.stamp ≡ f.stamp → e ≡ f)
      → kept (union es fs) ≡ later_of (kept es) (kept fs)
  kept-union es [] r s a = refl
  kept-union es (f ∷ fs) r s a =
      kept-union (with_edit f es) fs (with_edit-rising f es r) s.1 agree
      ∙ ap (λ k. later_of k (kept fs)) (kept-with f es r (λ g m q. a g f m (inl refl) (sym q)))
      ∙ later_step f.stamp (kept es) (kept fs) (writes f) (kept-behind f.stamp fs s.0 s.1)
      ∙ ap (λ k. later_of (kept es) k) (sym (kept-cons f fs s))
    where
      apart : (e g : Edit) → f ≡ e → Member g fs → e.stamp ≡ g.stamp → e ≡ g
      apart e g p n q =
          let b : before f.stamp g.stamp ≡ true = Member-all (λ x. before f.stamp x.stamp ≡ true) fs s.0 g n in
          let t : f.stamp ≡ g.stamp = ap (λ (x : Edit). x.stamp) p ∙ q in
          let i : before g.stamp g.stamp ≡ true = rw t at b in
          let j = before_irrefl g.stamp in cc

      agree : (e g : Edit) → Member e (with_edit f es) → Member g fs → e.stamp ≡ g.stamp → e ≡ g
      agree e g m n q = elim (with_edit-members e f es m) [ inl p ↦ apart e g p n q | inr k ↦ a e g k (inr n) q ]

-- no two edits of two sets that agree have one stamp, but the same
pub members_agree : (es fs : List Edit) → Agrees (es ++ fs) → (e f : Edit) → Member e es → Member f fs → e.stamp ≡ f.stamp → e ≡ f
members_agree es fs a e f m n q =
    a e f (Contains-append_left es fs e (Member-to e es m)) (Contains-append_right es fs f (Member-to f fs n)) q

pub union_has_the_later : {V : Type 0} (r : Register V) → UnionHasTheLater r
union_has_the_later r es fs rising other agrees = kept-union r.writes es fs rising other (members_agree es fs agrees)
