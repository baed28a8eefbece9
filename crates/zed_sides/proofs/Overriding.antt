-- What is overridden was written on both sides.
use Rattle.std.proofs.Common.{◌≡◌, ◌≢◌, Bool, true, false, not, cond, List, [], ◌∷◌, ◌++◌, Option, Some, None, refl, ap, ◌∙◌, sym, subst, filter, is_some, ◌||◌, arith}
use mathlib.Core.Logic.{◌⊎◌, inl, inr}
use Rattle.std.specs.List.{AllByRecursion, Contains, list_any}
use Rattle.zed_types.specs.declared.stamp.Stamp.{Stamp}
use Rattle.zed_types.specs.declared.written.Written.{Written}
use Rattle.zed_types.specs.Stamp.{before, same_stamp}
use Rattle.zed_types.specs.Register.{keep_later, latest_of}
use Rattle.zed_types.proofs.StampOrder.{same_stamp-true}
use Rattle.zed_op.specs.declared.op.Edit.{Edit}
use Rattle.zed_op.specs.Set.{IsRising, union, with_edit}
use Rattle.zed_op.specs.Sizes.{HasSizes, HaveSizes}
use Rattle.zed_op.proofs.Sets.{Member, Member-to, union-rising}
use Rattle.zed_op.proofs.SetLaws.{each-with_edit, edit_there_is_nothing}
use Rattle.zed_edit.specs.declared.plain.Plain.{Plain}
use Rattle.zed_edit.specs.Document.{empty_document}
use Rattle.zed_edit.specs.Replay.{can, step, held, held_on, taken, taken_on}
use Rattle.zed_laws.specs.Registers.{kept_after, writes_of}
use Rattle.zed_laws.specs.Winners.{GreatestStampWins, Register, latest_or}
use Rattle.zed_sides.specs.Laws.{AreSides, OverriddenByBoth, UnionShowsASide, later_of}
use Rattle.zed_sides.specs.Sides.{IsOverridden, Write, common, knows, latest, own, shown}
use Rattle.zed_sides.proofs.Latests.{kept, kept-behind, kept-cons, kept-with, later_step, members_agree, union_has_the_later}

-- ---- sets of edits

-- where none waits, all are done
all_done : (p : Plain) (es : List Edit) → held_on p es ≡ [] → taken_on p es ≡ es
all_done p [] h = refl
all_done p (e ∷ es) h = go (can p e) h (all_done (step p e) es)
  where
    go : (b : Bool) → cond b (held_on (step p e) es) (e ∷ held_on (step p e) es) ≡ []
        → (held_on (step p e) es ≡ [] → taken_on (step p e) es ≡ es)
        → cond b (e ∷ taken_on (step p e) es) (taken_on (step p e) es) ≡ e ∷ es
    go true none more = ap (λ xs. e ∷ xs) (more none)
    go false none more = cc

pub each_of : (P : Edit → Type 0) (test : Edit → Bool) (es : List Edit) → AllByRecursion P es → AllByRecursion P (filter test es)
each_of P test [] all = tt
each_of P test (e ∷ es) all = go (test e) (each_of P test es all.1)
  where
    go : (b : Bool) → AllByRecursion P (filter test es) → AllByRecursion P (cond b (e ∷ filter test es) (filter test es))
    go true more = (all.0, more)
    go false more = more

pub rising_of : (test : Edit → Bool) (es : List Edit) → IsRising es → IsRising (filter test es)
rising_of test [] r = tt
rising_of test (e ∷ es) r = go (test e) (rising_of test es r.1)
  where
    go : (b : Bool) → IsRising (filter test es) → IsRising (cond b (e ∷ filter test es) (filter test es))
    go true more = (each_of (λ f. before e.stamp f.stamp ≡ true) test es r.0, more)
    go false more = more

each-union : (P : Edit → Type 0) (es fs : List Edit) → AllByRecursion P es → AllByRecursion P fs → AllByRecursion P (union es fs)
each-union P es [] h k = h
each-union P es (f ∷ fs) h k = each-union P (with_edit f es) fs (each-with_edit P f es k.0 h) k.1

-- an edit that a set knows is one of it
known : (es : List Edit) (e : Edit) → knows es e ≡ true → (g : Edit) × Member g es × (g.stamp ≡ e.stamp)
known [] e h = cc
known (g ∷ es) e h = go (same_stamp g.stamp e.stamp) refl h (known es e)
  where
    go : (b : Bool) → same_stamp g.stamp e.stamp ≡ b → (b || knows es e) ≡ true
        → (knows es e ≡ true → (f : Edit) × Member f es × (f.stamp ≡ e.stamp))
        → (f : Edit) × Member f (g ∷ es) × (f.stamp ≡ e.stamp)
    go true same more there = (g, inl refl, same_stamp-true g.stamp e.stamp same)
    go false same more there = let r = there more in (r.0, inr r.1, r.2)

-- ---- writes

module _ {V : Type 0} (writes : Edit → Option V) where
  -- none of these edits writes
  abbrev WriteNone : List Edit → Type 0
  WriteNone es = list_any (λ e. is_some (writes e)) es ≡ false

  first_writes : (e : Edit) (es : List Edit) → WriteNone (e ∷ es) → (writes e ≡ None) × WriteNone es
  first_writes e es none = go (writes e) refl none
    where
      go : (o : Option V) → writes e ≡ o → (is_some o || list_any (λ e. is_some (writes e)) es) ≡ false → (writes e ≡ None) × WriteNone es
      go None is more = (is, more)
      go (Some v) is more = cc

  -- where the own edits of a set write nothing, those that both have tell what is kept
  kept_common : (es fs : List Edit) → IsRising es → WriteNone (own es fs) → kept writes es ≡ kept writes (common es fs)
  kept_common [] fs r none = refl
  kept_common (e ∷ es) fs r none = go (knows fs e) none (kept_common es fs r.1)
    where
      go : (b : Bool) → WriteNone (cond (not b) (e ∷ own es fs) (own es fs))
          → (WriteNone (own es fs) → kept writes es ≡ kept writes (common es fs))
          → kept writes (e ∷ es) ≡ kept writes (cond b (e ∷ common es fs) (common es fs))
      go true none more =
          kept-cons writes e es r
          ∙ ap (λ k. kept_after e.stamp k (writes e)) (more none)
          ∙ sym (kept-cons writes e (common es fs) (each_of (λ f. before e.stamp f.stamp ≡ true) (knows fs) es r.0, rising_of (knows fs) es r.1))
      go false none more =
          let f = first_writes e (own es fs) none in
          kept-cons writes e es r ∙ ap (λ o. kept_after e.stamp (kept writes es) o) f.0 ∙ more f.1

  -- what is kept has all of these writes already
  abbrev Absorbs : Option (Written V) → List Edit → Type 0
  Absorbs k fs = AllByRecursion (λ f. kept_after f.stamp k (writes f) ≡ k) fs

  absorbed : (k : Option (Written V)) (fs : List Edit) → IsRising fs → Absorbs k fs → later_of k (kept writes fs) ≡ k
  absorbed k [] r all = refl
  absorbed k (f ∷ fs) r all =
      ap (λ m. later_of k m) (kept-cons writes f fs r)
      ∙ sym (later_step f.stamp k (kept writes fs) (writes f) (kept-behind writes f.stamp fs r.0 r.1))
      ∙ ap (λ j. later_of j (kept writes fs)) all.0
      ∙ absorbed k fs r.1 all.1

  -- so it is with an edit that is among those of which it is kept
  kept_there : (es : List Edit) (f g : Edit) → IsRising es → Member g es → g ≡ f
      → ((x : Edit) → Member x es → f.stamp ≡ x.stamp → x ≡ f)
      → kept_after f.stamp (kept writes es) (writes f) ≡ kept writes es
  kept_there es f g r m q agree =
      let there : Contains es f = subst (Contains es) q (Member-to g es m) in
      sym (kept-with writes f es r agree) ∙ ap (λ xs. kept writes xs) (edit_there_is_nothing f es r there)

  -- and with edits of which the own ones write nothing
  absorbs : (es fs : List Edit) → IsRising es → ((e f : Edit) → Member e es → Member f fs → e.stamp ≡ f.stamp → e ≡ f)
      → WriteNone (own fs es) → Absorbs (kept writes es) fs
  absorbs es [] r agree none = tt
  absorbs es (f ∷ fs) r agree none = go (knows es f) refl none (absorbs es fs r (λ e g m n. agree e g m (inr n)))
    where
      one : (e : Edit) → Member e es → f.stamp ≡ e.stamp → e ≡ f
      one e m q = agree e f m (inl refl) (sym q)

      go : (b : Bool) → knows es f ≡ b → WriteNone (cond (not b) (f ∷ own fs es) (own fs es))
          → (WriteNone (own fs es) → Absorbs (kept writes es) fs) → Absorbs (kept writes es) (f ∷ fs)
      go true is none more =
          let g = known es f is in
          (kept_there es f g.0 r g.1 (one g.0 g.1 (sym g.2)) one, more none)
      go false is none more =
          let n = first_writes f (own fs es) none in
          (ap (λ o. kept_after f.stamp (kept writes es) o) n.0, more n.1)

-- ---- what is shown

module _ {V : Type 0} (r : Register V) (wins : GreatestStampWins r) where
  reads : (es : List Edit) → IsRising es → HaveSizes es → held es ≡ []
      → shown r es ≡ latest_or (r.read empty_document) (latest r es)
  reads es rises sizes done =
      wins es rises sizes
      ∙ ap (λ xs. latest_or (r.read empty_document) (latest_of None (writes_of r.writes xs))) (all_done empty_document es done)

  reads-common : (es fs : List Edit) → AreSides es fs
      → shown r (common es fs) ≡ latest_or (r.read empty_document) (latest r (common es fs))
  reads-common es fs s =
      reads (common es fs) (rising_of (knows fs) es s.rising) (each_of HasSizes (knows fs) es s.sizes) s.common_done

  reads-union : (es fs : List Edit) → AreSides es fs
      → shown r (union es fs) ≡ latest_or (r.read empty_document) (later_of (latest r es) (latest r fs))
  reads-union es fs s =
      reads (union es fs) (union-rising es fs s.rising) (each-union HasSizes es fs s.sizes s.other_sizes) s.union_done
      ∙ ap (λ k. latest_or (r.read empty_document) k) (union_has_the_later r es fs s.rising s.other_rising s.agree)

  one_of : (k m : Option (Written V)) → (later_of k m ≡ k) ⊎ (later_of k m ≡ m)
  one_of k None = inl refl
  one_of None (Some w) = inr refl
  one_of (Some x) (Some w) = go (before x.stamp w.stamp)
    where
      go : (b : Bool) → (cond b (Some w) (Some x) ≡ Some x) ⊎ (cond b (Some w) (Some x) ≡ Some w)
      go true = inr refl
      go false = inl refl

  pub union_shows_a_side : UnionShowsASide r
  union_shows_a_side es fs s =
      let at_start = latest_or (r.read empty_document) in
      elim (one_of (latest r es) (latest r fs)) [
        | inl q ↦ inl (reads-union es fs s ∙ ap at_start q ∙ sym (reads es s.rising s.sizes s.done))
        | inr q ↦ inr (reads-union es fs s ∙ ap at_start q ∙ sym (reads fs s.other_rising s.other_sizes s.other_done))
      ]

  own_written : (es fs : List Edit) → AreSides es fs → shown r es ≢ shown r (common es fs) → Write r (own es fs)
  own_written es fs s differs = go (list_any (λ e. is_some (r.writes e)) (own es fs)) refl
    where
      go : (b : Bool) → list_any (λ e. is_some (r.writes e)) (own es fs) ≡ b → Write r (own es fs)
      go true is = is
      go false is =
          absurd (differs (reads es s.rising s.sizes s.done
          ∙ ap (λ k. latest_or (r.read empty_document) k) (kept_common r.writes es fs s.rising is)
          ∙ sym (reads-common es fs s)))

  other_written : (es fs : List Edit) → AreSides es fs → shown r (union es fs) ≢ shown r es → Write r (own fs es)
  other_written es fs s differs = go (list_any (λ e. is_some (r.writes e)) (own fs es)) refl
    where
      go : (b : Bool) → list_any (λ e. is_some (r.writes e)) (own fs es) ≡ b → Write r (own fs es)
      go true is = is
      go false is =
          let all = absorbs r.writes es fs s.rising (members_agree es fs s.agree) is in
          absurd (differs (reads-union es fs s
          ∙ ap (λ k. latest_or (r.read empty_document) k) (absorbed r.writes (latest r es) fs s.other_rising all)
          ∙ sym (reads es s.rising s.sizes s.done)))

  pub overridden_by_both : OverriddenByBoth r
  overridden_by_both es fs s overridden = (own_written es fs s overridden.0, other_written es fs s overridden.1)
