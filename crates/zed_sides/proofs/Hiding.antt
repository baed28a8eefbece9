-- What is written again later can be left out.
use Rattle.std.proofs.Common.{◌≡◌, ◌∙◌, Bool, true, false, not, cond, List, [], ◌∷◌, Option, Some, None, ap, sym, refl, filter, is_some, ◌&&◌, ◌||◌}
use Rattle.std.specs.List.{AllByRecursion, list_any}
use Rattle.zed_types.specs.declared.stamp.Stamp.{Stamp}
use Rattle.zed_types.specs.declared.written.Written.{Written}
use Rattle.zed_types.specs.Stamp.{before, same_stamp}
use Rattle.zed_types.specs.Register.{written_at}
use Rattle.zed_types.proofs.StampOrder.{before_asym, before_differs_after, before_trans}
use Rattle.zed_op.specs.declared.op.Edit.{Edit}
use Rattle.zed_op.specs.Set.{IsRising}
use Rattle.zed_laws.specs.Registers.{kept_after}
use Rattle.zed_laws.specs.Winners.{Register}
use Rattle.zed_sides.specs.Laws.{IsWrittenLater, LaterHides, but}
use Rattle.zed_sides.proofs.Latests.{IsBehind, kept, kept-behind, kept-cons}
use Rattle.zed_sides.proofs.Overriding.{each_of}

-- edits behind a stamp stay without the edit of that stamp
all_stay : (s : Stamp) (es : List Edit) → AllByRecursion (λ f. before s f.stamp ≡ true) es → but s es ≡ es
all_stay s [] all = refl
all_stay s (e ∷ es) all = rw (before_differs_after s e.stamp all.0) (ap (λ xs. e ∷ xs) (all_stay s es all.1))

behind : (a b : Stamp) (es : List Edit) → before a b ≡ true → AllByRecursion (λ f. before b f.stamp ≡ true) es
    → AllByRecursion (λ f. before a f.stamp ≡ true) es
behind a b [] h all = tt
behind a b (e ∷ es) h all = (before_trans a b e.stamp h all.0, behind a b es h all.1)

-- a write before what is kept changes nothing
early : {V : Type 0} (s : Stamp) (k : Option (Written V)) (o : Option V) → IsBehind s k → is_some k ≡ true → kept_after s k o ≡ k
early s k None b some = refl
early s None (Some v) b some = cc
early s (Some w) (Some v) b some = rw (before_asym s w.stamp b) refl

-- what is written is kept
some_kept : {V : Type 0} (r : Stamp) (k : Option (Written V)) (o : Option V) → is_some k ≡ true → is_some (kept_after r k o) ≡ true
some_kept r k None some = some
some_kept r None (Some v) some = cc
some_kept r (Some w) (Some v) some = go (before w.stamp r)
  where
    go : (c : Bool) → is_some (cond c (Some (written_at r v)) (Some w)) ≡ true
    go true = refl
    go false = refl

some_written : {V : Type 0} (r : Stamp) (k : Option (Written V)) (v : V) → is_some (kept_after r k (Some v)) ≡ true
some_written r None v = refl
some_written r (Some w) v = go (before w.stamp r)
  where
    go : (c : Bool) → is_some (cond c (Some (written_at r v)) (Some w)) ≡ true
    go true = refl
    go false = refl

module _ {V : Type 0} (r : Register V) where
  written_kept : (s : Stamp) (es : List Edit) → IsRising es → IsWrittenLater r s es → is_some (kept r.writes es) ≡ true
  written_kept s [] rising later = cc
  written_kept s (e ∷ es) rising later =
      rw (kept-cons r.writes e es rising) (go (before s e.stamp) (r.writes e) later (written_kept s es rising.1))
    where
      go : (b : Bool) (o : Option V) → ((b && is_some o) || list_any (λ f. before s f.stamp && is_some (r.writes f)) es) ≡ true
          → (IsWrittenLater r s es → is_some (kept r.writes es) ≡ true) → is_some (kept_after e.stamp (kept r.writes es) o) ≡ true
      go true (Some v) later more = some_written e.stamp (kept r.writes es) v
      go true None later more = some_kept e.stamp (kept r.writes es) None (more later)
      go false o later more = some_kept e.stamp (kept r.writes es) o (more later)

  -- an edit with a stamp that isn't before its own: a later write is behind it
  rest_later : (s : Stamp) (e : Edit) (es : List Edit) → before s e.stamp ≡ false → IsWrittenLater r s (e ∷ es) → IsWrittenLater r s es
  rest_later s e es not_before later = let h = rw not_before at later in h

  rising_but : (s : Stamp) (es : List Edit) → IsRising es → IsRising (but s es)
  rising_but s [] rising = tt
  rising_but s (e ∷ es) rising = go (same_stamp e.stamp s) (rising_but s es rising.1)
    where
      go : (c : Bool) → IsRising (but s es) → IsRising (cond (not c) (e ∷ but s es) (but s es))
      go true more = more
      go false more = (each_of (λ f. before e.stamp f.stamp ≡ true) (λ f. not (same_stamp f.stamp s)) es rising.0, more)

  pub later_hides : LaterHides r
  later_hides s [] rising later = refl
  later_hides s (e ∷ es) rising later = go (before s e.stamp) (same_stamp e.stamp s) refl refl (later_hides s es rising.1)
    where
      behind_it : IsRising (e ∷ but s es)
      behind_it = (each_of (λ f. before e.stamp f.stamp ≡ true) (λ f. not (same_stamp f.stamp s)) es rising.0, rising_but s es rising.1)

      go : (b c : Bool) → before s e.stamp ≡ b → same_stamp e.stamp s ≡ c
          → (IsWrittenLater r s es → kept r.writes (but s es) ≡ kept r.writes es)
          → kept r.writes (cond (not c) (e ∷ but s es) (but s es)) ≡ kept r.writes (e ∷ es)
      go true true is same more = let t = before_differs_after s e.stamp is in cc
      go true false is same more = ap (λ xs. kept r.writes (e ∷ xs)) (all_stay s es (behind s e.stamp es is rising.0))
      go false true is same more =
          let rest = rest_later s e es is later in
          more rest
          ∙ sym (early e.stamp (kept r.writes es) (r.writes e) (kept-behind r.writes e.stamp es rising.0 rising.1) (written_kept s es rising.1 rest))
          ∙ sym (kept-cons r.writes e es rising)
      go false false is same more =
          kept-cons r.writes e (but s es) behind_it
          ∙ ap (λ k. kept_after e.stamp k (r.writes e)) (more (rest_later s e es is later))
          ∙ sym (kept-cons r.writes e es rising)
