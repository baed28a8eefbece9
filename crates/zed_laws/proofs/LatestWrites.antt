-- Writes in rising stamp order leave the value of the greatest stamp, and a late write is compared with what is kept.
use Rattle.std.proofs.Common.{◌≡◌, Bool, true, false, cond, List, [], ◌∷◌, ◌++◌, Option, Some, None, refl, ap, ◌∙◌, sym, arith}
use Rattle.std.specs.List.{AllByRecursion}
use Rattle.std.specs.Option.{option_map}
use Rattle.std.proofs.lemmas.List.Elements.{filter_map-append}
use Rattle.zed_types.specs.declared.stamp.Stamp.{Stamp}
use Rattle.zed_types.specs.declared.written.Written.{Written}
use Rattle.zed_types.specs.Stamp.{before, same_stamp}
use Rattle.zed_types.specs.Register.{keep_later, latest_of, last_value, value_or, written_at}
use Rattle.zed_op.specs.declared.op.Edit.{Edit}
use Rattle.zed_edit.specs.declared.plain.Plain.{Plain as Document}
use Rattle.zed_edit.specs.Replay.{can, step, taken_on}
use Rattle.zed_op.specs.Set.{IsRising}
use Rattle.zed_laws.specs.Registers.{writes_of, kept_after, LateWriteIsCompared}
use Rattle.zed_types.proofs.StampOrder.{before_trans, before_differs}
use Rattle.zed_laws.proofs.LateInsertion.{rising-high}

abbrev pub RisingWrites : {V : Type 0} → List (Written V) → Type 0
RisingWrites [] = Unit {0}
RisingWrites (w ∷ ws) = AllByRecursion (λ x. before w.stamp x.stamp ≡ true) ws × RisingWrites ws

-- (1) in rising order, the latest is the last
latest_of-rising_from : {V : Type 0} (v : V) (w : Written V) (ws : List (Written V))
    → AllByRecursion (λ x. before w.stamp x.stamp ≡ true) ws → RisingWrites ws
    → value_or v (latest_of (Some w) ws) ≡ last_value w.value ws
latest_of-rising_from v w [] h r = refl
latest_of-rising_from v w (x ∷ ws) h r = rw h.0 (latest_of-rising_from v x ws r.0 r.1)

pub latest_of-rising : {V : Type 0} (v : V) (ws : List (Written V)) → RisingWrites ws → value_or v (latest_of None ws) ≡ last_value v ws
latest_of-rising v [] r = refl
latest_of-rising v (w ∷ ws) r = latest_of-rising_from v w ws r.0 r.1

-- (2) two writes of different stamps can change places
keep_later-tests : {V : Type 0} (k a b : Written V) → same_stamp a.stamp b.stamp ≡ false → (ka kb ab ba : Bool)
    → before k.stamp a.stamp ≡ ka → before k.stamp b.stamp ≡ kb → before a.stamp b.stamp ≡ ab → before b.stamp a.stamp ≡ ba
    → keep_later (keep_later (Some k) a) b ≡ keep_later (keep_later (Some k) b) a
keep_later-tests k a b d true true true true ka kb ab ba = absurd (grind (arith))
keep_later-tests k a b d true true true false ka kb ab ba = rw (ka, kb) (rw (ab, ba))
keep_later-tests k a b d true true false true ka kb ab ba = rw (ka, kb) (rw (ab, ba))
keep_later-tests k a b d true true false false ka kb ab ba = absurd (grind (arith))
keep_later-tests k a b d true false true ba' ka kb ab ba =
    let t = before_trans k.stamp a.stamp b.stamp ka ab in cc
keep_later-tests k a b d true false false ba' ka kb ab ba = rw (ka, kb) (rw (ab, ka))
keep_later-tests k a b d false true ab' true ka kb ab ba =
    let t = before_trans k.stamp b.stamp a.stamp kb ba in cc
keep_later-tests k a b d false true ab' false ka kb ab ba = rw (ka, kb) (rw ba)
keep_later-tests k a b d false false ab' ba' ka kb ab ba = rw (ka, kb) (rw ka)

pub keep_later-swap : {V : Type 0} (o : Option (Written V)) (a b : Written V) → same_stamp a.stamp b.stamp ≡ false
    → keep_later (keep_later o a) b ≡ keep_later (keep_later o b) a
keep_later-swap None a b d = go (before a.stamp b.stamp) refl (before b.stamp a.stamp) refl
  where
    go : (ab : Bool) → before a.stamp b.stamp ≡ ab → (ba : Bool) → before b.stamp a.stamp ≡ ba
        → keep_later (Some a) b ≡ keep_later (Some b) a
    go true ab true ba = absurd (grind (arith))
    go true ab false ba = rw (ab, ba)
    go false ab true ba = rw (ab, ba)
    go false ab false ba = absurd (grind (arith))
keep_later-swap (Some k) a b d =
    keep_later-tests k a b d (before k.stamp a.stamp) (before k.stamp b.stamp) (before a.stamp b.stamp) (before b.stamp a.stamp) refl refl refl refl

-- (3) one more write, anywhere in the list, is kept only if it is later than what is kept
pub latest_of-late : {V : Type 0} (o : Option (Written V)) (w : Written V) (ws : List (Written V))
    → AllByRecursion (λ x. same_stamp w.stamp x.stamp ≡ false) ws
    → latest_of (keep_later o w) ws ≡ keep_later (latest_of o ws) w
latest_of-late o w [] d = refl
latest_of-late o w (x ∷ ws) d =
    ap (λ k. latest_of k ws) (keep_later-swap o w x d.0) ∙ latest_of-late (keep_later o x) w ws d.1

latest_of-append : {V : Type 0} (o : Option (Written V)) (xs ys : List (Written V)) → latest_of o (xs ++ ys) ≡ latest_of (latest_of o xs) ys
latest_of-append o [] ys = refl
latest_of-append o (x ∷ xs) ys = latest_of-append (keep_later o x) xs ys

pub latest_of-insert : {V : Type 0} (o : Option (Written V)) (w : Written V) (low high : List (Written V))
    → AllByRecursion (λ x. same_stamp w.stamp x.stamp ≡ false) high
    → latest_of o (low ++ w ∷ high) ≡ keep_later (latest_of o (low ++ high)) w
latest_of-insert o w low high d = rw (latest_of-append, latest_of-append) (latest_of-late (latest_of o low) w high d)

module _ {V : Type 0} (writes : Edit → Option V) where
  -- what holds of the stamps of edits holds of those of their writes
  writes-all : (P Q : Stamp → Type 0) → ((t : Stamp) → P t → Q t) → (es : List Edit) → AllByRecursion (λ e. P e.stamp) es
      → AllByRecursion (λ w. Q w.stamp) (writes_of writes es)
  writes-all P Q law [] h = tt
  writes-all P Q law (e ∷ es) h = go (writes e) refl (writes-all P Q law es h.1)
    where
      go : (o : Option V) → writes e ≡ o → AllByRecursion (λ w. Q w.stamp) (writes_of writes es)
          → AllByRecursion (λ w. Q w.stamp) (writes_of writes (e ∷ es))
      go None o more = rw o more
      go (Some v) o more = rw o (law e.stamp h.0, more)

  pub writes-rising : (es : List Edit) → IsRising es → RisingWrites (writes_of writes es)
  writes-rising [] r = tt
  writes-rising (e ∷ es) r = go (writes e) refl (writes-rising es r.1)
    where
      go : (o : Option V) → writes e ≡ o → RisingWrites (writes_of writes es) → RisingWrites (writes_of writes (e ∷ es))
      go None o more = rw o more
      go (Some v) o more = rw o (writes-all (λ t. before e.stamp t ≡ true) (λ t. before e.stamp t ≡ true) (λ t later. later) es r.0, more)

  writes-append : (low high : List Edit) → writes_of writes (low ++ high) ≡ writes_of writes low ++ writes_of writes high
  writes-append low high = filter_map-append (λ e. option_map (written_at e.stamp) (writes e)) low high

  -- one more edit at its place: the later of what was kept and what it writes
  latest-insert : (e : Edit) (low high : List Edit) → AllByRecursion (λ f. before e.stamp f.stamp ≡ true) high
      → latest_of None (writes_of writes (low ++ e ∷ high))
      ≡ kept_after e.stamp (latest_of None (writes_of writes (low ++ high))) (writes e)
  latest-insert e low high h =
      ap (latest_of None) (writes-append low (e ∷ high))
      ∙ go (writes e) refl
      ∙ ap (λ ws. kept_after e.stamp (latest_of None ws) (writes e)) (sym (writes-append low high))
    where
      go : (o : Option V) → writes e ≡ o
          → latest_of None (writes_of writes low ++ writes_of writes (e ∷ high))
          ≡ kept_after e.stamp (latest_of None (writes_of writes low ++ writes_of writes high)) (writes e)
      go None o = rw o refl
      go (Some v) o = rw o (latest_of-insert None (written_at e.stamp v) (writes_of writes low) (writes_of writes high) (writes-all (λ t. before e.stamp t ≡ true) (λ t. same_stamp e.stamp t ≡ false) (λ t later. before_differs e.stamp t later) high h))

taken-all : (P : Edit → Type 0) (p : Document) (es : List Edit) → AllByRecursion P es → AllByRecursion P (taken_on p es)
taken-all P p [] h = tt
taken-all P p (e ∷ es) h = go (can p e) (taken-all P (step p e) es h.1)
  where
    go : (b : Bool) → AllByRecursion P (taken_on (step p e) es)
        → AllByRecursion P (cond b (e ∷ taken_on (step p e) es) (taken_on (step p e) es))
    go true more = (h.0, more)
    go false more = more

pub taken-rising : (p : Document) (es : List Edit) → IsRising es → IsRising (taken_on p es)
taken-rising p [] r = tt
taken-rising p (e ∷ es) r = go (can p e) (taken-rising (step p e) es r.1)
  where
    go : (b : Bool) → IsRising (taken_on (step p e) es) → IsRising (cond b (e ∷ taken_on (step p e) es) (taken_on (step p e) es))
    go true more = (taken-all (λ f. before e.stamp f.stamp ≡ true) (step p e) es r.0, more)
    go false more = more

pub late_write_is_compared : {V : Type 0} → LateWriteIsCompared V
late_write_is_compared writes e low high r = latest-insert writes e low high (rising-high e low high r)
