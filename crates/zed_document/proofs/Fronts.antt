-- Edits delivered one after the other, up to the first that is refused.
use Rattle.std.proofs.Common.{◌≡◌, ◌∙◌, ◌≤◌, ◌⊎◌, ℕ, zero, suc, Bool, false, List, [], ◌∷◌, Option, Some, None, Result, Ok, Err, take, inl, inr, refl, ap, sym, subst, arith}
use Rattle.std.specs.Prelude.{◌≢◌, IsSomeAnd, slice_get}
use Rattle.zed_op.specs.declared.op.Edit.{Edit}
use Rattle.zed_op.specs.Fit.{Fits, fault}
use Rattle.zed_op.specs.Set.{AllFit, with_edit}
use Rattle.zed_history.specs.Finding.{edit_with}
use Rattle.zed_document.specs.declared.delivered.Delivered.{Delivered}
use Rattle.zed_document.specs.declared.error.DocumentError.{DocumentError}
use Rattle.zed_document.specs.declared.error.DocumentError.TheVariants.{Clash, Memory}
use Rattle.zed_document.specs.Counts.{Counts, NoCountFalls, count_of}
use Rattle.zed_document.specs.Delivery.{Answers, AnswersAt, DeliversEach, DeliversFront, HasNew, IsFree, after_edit}
use Rattle.zed_document.specs.Replica.{Replica}
use Rattle.zed_document.proofs.CountsAside.{delivers_aside, with_counts}

abbrev pub Delivery : Type 0
Delivery = Result (Unit {0}) DocumentError

abbrev pub refused : DocumentError → Delivery
refused e = Err e

abbrev told_as : Delivered → Result Delivered DocumentError
told_as d = Ok d

abbrev not_told : DocumentError → Result Delivered DocumentError
not_told e = Err e

pub falls_not : (c : Counts) → NoCountFalls c c
falls_not c t = omega arith

pub falls_more : (a b c : Counts) → NoCountFalls a b → NoCountFalls b c → NoCountFalls a c
falls_more a b c first next t =
    let one : count_of t a ≤ count_of t b = first t in
    let two : count_of t b ≤ count_of t c = next t in
    omega arith

-- in a call before and behind which a document is handed on
pub falls_between : (a b c d : Replica) → b ≡ a → d ≡ c → NoCountFalls b.counts c.counts → NoCountFalls a.counts d.counts
falls_between a b c d before after falls =
    subst (λ (r : Replica). NoCountFalls r.counts d.counts) before (subst (λ (r : Replica). NoCountFalls b.counts r.counts) (sym after) falls)

pub falls_same : (d m n : Replica) → NoCountFalls d.counts m.counts → n ≡ m → NoCountFalls d.counts n.counts
falls_same d m n falls same = subst (λ (x : Replica). NoCountFalls d.counts x.counts) (sym same) falls

pub lacked : (x : DocumentError) → refused x ≡ Err Memory → not_told x ≡ Err Memory
lacked x lacks = let same : x ≡ Memory = cc in ap not_told same

-- one that was accepted is free
pub accepted_free : (o : Option Edit) (es : List Edit) (e : Edit) (d : Delivered) → o ≡ edit_with e.stamp es → AnswersAt o es e (Ok d)
    → IsFree es e
accepted_free None es e d is a = rw (← is) tt
accepted_free (Some f) es e d is a =
    elim a [
      | inl same ↦ rw (← is) same.0
      | inr clash ↦ absurd (let no : told_as d ≡ not_told (Clash e.stamp) = clash.1 in cc)
    ]

-- where memory lacks behind a front, one of the edits is new
pub front_has_new : (d : Replica) (es left : List Edit) → d.is_stale ≡ false → AllFit es → DeliversFront d es left → HasNew d.edits es
front_has_new d es left sound fit (n, each, new) = go n d es sound fit each new
  where
    go : (n : ℕ) (d : Replica) (es : List Edit) → d.is_stale ≡ false → AllFit es → DeliversEach d (take n es) (Ok tt) left
        → IsSomeAnd (slice_get es n) (λ e. edit_with e.stamp left ≡ None)
        → HasNew d.edits es
    go n d [] sound fit each new = new
    go zero d (e ∷ es) sound fit each new = inl (ap (edit_with e.stamp) (sym each.1) ∙ new)
    go (suc n) d (e ∷ es) sound fit (inl one) new =
        let answer : AnswersAt (edit_with e.stamp d.edits) d.edits e (Ok one.0) = rw (sound, fit.0) at one.1 in
        inr (accepted_free (edit_with e.stamp d.edits) d.edits e one.0 refl answer, go n (after_edit e d) es sound fit.1 one.2 new)
    go (suc n) d (e ∷ es) sound fit (inr clash) new = absurd (let done : Delivery = Ok tt in let no : done ≡ refused clash.0 = clash.2 in cc)

-- a document after one edit more, but for its counts
after_is : (m n : Replica) (e : Edit) → n.world ≡ m.world → n.edits ≡ with_edit e m.edits → n.is_stale ≡ m.is_stale
    → n ≡ with_counts n.counts (after_edit e m)
after_is m n e w es s =
    let make : ℕ → List Edit → Bool → Replica = λ w es s. record { world = w; edits = es; is_stale = s; counts = n.counts } in
    let path : make n.world n.edits n.is_stale ≡ make m.world (with_edit e m.edits) m.is_stale = rw (w, es, s) refl in path

-- one edit was delivered, and then others
one_then : (m n : Replica) (e : Edit) (told : Delivered) (es : List Edit) (r : Delivery) (left : List Edit) → n.world ≡ m.world
    → n.edits ≡ with_edit e m.edits → n.is_stale ≡ m.is_stale
    → Answers m e (Ok told) → DeliversEach n es r left → DeliversEach m (e ∷ es) r left
one_then m n e told es r left w edits s answer more =
    inl (told, answer, delivers_aside n.counts (after_edit e m) es r left (subst (λ d. DeliversEach d es r left) (after_is m n e w edits s) more))

-- deliveries go on with the rest of the edits: what comes of these comes of all
pub record IsGoing (d : Replica) (all : List Edit) (m : Replica) (rest : List Edit) : Type 0 where
  pub each : (r : Delivery) (left : List Edit) → DeliversEach m rest r left → DeliversEach d all r left
  pub front : (left : List Edit) → DeliversFront m rest left → DeliversFront d all left
  pub fit : AllFit rest
  pub sound : m.is_stale ≡ false
  pub world : m.world ≡ d.world
  pub falls : NoCountFalls d.counts m.counts

pub going_begins : (d : Replica) (all : List Edit) → d.is_stale ≡ false → AllFit all → IsGoing d all d all
going_begins d all sound fit =
    record { each = λ r left h. h; front = λ left h. h; fit = fit; sound = sound; world = refl; falls = falls_not d.counts }

pub next_fits : (d m : Replica) (all others rest : List Edit) (e : Edit) → IsGoing d all m others → others ≡ e ∷ rest → Fits e
next_fits d m all others rest e was split = (subst AllFit split was.fit).0

-- one edit more was delivered
pub going_on : (d m n : Replica) (all others rest : List Edit) (e : Edit) (told : Delivered) → IsGoing d all m others → others ≡ e ∷ rest
    → (told_as told ≡ Err Memory) ⊎ Answers m e (Ok told) → n.edits ≡ with_edit e m.edits → n.world ≡ m.world → n.is_stale ≡ false
    → NoCountFalls m.counts n.counts
    → IsGoing d all n rest
going_on d m n all others rest e told was split (inl lacks) edits world sound falls = absurd (let no : told_as told ≡ not_told Memory = lacks in cc)
going_on d m n all others rest e told was split (inr answer) edits world sound falls = go (subst (λ es. IsGoing d all m es) split was)
  where
    go : IsGoing d all m (e ∷ rest) → IsGoing d all n rest
    go g =
        let same : n.is_stale ≡ m.is_stale = sound ∙ sym g.sound in
        record {
          each = λ r left h. g.each r left (one_then m n e told rest r left world edits same answer h);
          front = λ left h. g.front left (suc h.0, one_then m n e told (take h.0 rest) (Ok tt) left world edits same answer h.1, h.2);
          fit = g.fit.1;
          sound = sound;
          world = world ∙ g.world;
          falls = falls_more d.counts m.counts n.counts g.falls falls;
        }

-- the next edit was refused
pub going_ends : (d m : Replica) (all others rest left : List Edit) (e : Edit) (x : DocumentError) → IsGoing d all m others
    → others ≡ e ∷ rest
    → (not_told x ≡ Err Memory) ⊎ Answers m e (Err x) → left ≡ m.edits
    → (refused x ≡ Err Memory) ⊎ DeliversEach d all (Err x) left
going_ends d m all others rest left e x was split (inl lacks) kept = inl (let same : x ≡ Memory = cc in ap refused same)
going_ends d m all others rest left e x was split (inr answer) kept =
    inr (was.each (Err x) left (subst (λ es. DeliversEach m es (Err x) left) (sym split) (inr (x, answer, refl, kept))))

-- then nothing changed, unless memory lacked and left the document stale
pub stays_sound : (m n : Replica) (e : Edit) (x : DocumentError) → m.is_stale ≡ false → Fits e
    → (not_told x ≡ Err Memory) ⊎ Answers m e (Err x)
    → (not_told x ≡ Err Memory → n.is_stale ≡ false → n ≡ m) → ((not_told x ≢ Err Memory) → n ≡ m) → n.is_stale ≡ false → n ≡ m
stays_sound m n e x sound fits (inl lacks) refuses kept calm = refuses lacks calm
stays_sound m n e x sound fits (inr answer) refuses kept calm = kept (clashed (edit_with e.stamp m.edits) at_stamp)
  where
    at_stamp : AnswersAt (edit_with e.stamp m.edits) m.edits e (Err x)
    at_stamp = rw (sound, fits) at answer

    clashed : (o : Option Edit) → AnswersAt o m.edits e (Err x) → not_told x ≢ Err Memory
    clashed None a = absurd a
    clashed (Some f) (inl known) = absurd known.1
    clashed (Some f) (inr clash) = λ lacks. let no : not_told (Clash e.stamp) ≡ not_told Memory = sym clash.1 ∙ lacks in cc

-- memory lacked for it
pub going_lacks : (d m : Replica) (all others rest left : List Edit) (e : Edit) → IsGoing d all m others → others ≡ e ∷ rest
    → edit_with e.stamp m.edits ≡ None → left ≡ m.edits → DeliversFront d all left
going_lacks d m all others rest left e was split new kept =
    was.front left (subst (λ es. DeliversFront m es left) (sym split) (zero, (refl, kept), ap (edit_with e.stamp) kept ∙ new))
