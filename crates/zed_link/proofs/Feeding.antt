-- Pieces one after the other, and records that are known.
use Rattle.std.proofs.Common.{◌≡◌, ◌∙◌, ◌++◌, ◌+◌, ◌<◌, ◌≤◌, ℕ, false, List, [], ◌∷◌, Option, Some, None, Ok, refl, ap, sym, subst, append-nil, append_assoc, arith, length, inl, inr, Err}
use Rattle.std.specs.Prelude.{IfSome}
use denote.Ref.{Bor}
use Rattle.std.proofs.lemmas.List.{length-append}
use Rattle.zed_types.specs.declared.stamp.Stamp.{Stamp}
use Rattle.zed_op.specs.declared.op.Edit.{Edit}
use Rattle.zed_op.specs.Fit.{Fits}
use Rattle.zed_op.specs.Set.{with_edit}
use Rattle.zed_editfile.specs.Spelling.{record_text}
use Rattle.zed_editfile.specs.Stream.{AreRecords, Feeds, Progress, Reads}
use Rattle.zed_history.specs.Finding.{edit_with}
use Rattle.zed_history.proofs.Clashing.{edit_with-stands}
use Rattle.zed_document.specs.declared.delivered.Delivered.{Delivered}
use Rattle.zed_document.specs.declared.delivered.State.TheVariants.{Known}
use Rattle.zed_document.specs.Delivery.{Answers}
use Rattle.zed_document.specs.Replica.{Replica}
use Rattle.zed_document.specs.declared.error.DocumentError.TheVariants as document
use Rattle.zed_document.specs.Counts.{NoCountFalls}
use Rattle.zed_link.specs.declared.error.LinkError.{LinkError}
use Rattle.zed_link.specs.declared.pulled.Pulled.{Pulled}
use Rattle.zed_link.specs.Pieces.{HasRoomFor, IsPassed, IsStopped, StopsInPiece, TakesPiece}
use Rattle.zed_link.specs.Pull.{AllDelivered, StopsForMemory}
use Rattle.zed_link.specs.Tally.{plus, states, tally}
use Rattle.zed_link.proofs.Deliveries.{counted_more, delivered_more, refused_before, stops_more}
use Rattle.zed_document.proofs.Fronts.{falls_more}
use Rattle.zed_link.proofs.Tallies.{tally_below}
use Rattle.zed_link.proofs.Readings.{few_edits, record_long}

records_both : (es fs : List Edit) → AreRecords es → AreRecords fs → AreRecords (es ++ fs)
records_both [] fs a b = b
records_both (e ∷ es) fs a b = (a.0, records_both es fs a.1 b)

-- one piece and then another
pub feeds_more : (a b : List ℕ) (es fs : List Edit) (p q r : Progress) → Feeds a [] es p q → Feeds b [] fs q r
    → Feeds (a ++ b) [] (es ++ fs) p r
feeds_more a b es fs p q r one two = record {
  edits = es ++ fs;
  gained = refl;
  good = records_both es fs (subst AreRecords (sym one.gained) one.good) (subst AreRecords (sym two.gained) two.good);
  reads = λ bytes found h.
      let first : Reads (bytes ++ a) (found ++ es) q =
      subst (λ z. Reads (bytes ++ a) (found ++ z) q) (sym one.gained) (one.reads bytes found h) in
      let both : Reads ((bytes ++ a) ++ b) ((found ++ es) ++ fs) r =
      subst (λ z. Reads ((bytes ++ a) ++ b) ((found ++ es) ++ z) r) (sym two.gained) (two.reads (bytes ++ a) (found ++ es) first) in
      subst (λ z. Reads z (found ++ (es ++ fs)) r) (append_assoc bytes a b) (subst (λ z. Reads ((bytes ++ a) ++ b) z r) (append_assoc found es fs) both);
}

-- nothing was read
pub feeds_none : (p : Progress) → Feeds [] [] [] p p
feeds_none p = record {
  edits = [];
  gained = refl;
  good = tt;
  reads = λ bytes found h. subst (λ z. Reads z (found ++ []) p) (sym (append-nil bytes)) (subst (λ z. Reads bytes z p) (sym (append-nil found)) h);
}

-- an edit that is there is delivered, and nothing changes
pub known_delivered : (d : Replica) (e : Edit) → d.is_stale ≡ false → Fits e → edit_with e.stamp d.edits ≡ Some e
    → with_edit e d.edits ≡ d.edits
    → AllDelivered d (e ∷ []) d.edits
known_delivered d e sound fits there same =
    let told : Delivered = record { state = Known; woken = 0; visits = 0 } in
    let answers : Answers d e (Ok told) = rw (sound, fits, there) (inl (refl, (refl, refl))) in
    inl (told, answers, (refl, sym same))

abbrev pub edit_there : Stamp → Replica → Edit → Type 0
edit_there s d e = edit_with s d.edits ≡ Some e

abbrev pub joins_there : Replica → Edit → Type 0
joins_there d e = with_edit e d.edits ≡ d.edits

-- a record that was passed over
pub known_comes : (s : Stamp) (piece : List ℕ) (r : Option (Bor (List ℕ))) (e : Edit) (p : Progress) (d : Replica)
    → d.is_stale ≡ false → Fits e → edit_with s d.edits ≡ Some e → with_edit e d.edits ≡ d.edits
    → IfSome r (λ rest. (piece ≡ record_text e ++ rest.now) × ((before : List Edit) → Feeds (record_text e) before (before ++ e ∷ []) p p))
    → IfSome r (λ rest. (front : List ℕ) × (e : Edit) × IsPassed front e piece rest.now p d)
known_comes s piece None e p d sound fits there same h = tt
known_comes s piece (Some x) e p d sound fits there same h =
    let is : e.stamp ≡ s = (edit_with-stands s d.edits e there).1 in
    let own : edit_with e.stamp d.edits ≡ Some e = ap (λ (t : Stamp). edit_with t d.edits) is ∙ there in
    let long = record_long e in (
      record_text e,
      e,
      record {
        whole = h.0;
        some = omega arith;
        feeds = h.1 [];
        all = known_delivered d e sound fits own same;
        known = rw own refl;
      },
    )

-- ---- a piece, record by record

-- the front of a piece was taken
pub record Taking (d : Replica) (piece : List ℕ) (p q : Progress) (rest : List ℕ) (m : Replica) (counts : Pulled) : Type 0 where
  pub done : List ℕ
  pub es : List Edit
  pub whole : piece ≡ done ++ rest
  pub feeds : Feeds done [] es p q
  pub calm : q.fault ≡ None
  pub asked : q.asked ≡ p.asked
  pub all : AllDelivered d es m.edits
  pub counted : counts ≡ tally (states d.edits es)
  pub world : m.world ≡ d.world
  pub sound : m.is_stale ≡ d.is_stale
  pub falls : NoCountFalls d.counts m.counts

pub nothing_taken : (d : Replica) (piece : List ℕ) (p : Progress) (counts : Pulled) → p.fault ≡ None → counts ≡ tally []
    → Taking d piece p p piece d counts
nothing_taken d piece p counts calm none = record {
  done = [];
  es = [];
  whole = refl;
  feeds = feeds_none p;
  calm = calm;
  asked = refl;
  all = (refl, refl);
  counted = none;
  world = refl;
  sound = refl;
  falls = λ t. omega arith;
}

-- the next records were taken
pub more_taken : (d : Replica) (piece : List ℕ) (p q r : Progress) (rest front after : List ℕ) (m l : Replica) (fs : List Edit) (counts got sum : Pulled)
    → Taking d piece p q rest m counts → rest ≡ front ++ after → Feeds front [] fs q r → r.fault ≡ None → r.asked ≡ q.asked
    → AllDelivered m fs l.edits → got ≡ tally (states m.edits fs)
    → sum ≡ plus counts got → l.world ≡ m.world → l.is_stale ≡ m.is_stale → NoCountFalls m.counts l.counts → Taking d piece p r after l sum
more_taken d piece p q r rest front after m l fs counts got sum t whole feeds calm asked all told sums world sound falls = record {
  done = t.done ++ front;
  es = t.es ++ fs;
  whole = t.whole ∙ ap (λ (z : List ℕ). t.done ++ z) whole ∙ sym (append_assoc t.done front after);
  feeds = feeds_more t.done front t.es fs p q r t.feeds feeds;
  calm = calm;
  asked = asked ∙ t.asked;
  all = delivered_more d m t.es fs (Ok tt) l.edits t.world t.sound t.all all;
  counted = counted_more d t.es fs m.edits counts got sum t.all t.counted told sums;
  world = world ∙ t.world;
  sound = sound ∙ t.sound;
  falls = falls_more d.counts m.counts l.counts t.falls falls;
}

-- a known record was passed over
pub one_passed : (d : Replica) (piece : List ℕ) (p q : Progress) (rest front after : List ℕ) (m : Replica) (e : Edit) (counts sum : Pulled)
    → Taking d piece p q rest m counts → IsPassed front e rest after q m → sum ≡ plus counts (tally (Known ∷ []))
    → Taking d piece p q after m sum
one_passed d piece p q rest front after m e counts sum t k sums =
    more_taken d piece p q q rest front after m m (e ∷ []) counts (tally (Known ∷ [])) sum t k.whole k.feeds t.calm refl k.all (ap (λ s. tally (s ∷ [])) (sym k.known)) sums refl refl (λ t. omega arith)

-- there is room to count what comes next
pub room : (d : Replica) (piece : List ℕ) (p q r : Progress) (rest front after : List ℕ) (m : Replica) (fs : List Edit) (counts got : Pulled)
    → Taking d piece p q rest m counts → HasRoomFor piece p → rest ≡ front ++ after → Feeds front [] fs q r
    → got ≡ tally (states m.edits fs)
    → (counts.taken + got.taken < 9223372036854775808)
    × (counts.held + got.held < 9223372036854775808)
    × (counts.known + got.known < 9223372036854775808)
room d piece p q r rest front after m fs counts got t (handed, found, reads, small) whole feeds told =
    let both = feeds_more t.done front t.es fs p q r t.feeds feeds in
    let few : length (found ++ (t.es ++ fs)) ≤ length (handed ++ (t.done ++ front)) = few_edits (handed ++ (t.done ++ front)) (found ++ (t.es ++ fs)) r (subst (λ z. Reads (handed ++ (t.done ++ front)) (found ++ z) r) (sym both.gained) (both.reads handed found reads)) in
    let before = tally_below d.edits t.es counts t.counted in
    let more = tally_below m.edits fs got told in
    let e1 = length-append found (t.es ++ fs) in
    let e2 = length-append t.es fs in
    let b1 = length-append handed (t.done ++ front) in
    let b2 = length-append t.done front in
    let b3 : length piece ≡ length (t.done ++ rest) = ap length t.whole in
    let b4 = length-append t.done rest in
    let b5 : length rest ≡ length (front ++ after) = ap length whole in
    let b6 = length-append front after in
    let a1 = before.taken in let a2 = before.held in let a3 = before.known in
    let c1 = more.taken in let c2 = more.held in let c3 = more.known in
    (omega arith, omega arith, omega arith)

-- there is room to count a known record
pub room_one : (d : Replica) (piece : List ℕ) (p q : Progress) (rest front after : List ℕ) (m : Replica) (e : Edit) (counts : Pulled)
    → Taking d piece p q rest m counts → HasRoomFor piece p → IsPassed front e rest after q m
    → (counts.taken + 1 < 18446744073709551616) × (counts.held + 1 < 18446744073709551616) × (counts.known + 1 < 18446744073709551616)
room_one d piece p q rest front after m e counts t has k =
    let r = room d piece p q q rest front after m (e ∷ []) counts (tally (Known ∷ [])) t has k.whole k.feeds (ap (λ s. tally (s ∷ [])) (sym k.known)) in
    let a = r.0 in
    let b = r.1 in
    let c = r.2 in
    (omega arith, omega arith, omega arith)

-- what stops for memory stops so before more edits
stops_before : (d : Replica) (es more left : List Edit) → StopsForMemory d es left → StopsForMemory d (es ++ more) left
stops_before d es more left (front, e, rest, is, all, may) =
    (front, e, rest ++ more, ap (λ z. z ++ more) is ∙ append_assoc front (e ∷ rest) more, all, may)

-- and what is refused is refused before more edits
stopped_before : (d : Replica) (es more : List Edit) (e : LinkError) (left : List Edit) → IsStopped d es e left
    → IsStopped d (es ++ more) e left
stopped_before d es more e left (inl memory) = inl (memory.0, stops_before d es more left memory.1)
stopped_before d es more e left (inr clash) = inr (clash.0, clash.1, refused_before d es more (document.Clash clash.0) left clash.2)

stopped_behind : (d m : Replica) (es fs : List Edit) (e : LinkError) (left : List Edit) → m.world ≡ d.world → m.is_stale ≡ d.is_stale
    → AllDelivered d es m.edits → IsStopped m fs e left
    → IsStopped d (es ++ fs) e left
stopped_behind d m es fs e left w s all (inl memory) = inl (memory.0, stops_more d m es fs left w s all memory.1)
stopped_behind d m es fs e left w s all (inr clash) =
    inr (clash.0, clash.1, delivered_more d m es fs (Err (document.Clash clash.0)) left w s all clash.2)

-- the whole piece was read: what was taken of it, one more record, and what is left
fed_whole : (d : Replica) (piece : List ℕ) (p q r u : Progress) (rest front after : List ℕ) (m : Replica) (fs more : List Edit) (counts : Pulled)
    → (t : Taking d piece p q rest m counts) → rest ≡ front ++ after → Feeds front [] fs q r → Feeds after [] more r u
    → Feeds piece [] ((t.es ++ fs) ++ more) p u
fed_whole d piece p q r u rest front after m fs more counts t whole feeds drained =
    let one = feeds_more t.done front t.es fs p q r t.feeds feeds in
    let all = feeds_more (t.done ++ front) after (t.es ++ fs) more p r u one drained in
    let is : piece ≡ (t.done ++ front) ++ after =
    t.whole ∙ ap (λ (z : List ℕ). t.done ++ z) whole ∙ sym (append_assoc t.done front after) in
    subst (λ z. Feeds z [] ((t.es ++ fs) ++ more) p u) (sym is) all

-- memory ran out at a delivery, and what is left of the piece was read
pub record_lacks : (d : Replica) (piece : List ℕ) (p q r u : Progress) (rest front after : List ℕ) (m : Replica) (more left : List Edit) (counts : Pulled)
    → Taking d piece p q rest m counts → rest ≡ front ++ after → StopsInPiece m front q r left → Feeds after [] more r u
    → StopsInPiece d piece p u left
record_lacks d piece p q r u rest front after m more left counts t whole (fs, feeds, stops) drained = (
  (t.es ++ fs) ++ more,
  fed_whole d piece p q r u rest front after m fs more counts t whole feeds drained,
  stops_before d (t.es ++ fs) more left (stops_more d m t.es fs left t.world t.sound t.all stops),
)

-- a record was refused, and what is left of the piece was read
pub record_refused : (d : Replica) (piece : List ℕ) (p q r u : Progress) (rest front after : List ℕ) (m : Replica) (fs more left : List Edit) (counts : Pulled) (e : LinkError)
    → Taking d piece p q rest m counts → rest ≡ front ++ after → Feeds front [] fs q r → TakesPiece m fs r (Err e) left
    → Feeds after [] more r u → IfSome r.fault (λ f. (more ≡ []) × (u ≡ r))
    → (es : List Edit) × Feeds piece [] es p u × TakesPiece d es u (Err e) left
record_refused d piece p q r u rest front after m fs more left counts e t whole feeds takes drained again =
    let es : List Edit = (t.es ++ fs) ++ more in (
      es,
      fed_whole d piece p q r u rest front after m fs more counts t whole feeds drained,
      elim takes [
        | inl stopped ↦ inl (stopped_before d (t.es ++ fs) more e left (stopped_behind d m t.es fs e left t.world t.sound t.all stopped))
        | inr fault ↦
            let same : (more ≡ []) × (u ≡ r) = subst (λ o. IfSome o (λ f. (more ≡ []) × (u ≡ r))) fault.2 again in
            let there : AllDelivered d (t.es ++ fs) left = delivered_more d m t.es fs (Ok tt) left t.world t.sound t.all fault.3 in
            let both : es ≡ t.es ++ fs = ap (λ z. (t.es ++ fs) ++ z) same.0 ∙ append-nil (t.es ++ fs) in
            inr (fault.0, fault.1, ap (λ (x : Progress). x.fault) same.1 ∙ fault.2, subst (λ z. AllDelivered d z left) (sym both) there)
      ],
    )
