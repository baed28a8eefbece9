-- A pull that goes on, and how it ends.
use Rattle.std.proofs.Common.{◌≡◌, ◌∙◌, ◌++◌, ◌+◌, ◌<◌, ◌≤◌, ℕ, List, [], Option, Some, None, Result, Ok, Err, refl, ap, sym, subst, arith, length}
use mathlib.Core.Logic.{inl, inr}
use Rattle.std.proofs.lemmas.List.{length-append}
use Rattle.zed_op.specs.declared.op.Edit.{Edit}
use Rattle.zed_editfile.specs.declared.error.EditFileError.{EditFileError}
use Rattle.zed_editfile.specs.declared.error.EditFileError.TheVariants as file
use Rattle.zed_editfile.specs.Laws.{CutIsToldAtTheEnd}
use Rattle.zed_editfile.specs.Stream.{AreRecords, Feeds, IsTextOf, Progress, Reads, ending, verdict_of}
use Rattle.zed_document.specs.declared.error.DocumentError.TheVariants as document
use Rattle.zed_document.specs.Replica.{Replica}
use Rattle.zed_link.specs.declared.error.LinkError.{LinkError}
use Rattle.zed_link.specs.declared.error.LinkError.TheVariants.{Memory, Magic, NewVersion, OtherWorld, RecordLength, BadEdit, CutShort, Clash, LinkFault, TooManyTurns}
use Rattle.zed_link.specs.declared.pulled.Pulled.{Pulled}
use Rattle.zed_link.specs.Counting.{Counted}
use Rattle.zed_link.specs.Ends.{Changed, FailedBehind, HandedAll, HandedOver, KeepsPace, LinkEnds}
use Rattle.zed_link.specs.Pieces.{StopsInPiece, TakesPiece}
use Rattle.zed_link.specs.Pull.{AllDelivered, FromReads, LeavesDocument, LeavesLink, Pull, StopsAtDelivery, least_read, most_reads, reads_made}
use Rattle.zed_link.specs.Refusals.{file_refusal}
use Rattle.zed_link.specs.Tally.{plus, states, tally}
use Rattle.zed_link.proofs.Deliveries.{counted_more, delivered_more, stops_more}
use Rattle.zed_link.proofs.EndsLaws.{handed_all, handed_more, none_counted, none_handed, fails_behind, one_more}
use Rattle.zed_link.proofs.Paces.{AtPace, at_pace_first, at_pace_more, from_no_reads, more_reads}
use Rattle.zed_link.proofs.Readings.{asked_world, cut_short, fault_ends, few_edits, reads_more}
use Rattle.zed_link.proofs.Tallies.{tally_below}

abbrev pub Answer : Type 0
Answer = Result Pulled LinkError

abbrev pub refused : LinkError → Answer
refused e = Err e

abbrev pulled : Pulled → Answer
pulled p = Ok p

-- a pull after so many reads: what the link handed over and counted, the reader, the document and the counts
pub record Going (d : Replica) (old now : Option LinkEnds) (a b n : ℕ) (p : Progress) (m : Replica) (counts : Pulled) : Type 0 where
  pub handed : List ℕ
  pub found : List Edit
  pub asks : p.asked ≡ Some d.world
  pub calm : p.fault ≡ None
  pub spells : Reads handed found p
  pub size : FromReads (least_read old) n handed
  pub pace : AtPace old n handed
  pub made : Counted n a b
  pub link : Changed (HandedOver handed) old now
  pub all : AllDelivered d found m.edits
  pub counted : counts ≡ tally (states d.edits found)
  pub world : m.world ≡ d.world
  pub sound : m.is_stale ≡ d.is_stale

-- it begins with nothing
pub start : (d : Replica) (old : Option LinkEnds) (a : ℕ) (p : Progress) (w : Option ℕ) (counts : Pulled) → w ≡ Some d.world
    → p ≡ record { asked = w; world = None; version = 0; rest = []; fault = None } → Reads [] [] p → counts ≡ tally []
    → Going d old old a a 0 p d counts
start d old a p w counts asks is reads none = record {
  handed = [];
  found = [];
  asks = ap (λ (q : Progress). q.asked) is ∙ asks;
  calm = ap (λ (q : Progress). q.fault) is;
  spells = reads;
  size = from_no_reads old;
  pace = at_pace_first old;
  made = none_counted a;
  link = none_handed old;
  all = (refl, refl);
  counted = none;
  world = refl;
  sound = refl;
}

-- the piece of one read was taken
pub goes_on : (d : Replica) (old mid now : Option LinkEnds) (a b c n : ℕ) (p q : Progress) (m l : Replica) (counts got sum : Pulled) (piece read : List ℕ) (es : List Edit)
    → Going d old mid a b n p m counts → 1 ≤ length piece → length piece ≤ 4096 → KeepsPace (length piece) 4096 mid → piece ≡ read
    → Changed (HandedOver read) mid now → Counted 1 b c
    → Feeds piece [] es p q → q.asked ≡ p.asked → TakesPiece m es q (Ok got) l.edits → l.world ≡ m.world → l.is_stale ≡ m.is_stale
    → sum ≡ plus counts got
    → Going d old now a c (n + 1) q l sum
goes_on d old mid now a b c n p q m l counts got sum piece read es going some few keeps is handed more feeds asked takes world sound sums =
    let over = subst (λ z. Changed (HandedOver z) mid now) (sym is) handed in
    record {
      handed = going.handed ++ piece;
      found = going.found ++ es;
      asks = asked ∙ going.asks;
      calm = takes.0;
      spells = reads_more going.handed piece going.found es p q going.spells feeds;
      size = more_reads old mid now n going.handed piece going.pace going.size going.link over some few;
      pace = at_pace_more old mid now n going.handed piece going.pace going.link over some keeps;
      made = one_more n a b c going.made more;
      link = handed_more going.handed piece old mid now going.link over;
      all = delivered_more d m going.found es (Ok tt) l.edits going.world going.sound going.all takes.1;
      counted = counted_more d going.found es m.edits counts got sum going.all going.counted takes.2 sums;
      world = world ∙ going.world;
      sound = sound ∙ going.sound;
    }

-- the counts have room for those of a piece
pub room : (d : Replica) (old mid : Option LinkEnds) (a b n : ℕ) (p q : Progress) (m : Replica) (counts got : Pulled) (piece : List ℕ) (es : List Edit)
    → Going d old mid a b n p m counts → n < most_reads → length piece ≤ 4096 → Feeds piece [] es p q → got ≡ tally (states m.edits es)
    → (counts.taken + got.taken < 18446744073709551616)
    × (counts.held + got.held < 18446744073709551616)
    × (counts.known + got.known < 18446744073709551616)
room d old mid a b n p q m counts got piece es going within few feeds is =
    let before = tally_below d.edits going.found counts going.counted in
    let more = tally_below m.edits es got is in
    let all = few_edits (going.handed ++ piece) (going.found ++ es) q (reads_more going.handed piece going.found es p q going.spells feeds) in
    let edits = length-append going.found es in
    let bytes = length-append going.handed piece in
    let size = going.size.1 in
    let a1 = before.taken in let a2 = before.held in let a3 = before.known in
    let b1 = more.taken in let b2 = more.held in let b3 = more.known in
    (omega arith, omega arith, omega arith)

-- a read failed
pub read_failed : (d : Replica) (old mid now : Option LinkEnds) (a b c n : ℕ) (p : Progress) (m : Replica) (counts : Pulled)
    → n < most_reads
    → Going d old mid a b n p m counts → Changed (FailedBehind []) mid now → Counted 1 b c → Pull d old now a c (Err LinkFault) m.edits
read_failed d old mid now a b c n p m counts within going none more = record {
  handed = going.handed;
  pieces = n;
  reads = n + 1;
  edits = going.found;
  reader = p;
  asks = going.asks;
  spells = going.spells;
  size = going.size;
  made = refl;
  counted = one_more n a b c going.made more;
  link = (fails_behind going.handed old mid now going.link none, omega arith);
  memory_only_when = λ bad. absurd (let it : refused LinkFault ≡ refused Memory = bad in cc);
  document = (going.calm, going.all);
}

-- the end came where a file may end
pub ends_well : (d : Replica) (old mid now : Option LinkEnds) (a b c n : ℕ) (p : Progress) (m : Replica) (counts : Pulled) → n < most_reads
    → Going d old mid a b n p m counts → Changed (HandedAll []) mid now → Counted 1 b c
    → ((bytes : List ℕ) (found : List Edit) → Reads bytes found p → (world : ℕ) × (p.world ≡ Some world) × AreRecords found × IsTextOf world found bytes)
    → Pull d old now a c (Ok counts) m.edits
ends_well d old mid now a b c n p m counts within going end more whole =
    let file = whole going.handed going.found going.spells in
    let same : file.0 ≡ d.world = asked_world going.handed going.found p d.world file.0 going.spells going.asks file.1 in
    record {
      handed = going.handed;
      pieces = n;
      reads = n + 1;
      edits = going.found;
      reader = p;
      asks = going.asks;
      spells = going.spells;
      size = going.size;
      made = refl;
      counted = one_more n a b c going.made more;
      link = (handed_all going.handed old mid now going.link end, omega arith);
      memory_only_when = λ bad. absurd (let it : pulled counts ≡ refused Memory = bad in cc);
      document = (file.2, subst (λ (w : ℕ). IsTextOf w going.found going.handed) same file.3, going.all, going.counted);
    }

-- the end came where a file may not end
pub ends_cut : (d : Replica) (old mid now : Option LinkEnds) (a b c n : ℕ) (p : Progress) (m : Replica) (counts : Pulled) (f : EditFileError)
    → n < most_reads
    → Going d old mid a b n p m counts → Changed (HandedAll []) mid now → Counted 1 b c → Err f ≡ verdict_of (ending p)
    → Pull d old now a c (Err (file_refusal f)) m.edits
ends_cut d old mid now a b c n p m counts f within going end more is =
    let cut = cut_short p f going.calm is in
    let all = handed_all going.handed old mid now going.link end in
    subst (λ f. Pull d old now a c (Err (file_refusal f)) m.edits) (sym cut.0) (record {
      handed = going.handed;
      pieces = n;
      reads = n + 1;
      edits = going.found;
      reader = p;
      asks = going.asks;
      spells = going.spells;
      size = going.size;
      made = refl;
      counted = one_more n a b c going.made more;
      link = (all, omega arith);
      memory_only_when = λ bad. absurd (let it : refused CutShort ≡ refused Memory = bad in cc);
      document = (cut.1, going.all);
    })

-- memory ran out at a delivery in a piece
pub piece_lacks : (d : Replica) (old mid now : Option LinkEnds) (a b n : ℕ) (p q : Progress) (m : Replica) (counts : Pulled) (piece read : List ℕ) (left : List Edit)
    → Going d old mid a b n p m counts → piece ≡ read → Changed (HandedOver read) mid now → q.asked ≡ p.asked
    → StopsInPiece m piece p q left
    → StopsAtDelivery d old now left
piece_lacks d old mid now a b n p q m counts piece read left going is handed asked (es, feeds, stops) = record {
  handed = going.handed ++ piece;
  edits = going.found ++ es;
  reader = q;
  asks = asked ∙ going.asks;
  spells = reads_more going.handed piece going.found es p q going.spells feeds;
  link = handed_more going.handed piece old mid now going.link (subst (λ z. Changed (HandedOver z) mid now) (sym is) handed);
  stops = stops_more d m going.found es left going.world going.sound going.all stops;
}

-- the same of a document that was opened, and of what was closed
pub stops_between : (a b c d : Replica) (old new : Option LinkEnds) → b ≡ a → d ≡ c → StopsAtDelivery b old new c.edits
    → StopsAtDelivery a old new d.edits
stops_between a b c d old new before after stops =
    subst (λ (r : Replica). StopsAtDelivery r old new d.edits) before (subst (λ (r : Replica). StopsAtDelivery b old new r.edits) (sym after) stops)

-- a piece was refused
pub piece_refused : CutIsToldAtTheEnd
    → (d : Replica) (old mid now : Option LinkEnds) (a b c n : ℕ) (p q : Progress) (m : Replica) (counts : Pulled) (piece read : List ℕ) (es : List Edit) (e : LinkError) (left : List Edit)
    → n < most_reads → Going d old mid a b n p m counts → 1 ≤ length piece → length piece ≤ 4096 → piece ≡ read
    → Changed (HandedOver read) mid now → Counted 1 b c → Feeds piece [] es p q → q.asked ≡ p.asked
    → TakesPiece m es q (Err e) left → Pull d old now a c (Err e) left
piece_refused late d old mid now a b c n p q m counts piece read es e left within going some few is handed more feeds asked takes =
    elim takes [
      | inl stopped ↦ elim stopped [
        | inl memory ↦ subst (λ e. Pull d old now a c (Err e) left) (sym memory.0)
            (pull Memory refl (leaves, up) (inl (stops_more d m going.found es left going.world going.sound going.all memory.1)))
        | inr clash ↦ subst (λ e. Pull d old now a c (Err e) left) (sym clash.1)
            (pull (Clash clash.0) refl (leaves, up) (delivered_more d m going.found es (Err (document.Clash clash.0)) left going.world going.sound going.all clash.2))
      ]
      | inr fault ↦ subst (λ e. Pull d old now a c (Err e) left) (sym fault.1)
          (by_fault fault.0 fault.2 (delivered_more d m going.found es (Ok tt) left going.world going.sound going.all fault.3))
    ]
  where
    over : Changed (HandedOver piece) mid now
    over = subst (λ z. Changed (HandedOver z) mid now) (sym is) handed

    leaves : Changed (HandedOver (going.handed ++ piece)) old now
    leaves = handed_more going.handed piece old mid now going.link over

    up : n + 1 ≤ most_reads
    up = omega arith

    spelled : Reads (going.handed ++ piece) (going.found ++ es) q
    spelled = reads_more going.handed piece going.found es p q going.spells feeds

    pull : (e : LinkError) → n + 1 ≡ reads_made (refused e) (n + 1) → LeavesLink (Err e) (n + 1) (going.handed ++ piece) old now
        → LeavesDocument d (going.handed ++ piece) (going.found ++ es) q (Err e) left → Pull d old now a c (Err e) left
    pull e made link document = record {
      handed = going.handed ++ piece;
      pieces = n + 1;
      reads = n + 1;
      edits = going.found ++ es;
      reader = q;
      asks = asked ∙ going.asks;
      spells = spelled;
      size = more_reads old mid now n going.handed piece going.pace going.size going.link over some few;
      made = made;
      counted = one_more n a b c going.made more;
      link = link;
      memory_only_when = λ bad. omega arith;
      document = document;
    }

    by_fault : (f : EditFileError) → q.fault ≡ Some f → AllDelivered d (going.found ++ es) left
        → Pull d old now a c (Err (file_refusal f)) left
    by_fault file.Memory is all = pull Memory refl (leaves, up) (inr (fault_ends q file.Memory is, all))
    by_fault file.Magic is all = pull Magic refl (leaves, up) (fault_ends q file.Magic is, all)
    by_fault file.NewVersion is all = pull NewVersion refl (leaves, up) (fault_ends q file.NewVersion is, all)
    by_fault file.OtherWorld is all = pull OtherWorld refl (leaves, up) (fault_ends q file.OtherWorld is, all)
    by_fault file.RecordLength is all = pull RecordLength refl (leaves, up) (fault_ends q file.RecordLength is, all)
    by_fault (file.BadEdit cause) is all = pull (BadEdit cause) refl (leaves, up) (fault_ends q (file.BadEdit cause) is, all)
    by_fault file.CutShort is all = absurd (late (going.handed ++ piece) (going.found ++ es) q spelled is)

-- what was taken of a piece, from a list that was empty
pub took : (d : Replica) (piece : List ℕ) (before es : List Edit) (p q : Progress) (r : Answer) (left : List Edit) → before ≡ []
    → Feeds piece before es p q → TakesPiece d es q r left
    → (es : List Edit) × Feeds piece [] es p q × TakesPiece d es q r left
took d piece before es p q r left none feeds takes = (es, subst (λ b. Feeds piece b es p q) none feeds, takes)

-- as many reads were made as may be
pub turns_over : (d : Replica) (old now : Option LinkEnds) (a b n : ℕ) (p : Progress) (m : Replica) (counts : Pulled) → n ≡ most_reads
    → Going d old now a b n p m counts → Pull d old now a b (Err TooManyTurns) m.edits
turns_over d old now a b n p m counts all going = record {
  handed = going.handed;
  pieces = n;
  reads = n;
  edits = going.found;
  reader = p;
  asks = going.asks;
  spells = going.spells;
  size = going.size;
  made = refl;
  counted = going.made;
  link = (going.link, all);
  memory_only_when = λ bad. absurd (let it : refused TooManyTurns ≡ refused Memory = bad in cc);
  document = (going.calm, going.all);
}
