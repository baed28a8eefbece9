-- Where reading a file may want memory: never in its head.
use Rattle.std.proofs.Common.{◌≡◌, ◌∙◌, ◌≤◌, ℕ, Bool, true, false, not, cond, ltb, List, [], ◌∷◌, ◌++◌, length, drop, get_or, Option, Some, None, Result, Ok, Err, ap, append_assoc, arith, refl, subst, sym}
use Rattle.std.proofs.lemmas.Bool.{ltb-false}
use Rattle.std.proofs.lemmas.List.{length-append}
use Rattle.std.specs.List.{flat_map}
use Rattle.std.specs.Prelude.{IfErr, OnErr}
use mathlib.Core.Logic.{inl, inr}
use Rattle.byteorder.specs.Endian.{little_number}
use Rattle.zed_op.specs.declared.op.Edit.{Edit}
use Rattle.zed_document.specs.Replica.{Replica}
use Rattle.zed_editfile.specs.declared.error.EditFileError.{EditFileError}
use Rattle.zed_editfile.specs.declared.error.EditFileError.TheVariants.{Memory, Magic, NewVersion, OtherWorld, RecordLength, BadEdit, CutShort}
use Rattle.zed_editfile.specs.Reading.{edit_at}
use Rattle.zed_editfile.specs.Spelling.{AreOf, head_text, number, record_text, spelling, text_of}
use Rattle.zed_editfile.specs.Stream.{AreRecords, Feeds, Frames, HasLength, IsRecord, Progress, Reads, Stop, Stops, body_at, ending, ending_by, fails, fault_of, has_letters, head_stop, is_length, is_other, is_version, record_stop, stop_of, verdict_of, waits}
use Rattle.zed_editfile.proofs.Cuts.{frame_number}
use Rattle.zed_editfile.proofs.Numbers.{length_number}
use Rattle.zed_editfile.proofs.Stopping.{StopsBut, choice, failing, nowhere, waiting}
use Rattle.zed_link.specs.declared.error.LinkError.TheVariants as link
use Rattle.zed_link.specs.Pieces.{TakesPiece}
use Rattle.zed_link.specs.Refusals.{file_refusal}
use Rattle.zed_files.specs.declared.refusal.Refusal.{Refusal}
use Rattle.zed_files.specs.Files.{WantsMemory}

-- ---- where reading stops

-- not for want of memory
abbrev Ample : Option Stop → Type 0
Ample o = StopsBut Memory o

-- the head
head_ample : (asked : Option ℕ) (bytes : List ℕ) → Ample (head_stop asked bytes)
unfolding head_stop
head_ample asked bytes =
    choice (not (has_letters bytes)) _ _ (failing Magic (λ h. cc))
    (choice (ltb (length bytes) 4) _ _ (waiting bytes)
    (choice (not (is_version (get_or bytes 3 0))) _ _ (failing NewVersion (λ h. cc))
    (choice (ltb (length bytes) 12) _ _ (waiting bytes) (choice (is_other asked (little_number 8 (drop 4 bytes))) _ _ (failing OtherWorld (λ h. cc)) nowhere))))

-- nor a record whose length isn't there or isn't good
long_enough : (a b : Bool) (bytes : List ℕ) (rest : Option Stop) (s : Stop) → ltb (length bytes) 4 ≡ a
    → is_length (little_number 4 bytes) ≡ b
    → cond a (waits bytes) (cond (not b) (fails RecordLength) rest) ≡ Some s → s.fault ≡ Some Memory → HasLength bytes
long_enough true b bytes rest s short good is lack = absurd (waiting bytes s is lack)
long_enough false false bytes rest s short good is lack = absurd (failing RecordLength (λ h. cc) s is lack)
long_enough false true bytes rest s short good is lack = (ltb-false (length bytes) 4 short, good)

record_lacks : (v : ℕ) (bytes : List ℕ) (s : Stop) → record_stop v bytes ≡ Some s → s.fault ≡ Some Memory → HasLength bytes
unfolding record_stop
record_lacks v bytes s is lack =
    long_enough (ltb (length bytes) 4) (is_length (little_number 4 bytes)) bytes
    (cond (ltb (length (drop 4 bytes)) (little_number 4 bytes)) (waits bytes) (fault_of (edit_at v (body_at bytes)))) s refl refl is lack

stops_lack : (v : ℕ) (tail : List ℕ) (q : Progress) → Stops tail q (record_stop v tail) → q.fault ≡ Some Memory → HasLength tail
stops_lack v tail q (inl here) lack = here.1
stops_lack v tail q (inr is) lack = record_lacks v tail (stop_of q) is lack

-- a reader whose memory ran out
pub reader_wants : (bytes : List ℕ) (es : List Edit) (q : Progress) → Reads bytes es q → q.fault ≡ Some Memory → WantsMemory q.asked bytes
reader_wants bytes es q (inl h) lack = absurd (head_ample q.asked bytes (stop_of q) h.stop lack)
reader_wants bytes es q (inr h) lack = record {
  version = q.version;
  world = h.number;
  before = es;
  tail = h.tail;
  known = h.known;
  asked_for = h.asked;
  good = h.good;
  spelled = h.spelled;
  whole = h.whole;
  long = stops_lack q.version h.tail q h.stop lack;
}

-- ---- an edit that was read

records_front : (front more : List Edit) → AreRecords (front ++ more) → AreRecords front
records_front [] more h = tt
records_front (e ∷ front) more h = (h.0, records_front front more h.1)

spelled_front : (v : ℕ) (front more : List Edit) → AreOf v (front ++ more) → AreOf v front
spelled_front v [] more h = tt
spelled_front v (e ∷ front) more h = (h.0, spelled_front v front more h.1)

record_behind : (front : List Edit) (e : Edit) (rest : List Edit) → AreRecords (front ++ e ∷ rest) → IsRecord e
record_behind [] e rest h = h.0
record_behind (f ∷ front) e rest h = record_behind front e rest h.1

parts : (front : List Edit) (e : Edit) (rest : List Edit) (t : List ℕ)
    → flat_map record_text (front ++ e ∷ rest) ++ t ≡ flat_map record_text front ++ (record_text e ++ (flat_map record_text rest ++ t))
parts [] e rest t = append_assoc (record_text e) (flat_map record_text rest) t
parts (f ∷ front) e rest t =
    append_assoc (record_text f) (flat_map record_text (front ++ e ∷ rest)) t
    ∙ ap (λ z. record_text f ++ z) (parts front e rest t)
    ∙ sym (append_assoc (record_text f) (flat_map record_text front) (record_text e ++ (flat_map record_text rest ++ t)))

frame : (e : Edit) (x : List ℕ) → IsRecord e → Frames (record_text e ++ x) (spelling e) x
unfolding record_text
frame e x r = record { long = r.2; parts = append_assoc (number 4 (length (spelling e))) (spelling e) x }

four_bytes : (e : Edit) (x : List ℕ) → 4 ≤ length (record_text e ++ x)
unfolding record_text
four_bytes e x =
    let four = length_number 4 (length (spelling e)) in
    let sum = length-append (number 4 (length (spelling e))) (spelling e) in
    let all = length-append (number 4 (length (spelling e)) ++ spelling e) x in
    omega (arith, four, sum, all)

record_length : (e : Edit) (x : List ℕ) → IsRecord e → HasLength (record_text e ++ x)
record_length e x r = (four_bytes e x, ap is_length (frame_number (record_text e ++ x) (spelling e) x (frame e x r)) ∙ r.2)

no_edits : (front : List Edit) (e : Edit) (rest : List Edit) → [] ≡ front ++ e ∷ rest → ⊥
no_edits [] e rest is = let no : [] ≡ e ∷ rest = is in cc
no_edits (f ∷ front) e rest is = let no : [] ≡ f ∷ (front ++ e ∷ rest) = is in cc

pub edit_wants : (bytes : List ℕ) (es : List Edit) (q : Progress) (front : List Edit) (e : Edit) (rest : List Edit) → Reads bytes es q
    → es ≡ front ++ e ∷ rest
    → WantsMemory q.asked bytes
edit_wants bytes es q front e rest (inl h) is = absurd (no_edits front e rest (sym h.none ∙ is))
edit_wants bytes es q front e rest (inr h) is =
    let good : AreRecords (front ++ e ∷ rest) = subst AreRecords is h.good in
    let head : List ℕ = head_text q.version h.number in
    let tail : List ℕ = record_text e ++ (flat_map record_text rest ++ h.tail) in
    record {
      version = q.version;
      world = h.number;
      before = front;
      tail = tail;
      known = h.known;
      asked_for = h.asked;
      good = records_front front (e ∷ rest) good;
      spelled = spelled_front q.version front (e ∷ rest) (subst (AreOf q.version) is h.spelled);
      whole =
          h.whole ∙ ap (λ z. text_of q.version h.number z ++ h.tail) is
          ∙ append_assoc head (flat_map record_text (front ++ e ∷ rest)) h.tail
          ∙ ap (λ z. head ++ z) (parts front e rest h.tail) ∙ sym (append_assoc head (flat_map record_text front) tail);
      long = record_length e (flat_map record_text rest ++ h.tail) (record_behind front e rest good);
    }

-- ---- a feed whose memory ran out

lacked : (f : EditFileError) → link.Memory ≡ file_refusal f → f ≡ Memory
lacked Memory is = refl
lacked Magic is = absurd cc
lacked NewVersion is = absurd cc
lacked OtherWorld is = absurd cc
lacked RecordLength is = absurd cc
lacked (BadEdit c) is = absurd cc
lacked CutShort is = absurd cc

feed_took : (d : Replica) (bytes : List ℕ) (es : List Edit) (q : Progress) (left : List Edit) → Reads bytes es q
    → TakesPiece d es q (Err link.Memory) left
    → WantsMemory q.asked bytes
feed_took d bytes es q left reads (inl (inl lack)) = let one = lack.1 in edit_wants bytes es q one.0 one.1 one.2 reads one.3
feed_took d bytes es q left reads (inl (inr clash)) = absurd (let no : link.Memory ≡ link.Clash clash.0 = clash.1 in cc)
feed_took d bytes es q left reads (inr fault) = reader_wants bytes es q reads (fault.2 ∙ ap (λ x. Some x) (lacked fault.0 fault.1))

pub feed_wants : (asked : Option ℕ) (d : Replica) (bytes : List ℕ) (p q : Progress) (left : List Edit) → Reads [] [] p → q.asked ≡ asked
    → (es : List Edit) × Feeds bytes [] es p q × TakesPiece d es q (Err link.Memory) left → WantsMemory asked bytes
feed_wants asked d bytes p q left start asks (es, feeds, took) =
    let reads : Reads bytes es q = subst (λ z. Reads bytes z q) (sym feeds.gained) (feeds.reads [] [] start) in
    subst (λ o. WantsMemory o bytes) asks (feed_took d bytes es q left reads took)

-- ---- a reader at the end of a file

end_lacks : (f : Option EditFileError) (w : Option ℕ) (rest : List ℕ) → verdict_of (ending_by f w rest) ≡ verdict_of (Some Memory)
    → f ≡ Some Memory
end_lacks (Some e) w rest is =
    let one : verdict_of (Some e) ≡ verdict_of (Some Memory) = is in
    let same : e ≡ Memory = cc in
    ap (λ x. Some x) same
end_lacks None None rest is = absurd (let no : verdict_of (Some CutShort) ≡ verdict_of (Some Memory) = is in cc)
end_lacks None (Some n) [] is = absurd (let no : verdict_of None ≡ verdict_of (Some Memory) = is in cc)
end_lacks None (Some n) (b ∷ rest) is = absurd (let no : verdict_of (Some CutShort) ≡ verdict_of (Some Memory) = is in cc)

-- what it was fed is the whole file
pub end_wants : (asked : Option ℕ) (bytes : List ℕ) (old new : List Edit) (p q : Progress) (end : Result (Unit {0}) EditFileError)
    → Reads [] [] p → q.asked ≡ asked → Feeds bytes old new p q
    → end ≡ verdict_of (ending q) → end ≡ Err Memory → WantsMemory asked bytes
end_wants asked bytes old new p q end start asks feeds is lack =
    subst (λ o. WantsMemory o bytes) asks (reader_wants bytes feeds.edits q (feeds.reads [] [] start) (end_lacks q.fault q.world q.rest (sym is ∙ lack)))

-- ---- what is answered

-- what holds of each refusal
pub if_err : {X : Type 0} (r : Result X Refusal) (P : Refusal → Type 0) → ((e : Refusal) → P e) → IfErr r P
if_err (Ok x) P h = tt
if_err (Err e) P h = h e

pub on_err : {X : Type 0} (r : Result X Refusal) (P : Type 0) → P → OnErr r P
on_err (Ok x) P h = tt
on_err (Err e) P h = h

-- a file of any world
pub any_wants : (w : ℕ) (bytes : List ℕ) → WantsMemory (Some w) bytes → WantsMemory None bytes
any_wants w bytes h = record {
  version = h.version;
  world = h.world;
  before = h.before;
  tail = h.tail;
  known = h.known;
  asked_for = refl;
  good = h.good;
  spelled = h.spelled;
  whole = h.whole;
  long = h.long;
}
