-- What a reader of an edit file has found in the bytes so far.
use Rattle.std.specs.Prelude.{◌≡◌, ◌⊎◌, ◌<◌, ◌≤◌, ◌^◌, ℕ, Bool, false, not, ◌&&◌, ◌||◌, ◌==◌, true, nat_le, nat_lt, nat_eq, if◌then◌else◌, List, [], ◌∷◌, ◌++◌, length, take, drop, slice_index, Option, Some, None, Result, Ok, Err, IsOk}
use Rattle.std.specs.List.{flat_map, starts_with, AllByRecursion}
use Rattle.byteorder.specs.Endian.{little_number}
use Rattle.zed_op.specs.declared.op.Edit.{Edit}
use Rattle.zed_op.specs.Fit.{Fits}
use Rattle.zed_editfile.specs.declared.error.EditFileError.{EditFileError}
use Rattle.zed_editfile.specs.declared.error.EditFileError.TheVariants.{Memory, Magic, NewVersion, OtherWorld, RecordLength, CutShort}
use Rattle.zed_editfile.specs.Reading.{edit_at, SpellsString}
use Rattle.zed_op.specs.Sizes.{HasSizes}
use Rattle.zed_editfile.specs.Spelling.{number, spelling, record_text, head_text, text_of, AreOf}

-- ---- where reading stops

-- what came of a head or a record that isn't whole yet, or a fault
pub record Stop : Type 0 where
  pub rest : List ℕ
  pub fault : Option EditFileError

-- these bytes are kept until more come
abbrev pub waits : List ℕ → Option Stop
waits bytes = Some (record { rest = bytes; fault = None })

-- a fault, after which no bytes are kept
abbrev pub fails : EditFileError → Option Stop
fails e = Some (record { rest = []; fault = Some e })

-- whether the first three bytes, as far as they came, are ZED
abbrev pub has_letters : List ℕ → Bool
has_letters bytes = starts_with nat_eq (90 ∷ 69 ∷ 68 ∷ []) (take 3 bytes)

-- whether a number is another than the one asked for
abbrev pub is_other : Option ℕ → ℕ → Bool
is_other None n = false
is_other (Some m) n = not (m == n)

-- the versions that are read
abbrev pub is_version : ℕ → Bool
is_version n = (n == 1) || (n == 2)

-- nowhere, where a good head stands at the front
unfoldable pub head_stop : Option ℕ → List ℕ → Option Stop
head_stop asked bytes =
    if not (has_letters bytes) then fails Magic else
    if nat_lt (length bytes) 4 then waits bytes else
    if not (is_version (slice_index bytes 3)) then fails NewVersion else
    if nat_lt (length bytes) 12 then waits bytes else
    if is_other asked (little_number 8 (drop 4 bytes)) then fails OtherWorld else None

-- the lengths that the body of a record may have
abbrev pub is_length : ℕ → Bool
is_length n = nat_le 9 n && nat_le n 4194304

-- an edit that can stand in a record of a version that has a spelling of it: it fits, each value has room in its field, and the body has one of the lengths
abbrev pub IsRecord : Edit → Type 0
IsRecord e = Fits e × HasSizes e × (is_length (length (spelling e)) ≡ true)

-- each of these edits can stand in a record
abbrev pub AreRecords : List Edit → Type 0
AreRecords es = AllByRecursion IsRecord es

-- nowhere, where an edit was read; else its fault
abbrev pub fault_of : Result Edit EditFileError → Option Stop
fault_of (Ok e) = None
fault_of (Err f) = fails f

-- the body behind a length
abbrev pub body_at : List ℕ → List ℕ
body_at bytes = take (little_number 4 bytes) (drop 4 bytes)

-- nowhere, where a record of a version stands at the front whose body spells an edit that fits
unfoldable pub record_stop : ℕ → List ℕ → Option Stop
record_stop version bytes =
    if nat_lt (length bytes) 4 then waits bytes else
    if not (is_length (little_number 4 bytes)) then fails RecordLength else
    if nat_lt (length (drop 4 bytes)) (little_number 4 bytes) then waits bytes else fault_of (edit_at version (body_at bytes))

-- the bytes are a length, a body of that length, and what follows
pub record Frames (bytes body after : List ℕ) : Type 0 where
  pub long : is_length (length body) ≡ true
  pub parts : bytes ≡ number 4 (length body) ++ (body ++ after)

-- the records at the front of the bytes, before a tail, are those of the edits of a version that a list gained
pub record Gains (version : ℕ) (before after : List Edit) (bytes tail : List ℕ) : Type 0 where
  pub edits : List Edit
  pub gained : after ≡ before ++ edits
  pub good : AreRecords edits
  pub spelled : AreOf version edits
  pub whole : bytes ≡ flat_map record_text edits ++ tail

-- the bytes are the text of these edits of a world in one of the versions, which has a spelling of each
pub record IsTextOf (world : ℕ) (es : List Edit) (bytes : List ℕ) : Type 0 where
  pub version : ℕ
  pub known : is_version version ≡ true
  pub spelled : AreOf version es
  pub text : bytes ≡ text_of version world es

-- ---- where memory may run out

-- the length of a record is at the front of the bytes, and is one of those that there are
abbrev pub HasLength : List ℕ → Type 0
HasLength bytes = (4 ≤ length bytes) × (is_length (little_number 4 bytes) ≡ true)

-- the same of more bytes than those of a head, which are kept without memory
abbrev pub IsLong : List ℕ → Type 0
IsLong bytes = HasLength bytes × (12 < length bytes)

-- the bytes behind the length are fewer than it says
abbrev pub IsCutShort : List ℕ → Type 0
IsCutShort bytes = length (drop 4 bytes) < little_number 4 bytes

-- The record at the front of the bytes may want memory: it has a good length, more than 12 bytes are there, and it is cut, so that its bytes are to be kept; or it spells an edit;
-- or what is wrong with that is seen behind a string. So memory never runs out in place of a bad length, a field that is cut, a wrong op or a wrong tag.
abbrev pub MayWantMemory : ℕ → List ℕ → Type 0
MayWantMemory version bytes =
    IsLong bytes × (IsCutShort bytes ⊎ (IsOk (edit_at version (body_at bytes)) ⊎ SpellsString version (body_at bytes)))

-- the same of the tail of some bytes of which the first were kept of earlier pieces; a record that began in these is kept until it is whole
abbrev pub MayWantMemoryBehind : ℕ → List ℕ → List ℕ → List ℕ → Type 0
MayWantMemoryBehind version kept bytes tail =
    ((0 < length kept) × (tail ≡ bytes) × IsLong tail) ⊎ MayWantMemory version tail

-- ---- the reader

-- a reader: the world asked for, the world and the version once the head is whole (the version is 0 before), what came of a head or a record that isn't whole yet, and the fault that ended it
pub record Progress : Type 0 where
  pub asked : Option ℕ
  pub world : Option ℕ
  pub version : ℕ
  pub rest : List ℕ
  pub fault : Option EditFileError

-- where a reader is
abbrev pub stop_of : Progress → Stop
stop_of p = record { rest = p.rest; fault = p.fault }

-- of records that are left the reader is where reading stops; or its memory ran out, and the first of them has a good length
abbrev pub Stops : List ℕ → Progress → Option Stop → Type 0
Stops left p stop = ((p.fault ≡ Some Memory) × HasLength left) ⊎ (stop ≡ Some (stop_of p))

-- the bytes are less than a good head
pub record InHead (bytes : List ℕ) (edits : List Edit) (p : Progress) : Type 0 where
  pub world : p.world ≡ None
  pub version : p.version ≡ 0
  pub none : edits ≡ []
  pub stop : head_stop p.asked bytes ≡ Some (stop_of p)

-- the bytes are a good head, the records of these edits, and a tail where reading stops
pub record InRecords (bytes : List ℕ) (edits : List Edit) (p : Progress) : Type 0 where
  pub number : ℕ
  pub tail : List ℕ
  pub fits : number < 2 ^ 64
  pub asked : is_other p.asked number ≡ false
  pub world : p.world ≡ Some number
  pub known : is_version p.version ≡ true
  pub good : AreRecords edits
  pub spelled : AreOf p.version edits
  pub whole : bytes ≡ text_of p.version number edits ++ tail
  pub stop : Stops tail p (record_stop p.version tail)

-- what a reader has found in the bytes so far, however they were cut: these edits, and where it is now
abbrev pub Reads : List ℕ → List Edit → Progress → Type 0
Reads bytes edits p = InHead bytes edits p ⊎ InRecords bytes edits p

-- What a reader has of the bytes after a piece, if it had some before it: the edits that a list gained are added. Whatever it
-- had before, these fit, and their numbers have the sizes of their fields.
pub record Feeds (piece : List ℕ) (before after : List Edit) (p q : Progress) : Type 0 where
  pub edits : List Edit
  pub gained : after ≡ before ++ edits
  pub good : AreRecords edits
  pub reads : (bytes : List ℕ) (found : List Edit) → Reads bytes found p → Reads (bytes ++ piece) (found ++ edits) q

-- the fault; or that a head or a record is cut, where bytes are left or no world was told
abbrev pub ending_by : Option EditFileError → Option ℕ → List ℕ → Option EditFileError
ending_by (Some e) world rest = Some e
ending_by None None rest = Some CutShort
ending_by None (Some n) [] = None
ending_by None (Some n) (b ∷ rest) = Some CutShort

-- what is wrong with a file that ends here: the fault, or that its head or a record is cut
abbrev pub ending : Progress → Option EditFileError
ending p = ending_by p.fault p.world p.rest

-- Ok, where there is no fault
abbrev pub verdict_of : Option EditFileError → Result (Unit {0}) EditFileError
verdict_of None = Ok tt
verdict_of (Some e) = Err e

-- ---- one step of a reader

-- less than a head, or less than a record behind a head
abbrev pub IsWaiting : Option ℕ → Option ℕ → ℕ → List ℕ → Type 0
IsWaiting asked None version rest = head_stop asked rest ≡ waits rest
IsWaiting asked (Some n) version rest = record_stop version rest ≡ waits rest

-- a reader without a fault keeps less than a head or a record
abbrev pub KeepsWaiting : Progress → Type 0
KeepsWaiting p = p.fault ≡ None → IsWaiting p.asked p.world p.version p.rest

-- where a step ends that kept these bytes
abbrev pub end_of : Result (Unit {0}) EditFileError → List ℕ → Stop
end_of (Ok u) kept = record { rest = kept; fault = None }
end_of (Err e) kept = record { rest = []; fault = Some e }

-- the records at the front of the bytes were taken, of which the first were kept, up to where the step ends: where reading stops, or where memory ran out
pub record Collects (version : ℕ) (kept bytes : List ℕ) (before after : List Edit) (s : Stop) : Type 0 where
  pub tail : List ℕ
  pub gains : Gains version before after bytes tail
  pub ends : ((s.fault ≡ Some Memory) × MayWantMemoryBehind version kept bytes tail) ⊎ (record_stop version tail ≡ Some s)

-- a good head is at the front of the bytes, and then records were taken
pub record Enters (asked : Option ℕ) (version n : ℕ) (bytes : List ℕ) (before after : List Edit) (s : Stop) : Type 0 where
  pub left : List ℕ
  pub fits : n < 2 ^ 64
  pub asked_for : is_other asked n ≡ false
  pub known : is_version version ≡ true
  pub head : bytes ≡ head_text version n ++ left
  pub records : Collects version [] left before after s

-- from a world and a version to a world and a version, by bytes of which the first were kept: still in the head, where memory never runs out; into the records; or on
-- in the records
abbrev pub Advances : Option ℕ → Option ℕ → Option ℕ → ℕ → ℕ → List ℕ → List ℕ → List Edit → List Edit → Stop → Type 0
Advances asked None None v w kept bytes before after s = (w ≡ v) × (after ≡ before) × (head_stop asked bytes ≡ Some s)
Advances asked None (Some n) v w kept bytes before after s = Enters asked w n bytes before after s
Advances asked (Some m) None v w kept bytes before after s = ⊥
Advances asked (Some m) (Some n) v w kept bytes before after s = (w ≡ v) × (n ≡ m) × Collects v kept bytes before after s

-- what a step makes of a reader without a fault, with the edits that a list gained
abbrev pub Steps : List ℕ → List Edit → List Edit → Progress → Progress → Type 0
Steps piece before after p q = Advances p.asked p.world q.world p.version q.version p.rest (p.rest ++ piece) before after (stop_of q)
