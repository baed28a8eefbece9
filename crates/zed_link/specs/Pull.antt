-- What a pull reads from a link, and what it makes of a document.
use Rattle.std.specs.Prelude.{◌≡◌, ◌<◌, ◌≤◌, ◌+◌, ◌*◌, ◌⊎◌, ℕ, min, max, List, ◌∷◌, ◌++◌, length, Option, Some, None, Result, Ok, Err}
use Rattle.zed_op.specs.declared.op.Edit.{Edit}
use Rattle.zed_editfile.specs.declared.error.EditFileError.{EditFileError}
use Rattle.zed_editfile.specs.declared.error.EditFileError.TheVariants as file
use Rattle.zed_editfile.specs.Stream.{AreRecords, IsTextOf, Progress, Reads, ending}
use Rattle.zed_document.specs.declared.error.DocumentError.TheVariants as document
use Rattle.zed_document.specs.Delivery.{DeliversEach, MayTakeMemoryFor}
use Rattle.zed_document.specs.Replica.{Replica}
use Rattle.zed_link.specs.declared.error.LinkError.{LinkError}
use Rattle.zed_link.specs.declared.error.LinkError.TheVariants.{Memory, Magic, NewVersion, OtherWorld, RecordLength, BadEdit, CutShort, Clash, Stale, LinkFault, TooManyTurns}
use Rattle.zed_link.specs.declared.pulled.Pulled.{Pulled}
use Rattle.zed_link.specs.Counting.{Counted}
use Rattle.zed_link.specs.Ends.{Changed, FailedBehind, HandedAll, HandedOver, LinkEnds}
use Rattle.zed_link.specs.Tally.{states, tally}

-- how many reads a pull makes at most
abbrev pub most_reads : ℕ
most_reads = 1048576

-- how many bytes a read of a pull hands over at least, unless fewer are left: as many as the link's pace, if it is told, up to 4,096; one of any
abbrev pub least_read : Option LinkEnds → ℕ
least_read None = 1
least_read (Some t) = max 1 (min 4096 t.promise.pace)

-- n reads may hand over these bytes, where each but the last hands over so many at least, and the last one some: at most 4,096 a read on the whole
abbrev pub FromReads : ℕ → ℕ → List ℕ → Type 0
FromReads least n bytes = (n * least < length bytes + least) × (length bytes ≤ n * 4096)

-- how many reads a pull made, of which so many handed over bytes: one more where the last came to the end of input, or failed
abbrev pub reads_made : Result Pulled LinkError → ℕ → ℕ
reads_made (Ok pulled) n = n + 1
reads_made (Err LinkFault) n = n + 1
reads_made (Err CutShort) n = n + 1
reads_made (Err e) n = n

-- how the ends of the link changed, after so many reads, by which these bytes were handed over: an Ok comes at the end of input, and so does
-- CutShort; LinkFault comes of a link that may fail; too many reads are just as many as may be made; and no refusal loses a byte
abbrev pub LeavesLink : Result Pulled LinkError → ℕ → List ℕ → Option LinkEnds → Option LinkEnds → Type 0
LeavesLink (Ok pulled) n bytes old new = Changed (HandedAll bytes) old new × (n ≤ most_reads)
LeavesLink (Err CutShort) n bytes old new = Changed (HandedAll bytes) old new × (n ≤ most_reads)
LeavesLink (Err LinkFault) n bytes old new = Changed (FailedBehind bytes) old new × (n ≤ most_reads)
LeavesLink (Err TooManyTurns) n bytes old new = Changed (HandedOver bytes) old new × (n ≡ most_reads)
LeavesLink (Err e) n bytes old new = Changed (HandedOver bytes) old new × (n ≤ most_reads)

-- all of these edits were delivered, one after the other, and these are the document's edits then
abbrev pub AllDelivered : Replica → List Edit → List Edit → Type 0
AllDelivered d es left = DeliversEach d es (Ok tt) left

-- a front of these edits was delivered
abbrev pub FrontDelivered : Replica → List Edit → List Edit → Type 0
FrontDelivered d es left = (front : List Edit) × (rest : List Edit) × (es ≡ front ++ rest) × AllDelivered d front left

-- edits were delivered up to one whose delivery may take memory
abbrev pub StopsForMemory : Replica → List Edit → List Edit → Type 0
StopsForMemory d es left =
    (front : List Edit) × (e : Edit) × (rest : List Edit) × (es ≡ front ++ e ∷ rest)
    × AllDelivered d front left × MayTakeMemoryFor (record d { edits = left }) e

-- memory ran out at a delivery: of the edits of the document's world that are whole in the bytes that a link handed over, those before one
-- that may take memory were delivered
pub record StopsAtDelivery (d : Replica) (old new : Option LinkEnds) (left : List Edit) : Type 0 where
  pub handed : List ℕ
  pub edits : List Edit
  pub reader : Progress
  pub asks : reader.asked ≡ Some d.world
  pub spells : Reads handed edits reader
  pub link : Changed (HandedOver handed) old new
  pub stops : StopsForMemory d edits left

-- the file is refused where its reader is, after all edits before that
abbrev pub Refuses : EditFileError → Replica → List Edit → Progress → List Edit → Type 0
Refuses e d es p left = (ending p ≡ Some e) × AllDelivered d es left

-- what a pull answers and leaves in a document, by the bytes handed over, the edits that are whole in them, and where their reader is
abbrev pub LeavesDocument : Replica → List ℕ → List Edit → Progress → Result Pulled LinkError → List Edit → Type 0
LeavesDocument d bytes es p (Ok pulled) left =
    AreRecords es × IsTextOf d.world es bytes × AllDelivered d es left × (pulled ≡ tally (states d.edits es))
LeavesDocument d bytes es p (Err LinkFault) left = (p.fault ≡ None) × AllDelivered d es left
LeavesDocument d bytes es p (Err TooManyTurns) left = (p.fault ≡ None) × AllDelivered d es left
LeavesDocument d bytes es p (Err Magic) left = Refuses file.Magic d es p left
LeavesDocument d bytes es p (Err NewVersion) left = Refuses file.NewVersion d es p left
LeavesDocument d bytes es p (Err OtherWorld) left = Refuses file.OtherWorld d es p left
LeavesDocument d bytes es p (Err RecordLength) left = Refuses file.RecordLength d es p left
LeavesDocument d bytes es p (Err (BadEdit c)) left = Refuses (file.BadEdit c) d es p left
LeavesDocument d bytes es p (Err CutShort) left = Refuses file.CutShort d es p left
LeavesDocument d bytes es p (Err (Clash s)) left = DeliversEach d es (Err (document.Clash s)) left
LeavesDocument d bytes es p (Err Memory) left =
    StopsForMemory d es left ⊎ Refuses file.Memory d es p left
LeavesDocument d bytes es p (Err Stale) left = ⊥

-- a pull into a document: the bytes that the link handed over, the reads that handed over some, all reads that were made, which the link
-- counted, the edits of the document's world that are whole in those bytes, where a reader of them is, and what that comes to; memory
-- runs out only after a read that handed over some bytes
pub record Pull (d : Replica) (old new : Option LinkEnds) (count count' : ℕ) (r : Result Pulled LinkError) (left : List Edit) : Type 0 where
  pub handed : List ℕ
  pub pieces : ℕ
  pub reads : ℕ
  pub edits : List Edit
  pub reader : Progress
  pub asks : reader.asked ≡ Some d.world
  pub spells : Reads handed edits reader
  pub size : FromReads (least_read old) pieces handed
  pub made : reads ≡ reads_made r pieces
  pub counted : Counted reads count count'
  pub link : LeavesLink r reads handed old new
  pub memory_only_when : r ≡ Err Memory → 0 < pieces
  pub document : LeavesDocument d handed edits reader r left
