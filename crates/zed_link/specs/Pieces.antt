-- What becomes of the edits that one piece of a file completes.
use Rattle.std.specs.Prelude.{◌≡◌, ◌⊎◌, ◌<◌, ◌+◌, ◌++◌, ◌^◌, ℕ, length, List, [], ◌∷◌, Some, None, Result, Ok, Err}
use Rattle.zed_types.specs.declared.stamp.Stamp.{Stamp}
use Rattle.zed_op.specs.declared.op.Edit.{Edit}
use Rattle.zed_editfile.specs.declared.error.EditFileError.{EditFileError}
use Rattle.zed_editfile.specs.Stream.{Feeds, Progress, Reads}
use Rattle.zed_document.specs.declared.error.DocumentError.TheVariants as document
use Rattle.zed_document.specs.declared.delivered.State.{State}
use Rattle.zed_document.specs.declared.delivered.State.TheVariants.{Known}
use Rattle.zed_document.specs.Delivery.{DeliversEach, MayTakeMemoryFor}
use Rattle.zed_document.specs.Replica.{Replica}
use Rattle.zed_link.specs.declared.error.LinkError.{LinkError}
use Rattle.zed_link.specs.declared.error.LinkError.TheVariants.{Memory, Clash}
use Rattle.zed_link.specs.declared.pulled.Pulled.{Pulled}
use Rattle.zed_link.specs.Pull.{AllDelivered, StopsForMemory}
use Rattle.zed_link.specs.Refusals.{file_refusal}
use Rattle.zed_link.specs.Tally.{state_in, states, tally}

-- edits were delivered up to the first that was refused, for a clash or for want of memory
abbrev pub IsStopped : Replica → List Edit → LinkError → List Edit → Type 0
IsStopped d es e left =
    ((e ≡ Memory) × StopsForMemory d es left)
    ⊎ ((s : Stamp) × (e ≡ Clash s) × DeliversEach d es (Err (document.Clash s)) left)

-- an edit was delivered, and its state told, or refused, for memory that it may take or for a clash
abbrev pub DeliversOne : Replica → Edit → Result State LinkError → List Edit → Type 0
DeliversOne d e (Ok state) left = AllDelivered d (e ∷ []) left × (state ≡ state_in d.edits e)
DeliversOne d e (Err refusal) left =
    ((refusal ≡ Memory) × MayTakeMemoryFor d e × (left ≡ d.edits))
    ⊎ ((s : Stamp) × (refusal ≡ Clash s) × DeliversEach d (e ∷ []) (Err (document.Clash s)) left)

-- edits were delivered and counted, or stopped
abbrev pub DeliversCounting : Replica → List Edit → Result Pulled LinkError → List Edit → Type 0
DeliversCounting d es (Ok pulled) left = AllDelivered d es left × (pulled ≡ tally (states d.edits es))
DeliversCounting d es (Err e) left = IsStopped d es e left

-- the same of the edits of a piece, after which the reader may have a fault
abbrev pub TakesPiece : Replica → List Edit → Progress → Result Pulled LinkError → List Edit → Type 0
TakesPiece d es p (Ok pulled) left = (p.fault ≡ None) × AllDelivered d es left × (pulled ≡ tally (states d.edits es))
TakesPiece d es p (Err e) left =
    IsStopped d es e left
    ⊎ ((f : EditFileError) × (e ≡ file_refusal f) × (p.fault ≡ Some f) × AllDelivered d es left)

-- memory ran out at a delivery: of the edits that a piece completes, those before one that may take memory were delivered
abbrev pub StopsInPiece : Replica → List ℕ → Progress → Progress → List Edit → Type 0
StopsInPiece d piece p q left = (es : List Edit) × Feeds piece [] es p q × StopsForMemory d es left

-- the piece begins with the record of an edit that the document has: the reader is where it was behind it
pub record IsPassed (front : List ℕ) (e : Edit) (piece rest : List ℕ) (p : Progress) (d : Replica) : Type 0 where
  pub whole : piece ≡ front ++ rest
  pub some : 0 < length front
  pub feeds : Feeds front [] (e ∷ []) p p
  pub all : AllDelivered d (e ∷ []) d.edits
  pub known : state_in d.edits e ≡ Known

-- what the reader has read, and the piece behind it, are so few bytes that their edits can be counted
abbrev pub HasRoomFor : List ℕ → Progress → Type 0
HasRoomFor piece p = (handed : List ℕ) × (found : List Edit) × Reads handed found p × (length handed + length piece < 2 ^ 63)
