-- What a pull makes of a link that holds a whole file, and deliveries after others.
use Rattle.std.specs.Prelude.{◌≡◌, ◌<◌, ◌^◌, ◌-◌, ◌*◌, ℕ, false, List, ◌++◌, length, Option, Some, Result, Ok, Err, OnOk}
use Rattle.zed_op.specs.declared.op.Edit.{Edit}
use Rattle.zed_editfile.specs.Stream.{AreRecords, IsTextOf}
use Rattle.zed_document.specs.declared.error.DocumentError.{DocumentError}
use Rattle.zed_document.specs.declared.error.DocumentError.TheVariants as document
use Rattle.zed_document.specs.Delivery.{DeliversEach}
use Rattle.zed_document.specs.Replica.{Replica}
use Rattle.zed_link.specs.declared.error.LinkError.{LinkError}
use Rattle.zed_link.specs.declared.error.LinkError.TheVariants.{Memory, Clash, LinkFault, TooManyTurns}
use Rattle.zed_link.specs.declared.pulled.Pulled.{Pulled}
use Rattle.zed_link.specs.Ends.{Changed, HandedAll, LinkEnds}
use Rattle.zed_link.specs.Pull.{AllDelivered, FrontDelivered, Pull, least_read, most_reads}
use Rattle.zed_link.specs.Tally.{states, tally}

-- the link tells its ends, and what is left on it is the text of a file of these edits, of the document's world, in one of the versions
pub record HoldsFile (d : Replica) (es : List Edit) (link : Option LinkEnds) : Type 0 where
  pub ends : LinkEnds
  pub told : link ≡ Some ends
  pub number : d.world < 2 ^ 64
  pub records : AreRecords es
  pub text : IsTextOf d.world es ends.left

-- a read of the link may fail
abbrev pub MayFail : LinkEnds → Type 0
MayFail t = t.promise.unfailing ≡ false

-- more bytes are left than all reads of a pull but one hand over at the link's pace
abbrev pub IsLong : LinkEnds → Type 0
IsLong t = (most_reads - 1) * least_read (Some t) < length t.left

-- what comes of the edits of a whole file: all are delivered and counted, or those up to one that clashes; or behind the first of them
-- memory ran out, the link failed, if it may, or too many reads were made, if the file is long
abbrev pub PullsFile : LinkEnds → Replica → List Edit → Result Pulled LinkError → List Edit → Type 0
PullsFile t d es (Ok pulled) left = AllDelivered d es left × (pulled ≡ tally (states d.edits es))
PullsFile t d es (Err (Clash s)) left = DeliversEach d es (Err (document.Clash s)) left
PullsFile t d es (Err Memory) left = FrontDelivered d es left
PullsFile t d es (Err LinkFault) left = FrontDelivered d es left × MayFail t
PullsFile t d es (Err TooManyTurns) left = FrontDelivered d es left × IsLong t
PullsFile t d es (Err e) left = ⊥

-- a link that holds the text of a file of the document's world hands over the edits of it, and where all went well nothing is left on it
abbrev pub FilesArePulled : Type 0
FilesArePulled =
    (d : Replica) (es : List Edit) (old new : Option LinkEnds) (count count' : ℕ) (r : Result Pulled LinkError) (left : List Edit)
    → (file : HoldsFile d es old) → Pull d old new count count' r left
    → PullsFile file.ends d es r left × OnOk r (Changed (HandedAll file.ends.left) old new)

-- deliveries of a list of edits, and then of another to what they leave, are those of both
abbrev pub DeliveriesGoOn : Type 0
DeliveriesGoOn =
    (d : Replica) (first next mid left : List Edit) (r : Result (Unit {0}) DocumentError)
    → AllDelivered d first mid
    → DeliversEach (record d { edits = mid }) next r left
    → DeliversEach d (first ++ next) r left
