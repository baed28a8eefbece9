-- What the edits of a file become by an action of an author.
use Rattle.zed_op.specs.declared.cause.Cause.TheVariants as cause
use Rattle.zed_op.specs.declared.op.Edit.{Edit}
use Rattle.std.specs.Prelude.{◌≡◌, ℕ, zero, suc, false, List, Option, Some, None, Result, Ok, Err}
use Rattle.zed_document.specs.Replica.{Replica}
use Rattle.zed_action.specs.Deeds.{Acts, Made, WordsMayTake}
use Rattle.zed_driver.specs.declared.command.Stop.{Stop}
use Rattle.zed_refusal.specs.declared.reason.Reason.{Reason}
use Rattle.zed_refusal.specs.declared.reason.Reason.TheVariants.{BadEdit}
use Rattle.zed_refusal.specs.Stops.{action_stop}
use Rattle.zed_files.specs.Opened.{FileEdits}

-- 0 is no author's number, whatever else is wrong
abbrev pub no_author : ℕ → Option Reason
no_author zero = Some (BadEdit cause.Stamp)
no_author (suc n) = None

-- a document has this world and these edits, and isn't stale
pub record HasEdits (d : Replica) (world : ℕ) (es : List Edit) : Type 0 where
  pub world_is : d.world ≡ world
  pub edits_are : d.edits ≡ es
  pub sound : d.is_stale ≡ false

-- the edits that an action left, or why it was refused
abbrev pub left_by : Made → Result (List Edit) (Stop Reason)
left_by (Ok es) = Ok es
left_by (Err e) = Err (action_stop e)

-- the action is done on a document of the file's edits
abbrev pub IsActed : ℕ → List (List ℕ) → FileEdits → Result (List Edit) (Stop Reason) → Type 0
IsActed replica words f r = (d : Replica) × HasEdits d f.0 f.1 × ((made : Made) × Acts d replica words made × (r ≡ left_by made))

-- the action may take memory on a document of the file's edits
abbrev pub ActMayTake : ℕ → List (List ℕ) → FileEdits → Type 0
ActMayTake replica words f = (d : Replica) × HasEdits d f.0 f.1 × WordsMayTake d replica words
