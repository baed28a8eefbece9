-- What undoing leaves.
use Rattle.std.specs.Prelude.{◌≡◌, ℕ, Bool, List, Ok, length, map}
use Rattle.zed_op.specs.declared.op.Edit.{Edit}
use Rattle.zed_op.specs.Set.{AllFit, union}
use Rattle.zed_edit.specs.Replay.{replay}
use Rattle.zed_export.specs.Limits.{exported}
use Rattle.zed_driver.specs.Effects.{Effect}
use Rattle.zed_take.specs.Taken.{AreFrom, next_stamp}
use Rattle.cmd_take.specs.Taking.{grown}
use Rattle.zed_undo.specs.Leaving.{without}
use Rattle.cmd_undo.specs.declared.manner.Trial.TheVariants.{Real}
use Rattle.cmd_undo.specs.Undoing.{IsTakenBack}

-- the new edits of an undoing: those of FILE with them show the world that everybody would have if the others had never been made, and FILE gets them
pub record UndoneBy (file : List ℕ) (replica number : ℕ) (gone : Edit → Bool) (es : List Edit) (x : Effect) (new : List Edit) : Type 0 where
  pub shows : exported 32767 (replay (union es new)) ≡ exported 32767 (replay (without gone es))
  pub fit : AllFit new
  pub behind : AreFrom (next_stamp es replica) new
  pub files : x.files ≡ grown file number (length es) (union es new)

-- where the edits that pass a test are undone, there are such edits
abbrev pub UndoingTakesBack : Type 0
UndoingTakesBack =
    (file : List ℕ) (replica number : ℕ) (gone : Edit → Bool) (es : List Edit) (x : Effect)
    → IsTakenBack Real file replica (map gone es) (number, es) (Ok x)
    → (new : List Edit) × UndoneBy file replica number gone es x new
