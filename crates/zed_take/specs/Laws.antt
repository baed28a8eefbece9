-- What holds of taking: what was taken isn't taken again, nor is a world as it was saved.
use Rattle.std.specs.Prelude.{◌≡◌, ℕ, List, [], Ok}
use Rattle.zed_types.specs.declared.stamp.Stamp.{Stamp}
use Rattle.zed_world.specs.Contents.{Contents}
use Rattle.zed_world.specs.Reading.{world_at}
use Rattle.zed_op.specs.declared.op.Edit.{Edit}
use Rattle.zed_op.specs.Set.{AllFit, IsRising, union}
use Rattle.zed_op.specs.Sizes.{HaveSizes}
use Rattle.zed_edit.specs.Replay.{replay}
use Rattle.zed_export.specs.Limits.{saved}
use Rattle.zed_take.specs.Taken.{AreTaken}

-- once edits were taken, taking the same world beside the base with these edits takes none
abbrev pub TakingAgainTakesNothing : Type 0
TakingAgainTakesNothing =
    (base edits again : List Edit) (w : Contents) (first next : Stamp)
    → AreTaken base w first edits
    → AreTaken (union base edits) w next again
    → again ≡ []

-- of a file that was saved from edits and is read as it is, nothing is taken beside these edits
abbrev pub NothingIsTakenUnchanged : Type 0
NothingIsTakenUnchanged =
    (base edits : List Edit) (file : List ℕ) (w : Contents) (first : Stamp)
    → AllFit base
    → HaveSizes base
    → IsRising base
    → saved 32767 (replay base) ≡ Ok file
    → world_at file ≡ Ok w
    → AreTaken base w first edits
    → edits ≡ []
