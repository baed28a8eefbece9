-- What comes of a board of edit files that is played in place.
use Rattle.std.specs.Prelude.{◌≡◌, ℕ, List, Option, None, Result, Ok, Err}
use Rattle.zed_op.specs.declared.op.Edit.{Edit}
use Rattle.zed_world.specs.Contents.{Contents}
use Rattle.zed_play.specs.Playtest.{Playtest}
use Rattle.zed_files.specs.declared.refusal.Refusal.{Refusal}
use Rattle.zed_files.specs.Collected.{Collects}
use Rattle.zed_host.specs.HostContents.{HostContents}
use Rattle.zed_terminal.specs.declared.input.Size.{Size}
use Rattle.zed_terminal.specs.declared.error.TurnError.{TurnError}
use Rattle.zed_terminal.specs.Course.{Point}
use Rattle.zed_terminal.specs.Performing.{Performs, at_start}
use Rattle.zed_terminal.specs.Stage.{Stage}
use Rattle.cmd_play.specs.declared.opening.Going.{Going}
use Rattle.cmd_play.specs.Opening.{opened_in, over_edits}
use Rattle.cmd_play.specs.Refusing.{told_of}

-- what comes of a playtest that is begun with words of chance
abbrev pub PlaysFrom : Option Contents → Size → Playtest → List ℕ → Stage → Stage → Result Point Refusal → Type 0
PlaysFrom w size p words old new r =
    (answer : Result Point TurnError) × Performs w (at_start size p words) old new answer × (r ≡ told_of answer)

-- the same where it could be begun; or why it couldn't
abbrev pub PerformsAny : Option Contents → Size → Result Playtest Refusal → List ℕ → Stage → Stage → Result Point Refusal → Type 0
PerformsAny w size (Ok p) words old new r = PlaysFrom w size p words old new r
PerformsAny w size (Err e) words old new r = (r ≡ Err e) × (new ≡ old)

-- the world over whose boards a playtest goes on, if a set of edits could be read
abbrev pub over_set : Going → Result (List Edit) Refusal → Option Contents
over_set going (Ok es) = over_edits going es
over_set going (Err e) = None

-- the same of a board of the edits that the files of these names come to
abbrev pub IsPerformed : Type 0 → HostContents → Going → ℕ → Size → List ℕ → List (List ℕ) → Stage → Stage → Result Point Refusal → Type 0
IsPerformed failed t going board size words files old new r =
    (set : Result (List Edit) Refusal) × Collects failed t files set × PerformsAny (over_set going set) size (opened_in board set) words old new r
