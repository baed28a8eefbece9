-- A playtest that is drawn, and then played to its end.
use Rattle.std.specs.Prelude.{◌≡◌, ◌⊎◌, ℕ, Bool, true, false, List, [], Option, Result, Ok, Err, ⊤}
use Rattle.zed_world.specs.Contents.{Contents}
use Rattle.zed_play.specs.Playtest.{Playtest}
use Rattle.zed_terminal.specs.declared.input.Size.{Size}
use Rattle.zed_terminal.specs.Overlaid.{closed}
use Rattle.zed_terminal.specs.declared.error.TurnError.{TurnError}
use Rattle.zed_terminal.specs.declared.error.TurnError.TheVariants.{Memory, ScreenFault}
use Rattle.zed_terminal.specs.Again.{Comes}
use Rattle.zed_terminal.specs.Course.{PlaysOn, Point, course, picture}
use Rattle.zed_terminal.specs.Stage.{Draws, Stage, stage}

-- a playtest before its first step, with words of chance that came already, on a terminal of this size
abbrev pub at_start : Size → Playtest → List ℕ → Point
at_start size p words = record { play = p; overlay = closed; keys = []; words = words; left = words; size = size }

-- where it was played to
abbrev pub played_to : Result ⊤ TurnError → Point → Result Point TurnError
played_to (Ok u) at = Ok at
played_to (Err e) at = Err e

-- a stage on which more was drawn, and nothing else done
abbrev pub with_drawn : Option (List (List ℕ)) → Option (List Bool) → Stage → Stage
with_drawn drawn terminal s = stage drawn terminal s.inputs s.source s.chance

-- a playtest is drawn as it begins, and then played on to its end; or the terminal fails at once, or memory runs out before
abbrev pub Performs : Option Contents → Point → Stage → Stage → Result Point TurnError → Type 0
Performs w first old new r =
    ((drawn : Option (List (List ℕ))) × (terminal : Option (List Bool)) × (last : Point) × (told : Result ⊤ TurnError)
    × Draws false (picture first) old.drawn old.terminal drawn terminal
    × PlaysOn w (course first (with_drawn drawn terminal old)) (course last new) told × (r ≡ played_to told last))
    ⊎ ((r ≡ Err ScreenFault) × ((drawn : Option (List (List ℕ))) × (terminal : Option (List Bool))
    × Draws true (picture first) old.drawn old.terminal drawn terminal × (new ≡ with_drawn drawn terminal old)))
    ⊎ ((r ≡ Err Memory) × (new ≡ old))

-- where a playtest was played to its end, the keys and words that are kept come to it again
abbrev pub PerformancesComeAgain : Type 0
PerformancesComeAgain =
    (w : Option Contents) (size : Size) (p : Playtest) (words : List ℕ) (old new : Stage) (last : Point) →
    Performs w (at_start size p words) old new (Ok last) → Comes w p last.keys last.words last.play last.left
