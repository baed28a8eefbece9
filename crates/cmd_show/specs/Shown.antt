-- What comes of a board that is shown or played.
use Rattle.zed_play.specs.declared.error.PlayError.TheVariants as step
use Rattle.zed_world.specs.declared.board.BoardData.{BoardData}
use Rattle.zed_world.specs.declared.header.Header.{Header}
use Rattle.zed_op.specs.declared.op.Edit.{Edit}
use Rattle.zed_export.specs.declared.error.ExportError.{ExportError}
use Rattle.zed_play.specs.declared.key.Key.{Key}
use Rattle.zed_files.specs.declared.refusal.Refusal.{Refusal}
use Rattle.zed_files.specs.declared.refusal.Refusal.TheVariants.{File, Memory, NoBoard, NoWords, KeyFault, ScreenFault, TooManyTurns}
use Rattle.std.specs.Prelude.{◌≡◌, ◌⊎◌, ◌≤◌, ◌<◌, ◌+◌, ◌*◌, ℕ, zero, suc, Bool, true, false, List, [], ◌∷◌, drop, Option, Some, None, is_some, slice_get, Result, Ok, Err, MatchResult}
use Rattle.zed_world.specs.Contents.{Contents}
use Rattle.zed_edit.specs.Replay.{replay}
use Rattle.zed_export.specs.Limits.{exported}
use Rattle.zed_play.specs.Opening.{play_of}
use Rattle.zed_play.specs.Playtest.{Playtest}
use Rattle.zed_play.specs.Step.{Steps}
use Rattle.zed_screen.specs.declared.frame.Frame.{Frame}
use Rattle.zed_screen.specs.Frames.{Shows}
use Rattle.zed_screen.specs.Picture.{data_cell}
use Rattle.zed_session.specs.Devices.{Foretold, showing}
use Rattle.zed_session.specs.Play.{ShowsPlay, Takes}
use Rattle.cmd_show.specs.Told.{told_of}
use Rattle.zed_files.specs.Refusals.{export_refusal}
use Rattle.zed_host.specs.Calls.{Call, Printing, call}
use Rattle.zed_host.specs.HostContents.{HostContents, IsRead}
use Rattle.zed_files.specs.Collected.{Collects}
use Rattle.zed_files.specs.Effects.{Effect, Ends, Leaves, Prints}
use Rattle.cmd_show.specs.Stage.{Stage}

-- what a command does with a board of a world, and what it comes to then
abbrev pub OnBoard : Type 0 → Type 1
OnBoard X = Header → BoardData → Result X Refusal → Type 0

-- the same of a board that may not be there; then nothing goes on, and this is so
abbrev pub OfBoard : {X : Type 0} → Type 0 → Header → Option BoardData → OnBoard X → Result X Refusal → Type 0
OfBoard Idle header None Does r = (r ≡ Err NoBoard) × Idle
OfBoard Idle header (Some board) Does r = Does header board r

-- the same of the board of this number of a world, or of the limit that the world is over
abbrev pub OfWorld : {X : Type 0} → Type 0 → Result Contents ExportError → ℕ → OnBoard X → Result X Refusal → Type 0
OfWorld Idle (Err e) n Does r = (r ≡ Err (export_refusal e)) × Idle
OfWorld Idle (Ok w) n Does r = OfBoard Idle w.header (slice_get w.boards n) Does r

-- the same of the world of a set of edits, of at most so many bytes a body, or of what was refused before
abbrev pub OfSet : {X : Type 0} → Type 0 → ℕ → Result (List Edit) Refusal → ℕ → OnBoard X → Result X Refusal → Type 0
OfSet Idle limit (Err e) n Does r = (r ≡ Err e) × Idle
OfSet Idle limit (Ok es) n Does r = OfWorld Idle (exported limit (replay es)) n Does r

-- the board, or that there is none
abbrev pub board_or_none : Option BoardData → Result BoardData Refusal
board_or_none None = Err NoBoard
board_or_none (Some board) = Ok board

-- the board of this number of a world, or of the limit that the world is over
abbrev pub board_of_world : Result Contents ExportError → ℕ → Result BoardData Refusal
board_of_world (Err e) n = Err (export_refusal e)
board_of_world (Ok w) n = board_or_none (slice_get w.boards n)

-- the board of this number of the world of a set of edits, or the first refusal
abbrev pub board_in : ℕ → List Edit → ℕ → Result BoardData Refusal
board_in limit es n = board_of_world (exported limit (replay es)) n

-- what is told of a board that is shown, on a stage as it was before and is then: the screen was called once, and shows its picture, if it tells what
-- it shows; or that call failed
abbrev pub IsShown : Stage → Stage → OnBoard (Unit {0})
IsShown old new header board r =
    ((r ≡ Ok tt) × Foretold false old.screen new.screen
    × ((frame : Frame) × Shows frame (data_cell board) × (new.shown ≡ showing frame old.shown)))
    ⊎ ((r ≡ Err ScreenFault) × Foretold true old.screen new.screen)

-- a board of the world of a set of edits is shown on a stage, which is as it was where the command is refused before
abbrev pub ShowsOn : Stage → Stage → ℕ → Result (List Edit) Refusal → ℕ → Result (Unit {0}) Refusal → Type 0
ShowsOn old new limit set board r = OfSet (new ≡ old) limit set board (IsShown old new) r

-- the screen was called once, and that passed, or it failed, as it foretold, if it did; or the command was refused before, and then this is so
abbrev pub CallsOnce : Result (Unit {0}) Refusal → Option (List Bool) → Option (List Bool) → Type 0 → Type 0
CallsOnce result old new kept =
    MatchResult result (λ _. Foretold false old new) (λ e. ((e ≡ ScreenFault) × Foretold true old new) ⊎ kept)

-- the words of chance of a file: numbers of two bytes each, the low one first; an odd last byte is dropped
abbrev pub chances_in : List ℕ → List ℕ
chances_in [] = []
chances_in (low ∷ []) = []
chances_in (low ∷ high ∷ bytes) = (low + 256 * high) ∷ chances_in bytes

-- how many keys are played at most
abbrev pub most_keys : ℕ
most_keys = 1048576

-- where a playtest has come to, with the words that are left, and with its stage
pub record Course : Type 0 where
  pub play : Playtest
  pub words : List ℕ
  pub stage : Stage

-- the next key is asked for, and this one or none is handed over
abbrev pub TakesKey : Option Key → Stage → Stage → Type 0
TakesKey key old new = Takes None old.keys key new.keys × Foretold false old.source new.source

-- the screen is not called
abbrev pub ShowsNothing : Stage → Stage → Type 0
ShowsNothing old new = (new.shown ≡ old.shown) × (new.screen ≡ old.screen)

-- the screen is called once, and shows the picture of a playtest, if it tells what it shows; or it fails
abbrev pub ShowsStep : Bool → Playtest → Stage → Stage → Type 0
ShowsStep false play old new = Foretold false old.screen new.screen × ShowsPlay (Some play) old.shown new.shown
ShowsStep true play old new = Foretold true old.screen new.screen

-- a playtest makes a step, by the next key and the words that are left; and that is shown, or the screen fails
abbrev pub Advances : Bool → Course → Course → Type 0
Advances failing c d =
    (key : Key) × (used : ℕ)
    × TakesKey (Some key) c.stage d.stage × Steps (Ok used) key c.play c.words d.play × (d.words ≡ drop used c.words)
    × ShowsStep failing d.play c.stage d.stage

-- it makes so many, and each is shown
abbrev pub StepsTo : ℕ → Course → Course → Type 0
StepsTo zero c d = d ≡ c
StepsTo (suc n) c d = (next : Course) × Advances false c next × StepsTo n next d

-- after so many steps a playtest goes on, and one key more may be asked for
abbrev pub GoesOn : ℕ → Course → Type 0
GoesOn n c = (n < most_keys) × (c.play.ending ≡ None)

-- after so many steps a playtest is at its end, or no key is left; the stage is so then
abbrev pub IsOver : ℕ → Course → Stage → Type 0
IsOver n c last =
    ((is_some c.play.ending ≡ true) × (last ≡ c.stage))
    ⊎ (GoesOn n c × TakesKey None c.stage last × ShowsNothing c.stage last)

-- the step by the next key lacks words
abbrev pub LacksWords : Course → Stage → Type 0
LacksWords c last =
    (key : Key) × TakesKey (Some key) c.stage last × ShowsNothing c.stage last × Steps (Err step.NoWords) key c.play c.words c.play

-- the step by the next key lacks memory
abbrev pub LacksMemory : Course → Stage → Type 0
LacksMemory c last =
    (key : Key) × (left : Playtest)
    × TakesKey (Some key) c.stage last × ShowsNothing c.stage last × Steps (Err step.Memory) key c.play c.words left

-- the source of keys fails, as it foretold, if it did
abbrev pub LacksKey : Course → Stage → Type 0
LacksKey c last = Foretold true c.stage.source last.source × (last.keys ≡ c.stage.keys) × ShowsNothing c.stage last

-- how play ends after so many steps, and the stage with it: with what is told of the playtest, once that is over; for want of words; by a fault of the
-- source of keys, or of the screen at one step more; since no more keys may be played; or for want of memory, at the next step or once it is over
abbrev pub EndsPlay : ℕ → Course → Stage → Result (List ℕ) Refusal → Type 0
EndsPlay n c last r =
    ((r ≡ Ok (told_of c.play)) × IsOver n c last)
    ⊎ ((r ≡ Err NoWords) × GoesOn n c × LacksWords c last)
    ⊎ ((r ≡ Err KeyFault) × GoesOn n c × LacksKey c last)
    ⊎ ((r ≡ Err ScreenFault) × GoesOn n c × ((next : Course) × Advances true c next × (last ≡ next.stage)))
    ⊎ ((r ≡ Err TooManyTurns) × (n ≡ most_keys) × (c.play.ending ≡ None) × (last ≡ c.stage))
    ⊎ ((r ≡ Err Memory) × (IsOver n c last ⊎ (GoesOn n c × LacksMemory c last)))

-- a playtest is played on, by the words and keys that are left, to its end on a stage
abbrev pub Plays : Course → Stage → Result (List ℕ) Refusal → Type 0
Plays first last r = (n : ℕ) × (c : Course) × (n ≤ most_keys) × StepsTo n first c × EndsPlay n c last r

-- a playtest with these words, on this stage
abbrev pub course : Stage → Playtest → List ℕ → Course
course d p words = record { play = p; words = words; stage = d }

-- a board is played by these words, from tick 1 on, on a stage as it was before and is then
abbrev pub IsPlayed : Stage → Stage → List ℕ → OnBoard (List ℕ)
IsPlayed old new words header board r = Plays (course old (play_of header board 1) words) new r

-- a board of the world of a set of edits is played by these words on a stage, which is as it was where no playtest begins
abbrev pub PlaysOn : Stage → Stage → ℕ → Result (List Edit) Refusal → ℕ → List ℕ → Result (List ℕ) Refusal → Type 0
PlaysOn old new limit set board words r = OfSet (new ≡ old) limit set board (IsPlayed old new words) r

-- the same by the words of a file, which is read before all others
abbrev pub PlaysFile : Stage → Stage → Option (List ℕ) → ℕ → ℕ → (Result (List Edit) Refusal → Type 0) → Result (List ℕ) Refusal → Type 0
PlaysFile old new None limit board Collected r = (r ≡ Err File) × (new ≡ old)
PlaysFile old new (Some bytes) limit board Collected r =
    (set : Result (List Edit) Refusal) × Collected set × PlaysOn old new limit set board (chances_in bytes) r

-- a board was shown, which leaves the host as it is
abbrev pub leaves_all : Result (Unit {0}) Refusal → Result Effect Refusal
leaves_all (Ok u) = Ok Leaves
leaves_all (Err e) = Err e

-- what is told is printed
abbrev pub prints_told : Result (List ℕ) Refusal → Result Effect Refusal
prints_told (Ok text) = Ok (Prints text)
prints_told (Err e) = Err e

-- what is told of a playtest of a board of the world of these files at a limit, by the words of the first file
abbrev pub IsPlayedOf : Type 0 → Stage → Stage → HostContents → ℕ → ℕ → List ℕ → List (List ℕ) → Result (List ℕ) Refusal → Type 0
IsPlayedOf failed old new t limit board chance files told =
    (read : Option (List ℕ)) × IsRead failed t chance read × PlaysFile old new read limit board (Collects failed t files) told

-- what `show` comes to: its effect, or the first refusal
abbrev pub ComesToShow : Type 0 → Stage → Stage → HostContents → ℕ → ℕ → List (List ℕ) → Result Effect Refusal → Type 0
ComesToShow failed old new t limit board files r =
    (set : Result (List Edit) Refusal) × (done : Result (Unit {0}) Refusal) × Collects failed t files set
    × ShowsOn old new limit set board done × (r ≡ leaves_all done)

-- what `play` comes to: its effect, or the first refusal
abbrev pub ComesToPlay : Type 0 → Stage → Stage → HostContents → ℕ → ℕ → List ℕ → List (List ℕ) → Result Effect Refusal → Type 0
ComesToPlay failed old new t limit board chance files r =
    (told : Result (List ℕ) Refusal) × IsPlayedOf failed old new t limit board chance files told × (r ≡ prints_told told)

-- whether a refusal may come of a playtest that was begun
abbrev pub is_of_playing : Refusal → Bool
is_of_playing Memory = true
is_of_playing NoWords = true
is_of_playing ScreenFault = true
is_of_playing KeyFault = true
is_of_playing TooManyTurns = true
is_of_playing _ = false

-- it may, or what is told of the playtest couldn't be printed, at the last call of a host
abbrev pub IsOfPlay : {H : Type 0} → (H → Call → H → Type 0) → Refusal → H → Type 0
IsOfPlay called e host =
    (is_of_playing e ≡ true) ⊎ ((e ≡ File) × ((before : _) × called before (call Printing true) host))

-- what is so where `play` lacks memory: the stage is as it was, or a playtest came to that
abbrev pub LacksForPlay : Type 0 → Stage → Stage → HostContents → ℕ → ℕ → List ℕ → List (List ℕ) → Type 0
LacksForPlay failed old new t limit board chance files =
    (new ≡ old) ⊎ IsPlayedOf failed old new t limit board chance files (Err Memory)

-- so `play` ends, with this in its host, and the stage so
abbrev pub EndsPlaying : Type 0 → Stage → Stage → HostContents → ℕ → ℕ → List ℕ → List (List ℕ) → Result (Unit {0}) Refusal → Option HostContents → Type 0
EndsPlaying failed old new t limit board chance files result left =
    Ends failed (ComesToPlay failed old new t limit board chance files) t result left
    × (result ≡ Err Memory → LacksForPlay failed old new t limit board chance files)
