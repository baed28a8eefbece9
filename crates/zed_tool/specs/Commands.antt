-- What commands ask their host for and how they end. `failed` says that the device failed meanwhile.
use Rattle.cmd_take.specs.declared.opening.Forcing.{Forcing}
use Rattle.cmd_take.specs.declared.opening.Forcing.TheVariants as drawing
use Rattle.zed_log.specs.declared.length.Length.{Length}
use Rattle.zed_log.specs.declared.length.Length.TheVariants as lengths
use Rattle.zed_look.specs.declared.form.Form.{Form}
use Rattle.zed_look.specs.declared.form.Form.TheVariants as look
use Rattle.zed_types.specs.declared.stamp.Stamp.{Stamp}
use Rattle.zed_set_words.specs.declared.wishes.BoardPlace.{BoardPlace}
use Rattle.zed_set_words.specs.declared.wishes.BoardPlace.TheVariants as place
use Rattle.zed_filter.specs.declared.filter.BoardChoice.{BoardChoice}
use Rattle.zed_filter.specs.declared.filter.BoardChoice.TheVariants as choice
use Rattle.zed_filter.specs.declared.filter.Filter.{Filter}
use Rattle.cmd_log.specs.declared.listing.Listing.{Listing}
use Rattle.cmd_log.specs.declared.listing.Listing.TheVariants as log
use Rattle.cmd_compare.specs.declared.comparing.Strictness.{Strictness as CompareStrictness}
use Rattle.cmd_compare.specs.declared.comparing.Strictness.TheVariants as told
use Rattle.cmd_log.specs.declared.linting.Strictness.{Strictness}
use Rattle.cmd_log.specs.declared.linting.Strictness.TheVariants as lint
use Rattle.zed_terminal.specs.declared.input.Size.{Size}
use Rattle.cmd_play.specs.declared.opening.Going.{Going}
use Rattle.cmd_play.specs.declared.opening.Going.TheVariants as playing
use Rattle.zed_tool_words.specs.declared.asked.Forcing.{Forcing as ForcingWord}
use Rattle.zed_tool_words.specs.declared.asked.Forcing.TheVariants.{Careful, Forced}
use Rattle.zed_tool_words.specs.declared.asked.Filter.{Filter as FilterWords}
use Rattle.zed_tool_words.specs.declared.asked.Form.{Form as FormWord}
use Rattle.zed_tool_words.specs.declared.asked.Form.TheVariants.{Coloured, Plain, Ruled, Svg}
use Rattle.zed_tool_words.specs.declared.asked.Going.{Going as GoingWord}
use Rattle.zed_tool_words.specs.declared.asked.Going.TheVariants.{Stays, On}
use Rattle.zed_tool_words.specs.declared.asked.Length.{Length as LengthWord}
use Rattle.zed_tool_words.specs.declared.asked.Length.TheVariants.{Short, Full}
use Rattle.zed_tool_words.specs.declared.asked.Listing.{Listing as ListingWords}
use Rattle.zed_tool_words.specs.declared.asked.Listing.TheVariants.{Boards, Stats, Program}
use Rattle.zed_tool_words.specs.declared.asked.Strictness.{Strictness as StrictnessWord}
use Rattle.zed_tool_words.specs.declared.asked.Strictness.TheVariants.{Lenient, Strict}
use Rattle.zed_tool_words.specs.declared.asked.Trial.{Trial as TrialWord}
use Rattle.zed_tool_words.specs.declared.asked.Trial.TheVariants.{Real, Dry}
use Rattle.zed_tool_words.specs.declared.asked.Others.{Others as OthersWord}
use Rattle.zed_tool_words.specs.declared.asked.Others.TheVariants.{Spared, Included}
use Rattle.cmd_undo.specs.declared.manner.Manner.{Manner}
use Rattle.cmd_undo.specs.declared.manner.Trial.{Trial}
use Rattle.cmd_undo.specs.declared.manner.Trial.TheVariants as undoing
use Rattle.cmd_undo.specs.declared.manner.Others.{Others}
use Rattle.cmd_undo.specs.declared.manner.Others.TheVariants as building
use Rattle.cmd_undo.specs.Undoing.{Wish, Chosen as ChosenWish, Pulled}
use Rattle.zed_tool_words.specs.Commands.{Chosen, Command, Open, Take, Log, Lists, Show, Page, Play, Lint, Compare, Undo, UndoPull, Set, ProgramOf, Programs, SetProgram}
use Rattle.std.specs.Prelude.{unwrap_or, ℕ, Bool, true, false, List, ◌∷◌, [], ◌++◌, Option, Some, None}
use Rattle.zed_host.specs.Calls.{Call, Printing}
use Rattle.zed_host.specs.HostContents.{HostContents}
use Rattle.zed_driver.specs.Hosts.{Hosts}
use Rattle.zed_files.specs.Asked.{refusal_in}
use Rattle.cmd_log.specs.Linted.{lints}
use Rattle.cmd_log.specs.Listed.{lists}
use Rattle.cmd_log.specs.Logged.{logs}
use Rattle.cmd_page.specs.Told.{pages}
use Rattle.cmd_program.specs.Every.{prints_every}
use Rattle.cmd_program.specs.Printed.{prints_program}
use Rattle.cmd_show.specs.Pictured.{shows}
use Rattle.cmd_play.specs.Asking.{AsksPlay, keeping}
use Rattle.cmd_play.specs.Ending.{EndsPlay, Request, request}
use Rattle.cmd_play.specs.Led.{Led}
use Rattle.zed_tool.specs.Answers.{Answer, Handed, told_as}
use Rattle.zed_tool.specs.Driving.{AsksDriven, Driving, EndsDriven, StepsDriven, to_compare, to_open, to_set, to_set_program, to_take, to_tell, to_undo}

-- ---- what words ask for, as the commands take it

-- what is done where work would be lost
abbrev pub forcing_of : ForcingWord → Forcing
forcing_of Careful = drawing.Careful
forcing_of Forced = drawing.Forced

-- what of a world is listed
abbrev pub listing_of : ListingWords → Listing
listing_of Boards = log.Boards
listing_of (Stats b) = log.Stats b
listing_of (Program b s) = log.Program b s

-- whether a playtest goes on over boards
abbrev pub going_of : GoingWord → Going
going_of Stays = playing.Stays
going_of On = playing.On

-- how much of the line of a world is printed
abbrev pub length_of : LengthWord → Length
length_of Short = lengths.Short
length_of Full = lengths.Full

-- the board that is meant, if one is
abbrev pub choice_of : Option BoardPlace → Option BoardChoice
choice_of None = None
choice_of (Some (place.Numbered n)) = Some (choice.Number n)
choice_of (Some (place.Named b)) = Some (choice.Name b)

-- which edits are meant
abbrev pub filter_of : FilterWords → Filter
filter_of f = record { board = choice_of f.board; cell = f.cell; replica = f.replica; since = f.since; until = f.until }

-- whether findings are told by the status too
abbrev pub strictness_of : StrictnessWord → Strictness
strictness_of Lenient = lint.Lenient
strictness_of Strict = lint.Strict

-- the same of `compare`
abbrev pub compare_strictness_of : StrictnessWord → CompareStrictness
compare_strictness_of Lenient = told.Lenient
compare_strictness_of Strict = told.Strict

-- whether what is undone is written
abbrev pub trial_of : TrialWord → Trial
trial_of Real = undoing.Real
trial_of Dry = undoing.Dry

-- what is done with what others built on the edits that are undone
abbrev pub others_of : OthersWord → Others
others_of Spared = building.Spared
others_of Included = building.Included

-- both
abbrev pub manner_of : TrialWord → OthersWord → Manner
manner_of trial others = record { trial = trial_of trial; others = others_of others }

-- the edits that are chosen are undone
abbrev pub chosen_as : Chosen → Wish
chosen_as c = ChosenWish (record {
  filter = filter_of c.filter;
  stamps = c.stamps;
  last = c.last;
})

-- those that one file has and another one has not
abbrev pub pulled_as : List ℕ → List ℕ → Wish
pulled_as newer older = Pulled newer older

-- how a picture is written
abbrev pub form_of : FormWord → Form
form_of Coloured = look.Coloured
form_of Plain = look.Plain
form_of Ruled = look.Ruled
form_of Svg = look.Svg

-- how large a terminal is: so many rows, or 27 if that isn't told; it tells its columns itself
abbrev pub size_of : Option ℕ → Size
size_of rows = record { rows = unwrap_or rows 27; columns = 0 }

-- whether a command plays a board
abbrev pub is_playtest : Command → Bool
is_playtest (Play going rows words keys board files) = true
is_playtest _ = false

-- whether words ask for that
abbrev pub plays : Option Command → Bool
plays (Some command) = is_playtest command
plays None = false

-- ---- commands

-- a command that a driver carries out, or a playtest, which calls devices
pub data Course : Type 1 where
  Driven : (d : Driving) → Course
  Played : (q : Request) → Course

-- what these words ask for
abbrev pub course_of : Command → Course
course_of (Open until forcing file world) = Driven (to_open until (forcing_of forcing) file world)
course_of (Take base forcing file replica world) = Driven (to_take base (forcing_of forcing) file replica world)
course_of (Log length filter files) = Driven (to_tell (logs (length_of length) (filter_of filter)) files)
course_of (Lists listing files) = Driven (to_tell (lists (listing_of listing)) files)
course_of (Show form board files) = Driven (to_tell (shows (form_of form) board) files)
course_of (Page files) = Driven (to_tell pages files)
course_of (Play going rows words keys board files) = Played (request words keys (going_of going) (size_of rows) board files)
course_of (Lint strictness files) = Driven (to_tell (lints (strictness_of strictness)) files)
course_of (Compare strictness mine theirs) = Driven (to_compare (compare_strictness_of strictness) mine theirs)
course_of (Undo trial others file replica chosen) = Driven (to_undo file replica (manner_of trial others) (chosen_as chosen))
course_of (UndoPull trial others file replica newer older) = Driven (to_undo file replica (manner_of trial others) (pulled_as newer older))
course_of (Set file replica words) = Driven (to_set file replica words)
course_of (ProgramOf board stat files) = Driven (to_tell (prints_program board stat) files)
course_of (Programs files) = Driven (to_tell prints_every files)
course_of (SetProgram file replica board stat text) = Driven (to_set_program file replica board stat text)

-- so it ends, with this in its host, where devices are led so
abbrev pub EndsCourse : Type 0 → Led → HostContents → Course → Answer → Option HostContents → Type 0
EndsCourse failed moved t (Driven d) answer left = EndsDriven failed t d answer left
EndsCourse failed moved t (Played q) answer left = Handed told_as (λ r. EndsPlay failed t q moved r left) answer

-- and this it asks of its host, call by call
abbrev pub AsksCourse : {H : Type 0} → (H → Call → H → Type 0) → Course → Answer → H → H → Type 0
AsksCourse called (Driven d) answer old new = AsksDriven called d answer old new
AsksCourse called (Played q) answer old new =
    Handed told_as (λ r. AsksPlay called q.words q.keys q.files (keeping q.words q.keys ++ Printing ∷ []) (refusal_in r) old new) answer

-- both, step by step, of a command that a driver carries out
abbrev pub StepsCourse : {H : Type 0} → Hosts H → Course → Answer → H → H → Type 0
StepsCourse h (Driven d) answer old new = StepsDriven h d answer old new
StepsCourse h (Played q) answer old new = Unit {0}
