-- Which edits are undone.
use Rattle.std.specs.Prelude.{ℕ, zero, suc, ◌-◌, ◌==◌, Bool, true, false, not, ◌&&◌, ◌||◌, if◌then◌else◌, List, [], ◌∷◌, filter, length, map, is_some, Option, Some, None, Result, Ok, Err, count_by}
use Rattle.std.specs.List.{find}
use Rattle.zed_types.specs.declared.stamp.Stamp.{Stamp}
use Rattle.zed_types.specs.Stamp.{genesis_stamp, same_stamp}
use Rattle.zed_op.specs.declared.op.Edit.{Edit}
use Rattle.zed_edit.specs.declared.plain.Plain.{Plain}
use Rattle.zed_edit.specs.Replay.{replay}
use Rattle.zed_document.specs.Held.{held_stamps, is_among}
use Rattle.zed_history.specs.Finding.{edit_with}
use Rattle.zed_filter.specs.declared.error.FilterError.{FilterError}
use Rattle.zed_filter.specs.declared.error.FilterError.TheVariants as filtering
use Rattle.zed_filter.specs.declared.filter.Filter.{Filter}
use Rattle.zed_filter.specs.declared.sought.Sought.{Sought}
use Rattle.zed_filter.specs.Passing.{passes}
use Rattle.zed_filter.specs.Sought.{sought_of}
use Rattle.zed_undo.specs.declared.choosing.Choice.{Choice}
use Rattle.zed_undo.specs.declared.error.ChoiceError.{ChoiceError}
use Rattle.zed_undo.specs.declared.error.ChoiceError.TheVariants.{NoBoard, OutOfRange}

-- ---- by stamps and filters

-- what is asked for: edits that pass a filter, with one of these stamps, and of those so many of the last ones
pub record Wanted : Type 0 where
  pub filter : Filter
  pub stamps : List Stamp
  pub last : Option ℕ

-- what a choice asks for
abbrev pub wanted_of : Choice → Wanted
wanted_of c = record { filter = c.filter; stamps = c.stamps.now; last = c.last }

-- whether a stamp is one of these; where none is asked for, any is
abbrev pub is_named : List Stamp → Stamp → Bool
is_named ss s = length ss == 0 || is_among ss s

-- whether an edit is all that is asked for; the one that makes the world never is
abbrev pub is_chosen : Plain → Sought → List Stamp → Edit → Bool
is_chosen p sought ss e = not (same_stamp e.stamp genesis_stamp) && (is_named ss e.stamp && passes p sought e)

-- how many are marked
abbrev pub count_marks : List Bool → ℕ
count_marks ms = count_by (λ m. m) ms

-- marks without the first so many
abbrev pub without_first : ℕ → List Bool → List Bool
without_first n [] = []
without_first zero (m ∷ ms) = m ∷ without_first zero ms
without_first (suc n) (true ∷ ms) = false ∷ without_first n ms
without_first (suc n) (false ∷ ms) = false ∷ without_first (suc n) ms

-- the last so many marks, where only so many are asked for
abbrev pub last_of : Option ℕ → List Bool → List Bool
last_of None ms = ms
last_of (Some n) ms = without_first (count_marks ms - n) ms

-- why none are chosen where a filter asks for nothing
abbrev pub unfiltered : FilterError → ChoiceError
unfiltered filtering.NoBoard = NoBoard
unfiltered filtering.OutOfRange = OutOfRange

-- marks at the edits that are chosen, or why none can be
abbrev pub chosen_with : List Edit → Wanted → Result Sought FilterError → Result (List Bool) ChoiceError
chosen_with es w (Err e) = Err (unfiltered e)
chosen_with es w (Ok sought) = Ok (last_of w.last (map (is_chosen (replay es) sought w.stamps) es))

abbrev pub chosen_of : List Edit → Wanted → Result (List Bool) ChoiceError
chosen_of es w = chosen_with es w (sought_of (replay es) w.filter)

-- ---- by two sets

-- whether there is an edit with a stamp
abbrev pub has_stamp : List Edit → Stamp → Bool
has_stamp es s = is_some (edit_with s es)

-- whether a newer set has an edit with a stamp and an older one doesn't; that of the edit that makes the world doesn't count
abbrev pub is_between : List Edit → List Edit → Stamp → Bool
is_between new old s = not (same_stamp s genesis_stamp) && (has_stamp new s && not (has_stamp old s))

-- ---- stamps of nothing

-- whether an edit can be undone: it is there, isn't held and doesn't make the world
abbrev pub can_be_undone : List Edit → Stamp → Bool
can_be_undone es s = not (same_stamp s genesis_stamp) && (has_stamp es s && not (is_among (held_stamps es) s))

-- the first of these stamps of which no edit can be undone
abbrev pub first_missing : List Edit → List Stamp → Option Stamp
first_missing es ss = find (λ s. not (can_be_undone es s)) ss
