-- Which edits of a set are held: those that the replay passes over.
use Rattle.std.specs.Prelude.{ℕ, Bool, not, List, count_by}
use Rattle.std.specs.List.{list_any}
use Rattle.zed_types.specs.declared.stamp.Stamp.{Stamp}
use Rattle.zed_types.specs.Stamp.{same_stamp}
use Rattle.zed_op.specs.declared.op.Edit.{Edit}
use Rattle.zed_edit.specs.Replay.{replay}

-- the stamps of the edits that are held, rising
abbrev pub held_stamps : List Edit → List Stamp
held_stamps es = (replay es).held

-- whether a stamp is among some
abbrev pub is_among : List Stamp → Stamp → Bool
is_among ts s = list_any (λ t. same_stamp t s) ts

-- how many edits are held before and not after
abbrev pub woken : List Edit → List Edit → ℕ
woken old new = count_by (λ s. not (is_among (held_stamps new) s)) (held_stamps old)

-- whether an edit with a stamp is among those that wait
abbrev pub waits_in : List Edit → Stamp → Bool
waits_in waiting s = list_any (λ e. same_stamp e.stamp s) waiting
