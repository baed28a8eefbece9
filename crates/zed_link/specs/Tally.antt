-- What deliveries tell, and how often.
use Rattle.std.specs.Prelude.{◌+◌, Bool, true, false, if◌then◌else◌, List, [], ◌∷◌, is_some, count_by}
use Rattle.zed_op.specs.declared.op.Edit.{Edit}
use Rattle.zed_op.specs.Set.{with_edit}
use Rattle.zed_document.specs.declared.delivered.State.{State}
use Rattle.zed_document.specs.declared.delivered.State.TheVariants.{Taken, Held, Known}
use Rattle.zed_history.specs.Finding.{edit_with}
use Rattle.zed_document.specs.Delivery.{state_of}
use Rattle.zed_document.specs.Held.{held_stamps, is_among}
use Rattle.zed_link.specs.declared.pulled.Pulled.{Pulled}

-- what becomes of an edit that joins a log: it was there, or the replay of the new log holds or takes it
abbrev pub state_in : List Edit → Edit → State
state_in log e = if is_some (edit_with e.stamp log) then Known else state_of (is_among (held_stamps (with_edit e log)) e.stamp)

-- what becomes of each of these edits, when its turn comes
abbrev pub states : List Edit → List Edit → List State
states log [] = []
states log (e ∷ es) = state_in log e ∷ states (with_edit e log) es

-- whether an edit was taken
abbrev pub is_taken : State → Bool
is_taken Taken = true
is_taken Held = false
is_taken Known = false

-- whether an edit is held
abbrev pub is_held : State → Bool
is_held Taken = false
is_held Held = true
is_held Known = false

-- whether an edit was there already
abbrev pub is_known : State → Bool
is_known Taken = false
is_known Held = false
is_known Known = true

-- how many edits came to each state
abbrev pub tally : List State → Pulled
tally states = record { taken = count_by is_taken states; held = count_by is_held states; known = count_by is_known states }

-- the counts of both
abbrev pub plus : Pulled → Pulled → Pulled
plus p q = record { taken = p.taken + q.taken; held = p.held + q.held; known = p.known + q.known }
