-- When a taking is refused, and for what.
use Rattle.std.specs.Prelude.{◌≡◌, ◌⊎◌, ℕ, nat_lt, Bool, true, false, List, Option, Some, None}
use Rattle.zed_world.specs.Contents.{Contents}
use Rattle.zed_world.specs.Writing.{HasText, first_over}
use Rattle.zed_world.specs.declared.error.WorldError.{WorldError}
use Rattle.zed_world.specs.declared.error.WorldError.TheVariants.{BoardOver}
use Rattle.zed_op.specs.declared.op.Edit.{Edit}
use Rattle.zed_edit.specs.Replay.{replay}
use Rattle.zed_history.specs.Clock.{next_time}
use Rattle.zed_document.specs.Replica.{Replica}
use Rattle.zed_export.specs.Limits.{IsRefusal, refusal_of}
use Rattle.zed_export.specs.declared.error.ExportError.{ExportError}
use Rattle.zed_take.specs.Taken.{Shows}
use Rattle.zed_take.specs.declared.plan_error.PlanError.{PlanError}
use Rattle.zed_take.specs.declared.plan_error.PlanError.TheVariants as plan
use Rattle.zed_take.specs.declared.error.TakeError.{TakeError}
use Rattle.zed_take.specs.declared.error.TakeError.TheVariants.{Memory, Base, WorldOver, ClockSpent, NotTaken}

-- of planning
abbrev pub of_plan : PlanError → TakeError
of_plan plan.Memory = Memory
of_plan plan.ClockSpent = ClockSpent
of_plan plan.NotTaken = NotTaken

-- whether no time is left behind some edits: the last one is 2^48 - 1
abbrev pub is_out_of_time : List Edit → Bool
is_out_of_time es = nat_lt 281474976710655 (next_time es)

-- a board of a world has more than the 32,767 bytes that can be read, and is the first
abbrev pub IsOver : Contents → TakeError → Type 0
IsOver w e = (board : ℕ) × (bytes : ℕ) × (first_over 32767 0 w.boards ≡ Some (BoardOver board bytes)) × (e ≡ WorldOver board bytes)

-- what can be told of a world that can't be written
abbrev pub over_told : WorldError → Option TakeError
over_told (BoardOver board bytes) = Some (WorldOver board bytes)
over_told _ = None

-- a base can't be exported so
abbrev pub IsBase : Replica → TakeError → Type 0
IsBase d e = (why : ExportError) × IsRefusal 32767 d why × (e ≡ Base why)

-- a limit that is gone over, of the world before the base
abbrev pub IsOverFirst : Replica → Contents → TakeError → Type 0
IsOverFirst base w e = IsOver w e ⊎ (HasText 32767 w × IsBase base e)

-- what refuses a taking before any edit is sought: no time is left, else a board of the world is too large, else the base can't be exported
abbrev pub IsRefused : Replica → Replica → Contents → TakeError → Type 0
IsRefused d base w e =
    ((is_out_of_time d.edits ≡ true) × (e ≡ ClockSpent)) ⊎ ((is_out_of_time d.edits ≡ false) × IsOverFirst base w e)

-- a base can be exported
abbrev pub IsWithin : Replica → Type 0
IsWithin base = (base.is_stale ≡ false) × (refusal_of 32767 (replay base.edits) ≡ None)

-- nothing refuses it yet
pub record CanBegin (d base : Replica) (w : Contents) : Type 0 where
  pub time : is_out_of_time d.edits ≡ false
  pub text : HasText 32767 w
  pub within : IsWithin base

-- what may be answered then: Memory, and where the base doesn't show the world already, that times or edits don't suffice
abbrev pub IsLate : List Edit → Contents → TakeError → Type 0
IsLate base w e = (e ≡ Memory) ⊎ ((Shows base w → ⊥) × ((e ≡ ClockSpent) ⊎ (e ≡ NotTaken)))
