-- What is taken of a world: edits that lead to it from what a base shows.
use Rattle.std.specs.Prelude.{◌≡◌, ℕ, ◌+◌, List, [], ◌∷◌, Ok}
use Rattle.zed_types.specs.declared.stamp.Stamp.{Stamp}
use Rattle.zed_world.specs.Contents.{Contents}
use Rattle.zed_op.specs.declared.op.Edit.{Edit}
use Rattle.zed_op.specs.Set.{AllFit, union, with_edit}
use Rattle.zed_edit.specs.Replay.{replay}
use Rattle.zed_history.specs.Clock.{next_time}
use Rattle.zed_document.specs.Delivery.{IsFree}
use Rattle.zed_export.specs.Limits.{exported}

-- the stamp of the same replica, one time later
abbrev pub later : Stamp → Stamp
later s = record { time = s.time + 1; replica = s.replica }

-- edits of one replica, time after time from a first stamp on
abbrev pub AreFrom : Stamp → List Edit → Type 0
AreFrom s [] = Unit {0}
AreFrom s (e ∷ es) = (e.stamp ≡ s) × AreFrom (later s) es

-- edits show a world: they are exported as it, each board within the 32,767 bytes that can be read
abbrev pub Shows : List Edit → Contents → Type 0
Shows es w = exported 32767 (replay es) ≡ Ok w

-- edits join others one after the other, and none of them clashes
abbrev pub Joins : List Edit → List Edit → Type 0
Joins log [] = Unit {0}
Joins log (e ∷ es) = IsFree log e × Joins (with_edit e log) es

-- edits that fit, made one after the other from a stamp on, that join a base and lead from what it shows to a world
pub record LeadsTo (base : List Edit) (w : Contents) (first : Stamp) (edits : List Edit) : Type 0 where
  pub fit : AllFit edits
  pub from : AreFrom first edits
  pub joins : Joins base edits
  pub shows : Shows (union base edits) w

-- such edits, and none where the base shows the world already
pub record AreTaken (base : List Edit) (w : Contents) (first : Stamp) (edits : List Edit) : Type 0 where
  pub lead : LeadsTo base w first edits
  pub nothing : Shows base w → edits ≡ []

-- the stamp of the next edit that a replica makes beside these
abbrev pub next_stamp : List Edit → ℕ → Stamp
next_stamp es replica = record { time = next_time es; replica = replica }
