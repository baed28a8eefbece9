-- How an inbox keeps its edits, and lists them under the things that they name.
use Rattle.std.specs.Prelude.{◌≡◌, Bool, false, ◌&&◌, ◌||◌, not, List, map}
use Rattle.std.specs.List.{list_any}
use Rattle.std.specs.Map.{values_of}
use Rattle.zed_types.specs.declared.stamp.Stamp.{Stamp}
use Rattle.zed_types.specs.Stamp.{same_stamp}
use Rattle.zed_op.specs.declared.op.Edit.{Edit}
use Rattle.zed_op.specs.declared.thing.Thing.{Thing}
use Rattle.zed_op.specs.Set.{IsRising}
use Rattle.zed_inbox.specs.Waiting.{same_thing, names}

-- edits, each under its stamp
abbrev pub stamped : List Edit → List (Stamp × Edit)
stamped es = map (λ e. (e.stamp, e)) es

-- whether a stamp is listed under a thing
abbrev pub is_listed : Thing → Stamp → List (Thing × Stamp) → Bool
is_listed x s waits = list_any (λ w. same_thing w.0 x && same_stamp w.1 s) waits

-- whether an edit names a thing and has a stamp
abbrev pub belongs : Thing → Stamp → Edit → Bool
belongs x s e = names x e && same_stamp e.stamp s

-- a stamp is listed under nothing
abbrev pub IsUnlisted : Stamp → List (Thing × Stamp) → Type 0
IsUnlisted s waits = (x : Thing) → is_listed x s waits ≡ false

-- listed is just what was, and a stamp under a thing
pub record ListsOne (n : Thing) (t : Stamp) (old new : List (Thing × Stamp)) : Type 0 where
  pub each : (x : Thing) (s : Stamp) → is_listed x s new ≡ (is_listed x s old || (same_thing n x && same_stamp t s))

-- listed is just what was, but a stamp not under a thing
pub record ListsOneLess (n : Thing) (t : Stamp) (old new : List (Thing × Stamp)) : Type 0 where
  pub each : (x : Thing) (s : Stamp) → is_listed x s new ≡ (is_listed x s old && not (same_thing n x && same_stamp t s))

-- listed is just what was, and an edit under each thing that it names
pub record ListsAlso (e : Edit) (old new : List (Thing × Stamp)) : Type 0 where
  pub each : (x : Thing) (s : Stamp) → is_listed x s new ≡ (is_listed x s old || belongs x s e)

-- listed is just what was, but an edit under nothing
pub record ListsNoMore (e : Edit) (old new : List (Thing × Stamp)) : Type 0 where
  pub each : (x : Thing) (s : Stamp) → is_listed x s new ≡ (is_listed x s old && not (belongs x s e))

-- listed is just what was
pub record ListsTheSame (old new : List (Thing × Stamp)) : Type 0 where
  pub each : (x : Thing) (s : Stamp) → is_listed x s new ≡ is_listed x s old

-- a stamp is listed under a thing just where the edit with this stamp names it
abbrev pub AreListed : List (Thing × Stamp) → List Edit → Type 0
AreListed waits es = (x : Thing) (s : Stamp) → is_listed x s waits ≡ list_any (belongs x s) es

-- the edits of a map, each under its stamp, in stamp order, and listed under each thing that they name
pub record AreKept (entries : List (Stamp × Edit)) (waits : List (Thing × Stamp)) : Type 0 where
  pub under : entries ≡ stamped (values_of entries)
  pub rising : IsRising (values_of entries)
  pub listed : AreListed waits (values_of entries)
