-- Two sets of edits, what both have, and what their union shows of each.
use Rattle.std.specs.Prelude.{◌≡◌, ◌≢◌, Bool, true, not, List, filter, Option, None, is_some}
use Rattle.std.specs.List.{list_any}
use Rattle.zed_types.specs.declared.written.Written.{Written}
use Rattle.zed_types.specs.Register.{latest_of}
use Rattle.zed_types.specs.Stamp.{same_stamp}
use Rattle.zed_op.specs.declared.op.Edit.{Edit}
use Rattle.zed_op.specs.Set.{union}
use Rattle.zed_edit.specs.Replay.{replay}
use Rattle.zed_laws.specs.Registers.{writes_of}
use Rattle.zed_laws.specs.Winners.{Register}

-- whether a set has an edit with the stamp of this one
abbrev pub knows : List Edit → Edit → Bool
knows es e = list_any (λ f. same_stamp f.stamp e.stamp) es

-- the edits of a set that another one has too: those that both authors began with
abbrev pub common : List Edit → List Edit → List Edit
common es fs = filter (knows fs) es

-- the edits of a set that another one doesn't have: those that its author made or saw and the other one didn't
abbrev pub own : List Edit → List Edit → List Edit
own es fs = filter (λ e. not (knows fs e)) es

-- what a set shows in a register
abbrev pub shown : {V : Type 0} → Register V → List Edit → Option V
shown r es = r.read (replay es)

-- the author of the first set changed a register, and the union with the second shows something else
abbrev pub IsOverridden : {V : Type 0} → Register V → List Edit → List Edit → Type 0
IsOverridden r es fs = (shown r es ≢ shown r (common es fs)) × (shown r (union es fs) ≢ shown r es)

-- one of these edits writes a register
abbrev pub Write : {V : Type 0} → Register V → List Edit → Type 0
Write r es = list_any (λ e. is_some (r.writes e)) es ≡ true

-- the latest write of these edits into a register
abbrev pub latest : {V : Type 0} → Register V → List Edit → Option (Written V)
latest r es = latest_of None (writes_of r.writes es)
