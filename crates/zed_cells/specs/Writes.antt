-- Registers that take writes as they come: the later one stays.
use Rattle.std.specs.Prelude.{ℕ, if◌then◌else◌, List, slice_set, slice_index_or, Option, None}
use Rattle.zed_types.specs.declared.written.Written.{Written}
use Rattle.zed_types.specs.Stamp.{before}
use Rattle.zed_types.specs.Register.{keep_later}

-- the later of two writes; of two with one stamp the first
abbrev pub later : {V : Type 0} → Written V → Written V → Written V
later kept w = if before kept.stamp w.stamp then w else kept

-- what register i of a list holds: its latest write, if it was ever written
abbrev pub register : {V : Type 0} → ℕ → List (Option (Written V)) → Option (Written V)
register i rs = slice_index_or rs i None

-- register i keeps the later of what it holds and a new write; the others stay
abbrev pub set_register : {V : Type 0} → ℕ → Written V → List (Option (Written V)) → List (Option (Written V))
set_register i w rs = slice_set rs i (keep_later (register i rs) w)
