-- A register that keeps the value of its latest write.
use Rattle.std.specs.Prelude.{if◌then◌else◌, Option, Some, None, List, [], ◌∷◌}
use Rattle.zed_types.specs.declared.stamp.Stamp.{Stamp}
use Rattle.zed_types.specs.declared.written.Written.{Written}
use Rattle.zed_types.specs.Stamp.{before}

-- a value with the stamp of its write
abbrev pub written_at : {V : Type 0} → Stamp → V → Written V
written_at s v = record { stamp = s; value = v }

-- the later of what is kept and a new write
abbrev pub keep_later : {V : Type 0} → Option (Written V) → Written V → Option (Written V)
keep_later None w = Some w
keep_later (Some k) w = if before k.stamp w.stamp then Some w else Some k

-- of writes in any order, the one with the greatest stamp
abbrev pub latest_of : {V : Type 0} → Option (Written V) → List (Written V) → Option (Written V)
latest_of o [] = o
latest_of o (w ∷ ws) = latest_of (keep_later o w) ws

-- the value of the last write of a list
abbrev pub last_value : {V : Type 0} → V → List (Written V) → V
last_value v [] = v
last_value v (w ∷ ws) = last_value w.value ws

-- the value that is kept, or this one where nothing was written
abbrev pub value_or : {V : Type 0} → V → Option (Written V) → V
value_or v None = v
value_or v (Some w) = w.value
