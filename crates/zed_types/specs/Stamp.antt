-- The order of stamps.
use Rattle.std.specs.Prelude.{Bool, ◌&&◌, ◌||◌, nat_lt, ◌==◌}
use Rattle.std.specs.declared.cmp.Ordering.{Ordering}
use Rattle.std.specs.Ordering.{nat_cmp, ordering_then}
use Rattle.zed_types.specs.declared.stamp.Stamp.{Stamp}

-- by time, and then by replica
abbrev pub stamp_cmp : Stamp → Stamp → Ordering
stamp_cmp a b = ordering_then (nat_cmp a.time b.time) (nat_cmp a.replica b.replica)

-- whether `a` comes before `b`
abbrev pub before : Stamp → Stamp → Bool
before a b = nat_lt a.time b.time || (a.time == b.time && nat_lt a.replica b.replica)

-- whether two stamps are one
abbrev pub same_stamp : Stamp → Stamp → Bool
same_stamp a b = a.time == b.time && a.replica == b.replica

-- the stamp of the edit that makes the world
abbrev pub genesis_stamp : Stamp
genesis_stamp = record { time = 1; replica = 0 }
