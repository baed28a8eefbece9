use Rattle.std.proofs.Common.{◌≡◌, drop}
use Rattle.std.specs.Ordering.{nat_cmp}
use Rattle.std.specs.Cmp.Lexicographic.{slice_cmp}
use Rattle.std.specs.FinMap as map
use Rattle.zed_host.specs.Memory.{entries_of}
use Rattle.zed_host.proofs.memory.found.Given as goal

-- the entries that were passed have other names
abbrev pub invariant-loop-entry : goal.invariant-loop-entry
invariant-loop-entry l = map.find (slice_cmp nat_cmp) l.name (entries_of (drop l.entry-index l.entries)) ≡ map.find (slice_cmp nat_cmp) l.name (entries_of l.entries)
