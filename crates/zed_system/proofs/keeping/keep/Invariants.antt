use Rattle.std.proofs.Common.{◌≡◌}
use Rattle.zed_system.proofs.keeping.keep.Given as goal

-- the first path stays
abbrev pub invariant-loop : goal.invariant-loop
invariant-loop l = l.kept.first ≡ l.fn.kept.first
