use Rattle.std.proofs.Common.{◌≡◌}
use Rattle.zed_system.proofs.keeping.choose.Given as goal

-- the first path stays
abbrev pub invariant-loop-number : goal.invariant-loop-number
invariant-loop-number l = l.kept.first ≡ l.fn.kept.first
