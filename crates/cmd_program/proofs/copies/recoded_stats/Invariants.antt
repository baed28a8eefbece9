use Rattle.std.proofs.Common.{◌≡◌, ◌++◌, drop}
use Rattle.cmd_program.specs.Worlds.{stats_from}
use Rattle.cmd_program.proofs.copies.recoded_stats.Given as goal

-- those so far, with what becomes of the rest, are all
abbrev pub invariant-loop-number : goal.invariant-loop-number
invariant-loop-number l = l.copies ++ stats_from l.owner l.program l.number (drop l.number l.stats) ≡ stats_from l.owner l.program 0 l.stats
