use Rattle.std.proofs.Common.{◌≡◌, take}
use Rattle.cmd_program.proofs.copies.copy_flags.Given as goal

abbrev pub invariant-loop-flag : goal.invariant-loop-flag
invariant-loop-flag l = l.copies ≡ take l.flag-index l.flags
