use Rattle.std.proofs.Common.{◌≡◌, drop}
use Rattle.zed_world.specs.Writing.{first_over}
use Rattle.cmd_program.proofs.sizes.within_limit.Given as goal

abbrev pub invariant-loop-number : goal.invariant-loop-number
invariant-loop-number l = first_over 32767 l.number (drop l.number l.boards) ≡ first_over 32767 0 l.boards
