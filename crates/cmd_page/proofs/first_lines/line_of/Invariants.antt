use Rattle.std.proofs.Common.{◌≡◌, ◌++◌, drop, take}
use Rattle.zed_log.specs.Program.{first_line}
use Rattle.cmd_page.proofs.first_lines.line_of.Given as goal

-- the bytes so far stand in the first line
abbrev pub invariant-loop-i : goal.invariant-loop-i
invariant-loop-i l = first_line l.bytes ≡ take l.i l.bytes ++ first_line (drop l.i l.bytes)
