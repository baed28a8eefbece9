use Rattle.std.proofs.Common.{◌≡◌, ◌++◌, ◌+◌, drop, vec_len}
use Rattle.zed_log.specs.Program.{lines_behind, lines_of, numbered}
use Rattle.zed_log.proofs.program_lines.lines_of.Given as goal

-- the lines so far, with those of the rest behind the bytes of the line at hand, are all; that line begins where it is said to
abbrev pub invariant-loop-i : goal.invariant-loop-i
invariant-loop-i l = record {
  made : l.text.items ++ numbered l.at (lines_behind l.line.items (drop l.i l.bytes)) ≡ numbered 0 (lines_of l.bytes);
  here : l.at + vec_len l.line ≡ l.i;
}
