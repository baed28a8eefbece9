use Rattle.std.proofs.Common.{List, ◌++◌, ◌-◌, ◌≤◌, length}
use Rattle.zed_oop_syntax.specs.declared.lines.Line.{Line}
use Rattle.zed_oop_syntax.specs.Line.{LinesFrom}
use Rattle.zed_oop_syntax.proofs.lines.Program.parse.Given as goal

abbrev pub invariant-loop-at : goal.invariant-loop-at
invariant-loop-at l = record {
  so_far : (ls : List Line) → LinesFrom l.program l.at ls → LinesFrom l.program 0 (l.lines ++ ls);
  within : l.at ≤ length l.program;
}

abbrev pub decreases-loop-at : goal.decreases-loop-at
decreases-loop-at l = length l.program - l.at
