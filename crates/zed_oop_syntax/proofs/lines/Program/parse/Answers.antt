use Rattle.std.proofs.Common.{List, [], subst, arith}
use Rattle.std.proofs.lemmas.List.{append-nil}
use Rattle.zed_oop_syntax.specs.declared.lines.Line.{Line}
use Rattle.zed_oop_syntax.specs.Line.{LinesFrom}
use Rattle.zed_oop_syntax.proofs.lines.Program.parse.Goals as goal

pub returns-clause-result : goal.returns-clause-result
returns-clause-result c =
    let P : List Line → Type 0 = λ l. LinesFrom c.args.program.now 0 l in
    subst P (append-nil c.loop-at.lines) (c.loop-at.invariant.so_far [] (omega arith))
