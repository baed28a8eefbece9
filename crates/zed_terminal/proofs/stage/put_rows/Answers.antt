use Rattle.std.proofs.Common.{◌≡◌, ◌∙◌, ◌-◌, ◌++◌, None, ap, arith}
use Rattle.std.specs.List.{flat_map, range_with_len}
use Rattle.zed_look.specs.Coloured.{coloured_row}
use Rattle.zed_terminal.specs.Staged.{stage_row, stage_rows}
use Rattle.zed_terminal.proofs.Rows.{row_more}
use Rattle.zed_terminal.proofs.stage.put_rows.Goals as goal

pub loop-row-preserved : goal.loop-row-preserved
loop-row-preserved c =
    let l = c.loop-row in
    let part = c.args.part in (
      omega (arith, l.invariant.0),
      row_more (λ row. coloured_row None (stage_row part.columns part.left part.first c.args.play.now row)) part.first l.row _ _ _ l.invariant.0 l.invariant.1 c.in_ok-put_row.ensures,
    )

pub returns : goal.returns
unfolding stage_rows
returns c =
    let l = c.loop-row in
    let part = c.args.part in
    let all : l.row - part.first ≡ c.args.count = omega (arith, l.invariant.0, l.auto.row-end, c.loop-row-test.false) in
    l.invariant.1 ∙ ap (λ n. c.args.out.now.items ++ flat_map (λ row. coloured_row None (stage_row part.columns part.left part.first c.args.play.now row)) (range_with_len part.first n)) all
