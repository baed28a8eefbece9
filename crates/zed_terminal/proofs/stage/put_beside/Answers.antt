use Rattle.std.proofs.Common.{◌≡◌, ◌∙◌, ◌-◌, ◌++◌, ap, arith, map}
use Rattle.std.specs.List.{range_with_len}
use Rattle.zed_terminal.specs.Staged.{beside, spot_beside}
use Rattle.zed_terminal.proofs.Rows.{column_more}
use Rattle.zed_terminal.proofs.stage.put_beside.Goals as goal

pub loop-column-preserved : goal.loop-column-preserved
loop-column-preserved c =
    let l = c.loop-column in (
      omega (arith, l.invariant.0),
      column_more c.args.play.now c.args.row l.column c.args.out.now.items c.push.new.self.items l.out.items c.spot_at.result l.invariant.0 c.spot_at.ensures
          l.invariant.1 c.in_ok-push.ensures.items,
    )

pub returns : goal.returns
unfolding beside
returns c =
    let l = c.loop-column in
    let all : l.column - 60 ≡ 20 = omega (arith, l.auto.column-end, c.loop-column-test.false) in
    l.invariant.1 ∙ ap (λ n. c.args.out.now.items ++ map (spot_beside c.args.play.now c.args.row) (range_with_len 60 n)) all
