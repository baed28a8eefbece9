use Rattle.std.proofs.Common.{◌≡◌, ◌∙◌, ◌++◌, ap, arith}
use Rattle.std.specs.List.{flat_map, range_with_len}
use Rattle.zed_scroll.specs.Text.{placed_row, window_text}
use Rattle.zed_scroll.proofs.Rows.{row_more}
use Rattle.zed_scroll.proofs.text.put_window.Goals as goal

pub loop-row-preserved : goal.loop-row-preserved
loop-row-preserved c =
    let l = c.loop-row in
    row_more (placed_row c.args.scroll.now c.args.line c.args.window) l.row c.args.out.now.items l.out.items c.put_row.new.out.items l.invariant c.in_ok-put_row.ensures

pub returns : goal.returns
unfolding window_text
returns c =
    let l = c.loop-row in
    let all : l.row ≡ c.args.window.rows = omega (arith, l.auto.row-end, c.loop-row-test.false) in
    l.invariant ∙ ap (λ n. c.args.out.now.items ++ flat_map (placed_row c.args.scroll.now c.args.line c.args.window) (range_with_len 0 n)) all
