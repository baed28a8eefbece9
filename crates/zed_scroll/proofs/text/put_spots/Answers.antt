use Rattle.std.proofs.Common.{◌≡◌, ◌∙◌, ◌++◌, ap, arith, map}
use Rattle.std.specs.List.{range_with_len}
use Rattle.zed_scroll.specs.Text.{window_row}
use Rattle.zed_scroll.specs.Window.{window_spot}
use Rattle.zed_scroll.proofs.Rows.{place_more}
use Rattle.zed_scroll.proofs.text.put_spots.Goals as goal

pub loop-column-preserved : goal.loop-column-preserved
loop-column-preserved c =
    let l = c.loop-column in
    place_more (window_spot c.args.scroll.now c.args.line c.args.window.lines c.args.row) l.column c.window_spot.result c.args.spots.now.items l.spots.items c.push.new.self.items
    c.window_spot.ensures l.invariant c.in_ok-push.ensures.items

pub returns : goal.returns
unfolding window_row
returns c =
    let l = c.loop-column in
    let all : l.column ≡ c.args.window.columns = omega (arith, l.auto.column-end, c.loop-column-test.false) in
    l.invariant ∙ ap (λ n. c.args.spots.now.items ++ map (window_spot c.args.scroll.now c.args.line c.args.window.lines c.args.row) (range_with_len 0 n)) all
