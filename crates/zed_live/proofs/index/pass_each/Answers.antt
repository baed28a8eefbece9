use Rattle.std.proofs.Common.{rules, ◌≡◌, ◌∙◌, ap}
use Rattle.zed_live.specs.Board.{stat_changed}
use Rattle.zed_live.specs.Boards.{board_name}
use Rattle.zed_live.specs.Listed.{boards_with}
use Rattle.zed_live.proofs.Kept.{boards_here, from_range, all_passed, sorted_boards}
use Rattle.zed_live.proofs.Listed.{change_each}
use Rattle.zed_live.proofs.index.pass_each.Goals as goal

pub loop-home-init : goal.loop-home-init
loop-home-init c =
    let x = c.args.stat in
    let edit = c.args.edit.now in
    let ys = c.args.entries.now.entries in
    let homes = c.args.pairs.now.keys in
    let f = stat_changed edit.stamp edit.op in
    let same : c.into_iter-home-iterator.result ≡ c.range-home-items.result = search rules in
    let all : boards_here x c.range-home-items.result ≡ boards_with x homes =
    ap (boards_here x) (c.range-home-items.ensures.between tt) ∙ from_range x homes c.range-home-items.ensures.ordered in
    record {
      left =
          ap (λ ws. change_each board_name f (boards_here x ws) ys) same ∙ ap (λ bs. change_each board_name f bs ys) all
          ∙ all_passed x edit.stamp edit.op homes ys (sorted_boards x homes c.range-home-items.ensures.ordered) c.requires.kept c.requires.changes;
      sorted = c.requires.kept.sorted;
    }
