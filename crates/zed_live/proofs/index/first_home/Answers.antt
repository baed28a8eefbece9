use Rattle.std.proofs.Common.{rules, ◌≡◌, ◌∙◌, find, ap}
use Rattle.zed_live.specs.Listed.{boards_with}
use Rattle.zed_live.proofs.Kept.{boards_here, is_on, from_range, found_home, sorted_boards}
use Rattle.zed_live.proofs.index.first_home.Goals as goal

pub loop-home-init : goal.loop-home-init
loop-home-init c =
    let x = c.args.stat in
    let ys = c.args.entries.now.entries in
    let homes = c.args.pairs.now.keys in
    let same : c.into_iter-home-iterator.result ≡ c.range-home-items.result = search rules in
    let all : boards_here x c.range-home-items.result ≡ boards_with x homes =
    ap (boards_here x) (c.range-home-items.ensures.between tt) ∙ from_range x homes c.range-home-items.ensures.ordered in
    record {
      left =
          ap (λ ws. find (is_on x ys) (boards_here x ws)) same ∙ ap (find (is_on x ys)) all
          ∙ found_home x homes ys (sorted_boards x homes c.range-home-items.ensures.ordered) c.requires;
    }
