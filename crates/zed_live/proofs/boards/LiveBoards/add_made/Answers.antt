use Rattle.std.proofs.Common.{rules, ◌≡◌}
use Rattle.zed_live.specs.Boards.{add_all, all_as_made}
use Rattle.zed_live.proofs.Kept.{kept_more, kept_made}
use Rattle.zed_live.proofs.boards.LiveBoards.add_made.Goals as goal

pub invariant_of-self-2 : goal.invariant_of-self-2
invariant_of-self-2 c =
    let s = c.args.stamp in
    let bs = c.args.boards.now in
    let ys = c.self.inside.entries.entries in
    let zs = c.add_each.new.entries.entries in
    let homes = c.list_made.new.homes in
    let all : zs ≡ add_all (all_as_made s bs) ys = search rules in
    kept_made s bs homes ys zs all c.add_each.ensures.sorted c.in_ok-list_made.ensures.ok (kept_more ys c.self.inside.homes homes c.list_made.ensures.kept c.self.invariant)
