use Rattle.zed_live.proofs.Kept.{kept_more, kept_either}
use Rattle.zed_live.proofs.boards.LiveBoards.change.Goals as goal

pub invariant_of-self-2 : goal.invariant_of-self-2
invariant_of-self-2 c =
    let edit = c.args.edit.now in
    let ys = c.self.inside.entries.entries in
    let homes = c.list_added.new.homes in
    kept_either c.change_board.result c.args.id edit.stamp edit.op homes ys c.change_board.new.entries.entries c.change_board.ensures.ok c.change_board.ensures.kept c.change_board.ensures.keys c.in_ok-list_added.ensures.ok
    (kept_more ys c.self.inside.homes homes c.list_added.ensures.kept c.self.invariant)
