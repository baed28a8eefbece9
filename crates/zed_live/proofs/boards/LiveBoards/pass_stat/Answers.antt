use Rattle.zed_live.proofs.Kept.{kept_passed}
use Rattle.zed_live.proofs.boards.LiveBoards.pass_stat.Goals as goal

pub invariant_of-self : goal.invariant_of-self
invariant_of-self c =
    let edit = c.args.edit.now in
    kept_passed edit.stamp edit.op c.self.inside.homes c.self.inside.entries.entries c.pass_listed.new.entries.entries c.pass_listed.ensures.entries c.pass_listed.ensures.sorted c.self.invariant
