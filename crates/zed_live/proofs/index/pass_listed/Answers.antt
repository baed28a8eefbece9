use Rattle.std.proofs.Common.{◌∙◌}
use Rattle.zed_live.proofs.Kept.{one_passed}
use Rattle.zed_live.proofs.index.pass_listed.Goals as goal

pub returns-in-Some-clause-entries : goal.returns-in-Some-clause-entries
returns-in-Some-clause-entries c =
    let edit = c.args.edit.now in
    c.change_on.ensures.entries
    ∙ one_passed c.args.stat c.in-Some.board edit.stamp edit.op c.args.homes.now c.args.entries.now.entries c.in-Some.ensures c.requires.kept c.requires.changes
