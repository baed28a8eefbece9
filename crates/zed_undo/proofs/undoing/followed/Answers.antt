use Rattle.std.proofs.lemmas.Result.{IfOk-weaker}
use Rattle.zed_undo.proofs.Led.{followed_so}
use Rattle.zed_undo.proofs.undoing.followed.Goals as goal

pub returns : goal.returns
returns c =
    let with = rw c.as_slice.ensures.value at c.in_ok-with.ensures in
    IfOk-weaker c.joined.result _ _ (λ r h. followed_so c.args.document.now.edits c.in_ok-with.with.edits c.args.edits.items c.in_ok-rest.rest.items r.items c.args.world.now _ c.requires with
    c.in_ok-rest.ensures h) c.joined.ensures
