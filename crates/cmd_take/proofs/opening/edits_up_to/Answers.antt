use Rattle.std.proofs.Common.{◌∙◌, ap, sym, [], ◌∷◌, ◌++◌, take}
use Rattle.std.proofs.lemmas.List.{take_more}
use Rattle.cmd_take.proofs.Earlier.{one_looked}
use Rattle.cmd_take.proofs.opening.edits_up_to.Goals as goal

pub loop-edit-preserved : goal.loop-edit-preserved
loop-edit-preserved c =
    let more = take_more c.args.edits.now c.loop-edit.edit-index c.edit-item.result c.loop-edit-test.true
    ∙ ap (λ e. take c.loop-edit.edit-index c.args.edits.now ++ e ∷ []) (sym c.edit-item.is) in
    record {
      copied = one_looked c.args.last (take c.loop-edit.edit-index c.args.edits.now) _ c.edit-item.result c.loop-edit.copies.items _ more c.loop-edit.invariant.copied c.in_ok-push_up_to.ensures;
    }
