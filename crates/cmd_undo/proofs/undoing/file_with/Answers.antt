use Rattle.std.proofs.Common.{◌≡◌, ◌∙◌, length, refl}
use Rattle.std.proofs.lemmas.Result.{IfOk-weaker, err_from_is_err_and}
use Rattle.zed_op.specs.Set.{union}
use Rattle.cmd_take.specs.Taking.{grown}
use Rattle.cmd_undo.proofs.undoing.file_with.Goals as goal

pub deliver-requires : goal.deliver-requires
deliver-requires c = c.requires

pub returns-in_err-deliver : goal.returns-in_err-deliver
returns-in_err-deliver c =
    let p = err_from_is_err_and c.from_residual.result c.from_residual.ensures.1 in
    rw p.1 tt

pub returns : goal.returns
returns c =
    let d = c.args.document.now in
    let now = c.deliver.new.document in
    let new = c.args.edits.items in
    let same : grown c.args.file.now now.world c.count_of-had.result now.edits ≡ grown c.args.file.now d.world (length d.edits) (union d.edits new) =
    rw (c.in_ok-deliver.ensures.edits, c.in_ok-deliver.ensures.world, c.count_of-had.ensures) refl in
    IfOk-weaker c.file_grown.result _ _ (λ r h. h ∙ same) c.file_grown.ensures
