use Rattle.std.proofs.Common.{◌≡◌, ◌∙◌, ap}
use Rattle.std.proofs.lemmas.Result.{IfOk-weaker}
use Rattle.zed_op.specs.Set.{set_of}
use Rattle.zed_undo.specs.Leaving.{left_by}
use Rattle.zed_undo.proofs.Left.{left_fit, left_rising}
use Rattle.zed_undo.proofs.leaving.document_left.Goals as goal

pub document_of-requires : goal.document_of-requires
document_of-requires c =
    rw (c.in_ok-edits.ensures, c.edits.ensures.all) (left_fit c.args.marks.now c.args.document.now.edits c.edits.ensures.fit)

pub returns-clause-edits : goal.returns-clause-edits
returns-clause-edits c =
    let es = left_by c.args.marks.now c.args.document.now.edits in
    let copied : c.in_ok-edits.edits.items ≡ es = c.in_ok-edits.ensures ∙ ap (left_by c.args.marks.now) c.edits.ensures.all in
    let set : set_of c.in_ok-edits.edits.items ≡ es =
    ap set_of copied ∙ c.rising_lists_are_sets.ensures.own es (left_rising c.args.marks.now c.args.document.now.edits c.edits.ensures.rising) in
    IfOk-weaker c.document_of.result _ _ (λ r h. h ∙ set) c.document_of.ensures.edits
