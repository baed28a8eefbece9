use Rattle.std.proofs.Common.{◌≡◌, ◌∙◌, ap}
use Rattle.std.proofs.lemmas.Result.{IfOk-weaker}
use Rattle.zed_op.specs.Fit.{Fits}
use Rattle.zed_op.specs.Set.{set_of}
use Rattle.zed_op.proofs.SetLaws.{rising_is_its_set}
use Rattle.zed_sides.specs.Sides.{common, knows}
use Rattle.zed_sides.proofs.Overriding.{each_of, rising_of}
use Rattle.zed_join.proofs.sides.common.Goals as goal

pub document_of-requires : goal.document_of-requires
document_of-requires c =
    let mine = c.edits-mine_edits.ensures in
    let theirs = c.edits-their_edits.ensures in
    rw (c.in_ok-edits.ensures, mine.all, theirs.all) (each_of Fits (knows c.args.theirs.now.edits) c.args.mine.now.edits mine.fit)

pub returns-clause-edits : goal.returns-clause-edits
returns-clause-edits c =
    let mine = c.edits-mine_edits.ensures in
    let theirs = c.edits-their_edits.ensures in
    let es = common c.args.mine.now.edits c.args.theirs.now.edits in
    let copied : c.in_ok-edits.edits.items ≡ es =
    c.in_ok-edits.ensures ∙ ap (λ xs. common xs c.edits-their_edits.result.now) mine.all ∙ ap (common c.args.mine.now.edits) theirs.all in
    let set : set_of c.in_ok-edits.edits.items ≡ es =
    ap set_of copied ∙ rising_is_its_set es (rising_of (knows c.args.theirs.now.edits) c.args.mine.now.edits mine.rising) in
    IfOk-weaker c.document_of.result _ _ (λ r h. h ∙ set) c.document_of.ensures.edits
