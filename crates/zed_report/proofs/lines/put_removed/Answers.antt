use Rattle.std.proofs.Common.{codes}
use Rattle.std.proofs.lemmas.Result.{IfOk-weaker}
use Rattle.zed_report.specs.Lines.{by_words, edits_lost, removed_words}
use Rattle.zed_report.specs.Words.{other_word}
use Rattle.zed_report.proofs.Adding.{adds}
use Rattle.zed_report.proofs.lines.put_removed.Goals as goal

pub returns : goal.returns
unfolding removed_words
returns c =
    let s = c.args.side in
    let removed = adds _ _ _ (other_word s) (codes " removed it") c.in_ok-other_side.ensures c.in_ok-put.ensures in
    let by = adds _ _ _ _ (by_words c.args.by) removed c.in_ok-by.ensures in
    IfOk-weaker c.edits_lost.result _ _ (λ r h. adds _ _ _ _ (edits_lost s c.args.edits (codes " on it")) by h) c.edits_lost.ensures
