use Rattle.std.proofs.Common.{◌++◌, codes}
use Rattle.std.proofs.lemmas.Result.{IfOk-weaker}
use Rattle.zed_report.specs.Lines.{by_words, edits_lost, other_words}
use Rattle.zed_report.specs.Words.{other_word}
use Rattle.zed_report.proofs.Adding.{adds}
use Rattle.zed_report.proofs.lines.put_other.Goals as goal

pub returns : goal.returns
unfolding other_words
returns c =
    let s = c.args.side in
    let old = c.args.report.now.text.items in
    let program = codes "  program: " ++ other_word s in
    let another = program ++ codes " gave it another" in
    let who = adds old _ _ (codes "  program: ") (other_word s) c.in_ok-put.ensures c.in_ok-other_side.ensures in
    let gave = adds old _ _ program (codes " gave it another") who c.in_ok-put-2.ensures in
    let by = adds old _ _ another (by_words c.args.by) gave c.in_ok-by.ensures in
    IfOk-weaker c.edits_lost.result _ _ (λ r h. adds old _ _ (another ++ by_words c.args.by) (edits_lost s c.args.edits (codes " in the old one")) by h)
    c.edits_lost.ensures
