use Rattle.std.proofs.Common.{codes}
use Rattle.std.proofs.lemmas.Result.{IfOk-weaker}
use Rattle.zed_look.specs.Parts.{ended}
use Rattle.zed_look.specs.Svg.{svg_rows, svg_text}
use Rattle.zed_look.proofs.Adding.{adds}
use Rattle.zed_look.proofs.svg.put_all.Goals as goal

pub returns : goal.returns
unfolding svg_text
returns c =
    let ground = adds _ _ _ _ _ c.in_ok-put_ended.ensures c.in_ok-put_ended-2.ensures in
    let rows = adds _ _ _ _ (svg_rows 0 c.args.rows.now) ground c.in_ok-put_rows.ensures in
    IfOk-weaker c.put_ended-3.result _ _ (λ r h. adds _ _ _ _ (ended (codes "</svg>")) rows h) c.put_ended-3.ensures
