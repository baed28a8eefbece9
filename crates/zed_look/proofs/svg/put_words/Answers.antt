use Rattle.std.proofs.Common.{◌++◌, ◌+◌, ◌*◌, ◌∙◌, ap, codes}
use Rattle.std.proofs.lemmas.Result.{IfOk-weaker}
use Rattle.zed_look.specs.Colours.{ink}
use Rattle.zed_look.specs.Svg.{attribute, content, copies, escaped, fill, start, words}
use Rattle.zed_look.proofs.Adding.{adds}
use Rattle.zed_look.proofs.svg.put_words.Goals as goal

pub returns : goal.returns
unfolding words
returns c =
    let s = start (codes "text lengthAdjust='spacingAndGlyphs'") (8 * c.args.column) (14 * c.args.row + 11) in
    let w = attribute (codes "textLength") (8 * c.args.count) in
    let f = fill (ink c.args.spot.attribute) in
    let t = content (copies c.args.count (escaped c.args.spot.character)) in
    let wide = adds _ _ _ s w c.in_ok-put_start.ensures c.in_ok-put_attribute.ensures in
    let inked = c.in_ok-put_fill.ensures ∙ ap (λ colour. c.put_attribute.new.out.items ++ fill colour) c.ink.ensures.result in
    let filled = adds _ _ _ (s ++ w) f wide inked in
    IfOk-weaker c.put_content.result _ _ (λ r h. adds _ _ _ (s ++ w ++ f) t filled h) c.put_content.ensures
