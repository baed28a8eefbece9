use Rattle.std.proofs.Common.{◌∙◌, ◌++◌, ◌∷◌, [], ap}
use Rattle.zed_play.specs.Game.{kept}
use Rattle.zed_play.proofs.Keeping.{kept_on}
use Rattle.zed_play.proofs.messages.Messages.push_all.Goals as goal

pub loop-line-preserved : goal.loop-line-preserved
loop-line-preserved c =
    let l = c.loop-line in
    let same = ap (λ x. kept (l.self ++ x ∷ [])) c.in_ok-copy.ensures.result in
    kept_on c.push.new.self l.self c.args.lines.now (kept (c.args.self.now ++ c.args.lines.now)) c.line-item.result l.line-index (c.push.ensures.result ∙ same) c.line-item.is c.loop-line-test.true l.invariant
