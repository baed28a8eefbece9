use Rattle.std.proofs.Common.{◌∙◌, sym}
use Rattle.zed_play.proofs.Chains.{look_ends, look_goes, look_lacks}
use Rattle.zed_play.proofs.game.Game.look.Goals as goal

pub returns-in-None : goal.returns-in-None
returns-in-None c = look_ends c.args.asked c.args.self.now c.args.words.now (sym c.looked_at.ensures ∙ c.in-None.is)

pub returns-in-Ok : goal.returns-in-Ok
returns-in-Ok c =
    look_goes c.args.asked c.ticking-i.result c.in-Some.stat c.args.self.now c.look_at.new.self c.go_next.new.self c.args.words.now c.look_at.new.words
    (sym c.looked_at.ensures ∙ c.in-Some.is) c.ticking-i.ensures.result c.in-Ok.ensures c.go_next.ensures

pub returns-in-Err : goal.returns-in-Err
returns-in-Err c =
    look_lacks c.args.asked c.ticking-i.result c.in-Some.stat c.args.self.now c.look_at.new.self c.args.words.now c.look_at.new.words c.in-Err.error
    (sym c.looked_at.ensures ∙ c.in-Some.is) c.ticking-i.ensures.result c.in-Err.ensures
