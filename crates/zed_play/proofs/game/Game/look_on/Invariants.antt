use Rattle.zed_scene.specs.Words.{Drawn}
use Rattle.zed_play.specs.declared.game.Game.{Game}
use Rattle.zed_play.specs.Step.{Looks}
use Rattle.zed_play.proofs.game.Game.look_on.Given as goal

abbrev pub invariant-loop-looks : goal.invariant-loop-looks
invariant-loop-looks l = (e : Drawn Game) → Looks l.fn.asked l.looks l.self l.words e → Looks l.fn.asked 1024 l.fn.self l.fn.words e

abbrev pub decreases-loop-looks : goal.decreases-loop-looks
decreases-loop-looks l = l.looks
