use Rattle.std.proofs.Common.{arith}
use Rattle.zed_scene.specs.Words.{Drawn}
use Rattle.zed_play.specs.declared.game.Game.{Game}
use Rattle.zed_play.specs.Step.{Looks}
use Rattle.zed_play.proofs.Chains.{chain_ends, chain_lacks, chain_over}
use Rattle.zed_play.proofs.game.Game.look_on.Goals as goal

pub returns-in-Ok-false : goal.returns-in-Ok-false
returns-in-Ok-false c =
    let T : Drawn Game → Type 0 = λ e. Looks c.args.asked 1024 c.args.self.now c.args.words.now e in
    let l = c.loop-looks in
    chain_ends T c.args.asked c.in-Ok-false.field-0 l.self c.look.new.self l.words c.look.new.words l.looks c.in-Ok-false.ensures c.in-Ok-false.field-0-test (omega arith) l.invariant

pub returns-in-Err : goal.returns-in-Err
returns-in-Err c =
    let T : Drawn Game → Type 0 = λ e. Looks c.args.asked 1024 c.args.self.now c.args.words.now e in
    let l = c.loop-looks in
    chain_lacks T c.args.asked c.in-Err.error l.self c.look.new.self l.words c.look.new.words l.looks c.in-Err.ensures (omega arith) l.invariant

pub returns : goal.returns
returns c =
    let T : Drawn Game → Type 0 = λ e. Looks c.args.asked 1024 c.args.self.now c.args.words.now e in
    let l = c.loop-looks in
    chain_over T c.args.asked l.self l.words l.looks (omega arith) l.invariant
