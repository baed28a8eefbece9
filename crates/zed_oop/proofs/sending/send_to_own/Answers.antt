use Rattle.std.proofs.Common.{◌≡◌, ◌∙◌, None, Some, sym}
use Rattle.zed_oop.proofs.OwnWords.{sent_by_none, sent_to_own}
use Rattle.zed_oop.proofs.sending.send_to_own.Goals as goal

pub returns-in-Some : goal.returns-in-Some
returns-in-Some c =
    let told = c.running.ensures.result in
    let is = c.in-Some.is in
    let mine : c.args.scene.now.running ≡ Some c.in-Some.i = cc in
    sent_to_own c.args.word.now c.args.scene.now c.in-Some.i c.requires mine ∙ sym c.send_one.ensures

pub returns-in-None : goal.returns-in-None
returns-in-None c =
    let told = c.running.ensures.result in
    let is = c.in-None.is in
    let mine : c.args.scene.now.running ≡ None = cc in
    sent_by_none c.args.word.now c.args.scene.now c.requires mine
