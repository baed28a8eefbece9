use Rattle.std.proofs.Common.{◌≡◌, ◌∙◌, None, Some, sym}
use Rattle.zed_oop.proofs.OwnWords.{relabelled_by_none, relabelled_own}
use Rattle.zed_oop.proofs.programs.relabel_own.Goals as goal

pub returns-in-Some : goal.returns-in-Some
returns-in-Some c =
    let told = c.running.ensures.result in
    let is = c.in-Some.is in
    let mine : c.args.scene.now.running ≡ Some c.in-Some.i = cc in
    c.relabel_one.ensures ∙ sym (relabelled_own c.args.relabelling c.args.word.now c.args.scene.now c.in-Some.i c.requires mine)

pub returns-in-None : goal.returns-in-None
returns-in-None c =
    let told = c.running.ensures.result in
    let is = c.in-None.is in
    let mine : c.args.scene.now.running ≡ None = cc in
    sym (relabelled_by_none c.args.relabelling c.args.word.now c.args.scene.now c.requires mine)
