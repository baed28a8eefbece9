use Rattle.std.proofs.Common.{Err, ap}
use Rattle.zed_files.specs.Texts.{texts_of}
use Rattle.cmd_edit.proofs.Opened.{action_done, action_refused}
use Rattle.cmd_edit.proofs.editing.acted.Goals as goal

pub returns-in-Ok-clause-acted : goal.returns-in-Ok-clause-acted
returns-in-Ok-clause-acted c =
    action_done c.args.document.now c.args.replica (texts_of c.args.words.now) c.act.new.document.edits c.requires.sound c.in-Ok.ensures.ends

pub returns-in-Err-clause-acted : goal.returns-in-Err-clause-acted
returns-in-Err-clause-acted c =
    rw c.action_stop.ensures (action_refused c.args.document.now c.args.replica (texts_of c.args.words.now) c.in-Err.error c.requires.sound c.in-Err.ensures.ends
    (λ is. c.in-Err.ensures.memory_only_when (ap (λ x. Err x) is)))
