use Rattle.std.proofs.Common.{refl}
use Rattle.zed_files.specs.Texts.{texts_of}
use Rattle.cmd_edit.specs.Edited.{ActMayTake, IsActed, no_author}
use Rattle.zed_program.proofs.Plain.{edit_lacks, edit_plain}
use Rattle.zed_program.proofs.driving.edit_file.Goals as goal

pub carried-requires-clause-stands : goal.carried-requires-clause-stands
carried-requires-clause-stands g c = (refl, refl, c.new-command.ensures.document)

pub carried-requires-clause-plain : goal.carried-requires-clause-plain
carried-requires-clause-plain g c =
    let action = c.new-command.result.action in
    edit_plain (no_author action.replica) (ActMayTake action.replica (texts_of action.words.now)) (IsActed action.replica (texts_of action.words.now)) c.new-command.result.file.now

pub carried-requires-clause-lacks : goal.carried-requires-clause-lacks
carried-requires-clause-lacks g c =
    let action = c.new-command.result.action in
    edit_lacks (no_author action.replica) (ActMayTake action.replica (texts_of action.words.now)) action.replica (texts_of action.words.now) c.new-command.result.file.now

pub returns : goal.returns
returns g c =
    let is = c.carried.ensures in
    let so = rw (c.new-command.ensures.file, c.new-command.ensures.action, c.new-edit.ensures.replica, c.new-edit.ensures.words) at is in
    so
