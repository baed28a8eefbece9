use Rattle.std.proofs.Common.{◌≡◌, ◌∙◌, Some, ap, sym}
use Rattle.cmd_take.proofs.Steps.{wants_now}
use Rattle.cmd_undo.specs.Stages.{next_of}
use Rattle.cmd_undo.specs.Undoing.{meaning_of}
use Rattle.cmd_undo.proofs.UndoSteps.{file_is_next, next_is_wanted}
use Rattle.cmd_undo.proofs.undo.UndoCommand.next_file.Goals as goal

pub returns-else-self-eq0-clause-wants : goal.returns-else-self-eq0-clause-wants
returns-else-self-eq0-clause-wants c = λ first files stands.
    let s = c.args.self.now in
    let next : next_of s.file.now s.replica (meaning_of s.source) s.stage ≡ Some s.file.now =
    ap (next_of s.file.now s.replica (meaning_of s.source)) c.in-Begun.is ∙ file_is_next s.file.now s.replica (meaning_of s.source) c.if-self-eq0.false in
    wants_now files _ _ _ _ _ stands.1 (next_is_wanted s.file.now s.replica (meaning_of s.source) s.stage _ next)

pub returns-in-Opened-clause-wants : goal.returns-in-Opened-clause-wants
returns-in-Opened-clause-wants c = λ first files stands.
    let s = c.args.self.now in
    let next : next_of s.file.now s.replica (meaning_of s.source) s.stage ≡ Some c.new_name.result.now =
    ap (next_of s.file.now s.replica (meaning_of s.source)) c.in-Opened.is ∙ ap (λ n. Some n) (sym c.new_name.ensures) in
    wants_now files _ _ _ _ _ stands.1 (next_is_wanted s.file.now s.replica (meaning_of s.source) s.stage _ next)

pub returns-in-Newer-clause-wants : goal.returns-in-Newer-clause-wants
returns-in-Newer-clause-wants c = λ first files stands.
    let s = c.args.self.now in
    let next : next_of s.file.now s.replica (meaning_of s.source) s.stage ≡ Some c.old_name.result.now =
    ap (next_of s.file.now s.replica (meaning_of s.source)) c.in-Newer.is ∙ ap (λ n. Some n) (sym c.old_name.ensures) in
    wants_now files _ _ _ _ _ stands.1 (next_is_wanted s.file.now s.replica (meaning_of s.source) s.stage _ next)
