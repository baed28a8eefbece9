use Rattle.std.proofs.Common.{◌≡◌, Some}
use Rattle.std.proofs.lemmas.Result.{err_from_is_err_and}
use Rattle.cmd_take.specs.Files.{OpensAs}
use Rattle.cmd_take.specs.Steps.{Ends}
use Rattle.cmd_take.proofs.Steps.{read_not}
use Rattle.cmd_undo.specs.Undoing.{Undoes, between, meaning_of}
use Rattle.cmd_undo.proofs.UndoSteps.{old_comes}
use Rattle.cmd_undo.proofs.undo.Undo.between.Goals as goal

pub returns-in_err-older : goal.returns-in_err-older
returns-in_err-older c =
    let p = err_from_is_err_and c.from_residual.result c.from_residual.ensures.1 in
    let same : p.0 ≡ c.in_err-older.field-0.0 = p.2 in
    let s = c.args.self.now in
    let d = c.args.document.now in
    let n = c.args.newer.now in
    let why = rw c.world.ensures at c.in_err-older.ensures.opened in
    rw (p.1, same) (read_not (OpensAs (Some d.world)) (λ o. Ends (Undoes s.file.now s.manner s.replica (between (n.world, n.edits) o d.edits) (d.world, d.edits))) c.args.file
    c.in_err-older.field-0.0 why)

pub returns : goal.returns
returns c =
    let s = c.args.self.now in
    let d = c.args.document.now in
    let n = c.args.newer.now in
    let o = c.in_ok-older.older in
    let opens = rw c.world.ensures at c.in_ok-older.ensures.opened in
    old_comes s.file.now s.manner s.replica (meaning_of s.source) c.args.file d n (o.world, o.edits) c.undo_between.result opens c.undo_between.ensures
