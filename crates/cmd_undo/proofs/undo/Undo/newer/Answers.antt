use Rattle.std.proofs.Common.{◌≡◌, Some}
use Rattle.std.proofs.lemmas.Result.{err_from_is_err_and}
use Rattle.cmd_take.specs.Files.{OpensAs}
use Rattle.cmd_take.proofs.Steps.{read_led, read_not}
use Rattle.cmd_undo.specs.Stages.{new_of, old_of}
use Rattle.cmd_undo.specs.Undoing.{OldAsks, OldUndoes, meaning_of}
use Rattle.cmd_undo.proofs.undo.Undo.newer.Goals as goal

pub returns-in_err-newer-clause-leads : goal.returns-in_err-newer-clause-leads
returns-in_err-newer-clause-leads c =
    let p = err_from_is_err_and c.from_residual.result c.from_residual.ensures.1 in
    let same : p.0 ≡ c.in_err-newer.field-0.0 = p.2 in
    let s = c.args.self.now in
    let d = c.args.document in
    let why = rw c.world.ensures at c.in_err-newer.ensures.opened in
    rw (p.1, same) (read_not (OpensAs (Some d.world)) (OldUndoes s.file.now s.manner s.replica (d.world, d.edits)) c.args.file c.in_err-newer.field-0.0 why)

pub returns-clause-leads : goal.returns-clause-leads
returns-clause-leads c =
    let s = c.args.self.now in
    let d = c.args.document in
    let n = c.in_ok-newer.newer in
    let opens = rw c.world.ensures at c.in_ok-newer.ensures.opened in (
      c.requires,
      read_led (new_of (meaning_of s.source)) (OpensAs (Some d.world)) (λ n. OldAsks (old_of (meaning_of s.source)) (d.world, d.edits)) (OldUndoes s.file.now s.manner s.replica (d.world, d.edits))
          c.args.file (n.world, n.edits) opens,
    )
