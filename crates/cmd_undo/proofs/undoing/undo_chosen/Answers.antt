use Rattle.std.proofs.Common.{◌≡◌}
use Rattle.std.proofs.lemmas.Result.{err_from_is_err_and}
use Rattle.zed_undo.specs.Choosing.{wanted_of}
use Rattle.cmd_undo.proofs.Steps.{chosen_declined, chosen_not, chosen_on}
use Rattle.cmd_undo.proofs.undoing.undo_chosen.Goals as goal

pub chosen-requires : goal.chosen-requires
chosen-requires c = c.requires

pub returns-in_err-marks : goal.returns-in_err-marks
returns-in_err-marks c =
    let p = err_from_is_err_and c.from_residual.result c.from_residual.ensures.1 in
    let same : p.0 ≡ c.in_err-marks.field-0.0 = p.2 in
    let d = c.args.document.now in
    rw (p.1, same) (chosen_not c.args.file.now c.args.manner c.args.replica (wanted_of c.args.choice.now) (d.world, d.edits) c.in_err-marks.field-0.0 c.in_err-marks.ensures)

pub returns-in-Some : goal.returns-in-Some
returns-in-Some c =
    let d = c.args.document.now in
    let is = rw c.in-Some.is at c.first_missing.ensures in
    chosen_declined c.args.file.now c.args.manner c.args.replica (wanted_of c.args.choice.now) (d.world, d.edits) c.in_ok-marks.marks.items _ c.missed.result c.in_ok-marks.ensures is
    c.missed.ensures

pub undo_marked-requires : goal.undo_marked-requires
undo_marked-requires c = c.requires

pub returns : goal.returns
returns c =
    let d = c.args.document.now in
    let is = rw c.in-None.is at c.first_missing.ensures in
    let undoes = rw c.as_slice.ensures.value at c.undo_marked.ensures in
    chosen_on c.args.file.now c.args.manner c.args.replica (wanted_of c.args.choice.now) (d.world, d.edits) c.in_ok-marks.marks.items c.undo_marked.result c.in_ok-marks.ensures is undoes
