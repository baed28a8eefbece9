use Rattle.std.proofs.Common.{◌≡◌, refl}
use Rattle.std.proofs.lemmas.Result.{err_from_is_err_and}
use Rattle.zed_files.proofs.OffStage.{keys_uncounted, off_on, screen_uncounted}
use Rattle.cmd_play.specs.Opening.{opened, over_edits}
use Rattle.zed_terminal.specs.Devices.{chances}
use Rattle.zed_terminal.specs.Stage.{Stage, stage}
use Rattle.cmd_play.proofs.Boarding.{other_on, performed, unopened}
use Rattle.cmd_play.proofs.boards.play_board.Goals as goal

pub returns-in_err-begun-clause-performs : goal.returns-in_err-begun-clause-performs
returns-in_err-begun-clause-performs g c =
    let before : Stage = stage (g.T.Terminal.drawn c.args.terminal.now) (g.T.Terminal.draws_foretell c.args.terminal.now) (g.I.Inputs.left c.args.inputs.now) (g.I.Inputs.inputs_foretell c.args.inputs.now) (chances (g.C.Chance.to_come c.args.chance.now) (g.C.Chance.chance_failures c.args.chance.now)) in
    let p = err_from_is_err_and c.from_residual.result c.from_residual.ensures.1 in
    let same : p.0 ≡ c.in_err-begun.field-0.0 = p.2 in
    rw (p.1, same) (unopened (over_edits c.args.going c.args.document.now.edits) c.args.size (opened c.args.board c.args.document.now.edits) c.args.words.items before c.in_err-begun.field-0.0 c.in_err-begun.ensures.opens)

pub returns-clause-performs : goal.returns-clause-performs
returns-clause-performs g c =
    let before : Stage = stage (g.T.Terminal.drawn c.args.terminal.now) (g.T.Terminal.draws_foretell c.args.terminal.now) (g.I.Inputs.left c.args.inputs.now) (g.I.Inputs.inputs_foretell c.args.inputs.now) (chances (g.C.Chance.to_come c.args.chance.now) (g.C.Chance.chance_failures c.args.chance.now)) in
    let after : Stage = stage (g.T.Terminal.drawn c.play_whole.new.terminal) (g.T.Terminal.draws_foretell c.play_whole.new.terminal) (g.I.Inputs.left c.play_whole.new.inputs) (g.I.Inputs.inputs_foretell c.play_whole.new.inputs) (chances (g.C.Chance.to_come c.play_whole.new.chance) (g.C.Chance.chance_failures c.play_whole.new.chance)) in
    performed (over_edits c.args.going c.args.document.now.edits) c.in_ok-begun.begun.boards.world c.args.size (opened c.args.board c.args.document.now.edits) c.in_ok-begun.begun.play c.args.words.items before after c.play_whole.result c.in_ok-begun.ensures.opens c.in_ok-begun.ensures.boards c.play_whole.ensures.performs

pub returns-in_err-begun-clause-key_faults : goal.returns-in_err-begun-clause-key_faults
returns-in_err-begun-clause-key_faults g c =
    keys_uncounted c.from_residual.result _ _ (off_on c.from_residual.result c.in_err-begun.field-0.0 c.from_residual.ensures.1 c.in_err-begun.ensures.off) refl

pub returns-in_err-begun-clause-screen_faults : goal.returns-in_err-begun-clause-screen_faults
returns-in_err-begun-clause-screen_faults g c =
    screen_uncounted c.from_residual.result _ _ (off_on c.from_residual.result c.in_err-begun.field-0.0 c.from_residual.ensures.1 c.in_err-begun.ensures.off) refl

pub returns-in_err-begun-clause-other : goal.returns-in_err-begun-clause-other
returns-in_err-begun-clause-other g c =
    other_on c.from_residual.result c.in_err-begun.field-0.0 c.from_residual.ensures.1 c.in_err-begun.ensures.other
