use Rattle.std.proofs.Common.{◌≡◌, refl}
use Rattle.std.proofs.lemmas.Result.{err_from_is_err_and}
use Rattle.zed_files.specs.Asked.{reading}
use Rattle.zed_files.specs.Texts.{texts_of}
use Rattle.zed_files.proofs.Asked.{answer_after}
use Rattle.zed_files.proofs.Failures.{handed_on, other_tells}
use Rattle.zed_files.proofs.OffStage.{keys_uncounted, off_on, screen_uncounted}
use Rattle.zed_terminal.specs.Devices.{chances}
use Rattle.zed_terminal.specs.Stage.{Stage, stage}
use Rattle.cmd_play.proofs.Boarding.{or_other, performed_of, unread}
use Rattle.cmd_play.proofs.boards.perform.Goals as goal

pub returns-in_err-document-clause-performed : goal.returns-in_err-document-clause-performed
returns-in_err-document-clause-performed g c = λ t at.
    let before : Stage = stage (g.T.Terminal.drawn c.args.terminal.now) (g.T.Terminal.draws_foretell c.args.terminal.now) (g.I.Inputs.left c.args.inputs.now) (g.I.Inputs.inputs_foretell c.args.inputs.now) (chances (g.C.Chance.to_come c.args.chance.now) (g.C.Chance.chance_failures c.args.chance.now)) in
    let p = err_from_is_err_and c.from_residual.result c.from_residual.ensures.1 in
    let same : p.0 ≡ c.in_err-document.field-0.0 = p.2 in
    rw (p.1, same) (unread _ t c.args.going c.args.board c.args.size c.args.words.items (texts_of c.args.files.now) before c.in_err-document.field-0.0 (c.in_err-document.ensures.collected t at))

pub returns-clause-performed : goal.returns-clause-performed
returns-clause-performed g c = λ t at.
    let before : Stage = stage (g.T.Terminal.drawn c.args.terminal.now) (g.T.Terminal.draws_foretell c.args.terminal.now) (g.I.Inputs.left c.args.inputs.now) (g.I.Inputs.inputs_foretell c.args.inputs.now) (chances (g.C.Chance.to_come c.args.chance.now) (g.C.Chance.chance_failures c.args.chance.now)) in
    let after : Stage = stage (g.T.Terminal.drawn c.play_board.new.terminal) (g.T.Terminal.draws_foretell c.play_board.new.terminal) (g.I.Inputs.left c.play_board.new.inputs) (g.I.Inputs.inputs_foretell c.play_board.new.inputs) (chances (g.C.Chance.to_come c.play_board.new.chance) (g.C.Chance.chance_failures c.play_board.new.chance)) in
    performed_of _ t c.args.going c.from.result c.args.board c.args.size c.args.words.items (texts_of c.args.files.now) c.in_ok-document.document.edits before after c.play_board.result
    c.from.ensures (c.in_ok-document.ensures.collected t at) c.play_board.ensures.performs

pub returns-in_err-document-clause-failures : goal.returns-in_err-document-clause-failures
returns-in_err-document-clause-failures g c =
    handed_on g.H.Host.faults g.H.Host.failed c.from_residual.result c.in_err-document.field-0.0 _ _ c.from_residual.ensures.1 c.in_err-document.ensures.failures

pub returns-clause-failures : goal.returns-clause-failures
returns-clause-failures g c =
    other_tells g.H.Host.faults g.H.Host.failed _ _ c.play_board.result _ _ c.in_ok-document.ensures.failures.0 (or_other c.play_board.result c.play_board.ensures.other) (λ e other. other)

pub returns-in_err-document-clause-asked : goal.returns-in_err-document-clause-asked
returns-in_err-document-clause-asked g c =
    let p = err_from_is_err_and c.from_residual.result c.from_residual.ensures.1 in
    let same : p.0 ≡ c.in_err-document.field-0.0 = p.2 in
    rw (p.1, same) c.in_err-document.ensures.asked

pub returns-clause-asked : goal.returns-clause-asked
returns-clause-asked g c =
    answer_after _ _ g.H.Host.called (reading (texts_of c.args.files.now)) c.play_board.result _ _ c.in_ok-document.ensures.asked (or_other c.play_board.result c.play_board.ensures.other) (λ e other. other)

-- files tell of no terminal, and of no source of keys
pub returns-in_err-document-clause-key_faults : goal.returns-in_err-document-clause-key_faults
returns-in_err-document-clause-key_faults g c =
    keys_uncounted c.from_residual.result _ _ (off_on c.from_residual.result c.in_err-document.field-0.0 c.from_residual.ensures.1 c.in_err-document.ensures.err) refl

pub returns-in_err-document-clause-screen_faults : goal.returns-in_err-document-clause-screen_faults
returns-in_err-document-clause-screen_faults g c =
    screen_uncounted c.from_residual.result _ _ (off_on c.from_residual.result c.in_err-document.field-0.0 c.from_residual.ensures.1 c.in_err-document.ensures.err) refl
