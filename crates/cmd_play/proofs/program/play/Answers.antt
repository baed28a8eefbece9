use Rattle.std.proofs.Common.{◌≡◌, [], ◌∷◌, None, Ok, Err, drop, subst, sym}
use Rattle.std.proofs.lemmas.Result.{err_from_is_err_and}
use Rattle.zed_host.specs.Calls.{Printing}
use Rattle.zed_host.specs.Counting.{Rose}
use Rattle.zed_host.proofs.Counts.{counted_up}
use Rattle.zed_files.specs.Asked.{refusal_in}
use Rattle.zed_files.specs.Texts.{text_in, texts_of}
use Rattle.zed_files.proofs.Failures.{handed_on, write_tells}
use Rattle.zed_terminal.specs.Devices.{chances}
use Rattle.zed_terminal.specs.Stage.{stage}
use Rattle.cmd_play.specs.Ending.{EndsKept, request}
use Rattle.cmd_play.specs.Led.{Led}
use Rattle.cmd_play.proofs.Asking.{print_refuses, told_asks, untold_asks}
use Rattle.cmd_play.proofs.Kept.{left_led, refused_ends, told_ends}
use Rattle.cmd_play.proofs.program.play.Goals as goal

pub returns-in_err-text-clause-ends : goal.returns-in_err-text-clause-ends
returns-in_err-text-clause-ends g c = λ t at.
    let p = err_from_is_err_and c.from_residual.result c.from_residual.ensures.1 in
    let same : p.0 ≡ c.in_err-text.field-0.0 = p.2 in
    let failed = Rose (g.H.Host.faults c.args.host.now) (g.H.Host.faults c.play_and_keep-told.new.host) in
    let asked = request (text_in c.args.words) (text_in c.args.keys) c.args.going c.args.size c.args.board (texts_of c.args.files.now) in
    let now = c.play_and_keep-told.new.console in
    let before = stage (g.T.Terminal.drawn c.args.console.now.terminal) (g.T.Terminal.draws_foretell c.args.console.now.terminal) (g.I.Inputs.left c.args.console.now.inputs.source) None
    (chances (g.C.Chance.to_come c.args.console.now.chance) (g.C.Chance.chance_failures c.args.console.now.chance)) in
    rw (p.1, same) (refused_ends failed t asked _ c.in_err-text.field-0.0 _
    (left_led (λ l. EndsKept failed t asked l (Err c.in_err-text.field-0.0) (g.H.Host.contents c.play_and_keep-told.new.host)) before (drop now.inputs.taken now.inputs.kept.items)
    (g.T.Terminal.drawn now.terminal) (g.T.Terminal.drawn c.leave.new.self) (g.T.Terminal.draws_foretell now.terminal) (g.T.Terminal.draws_foretell c.leave.new.self)
    (g.I.Inputs.left now.inputs.source) (chances (g.C.Chance.to_come now.chance) (g.C.Chance.chance_failures now.chance)) c.leave.ensures.drawn c.leave.ensures.foretold (c.in_err-text.ensures.ends t at)))

pub returns-clause-ends : goal.returns-clause-ends
returns-clause-ends g c = λ t at.
    let failed = Rose (g.H.Host.faults c.args.host.now) (g.H.Host.faults c.play_and_keep-told.new.host) in
    let asked = request (text_in c.args.words) (text_in c.args.keys) c.args.going c.args.size c.args.board (texts_of c.args.files.now) in
    let now = c.play_and_keep-told.new.console in
    let held = g.H.Host.contents c.play_and_keep-told.new.host in
    let before = stage (g.T.Terminal.drawn c.args.console.now.terminal) (g.T.Terminal.draws_foretell c.args.console.now.terminal) (g.I.Inputs.left c.args.console.now.inputs.source) None
    (chances (g.C.Chance.to_come c.args.console.now.chance) (g.C.Chance.chance_failures c.args.console.now.chance)) in
    let moved : Led = record {
      before = before;
      rest = drop now.inputs.taken now.inputs.kept.items;
      behind = stage (g.T.Terminal.drawn now.terminal) (g.T.Terminal.draws_foretell now.terminal) (g.I.Inputs.left now.inputs.source) None (chances (g.C.Chance.to_come now.chance) (g.C.Chance.chance_failures now.chance));
    } in
    told_ends c.print_out.result (g.H.Host.faults c.args.host.now) (g.H.Host.faults c.play_and_keep-told.new.host) (g.H.Host.faults c.print_out.new.host) t asked _ c.as_slice.result.now held _
    c.in_ok-text.ensures.failures.0.0 (counted_up _ _ _ c.print_out.ensures.faults)
    (left_led (λ l. EndsKept failed t asked l (Ok c.as_slice.result.now) held) before (drop now.inputs.taken now.inputs.kept.items)
    (g.T.Terminal.drawn now.terminal) (g.T.Terminal.drawn c.leave.new.self) (g.T.Terminal.draws_foretell now.terminal) (g.T.Terminal.draws_foretell c.leave.new.self)
    (g.I.Inputs.left now.inputs.source) (chances (g.C.Chance.to_come now.chance) (g.C.Chance.chance_failures now.chance)) c.leave.ensures.drawn c.leave.ensures.foretold
    (subst (λ text. EndsKept failed t asked moved (Ok text) held) (sym c.as_slice.ensures.value) (c.in_ok-text.ensures.ends t at)))
    (λ u is. c.print_out.ensures.ok u is) (λ u is. c.print_out.ensures.half u is) c.print_out.ensures.err c.print_out.ensures.faults

pub returns-in_err-text-clause-asked : goal.returns-in_err-text-clause-asked
returns-in_err-text-clause-asked g c =
    let p = err_from_is_err_and c.from_residual.result c.from_residual.ensures.1 in
    let same : p.0 ≡ c.in_err-text.field-0.0 = p.2 in
    rw (p.1, same) (untold_asks g.H.Host.called (text_in c.args.words) (text_in c.args.keys) (texts_of c.args.files.now) _ (Printing ∷ []) c.in_err-text.field-0.0 _ _
    c.in_err-text.ensures.asked)

pub returns-clause-asked : goal.returns-clause-asked
returns-clause-asked g c =
    told_asks g.H.Host.called (text_in c.args.words) (text_in c.args.keys) (texts_of c.args.files.now) _ (Printing ∷ []) (refusal_in c.print_out.result) _ _ _
    (print_refuses c.print_out.result c.print_out.ensures.err) c.in_ok-text.ensures.asked c.print_out.ensures.asked

pub returns-in_err-text-clause-failures : goal.returns-in_err-text-clause-failures
returns-in_err-text-clause-failures g c =
    handed_on g.H.Host.faults g.H.Host.failed c.from_residual.result c.in_err-text.field-0.0 _ _ c.from_residual.ensures.1 c.in_err-text.ensures.failures

pub returns-clause-failures : goal.returns-clause-failures
returns-clause-failures g c =
    write_tells g.H.Host.faults g.H.Host.failed c.print_out.result _ _ _ c.in_ok-text.ensures.failures.0 c.print_out.ensures.faults c.print_out.ensures.failures
