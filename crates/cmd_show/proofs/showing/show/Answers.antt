use Rattle.std.proofs.Common.{◌∙◌, ◌≡◌, None, inr, refl}
use Rattle.std.proofs.lemmas.Result.{err_from_is_err_and}
use Rattle.cmd_show.specs.Stage.{Stage, stage}
use Rattle.zed_files.specs.Texts.{texts_of}
use Rattle.zed_files.specs.Collected.{FirstIsThere}
use Rattle.zed_files.specs.declared.refusal.Refusal.TheVariants.{Memory}
use Rattle.zed_files.proofs.Wanting.{if_err}
use Rattle.cmd_show.proofs.There.{collected_there}
use Rattle.cmd_show.specs.Shown.{ComesToShow}
use Rattle.cmd_show.proofs.Endings.{not_shown, show_ends}
use Rattle.zed_files.proofs.Endings.{refused_ends}
use Rattle.zed_files.proofs.Failures.{handed_on, other_tells}
use Rattle.zed_files.proofs.OffStage.{off_on, screen_uncounted}
use Rattle.cmd_show.proofs.OffStage.{keys_off_on}
use Rattle.cmd_show.proofs.Others.{shown_is_other}
use Rattle.zed_files.specs.Asked.{reading}
use Rattle.zed_files.proofs.Asked.{answer_after}
use Rattle.cmd_show.proofs.showing.show.Goals as goal

pub returns-in_err-document-clause-ends : goal.returns-in_err-document-clause-ends
returns-in_err-document-clause-ends g c = λ t keys source at.
    let old : Stage =
    stage ((goal.Screen-dyn g c.args.screen.now).shown c.args.screen.now.1) ((goal.Screen-dyn g c.args.screen.now).screen_foretells c.args.screen.now.1) keys source in
    let p = err_from_is_err_and c.from_residual.result c.from_residual.ensures.1 in
    let same : p.0 ≡ c.in_err-document.field-0.0 = p.2 in
    rw (p.1, same) (refused_ends _ (ComesToShow _ old old t c.args.limit c.args.board (texts_of c.args.files.now)) t c.in_err-document.field-0.0 _ (c.in_err-document.ensures.kept ∙ at)
    (not_shown _ old c.args.limit c.args.board (texts_of c.args.files.now) t c.in_err-document.field-0.0 (c.in_err-document.ensures.collected t at)))

pub returns-clause-ends : goal.returns-clause-ends
returns-clause-ends g c = λ t keys source at.
    let old : Stage =
    stage ((goal.Screen-dyn g c.args.screen.now).shown c.args.screen.now.1) ((goal.Screen-dyn g c.args.screen.now).screen_foretells c.args.screen.now.1) keys source in
    let new : Stage =
    stage ((goal.Screen-dyn g c.args.screen.now).shown c.show_on.new.screen) ((goal.Screen-dyn g c.args.screen.now).screen_foretells c.show_on.new.screen) keys source in
    show_ends _ old new c.args.limit c.show_on.result c.from.result c.args.board (texts_of c.args.files.now) t c.in_ok-document.document.edits _ (c.in_ok-document.ensures.kept ∙ at)
    c.from.ensures (c.in_ok-document.ensures.collected t at) (c.show_on.ensures.shows keys source)

pub returns-in_err-document-clause-failures : goal.returns-in_err-document-clause-failures
returns-in_err-document-clause-failures g c =
    handed_on g.H.Host.faults g.H.Host.failed c.from_residual.result c.in_err-document.field-0.0 _ _ c.from_residual.ensures.1 c.in_err-document.ensures.failures

pub returns-clause-failures : goal.returns-clause-failures
returns-clause-failures g c =
    let old : Stage =
    stage ((goal.Screen-dyn g c.args.screen.now).shown c.args.screen.now.1) ((goal.Screen-dyn g c.args.screen.now).screen_foretells c.args.screen.now.1) None None in
    let new : Stage =
    stage ((goal.Screen-dyn g c.args.screen.now).shown c.show_on.new.screen) ((goal.Screen-dyn g c.args.screen.now).screen_foretells c.show_on.new.screen) None None in
    other_tells g.H.Host.faults g.H.Host.failed _ _ c.show_on.result _ _ c.in_ok-document.ensures.failures.0 (c.show_on.ensures.shows None None) (shown_is_other c.args.limit c.in_ok-document.document.edits c.from.result old new)

pub returns-in_err-document-clause-asked : goal.returns-in_err-document-clause-asked
returns-in_err-document-clause-asked g c =
    let p = err_from_is_err_and c.from_residual.result c.from_residual.ensures.1 in
    let same : p.0 ≡ c.in_err-document.field-0.0 = p.2 in
    rw (p.1, same) c.in_err-document.ensures.asked

pub returns-clause-asked : goal.returns-clause-asked
returns-clause-asked g c =
    let old : Stage =
    stage ((goal.Screen-dyn g c.args.screen.now).shown c.args.screen.now.1) ((goal.Screen-dyn g c.args.screen.now).screen_foretells c.args.screen.now.1) None None in
    let new : Stage =
    stage ((goal.Screen-dyn g c.args.screen.now).shown c.show_on.new.screen) ((goal.Screen-dyn g c.args.screen.now).screen_foretells c.show_on.new.screen) None None in
    answer_after _ _ g.H.Host.called (reading (texts_of c.args.files.now)) c.show_on.result _ _ c.in_ok-document.ensures.asked (c.show_on.ensures.shows None None) (shown_is_other c.args.limit c.in_ok-document.document.edits c.from.result old new)

pub returns-in_err-document-clause-once : goal.returns-in_err-document-clause-once
returns-in_err-document-clause-once g c =
    let p = err_from_is_err_and c.from_residual.result c.from_residual.ensures.1 in
    rw p.1 (inr refl)

-- files tell of no screen
pub returns-in_err-document-clause-screen_faults : goal.returns-in_err-document-clause-screen_faults
returns-in_err-document-clause-screen_faults g c =
    screen_uncounted c.from_residual.result _ _ (off_on c.from_residual.result c.in_err-document.field-0.0 c.from_residual.ensures.1 c.in_err-document.ensures.err) refl

-- nor of a source of keys
pub returns-in_err-document-clause-err : goal.returns-in_err-document-clause-err
returns-in_err-document-clause-err g c =
    keys_off_on c.from_residual.result c.in_err-document.field-0.0 c.from_residual.ensures.1 c.in_err-document.ensures.err.1

-- memory is lacking only behind a file that is there
pub returns-in_err-document-clause-memory_only_when : goal.returns-in_err-document-clause-memory_only_when
returns-in_err-document-clause-memory_only_when g c = λ t at.
    let p = err_from_is_err_and c.from_residual.result c.from_residual.ensures.1 in
    let same : p.0 ≡ c.in_err-document.field-0.0 = p.2 in
    rw (p.1, same) (c.in_err-document.ensures.memory_only_when t at)

pub returns-clause-memory_only_when : goal.returns-clause-memory_only_when
returns-clause-memory_only_when g c = λ t at.
    if_err c.show_on.result (λ e. e ≡ Memory → FirstIsThere t (texts_of c.args.files.now))
    (λ e lack. collected_there _ t (texts_of c.args.files.now) c.in_ok-document.document.edits (c.in_ok-document.ensures.collected t at))
