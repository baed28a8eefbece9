use Rattle.std.proofs.Common.{◌≡◌, ◌∙◌}
use Rattle.std.proofs.lemmas.Result.{err_from_is_err_and}
use Rattle.cmd_show.specs.Stage.{Stage, stage}
use Rattle.zed_files.specs.Texts.{texts_of}
use Rattle.cmd_show.specs.Shown.{chances_in}
use Rattle.cmd_show.proofs.Endings.{not_collected, not_read, played_result}
use Rattle.zed_files.proofs.Failures.{handed_later, handed_on, memory_is_other, memory_on, none_later, other_tells}
use Rattle.cmd_show.proofs.Idle.{unbegun}
use Rattle.cmd_show.proofs.Others.{or_memory, played_is_other}
use Rattle.zed_files.specs.declared.refusal.Refusal.TheVariants.{Memory}
use Rattle.zed_files.proofs.OffStage.{keys_uncounted, off_on, screen_uncounted, unread_off}
use Rattle.std.proofs.Common.{◌∷◌, None, Some, ap, is_some, refl, true}
use Rattle.zed_host.specs.Calls.{Reading}
use Rattle.zed_files.specs.Asked.{reading}
use Rattle.zed_host.specs.HostContents.{file_in}
use Rattle.zed_files.proofs.Wanting.{if_err}
use Rattle.zed_files.proofs.Asked.{answer_after, read_before, read_refused, read_then_stopped}
use Rattle.cmd_show.proofs.playing.played.Goals as goal

pub returns-in_err-bytes-clause-played : goal.returns-in_err-bytes-clause-played
returns-in_err-bytes-clause-played g c = λ t at.
    let old : Stage =
    stage ((goal.Screen-dyn g c.args.screen.now).shown c.args.screen.now.1)
    ((goal.Screen-dyn g c.args.screen.now).screen_foretells c.args.screen.now.1)
    ((goal.Keys-dyn g c.args.keys.now).left c.args.keys.now.1)
    ((goal.Keys-dyn g c.args.keys.now).keys_foretell c.args.keys.now.1) in
    let p = err_from_is_err_and c.from_residual.result c.from_residual.ensures.1 in
    let same : p.0 ≡ c.in_err-bytes.field-0.0 = p.2 in
    rw (p.1, same) (not_read _ old t c.args.limit c.args.board c.args.chance.now (texts_of c.args.files.now) c.in_err-bytes.field-0.0
    c.in_err-bytes.ensures.err (c.in_err-bytes.ensures.none t at))

pub returns-in_err-document-clause-played : goal.returns-in_err-document-clause-played
returns-in_err-document-clause-played g c = λ t at.
    let old : Stage =
    stage ((goal.Screen-dyn g c.args.screen.now).shown c.args.screen.now.1)
    ((goal.Screen-dyn g c.args.screen.now).screen_foretells c.args.screen.now.1)
    ((goal.Keys-dyn g c.args.keys.now).left c.args.keys.now.1)
    ((goal.Keys-dyn g c.args.keys.now).keys_foretell c.args.keys.now.1) in
    let p = err_from_is_err_and c.from_residual-in_err-document.result c.from_residual-in_err-document.ensures.1 in
    let same : p.0 ≡ c.in_err-document.field-0.0 = p.2 in
    let here = c.in_ok-bytes.ensures.kept ∙ at in
    rw (p.1, same) (not_collected _ old t c.args.limit c.args.board c.args.chance.now c.in_ok-bytes.bytes.items (texts_of c.args.files.now) c.in_err-document.field-0.0
    (c.in_ok-bytes.ensures.bytes t at) (rw c.in_ok-bytes.ensures.calm at (c.in_err-document.ensures.collected t here)))

pub returns-clause-played : goal.returns-clause-played
returns-clause-played g c = λ t at.
    let old : Stage =
    stage ((goal.Screen-dyn g c.args.screen.now).shown c.args.screen.now.1)
    ((goal.Screen-dyn g c.args.screen.now).screen_foretells c.args.screen.now.1)
    ((goal.Keys-dyn g c.args.keys.now).left c.args.keys.now.1)
    ((goal.Keys-dyn g c.args.keys.now).keys_foretell c.args.keys.now.1) in
    let new : Stage =
    stage ((goal.Screen-dyn g c.args.screen.now).shown c.play_board.new.screen)
    ((goal.Screen-dyn g c.args.screen.now).screen_foretells c.play_board.new.screen)
    ((goal.Keys-dyn g c.args.keys.now).left c.play_board.new.keys)
    ((goal.Keys-dyn g c.args.keys.now).keys_foretell c.play_board.new.keys) in
    let here = c.in_ok-bytes.ensures.kept ∙ at in
    let words : c.as_slice-2.result.now ≡ chances_in c.in_ok-bytes.bytes.items =
    c.as_slice-2.ensures.value ∙ rw c.as_slice.ensures.value at c.in_ok-words.ensures.words in
    played_result _ old new c.args.limit c.play_board.result t c.from.result c.args.board c.args.chance.now c.in_ok-bytes.bytes.items c.as_slice-2.result.now (texts_of c.args.files.now)
    c.in_ok-document.document.edits c.from.ensures words (c.in_ok-bytes.ensures.bytes t at) (rw c.in_ok-bytes.ensures.calm at (c.in_ok-document.ensures.collected t here)) c.play_board.ensures.plays

pub returns-in_err-bytes-clause-failures : goal.returns-in_err-bytes-clause-failures
returns-in_err-bytes-clause-failures g c =
    handed_on g.H.Host.faults g.H.Host.failed c.from_residual.result c.in_err-bytes.field-0.0 _ _ c.from_residual.ensures.1 c.in_err-bytes.ensures.failures

pub returns-in_err-words-clause-failures : goal.returns-in_err-words-clause-failures
returns-in_err-words-clause-failures g c =
    memory_on g.H.Host.faults g.H.Host.failed c.from_residual-in_err-words.result _ _ c.from_residual-in_err-words.ensures.1 c.in_ok-bytes.ensures.failures.0

pub returns-in_err-document-clause-failures : goal.returns-in_err-document-clause-failures
returns-in_err-document-clause-failures g c =
    handed_later g.H.Host.faults g.H.Host.failed c.from_residual-in_err-document.result c.in_err-document.field-0.0 _ _ _ c.from_residual-in_err-document.ensures.1
    c.in_ok-bytes.ensures.failures.0 c.in_err-document.ensures.failures

pub returns-clause-failures : goal.returns-clause-failures
returns-clause-failures g c =
    let old : Stage =
    stage ((goal.Screen-dyn g c.args.screen.now).shown c.args.screen.now.1)
    ((goal.Screen-dyn g c.args.screen.now).screen_foretells c.args.screen.now.1)
    ((goal.Keys-dyn g c.args.keys.now).left c.args.keys.now.1)
    ((goal.Keys-dyn g c.args.keys.now).keys_foretell c.args.keys.now.1) in
    let new : Stage =
    stage ((goal.Screen-dyn g c.args.screen.now).shown c.play_board.new.screen)
    ((goal.Screen-dyn g c.args.screen.now).screen_foretells c.play_board.new.screen)
    ((goal.Keys-dyn g c.args.keys.now).left c.play_board.new.keys)
    ((goal.Keys-dyn g c.args.keys.now).keys_foretell c.play_board.new.keys) in
    let none = none_later g.H.Host.faults g.H.Host.failed _ _ _ c.in_ok-bytes.ensures.failures.0 c.in_ok-document.ensures.failures.0 in
    other_tells g.H.Host.faults g.H.Host.failed _ _ c.play_board.result _ _ none (or_memory _ _ _ c.play_board.result c.play_board.ensures.plays)
    (played_is_other c.args.limit c.in_ok-document.document.edits c.from.result old new c.as_slice-2.result.now)

pub returns-in_err-bytes-clause-asked : goal.returns-in_err-bytes-clause-asked
returns-in_err-bytes-clause-asked g c =
    let p = err_from_is_err_and c.from_residual.result c.from_residual.ensures.1 in
    let same : p.0 ≡ c.in_err-bytes.field-0.0 = p.2 in
    rw (p.1, same) (read_refused g.H.Host.called c.args.chance.now (reading (texts_of c.args.files.now)) c.in_err-bytes.field-0.0 _ _ c.in_err-bytes.ensures.asked c.in_err-bytes.ensures.err)

pub returns-in_err-words-clause-asked : goal.returns-in_err-words-clause-asked
returns-in_err-words-clause-asked g c =
    let p = err_from_is_err_and c.from_residual-in_err-words.result c.from_residual-in_err-words.ensures.1 in
    rw p.1 (read_then_stopped g.H.Host.called c.args.chance.now (reading (texts_of c.args.files.now)) p.0 _ _ (memory_is_other p.0 p.2) c.in_ok-bytes.ensures.asked)

pub returns-in_err-document-clause-asked : goal.returns-in_err-document-clause-asked
returns-in_err-document-clause-asked g c =
    let p = err_from_is_err_and c.from_residual-in_err-document.result c.from_residual-in_err-document.ensures.1 in
    let same : p.0 ≡ c.in_err-document.field-0.0 = p.2 in
    rw (p.1, same) (read_before g.H.Host.called (Reading c.args.chance.now) (reading (texts_of c.args.files.now)) (Some c.in_err-document.field-0.0) _ _ _ c.in_ok-bytes.ensures.asked c.in_err-document.ensures.asked)

pub returns-clause-asked : goal.returns-clause-asked
returns-clause-asked g c =
    let old : Stage =
    stage ((goal.Screen-dyn g c.args.screen.now).shown c.args.screen.now.1)
    ((goal.Screen-dyn g c.args.screen.now).screen_foretells c.args.screen.now.1)
    ((goal.Keys-dyn g c.args.keys.now).left c.args.keys.now.1)
    ((goal.Keys-dyn g c.args.keys.now).keys_foretell c.args.keys.now.1) in
    let new : Stage =
    stage ((goal.Screen-dyn g c.args.screen.now).shown c.play_board.new.screen)
    ((goal.Screen-dyn g c.args.screen.now).screen_foretells c.play_board.new.screen)
    ((goal.Keys-dyn g c.args.keys.now).left c.play_board.new.keys)
    ((goal.Keys-dyn g c.args.keys.now).keys_foretell c.play_board.new.keys) in
    answer_after _ _ g.H.Host.called (reading (c.args.chance.now ∷ texts_of c.args.files.now)) c.play_board.result _ _
    (read_before g.H.Host.called (Reading c.args.chance.now) (reading (texts_of c.args.files.now)) None _ _ _ c.in_ok-bytes.ensures.asked c.in_ok-document.ensures.asked)
    (or_memory _ _ _ c.play_board.result c.play_board.ensures.plays) (played_is_other c.args.limit c.in_ok-document.document.edits c.from.result old new c.as_slice-2.result.now)

-- nothing was asked of screen and keys before a playtest was begun
pub returns-in_err-bytes-clause-idle : goal.returns-in_err-bytes-clause-idle
returns-in_err-bytes-clause-idle g c = unbegun c.from_residual.result _ (refl, refl)

pub returns-in_err-words-clause-idle : goal.returns-in_err-words-clause-idle
returns-in_err-words-clause-idle g c = unbegun c.from_residual-in_err-words.result _ (refl, refl)

pub returns-in_err-document-clause-idle : goal.returns-in_err-document-clause-idle
returns-in_err-document-clause-idle g c = unbegun c.from_residual-in_err-document.result _ (refl, refl)

-- files tell of no screen, and of no source of keys
pub returns-in_err-bytes-clause-key_faults : goal.returns-in_err-bytes-clause-key_faults
returns-in_err-bytes-clause-key_faults g c =
    keys_uncounted c.from_residual.result _ _ (off_on c.from_residual.result c.in_err-bytes.field-0.0 c.from_residual.ensures.1 (unread_off c.in_err-bytes.field-0.0 c.in_err-bytes.ensures.err)) refl

pub returns-in_err-bytes-clause-screen_faults : goal.returns-in_err-bytes-clause-screen_faults
returns-in_err-bytes-clause-screen_faults g c =
    screen_uncounted c.from_residual.result _ _ (off_on c.from_residual.result c.in_err-bytes.field-0.0 c.from_residual.ensures.1 (unread_off c.in_err-bytes.field-0.0 c.in_err-bytes.ensures.err)) refl

pub returns-in_err-words-clause-key_faults : goal.returns-in_err-words-clause-key_faults
returns-in_err-words-clause-key_faults g c =
    keys_uncounted c.from_residual-in_err-words.result _ _ (off_on c.from_residual-in_err-words.result Memory c.from_residual-in_err-words.ensures.1 (refl, refl)) refl

pub returns-in_err-words-clause-screen_faults : goal.returns-in_err-words-clause-screen_faults
returns-in_err-words-clause-screen_faults g c =
    screen_uncounted c.from_residual-in_err-words.result _ _ (off_on c.from_residual-in_err-words.result Memory c.from_residual-in_err-words.ensures.1 (refl, refl)) refl

pub returns-in_err-document-clause-key_faults : goal.returns-in_err-document-clause-key_faults
returns-in_err-document-clause-key_faults g c =
    keys_uncounted c.from_residual-in_err-document.result _ _ (off_on c.from_residual-in_err-document.result c.in_err-document.field-0.0 c.from_residual-in_err-document.ensures.1 c.in_err-document.ensures.err) refl

pub returns-in_err-document-clause-screen_faults : goal.returns-in_err-document-clause-screen_faults
returns-in_err-document-clause-screen_faults g c =
    screen_uncounted c.from_residual-in_err-document.result _ _ (off_on c.from_residual-in_err-document.result c.in_err-document.field-0.0 c.from_residual-in_err-document.ensures.1 c.in_err-document.ensures.err) refl

-- memory is lacking only behind the file of chance
pub returns-in_err-bytes-clause-memory_only_when : goal.returns-in_err-bytes-clause-memory_only_when
returns-in_err-bytes-clause-memory_only_when g c = λ t at.
    let p = err_from_is_err_and c.from_residual.result c.from_residual.ensures.1 in
    let same : p.0 ≡ c.in_err-bytes.field-0.0 = p.2 in
    rw (p.1, same) (c.in_err-bytes.ensures.memory_only_when t at)

pub returns-in_err-words-clause-memory_only_when : goal.returns-in_err-words-clause-memory_only_when
returns-in_err-words-clause-memory_only_when g c = λ t at.
    if_err c.from_residual-in_err-words.result (λ e. e ≡ Memory → is_some (file_in t c.args.chance.now) ≡ true)
    (λ e lack. ap is_some (c.in_ok-bytes.ensures.bytes t at))

pub returns-in_err-document-clause-memory_only_when : goal.returns-in_err-document-clause-memory_only_when
returns-in_err-document-clause-memory_only_when g c = λ t at.
    if_err c.from_residual-in_err-document.result (λ e. e ≡ Memory → is_some (file_in t c.args.chance.now) ≡ true)
    (λ e lack. ap is_some (c.in_ok-bytes.ensures.bytes t at))

pub returns-clause-memory_only_when : goal.returns-clause-memory_only_when
returns-clause-memory_only_when g c = λ t at.
    if_err c.play_board.result (λ e. e ≡ Memory → is_some (file_in t c.args.chance.now) ≡ true)
    (λ e lack. ap is_some (c.in_ok-bytes.ensures.bytes t at))
