use Rattle.std.proofs.Common.{◌≡◌, ◌∙◌, ap, inl, inr, refl}
use Rattle.std.proofs.lemmas.Result.{err_from_is_err_and}
use Rattle.zed_files.specs.Refusals.{session_refusal}
use Rattle.cmd_show.specs.Stage.{Stage, stage}
use Rattle.cmd_show.proofs.Boards.{passed_board, refused_board}
use Rattle.cmd_show.proofs.OffStage.{keys_off_on, screen_on, unshown_off}
use Rattle.cmd_show.proofs.Played.{not_on_screen, on_screen, shown_of}
use Rattle.cmd_show.proofs.showing.show_on.Goals as goal

pub returns-in_err-show_board-clause-shows : goal.returns-in_err-show_board-clause-shows
returns-in_err-show_board-clause-shows g c = λ keys source.
    let old : Stage =
    stage ((goal.Screen-dyn g c.args.screen.now).shown c.args.screen.now.1) ((goal.Screen-dyn g c.args.screen.now).screen_foretells c.args.screen.now.1) keys source in
    let new : Stage =
    stage ((goal.Screen-dyn g c.args.screen.now).shown c.show_board.new.screen) ((goal.Screen-dyn g c.args.screen.now).screen_foretells c.show_board.new.screen) keys source in
    let p = err_from_is_err_and c.from_residual.result c.from_residual.ensures.1 in
    let same : p.0 ≡ session_refusal c.in_err-show_board.field-0.0 = p.2 in
    let d = c.args.document.now in
    rw (p.1, same) (not_on_screen old new c.args.limit d.edits c.args.board c.in_err-show_board.field-0.0
    (rw (shown_of c.args.limit d c.requires.sound) at c.in_err-show_board.ensures.result) c.in_err-show_board.ensures.foretold
    (elim c.in_err-show_board.ensures.kept [
      | inl fault ↦ inl fault
      | inr stays ↦ inr (ap (λ s. stage ((goal.Screen-dyn g s).shown s.1) ((goal.Screen-dyn g s).screen_foretells s.1) keys source) stays)
    ]))

pub returns-clause-shows : goal.returns-clause-shows
returns-clause-shows g c = λ keys source.
    let old : Stage =
    stage ((goal.Screen-dyn g c.args.screen.now).shown c.args.screen.now.1) ((goal.Screen-dyn g c.args.screen.now).screen_foretells c.args.screen.now.1) keys source in
    let new : Stage =
    stage ((goal.Screen-dyn g c.args.screen.now).shown c.show_board.new.screen) ((goal.Screen-dyn g c.args.screen.now).screen_foretells c.show_board.new.screen) keys source in
    let d = c.args.document.now in
    on_screen old new c.args.limit d.edits c.args.board c.in_ok-show_board.field-0
    (rw (shown_of c.args.limit d c.requires.sound) at c.in_ok-show_board.ensures.result) c.in_ok-show_board.ensures.foretold

-- the screen was called once, and failed, or not at all
pub returns-in_err-show_board-clause-once : goal.returns-in_err-show_board-clause-once
returns-in_err-show_board-clause-once g c =
    let p = err_from_is_err_and c.from_residual.result c.from_residual.ensures.1 in
    let same : p.0 ≡ session_refusal c.in_err-show_board.field-0.0 = p.2 in
    rw p.1 (elim c.in_err-show_board.ensures.kept [
      | inl fault ↦ inl (same ∙ ap session_refusal fault, rw fault at c.in_err-show_board.ensures.foretold)
      | inr stays ↦ inr stays
    ])

-- its fault is told where it failed
pub returns-in_err-show_board-clause-screen_faults : goal.returns-in_err-show_board-clause-screen_faults
returns-in_err-show_board-clause-screen_faults g c =
    screen_on (Unit {0}) c.from_residual.result c.in_err-show_board.field-0.0 _ _ _ c.from_residual.ensures.1 refl c.in_err-show_board.ensures.screen_faults

-- no source of keys is told of
pub returns-in_err-show_board-clause-err : goal.returns-in_err-show_board-clause-err
returns-in_err-show_board-clause-err g c =
    keys_off_on c.from_residual.result (session_refusal c.in_err-show_board.field-0.0) c.from_residual.ensures.1
    (unshown_off _ c.args.board _ _ c.in_err-show_board.field-0.0 c.in_err-show_board.ensures.result)

-- where there is no such board, that is told
pub returns-in_err-show_board-clause-no_board : goal.returns-in_err-show_board-clause-no_board
returns-in_err-show_board-clause-no_board g c =
    let p = err_from_is_err_and c.from_residual.result c.from_residual.ensures.1 in
    let same : p.0 ≡ session_refusal c.in_err-show_board.field-0.0 = p.2 in
    rw (p.1, same) (refused_board _ _ c.args.board _ c.in_err-show_board.field-0.0 (rw (shown_of c.args.limit c.args.document.now c.requires.sound) at c.in_err-show_board.ensures.result))

pub returns-clause-no_board : goal.returns-clause-no_board
returns-clause-no_board g c =
    passed_board _ c.args.board _ c.in_ok-show_board.field-0 _ (rw (shown_of c.args.limit c.args.document.now c.requires.sound) at c.in_ok-show_board.ensures.result)
