use Rattle.std.proofs.Common.{◌≡◌, ◌∙◌, Ok, is_some, refl, true}
use Rattle.std.proofs.lemmas.Result.{err_from_is_err_and}
use Rattle.cmd_show.specs.Stage.{Stage, stage}
use Rattle.cmd_show.specs.Shown.{ComesToPlay}
use Rattle.zed_files.specs.Effects.{Prints}
use Rattle.zed_files.specs.Texts.{texts_of}
use Rattle.zed_host.proofs.Counts.{counted_up}
use Rattle.zed_files.proofs.Endings.{effect_ends, refused_ends}
use Rattle.cmd_show.proofs.Endings.{lacks_for_play, no_memory, not_played, play_so, print_wants_none}
use Rattle.zed_files.proofs.Failures.{handed_on, write_tells}
use Rattle.zed_files.proofs.OffStage.{keys_uncounted, screen_uncounted, written_off}
use Rattle.cmd_show.proofs.Idle.{unprinted, untold}
use Rattle.cmd_show.proofs.OffStage.{keys_told, screen_told}
use Rattle.std.proofs.Common.{[], ◌∷◌}
use Rattle.zed_host.specs.Calls.{Printing}
use Rattle.zed_files.specs.Asked.{reading, refusal_in}
use Rattle.zed_host.specs.HostContents.{file_in}
use Rattle.zed_files.proofs.Asked.{refused_at, then_last}
use Rattle.cmd_show.proofs.playing.play.Goals as goal

pub returns-clause-ends : goal.returns-clause-ends
returns-clause-ends g c = λ t at.
    let old : Stage =
    stage ((goal.Screen-dyn g c.args.screen.now).shown c.args.screen.now.1)
    ((goal.Screen-dyn g c.args.screen.now).screen_foretells c.args.screen.now.1)
    ((goal.Keys-dyn g c.args.keys.now).left c.args.keys.now.1)
    ((goal.Keys-dyn g c.args.keys.now).keys_foretell c.args.keys.now.1) in
    let new : Stage =
    stage ((goal.Screen-dyn g c.args.screen.now).shown c.played.new.screen)
    ((goal.Screen-dyn g c.args.screen.now).screen_foretells c.played.new.screen)
    ((goal.Keys-dyn g c.args.keys.now).left c.played.new.keys)
    ((goal.Keys-dyn g c.args.keys.now).keys_foretell c.played.new.keys) in
    let here = c.in_ok-text.ensures.kept ∙ at in
    let comes : ComesToPlay _ old new t c.args.limit c.args.board c.args.chance.now (texts_of c.args.files.now) (Ok (Prints c.as_slice.result.now)) =
    (Ok c.in_ok-text.text.items, c.in_ok-text.ensures.played t at, rw c.as_slice.ensures.value refl) in (
      effect_ends (λ f. ComesToPlay f old new t c.args.limit c.args.board c.args.chance.now (texts_of c.args.files.now)) c.print_out.result _ _ _ t (Prints c.as_slice.result.now) _
          (play_so old new t c.args.limit c.args.board c.args.chance.now (texts_of c.args.files.now))
          c.in_ok-text.ensures.failures.0.0 (counted_up _ _ _ c.print_out.ensures.faults) comes (c.print_out.ensures.ok t here) (c.print_out.ensures.half t here) c.print_out.ensures.err c.print_out.ensures.faults,
      λ memory. absurd (no_memory c.print_out.result c.print_out.ensures.err memory),
    )

pub returns-in_err-text-clause-ends : goal.returns-in_err-text-clause-ends
returns-in_err-text-clause-ends g c = λ t at.
    let old : Stage =
    stage ((goal.Screen-dyn g c.args.screen.now).shown c.args.screen.now.1)
    ((goal.Screen-dyn g c.args.screen.now).screen_foretells c.args.screen.now.1)
    ((goal.Keys-dyn g c.args.keys.now).left c.args.keys.now.1)
    ((goal.Keys-dyn g c.args.keys.now).keys_foretell c.args.keys.now.1) in
    let new : Stage =
    stage ((goal.Screen-dyn g c.args.screen.now).shown c.played.new.screen)
    ((goal.Screen-dyn g c.args.screen.now).screen_foretells c.played.new.screen)
    ((goal.Keys-dyn g c.args.keys.now).left c.played.new.keys)
    ((goal.Keys-dyn g c.args.keys.now).keys_foretell c.played.new.keys) in
    let p = err_from_is_err_and c.from_residual.result c.from_residual.ensures.1 in
    let same : p.0 ≡ c.in_err-text.field-0.0 = p.2 in
    let why = c.in_err-text.ensures.played t at in
    rw (p.1, same) (
      refused_ends _ (ComesToPlay _ old new t c.args.limit c.args.board c.args.chance.now (texts_of c.args.files.now)) t c.in_err-text.field-0.0 _ (c.in_err-text.ensures.kept ∙ at)
          (not_played _ old new c.args.limit c.args.board c.args.chance.now (texts_of c.args.files.now) t c.in_err-text.field-0.0 why),
      lacks_for_play _ old new c.args.limit c.args.board c.args.chance.now (texts_of c.args.files.now) t c.in_err-text.field-0.0 why,
    )

pub returns-in_err-text-clause-failures : goal.returns-in_err-text-clause-failures
returns-in_err-text-clause-failures g c =
    handed_on g.H.Host.faults g.H.Host.failed c.from_residual.result c.in_err-text.field-0.0 _ _ c.from_residual.ensures.1 c.in_err-text.ensures.failures

pub returns-clause-failures : goal.returns-clause-failures
returns-clause-failures g c =
    write_tells g.H.Host.faults g.H.Host.failed c.print_out.result _ _ _ c.in_ok-text.ensures.failures.0 c.print_out.ensures.faults c.print_out.ensures.failures

pub returns-in_err-text-clause-asked : goal.returns-in_err-text-clause-asked
returns-in_err-text-clause-asked g c =
    let p = err_from_is_err_and c.from_residual.result c.from_residual.ensures.1 in
    let same : p.0 ≡ c.in_err-text.field-0.0 = p.2 in
    rw (p.1, same) (refused_at g.H.Host.called (reading (c.args.chance.now ∷ texts_of c.args.files.now)) (Printing ∷ []) c.in_err-text.field-0.0 _ _ c.in_err-text.ensures.asked)

pub returns-clause-asked : goal.returns-clause-asked
returns-clause-asked g c =
    then_last g.H.Host.called (reading (c.args.chance.now ∷ texts_of c.args.files.now)) (Printing ∷ []) (refusal_in c.print_out.result) _ _ _ c.in_ok-text.ensures.asked c.print_out.ensures.asked

-- nothing was asked of screen and keys where no playtest was begun
pub returns-in_err-text-clause-idle : goal.returns-in_err-text-clause-idle
returns-in_err-text-clause-idle g c =
    untold g.H.Host.called _ c.from_residual.result c.in_err-text.field-0.0 _ c.from_residual.ensures.1 c.in_err-text.ensures.idle

pub returns-clause-idle : goal.returns-clause-idle
returns-clause-idle g c = unprinted g.H.Host.called _ _ c.print_out.result _ c.print_out.ensures.err c.print_out.ensures.asked

-- faults of screen and keys are told as they were
pub returns-in_err-text-clause-key_faults : goal.returns-in_err-text-clause-key_faults
returns-in_err-text-clause-key_faults g c =
    keys_told c.from_residual.result c.in_err-text.field-0.0 _ _ c.from_residual.ensures.1 c.in_err-text.ensures.key_faults

pub returns-in_err-text-clause-screen_faults : goal.returns-in_err-text-clause-screen_faults
returns-in_err-text-clause-screen_faults g c =
    screen_told c.from_residual.result c.in_err-text.field-0.0 _ _ c.from_residual.ensures.1 c.in_err-text.ensures.screen_faults

pub returns-clause-key_faults : goal.returns-clause-key_faults
returns-clause-key_faults g c =
    keys_uncounted c.print_out.result _ _ (written_off c.print_out.result c.print_out.ensures.err) c.in_ok-text.ensures.key_faults

pub returns-clause-screen_faults : goal.returns-clause-screen_faults
returns-clause-screen_faults g c =
    screen_uncounted c.print_out.result _ _ (written_off c.print_out.result c.print_out.ensures.err) c.in_ok-text.ensures.screen_faults

-- memory is lacking only behind the file of chance
pub returns-in_err-text-clause-memory_only_when : goal.returns-in_err-text-clause-memory_only_when
returns-in_err-text-clause-memory_only_when g c = λ t at.
    let p = err_from_is_err_and c.from_residual.result c.from_residual.ensures.1 in
    let same : p.0 ≡ c.in_err-text.field-0.0 = p.2 in
    rw (p.1, same) (c.in_err-text.ensures.memory_only_when t at)

pub returns-clause-memory_only_when : goal.returns-clause-memory_only_when
returns-clause-memory_only_when g c = λ t at.
    print_wants_none (is_some (file_in t c.args.chance.now) ≡ true) c.print_out.result c.print_out.ensures.err
