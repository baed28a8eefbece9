use Rattle.std.proofs.Common.{◌≡◌, ◌∙◌, false, None, Ok, Err, Some, ap, inl, inr, refl, subst, sym}
use Rattle.std.proofs.lemmas.Result.{err_from_is_err_and}
use Rattle.zed_host.proofs.Counts.{rose_later}
use Rattle.zed_host.specs.Counting.{Counts}
use Rattle.zed_files.specs.declared.refusal.Refusal.TheVariants.{Memory}
use Rattle.zed_files.specs.Asked.{reading}
use Rattle.zed_files.specs.Refusals.{is_of_keys, is_of_screen}
use Rattle.zed_files.specs.Texts.{text_in, texts_of}
use Rattle.zed_files.proofs.Asked.{refused_after, refused_at, then_last}
use Rattle.zed_files.proofs.Failures.{handed_later, handed_on, memory_is_other, memory_on, none_later}
use Rattle.zed_terminal.specs.Course.{point}
use Rattle.zed_terminal.specs.Devices.{chances}
use Rattle.zed_terminal.specs.Stage.{stage}
use Rattle.cmd_play.specs.Kept.{HalfRecorded, with_record}
use Rattle.zed_host.specs.HostContents.{StillTells}
use Rattle.cmd_play.proofs.Asking.{play_lost, play_on}
use Rattle.cmd_play.proofs.Boarding.{filled, performed_so, rose_within}
use Rattle.cmd_play.proofs.Kept.{counts_later, keys_on, lost_ends, memory_ends, screen_on, unkept_ends, unplayed_ends}
use Rattle.cmd_play.proofs.program.play_and_keep.Goals as goal

pub returns-in_err-kept-clause-ends : goal.returns-in_err-kept-clause-ends
returns-in_err-kept-clause-ends g c = λ t at.
    let p = err_from_is_err_and c.from_residual.result c.from_residual.ensures.1 in
    let same : p.0 ≡ c.in_err-kept.field-0.0 = p.2 in
    rw (p.1, same) (lost_ends _ t _ _ c.in_err-kept.field-0.0 _ refl (c.in_err-kept.ensures.kept ∙ at) c.in_err-kept.ensures.err)

pub returns-in_err-tape-clause-ends : goal.returns-in_err-tape-clause-ends
returns-in_err-tape-clause-ends g c = λ t at.
    let p = err_from_is_err_and c.from_residual-in_err-tape.result c.from_residual-in_err-tape.ensures.1 in
    let same : p.0 ≡ c.in_err-tape.field-0.0 = p.2 in
    let here = c.in_ok-kept.ensures.kept ∙ at in
    let read = c.in_ok-kept.ensures.read t at in
    let keys = ap (λ v. v.items) c.fill.ensures.kept ∙ read.1 in
    let left = filled c.fill.new.self.taken c.fill.new.self.kept.items _ _ _ c.fill.ensures.taken keys (ap g.I.Inputs.left c.fill.ensures.source) in
    let begins = ap (λ k. stage (g.T.Terminal.drawn c.args.console.now.terminal) (g.T.Terminal.draws_foretell c.args.console.now.terminal) k None (chances (g.C.Chance.to_come c.args.console.now.chance) (g.C.Chance.chance_failures c.args.console.now.chance))) left in
    rw (p.1, same) (unplayed_ends _ t _ _ c.in_err-tape.field-0.0 _ (c.in_err-tape.ensures.kept ∙ here)
    (elim (c.in_err-tape.ensures.performed t here) [
      | inl memory ↦ inl memory
      | inr is ↦ inr (performed_so _ _ t c.args.going c.args.board c.args.size _ _ (texts_of c.args.files.now) _ _ _ (Err c.in_err-tape.field-0.0)
          (rose_later (g.H.Host.faults c.args.host.now) (g.H.Host.faults c.read_kept.new.host) (g.H.Host.faults c.perform.new.host) c.in_ok-kept.ensures.failures.0.0)
          read.0 begins is)
    ]))

pub returns-in_err-text-clause-ends : goal.returns-in_err-text-clause-ends
returns-in_err-text-clause-ends g c = λ t at.
    let p = err_from_is_err_and c.from_residual-in_err-text.result c.from_residual-in_err-text.ensures.1 in
    rw p.1 (memory_ends _ t _ _ p.0 _ (c.in_ok-tape.ensures.kept ∙ c.in_ok-kept.ensures.kept ∙ at) p.2)

pub returns-in_err-keep_all-clause-ends : goal.returns-in_err-keep_all-clause-ends
returns-in_err-keep_all-clause-ends g c = λ t at.
    let p = err_from_is_err_and c.from_residual-in_err-keep_all.result c.from_residual-in_err-keep_all.ensures.1 in
    let same : p.0 ≡ c.in_err-keep_all.field-0.0 = p.2 in
    let here = c.in_ok-kept.ensures.kept ∙ at in
    let there = c.in_ok-tape.ensures.kept ∙ here in
    let read = c.in_ok-kept.ensures.read t at in
    let keys = ap (λ v. v.items) c.fill.ensures.kept ∙ read.1 in
    let left = filled c.fill.new.self.taken c.fill.new.self.kept.items _ _ _ c.fill.ensures.taken keys (ap g.I.Inputs.left c.fill.ensures.source) in
    let begins = ap (λ k. stage (g.T.Terminal.drawn c.args.console.now.terminal) (g.T.Terminal.draws_foretell c.args.console.now.terminal) k None (chances (g.C.Chance.to_come c.args.console.now.chance) (g.C.Chance.chance_failures c.args.console.now.chance))) left in
    let first = c.in_ok-kept.ensures.failures.0.0 in
    let second = c.in_ok-tape.ensures.failures.0.0 in
    let third = c.in_err-keep_all.ensures.failures.0.0 in
    let played =
    performed_so _ _ t c.args.going c.args.board c.args.size _ _ (texts_of c.args.files.now) _ _ _ (Ok (point c.in_ok-tape.tape))
    (rose_within (g.H.Host.faults c.args.host.now) (g.H.Host.faults c.read_kept.new.host) (g.H.Host.faults c.perform.new.host) (g.H.Host.faults c.keep_all.new.host) first third)
    read.0 begins (c.in_ok-tape.ensures.performed t here) in
    rw (p.1, same) (unkept_ends _ t _ _ (point c.in_ok-tape.tape) c.in_err-keep_all.field-0.0 _ _ there played
    (elim c.in_err-keep_all.ensures.err [
      | inl memory ↦ inl memory
      | inr file ↦ inr (
        file.0,
        rose_later (g.H.Host.faults c.args.host.now) (g.H.Host.faults c.read_kept.new.host) (g.H.Host.faults c.keep_all.new.host) first
            (rose_later (g.H.Host.faults c.read_kept.new.host) (g.H.Host.faults c.perform.new.host) (g.H.Host.faults c.keep_all.new.host) second file.1),
      )
    ])
    (λ file. subst (λ rest. StillTells (HalfRecorded (text_in c.args.words) (text_in c.args.keys) (point c.in_ok-tape.tape) rest t) (g.H.Host.contents c.keep_all.new.host)) c.rest.ensures
    (c.in_err-keep_all.ensures.half t there file)))

pub returns-clause-ends : goal.returns-clause-ends
returns-clause-ends g c = λ t at.
    let here = c.in_ok-kept.ensures.kept ∙ at in
    let read = c.in_ok-kept.ensures.read t at in
    let keys = ap (λ v. v.items) c.fill.ensures.kept ∙ read.1 in
    let left = filled c.fill.new.self.taken c.fill.new.self.kept.items _ _ _ c.fill.ensures.taken keys (ap g.I.Inputs.left c.fill.ensures.source) in
    let begins = ap (λ k. stage (g.T.Terminal.drawn c.args.console.now.terminal) (g.T.Terminal.draws_foretell c.args.console.now.terminal) k None (chances (g.C.Chance.to_come c.args.console.now.chance) (g.C.Chance.chance_failures c.args.console.now.chance))) left in (
      point c.in_ok-tape.tape,
      performed_so _ _ t c.args.going c.args.board c.args.size _ _ (texts_of c.args.files.now) _ _ _ (Ok (point c.in_ok-tape.tape))
          (rose_within (g.H.Host.faults c.args.host.now) (g.H.Host.faults c.read_kept.new.host) (g.H.Host.faults c.perform.new.host) (g.H.Host.faults c.keep_all.new.host)
          c.in_ok-kept.ensures.failures.0.0 c.in_ok-keep_all.ensures.failures.0.0)
          read.0 begins (c.in_ok-tape.ensures.performed t here),
      c.in_ok-text.ensures,
      c.in_ok-keep_all.ensures.ok t (c.in_ok-tape.ensures.kept ∙ here)
          ∙ ap (λ r. Some (with_record (text_in c.args.words) (text_in c.args.keys) (point c.in_ok-tape.tape) r t)) c.rest.ensures,
    )

pub returns-in_err-kept-clause-asked : goal.returns-in_err-kept-clause-asked
returns-in_err-kept-clause-asked g c =
    let p = err_from_is_err_and c.from_residual.result c.from_residual.ensures.1 in
    let same : p.0 ≡ c.in_err-kept.field-0.0 = p.2 in
    rw (p.1, same) (play_lost g.H.Host.called (text_in c.args.words) (text_in c.args.keys) (texts_of c.args.files.now) _ c.in_err-kept.field-0.0 _ _ c.in_err-kept.ensures.asked)

pub returns-in_err-tape-clause-asked : goal.returns-in_err-tape-clause-asked
returns-in_err-tape-clause-asked g c =
    let p = err_from_is_err_and c.from_residual-in_err-tape.result c.from_residual-in_err-tape.ensures.1 in
    let same : p.0 ≡ c.in_err-tape.field-0.0 = p.2 in
    rw (p.1, same) (play_on g.H.Host.called (text_in c.args.words) (text_in c.args.keys) (texts_of c.args.files.now) _ _ _ _ _ c.in_ok-kept.ensures.asked
    (refused_at g.H.Host.called (reading (texts_of c.args.files.now)) _ c.in_err-tape.field-0.0 _ _ c.in_err-tape.ensures.asked))

pub returns-in_err-text-clause-asked : goal.returns-in_err-text-clause-asked
returns-in_err-text-clause-asked g c =
    let p = err_from_is_err_and c.from_residual-in_err-text.result c.from_residual-in_err-text.ensures.1 in
    rw p.1 (play_on g.H.Host.called (text_in c.args.words) (text_in c.args.keys) (texts_of c.args.files.now) _ _ _ _ _ c.in_ok-kept.ensures.asked
    (refused_after g.H.Host.called (reading (texts_of c.args.files.now)) _ p.0 _ _ (memory_is_other p.0 p.2) c.in_ok-tape.ensures.asked))

pub returns-in_err-keep_all-clause-asked : goal.returns-in_err-keep_all-clause-asked
returns-in_err-keep_all-clause-asked g c =
    let p = err_from_is_err_and c.from_residual-in_err-keep_all.result c.from_residual-in_err-keep_all.ensures.1 in
    let same : p.0 ≡ c.in_err-keep_all.field-0.0 = p.2 in
    rw (p.1, same) (play_on g.H.Host.called (text_in c.args.words) (text_in c.args.keys) (texts_of c.args.files.now) _ _ _ _ _ c.in_ok-kept.ensures.asked
    (then_last g.H.Host.called (reading (texts_of c.args.files.now)) _ (Some c.in_err-keep_all.field-0.0) _ _ _ c.in_ok-tape.ensures.asked c.in_err-keep_all.ensures.asked))

pub returns-clause-asked : goal.returns-clause-asked
returns-clause-asked g c =
    play_on g.H.Host.called (text_in c.args.words) (text_in c.args.keys) (texts_of c.args.files.now) _ _ _ _ _ c.in_ok-kept.ensures.asked
    (then_last g.H.Host.called (reading (texts_of c.args.files.now)) _ None _ _ _ c.in_ok-tape.ensures.asked c.in_ok-keep_all.ensures.asked)

pub returns-in_err-kept-clause-failures : goal.returns-in_err-kept-clause-failures
returns-in_err-kept-clause-failures g c =
    handed_on g.H.Host.faults g.H.Host.failed c.from_residual.result c.in_err-kept.field-0.0 _ _ c.from_residual.ensures.1 c.in_err-kept.ensures.failures

pub returns-in_err-tape-clause-failures : goal.returns-in_err-tape-clause-failures
returns-in_err-tape-clause-failures g c =
    handed_later g.H.Host.faults g.H.Host.failed c.from_residual-in_err-tape.result c.in_err-tape.field-0.0 _ _ _ c.from_residual-in_err-tape.ensures.1
    c.in_ok-kept.ensures.failures.0 c.in_err-tape.ensures.failures

pub returns-in_err-text-clause-failures : goal.returns-in_err-text-clause-failures
returns-in_err-text-clause-failures g c =
    memory_on g.H.Host.faults g.H.Host.failed c.from_residual-in_err-text.result _ _ c.from_residual-in_err-text.ensures.1
    (none_later g.H.Host.faults g.H.Host.failed _ _ _ c.in_ok-kept.ensures.failures.0 c.in_ok-tape.ensures.failures.0)

pub returns-in_err-keep_all-clause-failures : goal.returns-in_err-keep_all-clause-failures
returns-in_err-keep_all-clause-failures g c =
    handed_later g.H.Host.faults g.H.Host.failed c.from_residual-in_err-keep_all.result c.in_err-keep_all.field-0.0 _ _ _ c.from_residual-in_err-keep_all.ensures.1
    (none_later g.H.Host.faults g.H.Host.failed _ _ _ c.in_ok-kept.ensures.failures.0 c.in_ok-tape.ensures.failures.0) c.in_err-keep_all.ensures.failures

pub returns-clause-failures : goal.returns-clause-failures
returns-clause-failures g c = (
  none_later g.H.Host.faults g.H.Host.failed _ _ _ (none_later g.H.Host.faults g.H.Host.failed _ _ _ c.in_ok-kept.ensures.failures.0 c.in_ok-tape.ensures.failures.0)
      c.in_ok-keep_all.ensures.failures.0,
  tt,
)

pub returns-in_err-tape-clause-key_faults : goal.returns-in_err-tape-clause-key_faults
returns-in_err-tape-clause-key_faults g c =
    keys_on c.from_residual-in_err-tape.result c.in_err-tape.field-0.0 _ _ c.from_residual-in_err-tape.ensures.1
    (counts_later _ _ _ _ (ap g.I.Inputs.input_failures c.fill.ensures.source) c.in_err-tape.ensures.key_faults)

pub returns-in_err-tape-clause-screen_faults : goal.returns-in_err-tape-clause-screen_faults
returns-in_err-tape-clause-screen_faults g c =
    screen_on c.from_residual-in_err-tape.result c.in_err-tape.field-0.0 _ _ c.from_residual-in_err-tape.ensures.1 c.in_err-tape.ensures.screen_faults

pub returns-in_err-text-clause-key_faults : goal.returns-in_err-text-clause-key_faults
returns-in_err-text-clause-key_faults g c =
    keys_on c.from_residual-in_err-text.result Memory _ _ c.from_residual-in_err-text.ensures.1
    (counts_later false _ _ _ (ap g.I.Inputs.input_failures c.fill.ensures.source) c.in_ok-tape.ensures.key_faults)

pub returns-in_err-text-clause-screen_faults : goal.returns-in_err-text-clause-screen_faults
returns-in_err-text-clause-screen_faults g c =
    screen_on c.from_residual-in_err-text.result Memory _ _ c.from_residual-in_err-text.ensures.1 c.in_ok-tape.ensures.screen_faults

pub returns-in_err-keep_all-clause-key_faults : goal.returns-in_err-keep_all-clause-key_faults
returns-in_err-keep_all-clause-key_faults g c =
    let counted = counts_later false _ _ _ (ap g.I.Inputs.input_failures c.fill.ensures.source) c.in_ok-tape.ensures.key_faults in
    keys_on c.from_residual-in_err-keep_all.result c.in_err-keep_all.field-0.0 _ _ c.from_residual-in_err-keep_all.ensures.1
    (elim c.in_err-keep_all.ensures.err [
      | inl memory ↦ subst (λ e. Counts (is_of_keys e) (g.I.Inputs.input_failures c.args.console.now.inputs.source) (g.I.Inputs.input_failures c.perform.new.inputs.source)) (sym memory.0) counted
      | inr file ↦ subst (λ e. Counts (is_of_keys e) (g.I.Inputs.input_failures c.args.console.now.inputs.source) (g.I.Inputs.input_failures c.perform.new.inputs.source)) (sym file.0) counted
    ])

pub returns-in_err-keep_all-clause-screen_faults : goal.returns-in_err-keep_all-clause-screen_faults
returns-in_err-keep_all-clause-screen_faults g c =
    let counted = c.in_ok-tape.ensures.screen_faults in
    screen_on c.from_residual-in_err-keep_all.result c.in_err-keep_all.field-0.0 _ _ c.from_residual-in_err-keep_all.ensures.1
    (elim c.in_err-keep_all.ensures.err [
      | inl memory ↦ subst (λ e. Counts (is_of_screen e) (g.T.Terminal.draw_failures c.args.console.now.terminal) (g.T.Terminal.draw_failures c.perform.new.terminal)) (sym memory.0) counted
      | inr file ↦ subst (λ e. Counts (is_of_screen e) (g.T.Terminal.draw_failures c.args.console.now.terminal) (g.T.Terminal.draw_failures c.perform.new.terminal)) (sym file.0) counted
    ])
