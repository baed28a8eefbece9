use Rattle.std.proofs.Common.{◌≡◌, Some, ap, inl, inr, refl}
use Rattle.std.proofs.lemmas.Result.{err_from_is_err_and}
use Rattle.zed_host.proofs.Counts.{rose_later}
use Rattle.zed_files.specs.Texts.{text_in}
use Rattle.zed_files.proofs.Failures.{handed_later, handed_on, memory_on, none_later}
use Rattle.cmd_play.specs.Asking.{AsksNoMore}
use Rattle.cmd_play.proofs.Asking.{both_had, first_lost, second_lost}
use Rattle.cmd_play.proofs.keeping.read_kept.Goals as goal

pub returns-in_err-word_bytes-clause-asked : goal.returns-in_err-word_bytes-clause-asked
returns-in_err-word_bytes-clause-asked g c =
    let p = err_from_is_err_and c.from_residual.result c.from_residual.ensures.1 in
    let same : p.0 ≡ c.in_err-word_bytes.field-0.0 = p.2 in
    rw (p.1, same) (first_lost g.H.Host.called (text_in c.args.words) (text_in c.args.keys) AsksNoMore c.in_err-word_bytes.field-0.0 _ _ c.in_err-word_bytes.ensures.asked)

pub returns-in_err-key_bytes-clause-asked : goal.returns-in_err-key_bytes-clause-asked
returns-in_err-key_bytes-clause-asked g c =
    let p = err_from_is_err_and c.from_residual-in_err-key_bytes.result c.from_residual-in_err-key_bytes.ensures.1 in
    let same : p.0 ≡ c.in_err-key_bytes.field-0.0 = p.2 in
    rw (p.1, same) (second_lost g.H.Host.called (text_in c.args.words) (text_in c.args.keys) AsksNoMore c.in_err-key_bytes.field-0.0 _ _ _ c.in_ok-word_bytes.ensures.asked c.in_err-key_bytes.ensures.asked)

pub returns-in_err-words-clause-asked : goal.returns-in_err-words-clause-asked
returns-in_err-words-clause-asked g c =
    let p = err_from_is_err_and c.from_residual-in_err-words.result c.from_residual-in_err-words.ensures.1 in
    rw p.1 (both_had g.H.Host.called (text_in c.args.words) (text_in c.args.keys) (Some p.0) _ _ _ c.in_ok-word_bytes.ensures.asked c.in_ok-key_bytes.ensures.asked (inr (ap (λ e. Some e) p.2)))

pub returns-in_err-keys-clause-asked : goal.returns-in_err-keys-clause-asked
returns-in_err-keys-clause-asked g c =
    let p = err_from_is_err_and c.from_residual-in_err-keys.result c.from_residual-in_err-keys.ensures.1 in
    rw p.1 (both_had g.H.Host.called (text_in c.args.words) (text_in c.args.keys) (Some p.0) _ _ _ c.in_ok-word_bytes.ensures.asked c.in_ok-key_bytes.ensures.asked (inr (ap (λ e. Some e) p.2)))

pub returns-clause-asked : goal.returns-clause-asked
returns-clause-asked g c =
    both_had g.H.Host.called (text_in c.args.words) (text_in c.args.keys) _ _ _ _ c.in_ok-word_bytes.ensures.asked c.in_ok-key_bytes.ensures.asked (inl refl)

pub returns-in_err-key_bytes-clause-err : goal.returns-in_err-key_bytes-clause-err
returns-in_err-key_bytes-clause-err g c =
    let p = err_from_is_err_and c.from_residual-in_err-key_bytes.result c.from_residual-in_err-key_bytes.ensures.1 in
    let same : p.0 ≡ c.in_err-key_bytes.field-0.0 = p.2 in
    rw (p.1, same) (elim c.in_err-key_bytes.ensures.err [
      | inl memory ↦ inl memory
      | inr file ↦ inr (
        file.0,
        rose_later (g.H.Host.faults c.args.host.now) (g.H.Host.faults c.kept_in.new.host) (g.H.Host.faults c.kept_in-2.new.host)
            c.in_ok-word_bytes.ensures.failures.0.0 file.1,
      )
    ])

pub returns-in_err-word_bytes-clause-failures : goal.returns-in_err-word_bytes-clause-failures
returns-in_err-word_bytes-clause-failures g c =
    handed_on g.H.Host.faults g.H.Host.failed c.from_residual.result c.in_err-word_bytes.field-0.0 _ _ c.from_residual.ensures.1 c.in_err-word_bytes.ensures.failures

pub returns-in_err-key_bytes-clause-failures : goal.returns-in_err-key_bytes-clause-failures
returns-in_err-key_bytes-clause-failures g c =
    handed_later g.H.Host.faults g.H.Host.failed c.from_residual-in_err-key_bytes.result c.in_err-key_bytes.field-0.0 _ _ _ c.from_residual-in_err-key_bytes.ensures.1
    c.in_ok-word_bytes.ensures.failures.0 c.in_err-key_bytes.ensures.failures

pub returns-in_err-words-clause-failures : goal.returns-in_err-words-clause-failures
returns-in_err-words-clause-failures g c =
    memory_on g.H.Host.faults g.H.Host.failed c.from_residual-in_err-words.result _ _ c.from_residual-in_err-words.ensures.1
    (none_later g.H.Host.faults g.H.Host.failed _ _ _ c.in_ok-word_bytes.ensures.failures.0 c.in_ok-key_bytes.ensures.failures.0)

pub returns-in_err-keys-clause-failures : goal.returns-in_err-keys-clause-failures
returns-in_err-keys-clause-failures g c =
    memory_on g.H.Host.faults g.H.Host.failed c.from_residual-in_err-keys.result _ _ c.from_residual-in_err-keys.ensures.1
    (none_later g.H.Host.faults g.H.Host.failed _ _ _ c.in_ok-word_bytes.ensures.failures.0 c.in_ok-key_bytes.ensures.failures.0)

pub returns-clause-failures : goal.returns-clause-failures
returns-clause-failures g c =
    (none_later g.H.Host.faults g.H.Host.failed _ _ _ c.in_ok-word_bytes.ensures.failures.0 c.in_ok-key_bytes.ensures.failures.0, tt)
