use Rattle.std.proofs.Common.{◌≡◌, [], Some, subst}
use Rattle.std.proofs.lemmas.Result.{err_from_is_err_and}
use Rattle.zed_files.specs.Asked.{Asks, refusal_in}
use Rattle.zed_files.specs.Texts.{text_in}
use Rattle.zed_files.proofs.Failures.{handed_on}
use Rattle.cmd_play.specs.Kept.{with_kept}
use Rattle.cmd_play.proofs.Asking.{keeping_both, last_then, refused_on, write_refuses}
use Rattle.cmd_play.proofs.Kept.{half_first, half_second, refuses_later, tells_later}
use Rattle.cmd_play.proofs.keeping.keep_both.Goals as goal

pub returns-in_err-keep-clause-half : goal.returns-in_err-keep-clause-half
returns-in_err-keep-clause-half g c = λ t at.
    let p = err_from_is_err_and c.from_residual.result c.from_residual.ensures.1 in
    rw p.1 (half_first _ _ _ (c.in_err-keep.ensures.half t at))

pub returns-clause-half : goal.returns-clause-half
returns-clause-half g c = λ t at.
    half_second _ _ c.keep-2.result _ (c.keep-2.ensures.half (with_kept (text_in c.args.words) c.args.word_bytes.now t) (c.in_ok-keep.ensures.ok t at))

pub returns-in_err-keep-clause-asked : goal.returns-in_err-keep-clause-asked
returns-in_err-keep-clause-asked g c =
    let p = err_from_is_err_and c.from_residual.result c.from_residual.ensures.1 in
    let same : p.0 ≡ c.in_err-keep.field-0.0 = p.2 in
    rw (p.1, same) (subst (λ asks. Asks g.H.Host.called [] asks (Some c.in_err-keep.field-0.0) c.args.host.now c.keep.new.host) (keeping_both (text_in c.args.words) (text_in c.args.keys))
    (refused_on g.H.Host.called [] _ _ c.in_err-keep.field-0.0 _ _ c.in_err-keep.ensures.asked))

pub returns-clause-asked : goal.returns-clause-asked
returns-clause-asked g c =
    subst (λ asks. Asks g.H.Host.called [] asks (refusal_in c.keep-2.result) c.args.host.now c.keep-2.new.host) (keeping_both (text_in c.args.words) (text_in c.args.keys))
    (last_then g.H.Host.called [] _ _ (refusal_in c.keep-2.result) _ _ _ (write_refuses _ c.keep-2.result c.keep-2.ensures.err) c.in_ok-keep.ensures.asked c.keep-2.ensures.asked)

pub returns-in_err-keep-clause-failures : goal.returns-in_err-keep-clause-failures
returns-in_err-keep-clause-failures g c =
    handed_on g.H.Host.faults g.H.Host.failed c.from_residual.result c.in_err-keep.field-0.0 _ _ c.from_residual.ensures.1 c.in_err-keep.ensures.failures

pub returns-clause-failures : goal.returns-clause-failures
returns-clause-failures g c =
    tells_later g.H.Host.faults g.H.Host.failed c.keep-2.result _ _ _ c.in_ok-keep.ensures.failures.0 c.keep-2.ensures.failures

pub returns-clause-err : goal.returns-clause-err
returns-clause-err g c = refuses_later _ c.keep-2.result _ _ _ c.in_ok-keep.ensures.failures.0.0 c.keep-2.ensures.err
