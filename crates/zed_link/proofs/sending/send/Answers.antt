use Rattle.std.proofs.Common.{◌≡◌, ◌∙◌, ◌++◌, ◌<◌, ◌≤◌, length, rules, take, drop, sym, ap, append_assoc, take-append-drop}
use Rattle.std.proofs.lemmas.List.{length-take-le}
use Rattle.std.proofs.lemmas.Result.{err_from_is_err_and}
use Rattle.zed_link.proofs.EndsLaws.{took_more, took_front}
use Rattle.zed_link.proofs.WritesLaws.{all_within, one_write_more, within_bytes}
use Rattle.zed_link.proofs.sending.send.Goals as goal

pub returns-in_err-taken-clause-half : goal.returns-in_err-taken-clause-half
returns-in_err-taken-clause-half g c =
    let p = err_from_is_err_and c.from_residual.result c.from_residual.ensures.1 in
    let old = c.loop-rest.invariant in
    rw p.1 (took_front old.done c.loop-rest.rest.now c.args.bytes.now _ _ _ old.whole old.took c.in_err-taken.ensures.half)

pub returns-in_err-taken-clause-writes : goal.returns-in_err-taken-clause-writes
returns-in_err-taken-clause-writes g c =
    let some : 1 ≤ length c.loop-rest.rest.now = search rules in
    let old = c.loop-rest.invariant in
    within_bytes 1 old.done c.loop-rest.rest.now c.args.bytes.now _ _ _ old.whole some old.wrote c.in_err-taken.ensures.writes

pub returns-clause-writes : goal.returns-clause-writes
returns-clause-writes g c =
    let old = c.loop-rest.invariant in
    all_within old.done c.loop-rest.rest.now c.args.bytes.now _ _ old.whole old.wrote

pub loop-rest-preserved : goal.loop-rest-preserved
loop-rest-preserved g c =
    let old = c.loop-rest.invariant in
    let front = take c.in_ok-taken.taken c.loop-rest.rest.now in
    let back = drop c.in_ok-taken.taken c.loop-rest.rest.now in
    let some : 0 < length front =
    rw (length-take-le c.in_ok-taken.taken c.loop-rest.rest.now c.in_ok-taken.ensures.within.1) c.in_ok-taken.ensures.within.0 in
    let both : front ++ back ≡ c.loop-rest.rest.now = take-append-drop c.in_ok-taken.taken c.loop-rest.rest.now in
    record {
      done = old.done ++ front;
      whole =
          old.whole ∙ ap (λ z. old.done ++ z) (sym both) ∙ sym (append_assoc old.done front back)
          ∙ ap (λ z. (old.done ++ front) ++ z) (sym c.split_at.ensures.back);
      took = took_more old.done front _ _ _ old.took c.in_ok-taken.ensures.ok;
      calm = c.in_ok-taken.ensures.calm.0 ∙ old.calm;
      flowing = c.in_ok-taken.ensures.calm.1 ∙ old.flowing;
      wrote = one_write_more old.done front _ _ _ some old.wrote c.in_ok-taken.ensures.writes;
      unread = c.in_ok-taken.ensures.reads ∙ old.unread;
      accepts = c.in_ok-taken.ensures.accepts ∙ old.accepts;
    }
