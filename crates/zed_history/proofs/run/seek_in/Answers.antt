use Rattle.std.proofs.Common.{◌≡◌, ◌∙◌, ◌<◌, None, List, add-one, arith, ap, length, rules, slice_index_or, slice_set, subst, sym}
use Rattle.zed_op.specs.declared.op.Edit.{Edit}
use Rattle.zed_history.specs.Finding.{edit_with}
use Rattle.zed_history.proofs.Runs.{none-on, put-back}
use Rattle.zed_history.proofs.run.seek_in.Goals as goal

pub loop-run-preserved : goal.loop-run-preserved
loop-run-preserved c =
    let i = c.loop-run.run-index in
    let old = c.loop-run.invariant in
    let kept : c.seek.new.self ≡ c.run-item.result = c.seek.ensures.kept ∙ sym c.run-item.is in
    let same : slice_set c.loop-run.runs i c.seek.new.self ≡ c.args.runs.now =
    ap (slice_set c.loop-run.runs i) kept ∙ put-back c.loop-run.runs i c.run-item.result (omega arith) c.run-item.is ∙ old.kept in
    let count : length c.loop-run.runs ≡ length c.args.runs.now = ap length old.kept in
    let within : i < length c.args.runs.now = omega (arith, count) in
    let is : c.run-item.result ≡ slice_index_or c.args.runs.now i c.run-item.result =
    subst (λ (rs : List (List Edit)). c.run-item.result ≡ slice_index_or rs i c.run-item.result) old.kept c.run-item.is in
    let none : edit_with c.args.stamp c.run-item.result ≡ None = search rules in
    record {
      kept = same;
      none = rw add-one (none-on c.args.stamp c.args.runs.now i c.run-item.result within is old.none none);
    }
