use Rattle.std.proofs.Common.{◌≡◌, ◌+◌, ◌-◌, min, length, take, drop, arith, ap, ◌∙◌}
use Rattle.zed_code.specs.Blocks.{lists, joined, list_at, before_spot}
use Rattle.zed_code.specs.Runs.{passed}
use Rattle.zed_code.specs.Visits.{raised}
use Rattle.zed_code.proofs.Joins.{length-at, length-next, length-last, length-lists, pass-within, pass-beyond, pass-last}
use Rattle.zed_code.proofs.Places.{raised-twice}
use Rattle.zed_code.proofs.place.pass.Goals as goal

pub pass_in-place-requires : goal.pass_in-place-requires
pass_in-place-requires c =
    let ls = lists c.args.blocks.now in
    let m = ap length c.runs_at-runs.ensures in
    omega (arith, m, c.loop-at.invariant.within.place)

pub returns-then-place-runs-clause-place : goal.returns-then-place-runs-clause-place
returns-then-place-runs-clause-place c =
    let ls = lists c.args.blocks.now in
    let at = c.loop-at.at in
    let m = ap length c.runs_at-runs.ensures in
    let k : c.pass_in-place.result ≡ at.place + passed c.args.stamp (drop at.place (list_at at.block ls)) =
    c.pass_in-place.ensures.place ∙ ap (λ xs. at.place + passed c.args.stamp (drop at.place xs)) c.runs_at-runs.ensures in
    pass-within c.args.stamp at ls c.pass_in-place.result c.loop-at.invariant.within k (omega (arith, m, c.if-place-runs.true)) ∙ c.loop-at.invariant.rest

pub returns-then-place-runs-clause-within : goal.returns-then-place-runs-clause-within
returns-then-place-runs-clause-within c =
    let m = ap length c.runs_at-runs.ensures in
    record { block = c.loop-at.invariant.within.block; place = omega (arith, m, c.if-place-runs.true) }

pub returns-then-place-runs-clause-visits : goal.returns-then-place-runs-clause-visits
returns-then-place-runs-clause-visits c =
    let ls = lists c.args.blocks.now in
    let at = c.loop-at.at in
    let m = ap length c.runs_at-runs.ensures in
    let seen = before_spot at ls - before_spot c.args.from ls in
    let k = min (c.pass_in-place.result + 1) (length c.runs_at-runs.result.now) - at.place in
    let all = length-at ls at.block c.loop-at.invariant.within.block in
    let count : seen + k ≡ min (length (joined (take at.block ls)) + c.pass_in-place.result + 1) (length (joined ls)) - before_spot c.args.from ls = omega (arith, m, all, c.loop-at.invariant.more, c.loop-at.invariant.within.place, c.if-place-runs.true, c.pass_in-place.ensures.place) in
    c.pass_in-place.ensures.visits ∙ ap (λ v. raised v k) c.loop-at.invariant.looked ∙ raised-twice c.args.visits.now seen k ∙ ap (raised c.args.visits.now) count

pub loop-at-preserved : goal.loop-at-preserved
loop-at-preserved c =
    let ls = lists c.args.blocks.now in
    let at = c.loop-at.at in
    let n = length-lists c.args.blocks.now in
    let m = ap length c.runs_at-runs.ensures in
    let next = length-next ls at.block c.loop-at.invariant.within.block in
    let k : c.pass_in-place.result ≡ at.place + passed c.args.stamp (drop at.place (list_at at.block ls)) =
    c.pass_in-place.ensures.place ∙ ap (λ xs. at.place + passed c.args.stamp (drop at.place xs)) c.runs_at-runs.ensures in
    let seen = before_spot at ls - before_spot c.args.from ls in
    let more = min (c.pass_in-place.result + 1) (length c.runs_at-runs.result.now) - at.place in
    let count : seen + more ≡ length (joined (take (at.block + 1) ls)) + 0 - before_spot c.args.from ls = omega (arith, m, next, c.loop-at.invariant.more, c.loop-at.invariant.within.place, c.if-place-runs.false, c.pass_in-place.ensures.place) in
    record {
      within = record { block = omega (arith, n, c.loop-at-test.true); place = omega arith };
      rest =
          pass-beyond c.args.stamp at ls c.pass_in-place.result c.loop-at.invariant.within k (omega (arith, m, c.if-place-runs.false))
          ∙ c.loop-at.invariant.rest;
      more = omega (arith, next, c.loop-at.invariant.more, c.loop-at.invariant.within.place);
      looked =
          c.pass_in-place.ensures.visits ∙ ap (λ v. raised v more) c.loop-at.invariant.looked ∙ raised-twice c.args.visits.now seen more
          ∙ ap (raised c.args.visits.now) count;
    }

pub pass_in-requires : goal.pass_in-requires
pass_in-requires c =
    let m = ap length c.runs_at.ensures in
    omega (arith, m, c.loop-at.invariant.within.place)

pub returns-clause-place : goal.returns-clause-place
returns-clause-place c =
    let ls = lists c.args.blocks.now in
    let at = c.loop-at.at in
    let n = length-lists c.args.blocks.now in
    let k : c.pass_in.result ≡ at.place + passed c.args.stamp (drop at.place (list_at at.block ls)) =
    c.pass_in.ensures.place ∙ ap (λ xs. at.place + passed c.args.stamp (drop at.place xs)) c.runs_at.ensures in
    pass-last c.args.stamp at ls c.pass_in.result c.loop-at.invariant.within k (omega (arith, n, c.loop-at-test.false)) ∙ c.loop-at.invariant.rest

pub returns-clause-within : goal.returns-clause-within
returns-clause-within c =
    let m = ap length c.runs_at.ensures in
    record { block = c.loop-at.invariant.within.block; place = omega (arith, m, c.pass_in.ensures.within) }

pub returns-clause-visits : goal.returns-clause-visits
returns-clause-visits c =
    let ls = lists c.args.blocks.now in
    let at = c.loop-at.at in
    let n = length-lists c.args.blocks.now in
    let m = ap length c.runs_at.ensures in
    let seen = before_spot at ls - before_spot c.args.from ls in
    let k = min (c.pass_in.result + 1) (length c.runs_at.result.now) - at.place in
    let all = length-last ls at.block c.loop-at.invariant.within.block (omega (arith, n, c.loop-at-test.false)) in
    let count : seen + k ≡ min (length (joined (take at.block ls)) + c.pass_in.result + 1) (length (joined ls)) - before_spot c.args.from ls = omega (arith, m, all, c.loop-at.invariant.more, c.loop-at.invariant.within.place, c.pass_in.ensures.within, c.pass_in.ensures.place) in
    c.pass_in.ensures.visits ∙ ap (λ v. raised v k) c.loop-at.invariant.looked ∙ raised-twice c.args.visits.now seen k ∙ ap (raised c.args.visits.now) count
