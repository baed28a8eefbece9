use Rattle.std.proofs.Common.{rules, ◌<◌, ◌+◌, ◌-◌, min, length, take, drop, arith, sym, ap, ◌∙◌}
use Rattle.zed_code.specs.Blocks.{lists, joined}
use Rattle.zed_code.specs.Runs.{sought}
use Rattle.zed_code.specs.Visits.{raised}
use Rattle.zed_code.proofs.Joins.{joined-cut, length-at, length-next, length-lists, sought-from, sought-here, sought-behind}
use Rattle.zed_code.proofs.Places.{raised-twice}
use Rattle.zed_code.proofs.place.find.Goals as goal

pub loop-block-init : goal.loop-block-init
loop-block-init c =
    let ls = lists c.args.blocks.now in
    record {
      rest = sym (ap (sought c.args.stamp c.args.index) (joined-cut ls c.args.start) ∙ sought-from c.args.stamp c.args.index (joined (take c.args.start ls)) (joined (drop c.args.start ls)) c.requires.none);
      more = omega arith;
      looked = search rules;
    }

pub returns-then-place-runs-clause-place : goal.returns-then-place-runs-clause-place
returns-then-place-runs-clause-place c =
    let l : c.loop-block.block < length c.args.blocks.now = search rules in
    let here = sought-here c.args.stamp c.args.index (lists c.args.blocks.now) c.loop-block.block c.find_in-place.result c.runs_at-runs.result.now (omega (arith, l, length-lists c.args.blocks.now)) c.runs_at-runs.ensures c.find_in-place.ensures.place c.loop-block.invariant.rest in
    here c.if-place-runs.true

pub returns-then-place-runs-clause-inside : goal.returns-then-place-runs-clause-inside
returns-then-place-runs-clause-inside c =
    let l : c.loop-block.block < length c.args.blocks.now = search rules in
    let m = ap length c.runs_at-runs.ensures in
    λ there. record { block = omega (arith, l, length-lists c.args.blocks.now); place = omega (arith, m, c.if-place-runs.true) }

pub returns-then-place-runs-clause-visits : goal.returns-then-place-runs-clause-visits
returns-then-place-runs-clause-visits c =
    let ls = lists c.args.blocks.now in
    let l : c.loop-block.block < length c.args.blocks.now = search rules in
    let m = ap length c.runs_at-runs.ensures in
    let seen = length (joined (take c.loop-block.block ls)) - length (joined (take c.args.start ls)) in
    let k = min (c.find_in-place.result + 1) (length c.runs_at-runs.result.now) in
    let all = length-at ls c.loop-block.block (omega (arith, l, length-lists c.args.blocks.now)) in
    c.find_in-place.ensures.visits ∙ ap (λ v. raised v k) c.loop-block.invariant.looked ∙ raised-twice c.args.visits.now seen k
    ∙ ap (raised c.args.visits.now) (omega (arith, m, all, c.loop-block.invariant.more, c.if-place-runs.true))

pub loop-block-preserved : goal.loop-block-preserved
loop-block-preserved c =
    let ls = lists c.args.blocks.now in
    let b = c.loop-block.block in
    let l0 : b < length c.args.blocks.now = search rules in
    let l : b < length ls = omega (arith, l0, length-lists c.args.blocks.now) in
    let m = ap length c.runs_at-runs.ensures in
    let next = length-next ls b l in
    let seen = length (joined (take b ls)) - length (joined (take c.args.start ls)) in
    let k = min (c.find_in-place.result + 1) (length c.runs_at-runs.result.now) in
    record {
      rest = sought-behind c.args.stamp c.args.index ls b c.find_in-place.result c.runs_at-runs.result.now l c.runs_at-runs.ensures c.find_in-place.ensures.place c.loop-block.invariant.rest c.if-place-runs.false;
      more = omega (arith, next, c.loop-block.invariant.more);
      looked = c.find_in-place.ensures.visits ∙ ap (λ v. raised v k) c.loop-block.invariant.looked ∙ raised-twice c.args.visits.now seen k
          ∙ ap (raised c.args.visits.now) (omega (arith, m, next, c.if-place-runs.false, c.loop-block.invariant.more));
    }
