use Rattle.std.proofs.Common.{◌≡◌, ◌≤◌, length, sym, take}
use Rattle.std.proofs.lemmas.List.{length-take-le, take_all}
use Rattle.zed_system.proofs.last.front_of.Goals as goal
use native.Mathlib.Omega.{arith}

pub slice_bounds-result-end : goal.slice_bounds-result-end
slice_bounds-result-end c =
    let enough : 4096 ≤ length c.args.text.now = omega (arith, c.if-text-gt-MOST.true) in
    sym (length-take-le 4096 c.args.text.now enough)

pub returns-then-text-gt-MOST-clause-within : goal.returns-then-text-gt-MOST-clause-within
returns-then-text-gt-MOST-clause-within c =
    let enough : 4096 ≤ length c.args.text.now = omega (arith, c.if-text-gt-MOST.true) in
    let same : length (take 4096 c.args.text.now) ≡ 4096 = length-take-le 4096 c.args.text.now enough in
    omega (arith, same)

pub returns-else-text-gt-MOST-clause-result : goal.returns-else-text-gt-MOST-clause-result
returns-else-text-gt-MOST-clause-result c =
    let within : length c.args.text.now ≤ 4096 = omega (arith, c.if-text-gt-MOST.false) in
    sym (take_all 4096 c.args.text.now within)
