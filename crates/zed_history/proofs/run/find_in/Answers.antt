use Rattle.std.proofs.Common.{◌≡◌, Some, None, add-one, arith, rules}
use Rattle.zed_history.specs.Finding.{edit_with}
use Rattle.zed_history.proofs.Runs.{found-at, none-on}
use Rattle.zed_history.proofs.run.find_in.Goals as goal

pub returns-in-Some-clause-some : goal.returns-in-Some-clause-some
returns-in-Some-clause-some c =
    let some : edit_with c.args.stamp c.run-item.result ≡ Some c.in-Some.there.now = search rules in
    found-at c.args.stamp c.args.runs.now c.loop-run.run-index c.run-item.result c.in-Some.there.now (omega arith) c.run-item.is c.loop-run.invariant some

pub loop-run-preserved : goal.loop-run-preserved
loop-run-preserved c =
    let none : edit_with c.args.stamp c.run-item.result ≡ None = search rules in
    rw add-one (none-on c.args.stamp c.args.runs.now c.loop-run.run-index c.run-item.result (omega arith) c.run-item.is c.loop-run.invariant none)
