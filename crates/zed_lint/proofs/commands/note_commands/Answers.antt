use Rattle.zed_lint.specs.Commands.{commands_findings, fault_findings}
use Rattle.zed_lint.proofs.Along.{ends, goes_on, stops}
use Rattle.zed_lint.proofs.commands.note_commands.Goals as goal

pub loop-left-preserved : goal.loop-left-preserved
loop-left-preserved c =
    goes_on (fault_findings c.args.spot c.args.stats.now c.args.held.now c.args.set.now) c.args.program.now c.loop-left.left c.loop-left.next _ c.in-Some.reading c.loop-left.found.items _ _ c.loop-left-test.true c.in-Some.is c.loop-left.invariant c.in_ok-next-in-Some.ensures.ok c.in_ok-next-in-Some.ensures.next

pub returns-in-None : goal.returns-in-None
unfolding commands_findings
returns-in-None c =
    stops (fault_findings c.args.spot c.args.stats.now c.args.held.now c.args.set.now) c.args.program.now c.loop-left.left c.loop-left.next c.loop-left.found.items _ c.in-None.is c.loop-left.invariant

pub returns : goal.returns
unfolding commands_findings
returns c =
    ends (fault_findings c.args.spot c.args.stats.now c.args.held.now c.args.set.now) c.args.program.now c.loop-left.left c.loop-left.next c.loop-left.found.items _ c.loop-left-test.false c.loop-left.invariant
