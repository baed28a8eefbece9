use Rattle.zed_compare.specs.Findings.{of_registers, shown_stat_findings}
use Rattle.zed_compare.proofs.Sought.{one_more}
use Rattle.zed_compare.proofs.findings.find_stats.Goals as goal

pub loop-j-preserved : goal.loop-j-preserved
loop-j-preserved c = λ b is.
    one_more (shown_stat_findings c.args.views.now b) c.args.shown.now.stats c.loop-j.j c.at.result.0 c.at.result.1.now
    (of_registers c.find_stat.new.found.items) (of_registers c.loop-j.found.items) _ c.at.ensures (c.in_ok-find_stat.ensures b is) (c.loop-j.invariant b is)
