use Rattle.zed_compare.specs.Findings.{stat_findings, stat_registers}
use Rattle.zed_join.specs.Things.{IsStat}
use Rattle.zed_compare.proofs.Kept.{kept_each, stat_kept}
use Rattle.zed_compare.proofs.stats.find_fields.Goals as goal

pub returns-clause-registers : goal.returns-clause-registers
returns-clause-registers c =
    kept_each (λ b. IsStat c.args.views.now b c.args.id c.args.stat.now) (λ b. stat_findings c.args.views.now b c.args.id) c.find_registers.result
    c.args.found.now.items c.find_registers.new.found.items c.find_registers.ensures
    (λ b. stat_kept c.args.views.now b c.args.id stat_registers)
