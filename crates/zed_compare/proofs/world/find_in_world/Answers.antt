use Rattle.zed_compare.specs.Findings.{world_findings, world_registers}
use Rattle.zed_compare.proofs.Kept.{kept_on, world_kept}
use Rattle.zed_compare.proofs.world.find_in_world.Goals as goal

pub returns-clause-registers : goal.returns-clause-registers
returns-clause-registers c =
    kept_on c.find_registers.result c.args.found.now.items c.find_registers.new.found.items (world_findings c.args.views.now) c.find_registers.ensures
    (world_kept c.args.views.now world_registers)
