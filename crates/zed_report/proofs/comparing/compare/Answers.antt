use Rattle.zed_report.proofs.Counted.{shown_told}
use Rattle.zed_report.proofs.comparing.compare.Goals as goal

pub returns-in-Ok : goal.returns-in-Ok
returns-in-Ok c = λ es fs sides. shown_told es fs c.args.sides.now c.in-Ok.views c.told.result c.in-Ok.ensures c.told.ensures sides
