use Rattle.cmd_save.proofs.Reports.{has_text}
use Rattle.cmd_save.proofs.report.report_of.Goals as goal

-- what was exported goes over no limit
pub size_of-requires-clause-within : goal.size_of-requires-clause-within
size_of-requires-clause-within c =
    has_text c.args.limit c.args.document.now c.in_ok-world.world c.requires.sound c.in_ok-world.ensures.result
