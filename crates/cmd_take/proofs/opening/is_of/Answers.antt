use Rattle.cmd_take.proofs.Comparing.{no_text_tells, over_has_none}
use Rattle.cmd_take.proofs.opening.is_of.Goals as goal

pub returns-in_default-clause-is : goal.returns-in_default-clause-is
returns-in_default-clause-is c = λ es saved.
    no_text_tells es c.args.file.now c.args.world.now saved (over_has_none c.args.world.now c.in-Err.error c.in_default.not-Memory c.in-Err.ensures.result)
