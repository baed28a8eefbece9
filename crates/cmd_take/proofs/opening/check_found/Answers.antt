use Rattle.cmd_take.proofs.opening.check_found.Goals as goal

pub returns-in-Some : goal.returns-in-Some
returns-in-Some c = rw c.in-Some.is c.check_same.ensures.same

pub returns-in-None : goal.returns-in-None
returns-in-None c = rw c.in-None.is c.check_same-in-None.ensures.same
