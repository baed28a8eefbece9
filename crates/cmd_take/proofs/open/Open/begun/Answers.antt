use Rattle.cmd_take.proofs.open.Open.begun.Goals as goal

pub returns-in-Careful-clause-leads : goal.returns-in-Careful-clause-leads
returns-in-Careful-clause-leads c =
    rw c.in-Careful.is (c.requires, record { wants = λ rest name is. is; comes = λ rest r is. is })

pub returns-in-Forced-clause-leads : goal.returns-in-Forced-clause-leads
returns-in-Forced-clause-leads c = let done = rw c.in-Forced.is at c.done.ensures.leads in rw c.in-Forced.is done
