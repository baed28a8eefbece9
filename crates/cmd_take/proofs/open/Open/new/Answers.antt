use Rattle.cmd_take.proofs.open.Open.new.Goals as goal

pub returns-clause-stands : goal.returns-clause-stands
returns-clause-stands c = (tt, record { wants = λ rest name is. is; comes = λ rest r is. is })
