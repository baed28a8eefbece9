use Rattle.cmd_undo.proofs.undo.Undo.new.Goals as goal

pub returns-clause-stands : goal.returns-clause-stands
returns-clause-stands c = (tt, record { wants = λ rest name is. is; comes = λ rest r is. is })
