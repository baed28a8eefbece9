use Rattle.cmd_program.proofs.setting.SetProgram.new.Goals as goal

pub returns-clause-stands : goal.returns-clause-stands
returns-clause-stands c = record { wants = λ rest name is. is; comes = λ rest r is. is }
