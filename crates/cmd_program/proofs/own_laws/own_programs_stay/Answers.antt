use Rattle.cmd_program.proofs.Own.{stays}
use Rattle.cmd_program.proofs.own_laws.own_programs_stay.Goals as goal

pub returns : goal.returns
returns c = stays
