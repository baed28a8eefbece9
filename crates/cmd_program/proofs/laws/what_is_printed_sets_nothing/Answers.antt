use Rattle.cmd_program.proofs.Nothing.{sets_nothing}
use Rattle.cmd_program.proofs.laws.what_is_printed_sets_nothing.Goals as goal

pub returns : goal.returns
returns c = sets_nothing c.what_is_printed_is_read.ensures c.own_programs_stay.ensures c.read_is_normal.ensures
