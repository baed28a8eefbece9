use Rattle.cmd_page.proofs.Contained.{contained}
use Rattle.cmd_page.proofs.laws.names_and_programs_are_contained.Goals as goal

pub returns : goal.returns
returns c = contained
