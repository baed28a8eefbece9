use Rattle.zed_oop_syntax.proofs.OneInstruction.{instruction_one, instruction_there}
use Rattle.zed_oop_syntax.proofs.laws.one_instruction.Goals as goal

pub returns : goal.returns
returns c = record { stands = λ p at. let found = instruction_there p at in (found.0, (found.1.0, found.1.1.0)); alone = instruction_one }
