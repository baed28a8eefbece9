-- What was read is what stands there.
use Rattle.std.proofs.Common.{◌≡◌, ℕ, List, Option, ap₂}
use Rattle.zed_oop_syntax.specs.Command.{CommandAt}
use Rattle.zed_oop_syntax.specs.Line.{InstructionAt}
use Rattle.zed_oop_syntax.specs.declared.commands.OopCommand.{OopCommand}
use Rattle.zed_oop_syntax.specs.declared.lines.Instruction.{Instruction}
use Rattle.zed_oop_syntax.proofs.CommandThere.{command_there}
use Rattle.zed_oop_syntax.proofs.OneCommand.{command_one}
use Rattle.zed_oop_syntax.proofs.OneInstruction.{instruction_one, instruction_there}
use Rattle.zed_lint.specs.Reading.{read_at}
use Rattle.zed_lint.specs.declared.reading.Read.TheVariants.{Instruction as InstructionRead, Command as CommandRead}
use Rattle.zed_lint.specs.declared.reading.Reading.TheVariants.{Instructing, Commanding}

-- an instruction
pub instruction_is : (p : List ℕ) (at : ℕ) (i : Instruction) (end : ℕ) → InstructionAt p at i end
    → InstructionRead i end ≡ read_at p (Instructing at)
unfolding read_at
instruction_is p at i end stands =
    let there = instruction_there p at in
    let one = instruction_one p at i there.0 end there.1.0 stands there.1.1.0 in
    ap₂ (λ (j : Instruction) (n : ℕ). InstructionRead j n) one.0 one.1

-- a command
pub command_is : (p : List ℕ) (mark at : ℕ) (c : Option OopCommand) (end : ℕ) → CommandAt p at c end
    → CommandRead c end ≡ read_at p (Commanding mark at)
unfolding read_at
command_is p mark at c end stands =
    let there = command_there p at in
    let one = command_one p at c there.0 end there.1.0 stands there.1.1 in
    ap₂ (λ (d : Option OopCommand) (n : ℕ). CommandRead d n) one.0 one.1
