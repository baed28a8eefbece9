-- What stands one after the other in a line of commands, as it is read in play.
use Rattle.std.specs.Prelude.{ℕ, zero, suc, List, [], ◌++◌, Option, Some, None}
use Rattle.zed_oop_syntax.specs.declared.commands.OopCommand.{OopCommand}
use Rattle.zed_oop_syntax.specs.declared.commands.OopCommand.TheVariants.{Try, If, Take}
use Rattle.zed_oop_syntax.specs.declared.conditions.Test.{Test}
use Rattle.zed_oop_syntax.specs.declared.conditions.Test.TheVariants.{Blocked, Any}
use Rattle.zed_oop_syntax.specs.declared.lines.Instruction.{Instruction}
use Rattle.zed_oop_syntax.specs.declared.lines.Instruction.TheVariants.{Step, Attempt, Command as CommandBegins}
use Rattle.zed_oop_syntax.proofs.CommandThere.{command_there}
use Rattle.zed_oop_syntax.proofs.OneInstruction.{instruction_there}
use Rattle.zed_lint.specs.declared.reading.Read.{Read}
use Rattle.zed_lint.specs.declared.reading.Read.TheVariants.{Instruction as InstructionRead, Command as CommandRead}
use Rattle.zed_lint.specs.declared.reading.Reading.{Reading}
use Rattle.zed_lint.specs.declared.reading.Reading.TheVariants.{Instructing, Commanding}

-- the instruction or the command that stands at a place, and where it ends: there is exactly one
unfoldable pub read_at : List ℕ → Reading → Read
read_at p (Instructing at) = let i = instruction_there p at in InstructionRead i.0 i.1.0
read_at p (Commanding mark at) = let c = command_there p at in CommandRead c.0 c.1.0

-- where the instruction began that is read
abbrev pub mark_of : Reading → ℕ
mark_of (Instructing at) = at
mark_of (Commanding mark at) = mark

-- what is read next, if there is what was named; if not, that is an error, which ends the program
abbrev pub if_named : {X : Type 0} → Option X → Reading → Option Reading
if_named None r = None
if_named (Some x) r = Some r

-- behind a step an instruction is read, and behind a `#` a command
abbrev pub after_instruction : Instruction → ℕ → ℕ → Option Reading
after_instruction (Step h) at end = if_named h.course (Instructing end)
after_instruction (Attempt h) at end = if_named h.course (Instructing end)
after_instruction CommandBegins at end = Some (Commanding at end)
after_instruction _ at end = None

-- what is read behind a test: a direction or a kind that it names must be one
abbrev pub after_test : Test → Reading → Option Reading
after_test (Blocked h) r = if_named h.course r
after_test (Any kind) r = if_named kind r
after_test _ r = Some r

-- behind TRY, IF and TAKE a command is read, and where no word stood an instruction
abbrev pub after_command : Option OopCommand → ℕ → ℕ → Option Reading
after_command None mark end = Some (Instructing end)
after_command (Some (Try h)) mark end = if_named h.course (Commanding mark end)
after_command (Some (If q)) mark end = after_test q.test (Commanding mark end)
after_command (Some (Take counter v)) mark end = if_named counter (Commanding mark end)
after_command (Some _) mark end = None

-- what is read behind that which was read on its line, if it goes on
abbrev pub next_reading : Read → Reading → Option Reading
next_reading (InstructionRead i end) r = after_instruction i (mark_of r) end
next_reading (CommandRead c end) r = after_command c (mark_of r) end

-- what comes of all that is read from a place on, n things at most
abbrev pub along : {X : Type 0} → (List ℕ → Reading → List X) → List ℕ → ℕ → Option Reading → List X
along find p zero o = []
along find p (suc n) None = []
along find p (suc n) (Some r) = find p r ++ along find p n (next_reading (read_at p r) r)
