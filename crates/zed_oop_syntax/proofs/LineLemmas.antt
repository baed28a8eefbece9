-- Lines and what begins them.
use Rattle.std.proofs.Common.{◌≡◌, ◌∙◌, ℕ, ◌+◌, List, refl}
use Rattle.zed_oop_syntax.specs.declared.lines.LineKind.{LineKind}
use Rattle.zed_oop_syntax.specs.declared.lines.LineKind.TheVariants.{Step as StepKind, Attempt as AttemptKind, Message as MessageKind}
use Rattle.zed_oop_syntax.specs.declared.lines.Instruction.TheVariants.{Step, Attempt, Message}
use Rattle.zed_oop_syntax.specs.Heading.{DirectionTakes}
use Rattle.zed_oop_syntax.specs.Text.{line_after}
use Rattle.zed_oop_syntax.specs.Line.{Begins, InstructionTakes, begun_at, line_text}
use Rattle.zed_oop_syntax.proofs.OneInstruction.{instruction_there}

-- the kind that the first byte tells is that of the instruction
pub begins : (p : List ℕ) (at : ℕ) (kind : LineKind) → kind ≡ begun_at p at → Begins p at kind
begins p at kind e = let found = instruction_there p at in (found.0, (found.1.0, (found.1.1.0, e ∙ found.1.1.1)))

-- a turned direction behind the mark of a step
pub step_takes : (p : List ℕ) (at : ℕ) → begun_at p at ≡ StepKind → DirectionTakes p (at + 1) → InstructionTakes p at
step_takes p at begun (h, (end, (stands, keeps))) = (Step h, (end, ((begun, stands), keeps)))

pub attempt_takes : (p : List ℕ) (at : ℕ) → begun_at p at ≡ AttemptKind → DirectionTakes p (at + 1) → InstructionTakes p at
attempt_takes p at begun (h, (end, (stands, keeps))) = (Attempt h, (end, ((begun, stands), keeps)))

-- the line of a message
pub message_takes : (p : List ℕ) (at : ℕ) → begun_at p at ≡ MessageKind → InstructionTakes p at
message_takes p at begun = (Message (line_text p at), (line_after p at, ((begun, refl, refl), tt)))
