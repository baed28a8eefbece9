-- What stands at a place of a program, and its lines.
use Rattle.std.specs.Prelude.{◌≡◌, ℕ, ◌+◌, ◌<◌, ◌≤◌, ◌||◌, ◌==◌, if◌then◌else◌, List, [], ◌∷◌, length, slice_get, slice_range, Option, Some, None}
use Rattle.zed_oop_syntax.specs.declared.lines.LineKind.{LineKind}
use Rattle.zed_oop_syntax.specs.declared.lines.LineKind.TheVariants.{End as EndKind, Skipped as SkippedKind, Blank as BlankKind, Step as StepKind, Attempt as AttemptKind, Command as CommandKind, Message as MessageKind}
use Rattle.zed_oop_syntax.specs.declared.lines.Instruction.{Instruction}
use Rattle.zed_oop_syntax.specs.declared.lines.Instruction.TheVariants.{End, Skipped, Blank, Step, Attempt, Command, Message}
use Rattle.zed_oop_syntax.specs.declared.lines.Line.{Line}
use Rattle.zed_oop_syntax.specs.Text.{line_after, line_end}
use Rattle.zed_oop_syntax.specs.Heading.{DirectionAt, HeadingKeeps}

-- what a byte begins: `:` 58, `'` 39, `@` 64, `/` 47, `?` 63, `#` 35
abbrev pub begun_by : Option ℕ → LineKind
begun_by None = EndKind
begun_by (Some b) =
    if b == 0 then EndKind else
    if b == 58 || b == 39 || b == 64 then SkippedKind else
    if b == 13 then BlankKind else
    if b == 47 then StepKind else
    if b == 63 then AttemptKind else
    if b == 35 then CommandKind else MessageKind

-- what the byte at a place begins; where there is none, the end
abbrev pub begun_at : List ℕ → ℕ → LineKind
begun_at p at = begun_by (slice_get p at)

-- the line at a place, without its end
unfoldable pub line_text : List ℕ → ℕ → List ℕ
line_text p at = slice_range p at (line_end p at)

-- an instruction stands at a place, and the program goes on at another
abbrev pub InstructionAt : List ℕ → ℕ → Instruction → ℕ → Type 0
InstructionAt p at End next = (begun_at p at ≡ EndKind) × (next ≡ at)
InstructionAt p at Skipped next = (begun_at p at ≡ SkippedKind) × (next ≡ line_after p at)
InstructionAt p at Blank next = (begun_at p at ≡ BlankKind) × (next ≡ at + 1)
InstructionAt p at (Step h) next = (begun_at p at ≡ StepKind) × DirectionAt p (at + 1) h next
InstructionAt p at (Attempt h) next = (begun_at p at ≡ AttemptKind) × DirectionAt p (at + 1) h next
InstructionAt p at Command next = (begun_at p at ≡ CommandKind) × (next ≡ at + 1)
InstructionAt p at (Message m) next =
    (begun_at p at ≡ MessageKind) × (m ≡ line_text p at) × (next ≡ line_after p at)

-- an instruction has turns, or the line of a message, which are kept in memory
abbrev pub InstructionKeeps : Instruction → Type 0
InstructionKeeps (Step h) = HeadingKeeps h
InstructionKeeps (Attempt h) = HeadingKeeps h
InstructionKeeps (Message m) = Unit {0}
InstructionKeeps _ = ⊥

-- reading the instruction at a place takes memory
abbrev pub InstructionTakes : List ℕ → ℕ → Type 0
InstructionTakes p at = (i : Instruction) × ((next : ℕ) × (InstructionAt p at i next × InstructionKeeps i))

-- the kind of a line that an instruction begins
abbrev pub line_kind : Instruction → LineKind
line_kind End = EndKind
line_kind Skipped = SkippedKind
line_kind Blank = BlankKind
line_kind (Step h) = StepKind
line_kind (Attempt h) = AttemptKind
line_kind Command = CommandKind
line_kind (Message m) = MessageKind

-- an instruction that begins a line of this kind stands at a place
abbrev pub Begins : List ℕ → ℕ → LineKind → Type 0
Begins p at kind = (i : Instruction) × ((next : ℕ) × (InstructionAt p at i next × (kind ≡ line_kind i)))

-- a line of a program: where it starts, its bytes, and what stands there
pub record LineAt (p : List ℕ) (at : ℕ) (l : Line) : Type 0 where
  pub start : l.start ≡ at
  pub text : l.text.now ≡ line_text p at
  pub kind : Begins p at l.kind

-- the lines of a program from a place on, each behind the one before
abbrev pub LinesFrom : List ℕ → ℕ → List Line → Type 0
LinesFrom p at [] = length p ≤ at
LinesFrom p at (l ∷ ls) = (at < length p) × LineAt p at l × LinesFrom p (line_after p at) ls

-- where the program goes on behind an instruction that doesn't end the turn
abbrev pub IsAhead : Instruction → ℕ → ℕ → ℕ → Type 0
IsAhead Skipped at next n = (at < next) × (next ≤ n)
IsAhead Blank at next n = (at < next) × (next ≤ n)
IsAhead Command at next n = (at < next) × (next ≤ n)
IsAhead (Message m) at next n = (at < next) × (next ≤ n)
IsAhead _ at next n = Unit {0}
