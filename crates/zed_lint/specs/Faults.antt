-- What is wrong with a command or a step: what is taken as ERR in play, and names that nothing has.
use Rattle.std.specs.List.{list_any}
use Rattle.std.specs.Prelude.{ℕ, Bool, ◌&&◌, ◌||◌, if◌then◌else◌, List, take, Option, Some, None}
use Rattle.std.specs.Str.{bytes_eq}
use Rattle.zed_oop_syntax.specs.Label.{byte_is}
use Rattle.zed_oop_syntax.specs.Text.{word_at}
use Rattle.zed_oop_syntax.specs.declared.commands.Counter.{Counter}
use Rattle.zed_oop_syntax.specs.declared.commands.OopCommand.{OopCommand}
use Rattle.zed_oop_syntax.specs.declared.commands.OopCommand.TheVariants.{Go, Try, Walk, Shoot, If, Give, Take, Become, Put, Change, Bind, Other}
use Rattle.zed_oop_syntax.specs.declared.conditions.Test.{Test}
use Rattle.zed_oop_syntax.specs.declared.conditions.Test.TheVariants.{Blocked, Any, Flag}
use Rattle.zed_oop_syntax.specs.declared.heading.Heading.{Heading}
use Rattle.zed_oop_syntax.specs.declared.kinds.TileKind.{TileKind}
use Rattle.zed_oop_syntax.specs.declared.lines.Instruction.{Instruction}
use Rattle.zed_oop_syntax.specs.declared.lines.Instruction.TheVariants.{Step, Attempt}
use Rattle.zed_world.specs.declared.stat.StatData.{StatData}
use Rattle.zed_log.specs.Program.{own_bytes}
use Rattle.zed_lint.specs.Labels.{is_known, label_of}
use Rattle.zed_lint.specs.Reading.{mark_of}
use Rattle.zed_lint.specs.declared.finding.What.{What}
use Rattle.zed_lint.specs.declared.finding.What.TheVariants.{NoCommand, NoDirection, NoKind, NoCounter, UnsetFlag, NoName}
use Rattle.zed_lint.specs.declared.reading.Read.{Read}
use Rattle.zed_lint.specs.declared.reading.Read.TheVariants.{Instruction as InstructionRead, Command as CommandRead}
use Rattle.zed_lint.specs.declared.reading.Reading.{Reading}

-- what is found where there is no such thing
abbrev pub missing : {X : Type 0} → What → Option X → Option What
missing what None = Some what
missing what (Some x) = None

-- a direction that leads nowhere
abbrev pub astray : ℕ → Heading → Option What
astray mark h = missing (NoDirection mark) h.course

-- a kind of tile that there isn't
abbrev pub kindless : ℕ → Option TileKind → Option What
kindless mark kind = missing (NoKind mark) kind

-- a counter that there isn't
abbrev pub countless : ℕ → Option Counter → Option What
countless mark counter = missing (NoCounter mark) counter

-- the first of two faults
abbrev pub first_of : Option What → Option What → Option What
first_of None o = o
first_of (Some what) o = Some what

-- a word as far as a flag holds it: its first 20 bytes
abbrev pub cut : List ℕ → List ℕ
cut w = take 20 w

-- whether one of these words, as far as a flag holds it, is this one
abbrev pub has_flag : List (List ℕ) → List ℕ → Bool
has_flag flags w = list_any (λ f. bytes_eq (cut f) w) flags

-- whether the world has a flag, or some program sets it
abbrev pub is_set : List (List ℕ) → List (List ℕ) → List ℕ → Bool
is_set held set w = has_flag held w || has_flag set w

-- a flag that can't have this word
abbrev pub unset : List (List ℕ) → List (List ℕ) → ℕ → List ℕ → Option What
unset held set mark w = if is_set held set w then None else Some (UnsetFlag mark w)

-- whether a program begins with `@` (64) and a name
abbrev pub is_named : List ℕ → List ℕ → Bool
is_named p name = byte_is p 0 64 && bytes_eq (word_at p 1) name

-- whether the program of one of these stats has a name
abbrev pub some_named : List StatData → List ℕ → Bool
some_named stats name = list_any (λ s. is_named (own_bytes s.code) name) stats

-- a name that no program has
abbrev pub nameless : List StatData → ℕ → List ℕ → Option What
nameless stats mark name = if some_named stats name then None else Some (NoName mark name)

-- a word that is no command, and no label either
abbrev pub meaningless : List StatData → ℕ → List ℕ → Option What
meaningless stats mark w = if is_known stats (label_of w) then None else Some (NoCommand mark w)

-- what is wrong with a test: the direction behind BLOCKED, the kind behind ANY, or the flag
abbrev pub test_fault : List (List ℕ) → List (List ℕ) → ℕ → Test → Option What
test_fault held set mark (Blocked h) = astray mark h
test_fault held set mark (Any kind) = kindless mark kind
test_fault held set mark (Flag w) = unset held set mark w
test_fault held set mark _ = None

-- what is wrong with a command: a row each, and nothing with the others
abbrev pub command_fault : List StatData → List (List ℕ) → List (List ℕ) → ℕ → OopCommand → Option What
command_fault stats held set mark (Go h) = astray mark h
command_fault stats held set mark (Try h) = astray mark h
command_fault stats held set mark (Walk h) = astray mark h
command_fault stats held set mark (Shoot h) = astray mark h
command_fault stats held set mark (Put h kind) = first_of (astray mark h) (kindless mark kind)
command_fault stats held set mark (If q) = test_fault held set mark q.test
command_fault stats held set mark (Give counter v) = countless mark counter
command_fault stats held set mark (Take counter v) = countless mark counter
command_fault stats held set mark (Become kind) = kindless mark kind
command_fault stats held set mark (Change from to) = first_of (kindless mark from) (kindless mark to)
command_fault stats held set mark (Bind name) = nameless stats mark name
command_fault stats held set mark (Other w) = meaningless stats mark w
command_fault stats held set mark _ = None

-- what is wrong with an instruction: the direction of a step
abbrev pub instruction_fault : ℕ → Instruction → Option What
instruction_fault mark (Step h) = astray mark h
instruction_fault mark (Attempt h) = astray mark h
instruction_fault mark _ = None

-- what is wrong with what was read
abbrev pub fault : List StatData → List (List ℕ) → List (List ℕ) → Reading → Read → Option What
fault stats held set r (InstructionRead i end) = instruction_fault (mark_of r) i
fault stats held set r (CommandRead (Some c) end) = command_fault stats held set (mark_of r) c
fault stats held set r (CommandRead None end) = None
