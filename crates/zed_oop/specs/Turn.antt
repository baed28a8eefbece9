-- A turn of a program: a chain of instructions.
use Rattle.std.specs.Prelude.{Result, Ok, Err, MatchResult, ◌+◌, ◌*◌, ◌<◌, ◌≡◌, ◌⊎◌, ℕ, ◌-◌, zero, suc, Bool, true, false, if◌then◌else◌, List, [], ◌∷◌, ◌++◌, codes, length, Option, Some, None}
use Rattle.zed_oop.specs.declared.acting.Next.{Next}
use Rattle.zed_oop.specs.declared.acting.Next.TheVariants.{Skip, Stay, Command as CommandNext, SkipAndEnd, End as EndNext, Error}
use Rattle.zed_scene.specs.declared.stat.Stat.{Stat}
use Rattle.zed_oop_syntax.specs.declared.commands.OopCommand.{OopCommand}
use Rattle.zed_oop_syntax.specs.declared.heading.Heading.{Heading}
use Rattle.zed_oop.specs.declared.turning.Effects.{Effects}
use Rattle.zed_oop_syntax.specs.declared.lines.Instruction.{Instruction}
use Rattle.zed_oop_syntax.specs.declared.lines.Instruction.TheVariants.{End, Skipped, Blank, Step, Attempt, Command as CommandLine, Message}
use Rattle.zed_types.specs.declared.tile.Place.{Place}
use Rattle.zed_scene.specs.declared.error.SceneError.{SceneError}
use Rattle.zed_scene.specs.declared.error.SceneError.TheVariants.{Memory, NoWords}
use Rattle.zed_oop.specs.declared.turning.After.{After}
use Rattle.zed_oop.specs.declared.turning.After.TheVariants.{Ends, Goes, Counts}
use Rattle.zed_oop.specs.declared.turning.Reading.{Reading}
use Rattle.zed_oop.specs.declared.turning.Reading.TheVariants.{Instructing, Commanding}
use Rattle.zed_scene.specs.Scene.{Scene, program_of, running_stat, there}
use Rattle.zed_scene.specs.declared.step.Step.{Step as Way}
use Rattle.zed_oop.specs.Acting.{with_position, skip_line}
use Rattle.zed_scene.specs.Trying.{try_move}
use Rattle.zed_oop_syntax.specs.Command.{CommandAt, CommandKeeps}
use Rattle.zed_oop.specs.Effect.{EffectTakes, IsError, effect}
use Rattle.zed_oop.specs.Leading.{led}
use Rattle.zed_oop_syntax.specs.Line.{InstructionAt, InstructionKeeps}
use Rattle.zed_scene.specs.Words.{Drawn}

-- a turn in the middle: the board, the words of chance that are left, and the messages so far
pub record State : Type 0 where
  pub scene : Scene
  pub left : List ℕ
  pub lines : List (List ℕ)

-- what comes of one instruction
pub data Outcome : Type 0 where
  -- the turn goes on
  goes : Reading → State → Outcome
  -- the same, and a command word was read
  counts : Reading → State → Outcome
  ends : State → Outcome
  -- a word of chance is lacking
  lacks : Outcome

-- a turn with one message more
abbrev pub with_line : List ℕ → State → State
with_line m t = record t { lines = t.lines ++ m ∷ [] }

-- a turn with this board
abbrev pub with_scene : Scene → State → State
with_scene s t = record t { scene = s }

-- the message of an error; the program ends with it
abbrev pub failed : State → State
failed t = with_line (codes "ERR") (with_scene (with_position None t.scene) t)

-- ---- instructions

-- the running stat goes on at this place of its program, or at none: its program has ended
abbrev pub to_place : Option ℕ → State → State
to_place o t = with_scene (with_position o t.scene) t

-- a step that was done, or wasn't: the position is then `next`, or `again`
abbrev pub stepped : ℕ → ℕ → Bool × Scene → State → Outcome
stepped again next moved t =
    if moved.0 then ends (to_place (Some next) (with_scene moved.1 t)) else ends (to_place (Some again) (with_scene moved.1 t))

-- a step is tried from `here`, by `/` or `?`; ERR where the direction was none
abbrev pub stepped_if : Place → ℕ → ℕ → Option Way → State → Outcome
stepped_if here again next None t = ends (failed t)
stepped_if here again next (Some d) t = stepped again next (try_move here d t.scene) t

-- a step that a direction drew is tried; none drawn means that a word of chance is lacking
abbrev pub stepped_by : Drawn (Option Way) → Place → ℕ → ℕ → State → Outcome
stepped_by None here again next t = lacks
stepped_by (Some d) here again next t = stepped_if here again next d.0 (record t { left = d.1 })

-- what comes of an instruction that stands at a place and before `next`: `/` is tried again where it isn't done, `?` isn't
abbrev pub instructed : Instruction → ℕ → ℕ → Stat → State → Outcome
instructed End at next a t = ends (to_place None t)
instructed Skipped at next a t = goes Instructing (to_place (Some next) t)
instructed Blank at next a t = goes Instructing (to_place (Some next) t)
instructed (Message m) at next a t = goes Instructing (with_line m (to_place (Some next) t))
instructed CommandLine at next a t = goes (Commanding at) (to_place (Some next) t)
instructed (Step h) at next a t = stepped_by (led h.turns h.course a t.scene t.left) a.place at next t
instructed (Attempt h) at next a t = stepped_by (led h.turns h.course a t.scene t.left) a.place next next t

-- ---- commands

-- how the turn goes on after a command that began with the `#` at `start`
abbrev pub settled : ℕ → Next → State → Outcome
settled start Skip t = counts Instructing (with_scene (skip_line t.scene) t)
settled start Stay t = counts Instructing t
settled start CommandNext t = counts (Commanding start) t
settled start SkipAndEnd t = ends (with_scene (skip_line t.scene) t)
settled start EndNext t = ends t
settled start Error t = ends (failed t)

-- what comes of a command that may draw words: how the turn goes on, or that one is lacking
abbrev pub settled_by : ℕ → Drawn (Next × Scene) → State → Outcome
settled_by start None t = lacks
settled_by start (Some d) t = settled start d.0.0 (record t { scene = d.0.1; left = d.1 })

-- what comes of a command, or of none, before `next`
abbrev pub commanded : Option OopCommand → ℕ → ℕ → Stat → State → Outcome
commanded None start next a t = goes Instructing (to_place (Some next) t)
commanded (Some c) start next a t =
    settled_by start (effect c start a (with_position (Some next) t.scene) t.left) t

-- ---- the turn

-- the stat whose program has its turn, and its place in it
abbrev pub Stands : Scene → Stat → ℕ → Type 0
Stands s a at = (running_stat s ≡ Some a) × (a.position ≡ Some at)

-- the place of a stat in its program; none where it has ended or the stat is gone
abbrev pub position_of : Option Stat → Option ℕ
position_of None = None
position_of (Some a) = a.position

-- one instruction, or one command
pub data Does : Reading → State → Outcome → Type 0 where
  -- the stat is gone, or its program has ended
  over : (r : Reading) (t : State) → position_of (running_stat t.scene) ≡ None → Does r t (ends t)
  instructs : (t : State) (a : Stat) (at : ℕ) (i : Instruction) (next : ℕ) → Stands t.scene a at
      → InstructionAt (program_of t.scene a.program) at i next
      → Does Instructing t (instructed i at next a t)
  commands : (start : ℕ) (t : State) (a : Stat) (at : ℕ) (c : Option OopCommand) (next : ℕ) → Stands t.scene a at
      → CommandAt (program_of t.scene a.program) at c next
      → Does (Commanding start) t (commanded c start next a t)

-- where no command word may be read any more, the rest of the line is skipped in place of a command
abbrev pub finished : Reading → State → State
finished Instructing t = t
finished (Commanding start) t = with_scene (skip_line t.scene) t

-- a chain of instructions, with at most so many command words: where it ends, or none where a word of chance is lacking
pub data Chain : ℕ → Reading → State → Option State → Type 0 where
  used_up : (r : Reading) (t : State) → Chain zero r t (Some (finished r t))
  ended : (n : ℕ) (r : Reading) (t u : State) → Does r t (ends u) → Chain (suc n) r t (Some u)
  lacked : (n : ℕ) (r : Reading) (t : State) → Does r t lacks → Chain (suc n) r t None
  went_on : (n : ℕ) (r q : Reading) (t u : State) (e : Option State) → Does r t (goes q u) → Chain (suc n) q u e → Chain (suc n) r t e
  counted : (n : ℕ) (r q : Reading) (t u : State) (e : Option State) → Does r t (counts q u) → Chain n q u e → Chain (suc n) r t e

-- where a turn of stat i with these words begins
abbrev pub start_of : Scene → ℕ → List ℕ → State
start_of s i ws = record { scene = record s { running = there s i }; left = ws; lines = [] }

-- where a turn of stat i ends, 33 command words at most; none where a word of chance is lacking
abbrev pub Turn : Scene → ℕ → List ℕ → Option State → Type 0
Turn s i ws e = Chain 33 Instructing (start_of s i ws) e

-- ---- want of memory

-- a direction leads nowhere, of which the error is told
abbrev pub IsAstray : Heading → Stat → State → Type 0
IsAstray h a t = (left : List ℕ) × (led h.turns h.course a t.scene t.left ≡ Some (None, left))

-- doing an instruction takes memory: a message is told, or the error of a step that leads nowhere
abbrev pub InstructionWants : Instruction → Stat → State → Type 0
InstructionWants (Message m) a t = Unit {0}
InstructionWants (Step h) a t = IsAstray h a t
InstructionWants (Attempt h) a t = IsAstray h a t
InstructionWants _ a t = ⊥

-- doing a command takes memory, for what it does or for the error of one that asks for what there isn't
abbrev pub CommandWants : Option OopCommand → ℕ → Stat → State → Type 0
CommandWants None start a t = ⊥
CommandWants (Some c) start a t = EffectTakes c a t.scene t.left ⊎ IsError (effect c start a t.scene t.left)

-- what is read at a place of a program, or doing it, takes memory
abbrev pub Takes : Reading → Stat → ℕ → State → Type 0
Takes Instructing a at t =
    (i : Instruction) × ((next : ℕ) × (InstructionAt (program_of t.scene a.program) at i next × (InstructionKeeps i ⊎ InstructionWants i a t)))
Takes (Commanding start) a at t =
    (c : OopCommand) × ((next : ℕ) × (CommandAt (program_of t.scene a.program) at (Some c) next
    × (CommandKeeps c ⊎ CommandWants (Some c) start a (to_place (Some next) t))))

-- what the running stat reads, or doing it, takes memory
abbrev pub ReadingTakes : Reading → State → Type 0
ReadingTakes r t = (a : Stat) × ((at : ℕ) × (Stands t.scene a at × Takes r a at t))

-- in a chain of instructions, with at most so many command words, something is read or done that takes memory
pub data ChainTakes : ℕ → Reading → State → Type 0 where
  takes_here : (n : ℕ) (r : Reading) (t : State) → ReadingTakes r t → ChainTakes (suc n) r t
  takes_further : (n : ℕ) (r q : Reading) (t u : State) → Does r t (goes q u) → ChainTakes (suc n) q u → ChainTakes (suc n) r t
  takes_behind : (n : ℕ) (r q : Reading) (t u : State) → Does r t (counts q u) → ChainTakes n q u → ChainTakes (suc n) r t

-- a turn of stat i with these words takes memory
abbrev pub TurnTakes : Scene → ℕ → List ℕ → Type 0
TurnTakes s i ws = ChainTakes 33 Instructing (start_of s i ws)

-- ---- what calls answer

-- a turn with this board, these words of chance left, and these messages so far
abbrev pub state : Scene → List ℕ → List (List ℕ) → State
state s ws ls = record { scene = s; left = ws; lines = ls }

-- what came of an instruction: how the turn goes on, and from what state
abbrev pub after : After → State → Outcome
after Ends t = ends t
after (Goes r) t = goes r t
after (Counts r) t = counts r t

-- one instruction or command was done, or a word of chance is lacking, or memory was refused
abbrev pub StepsTo : Result After SceneError → Reading → State → State → Type 0
StepsTo result r t u =
    MatchResult result (λ a. Does r t (after a u)) (λ e. (e ≡ Memory) ⊎ ((e ≡ NoWords) × Does r t lacks))

-- this is what came of an instruction, with this state; or a word is lacking, or memory was refused
abbrev pub Comes : Result After SceneError → Outcome → State → Type 0
Comes result outcome u =
    MatchResult result (λ a. outcome ≡ after a u) (λ e. (e ≡ Memory) ⊎ ((e ≡ NoWords) × (outcome ≡ lacks)))

-- the step of `/` or `?` was tried, and the turn ends; or a word is lacking, or memory was refused
abbrev pub DoesStep : {X : Type 0} → Result X SceneError → Heading → Stat → ℕ → ℕ → State → State → Type 0
DoesStep result h a again next t u =
    let outcome = stepped_by (led h.turns h.course a t.scene t.left) a.place again next t in
    MatchResult result (λ _. outcome ≡ ends u) (λ e. (e ≡ Memory) ⊎ ((e ≡ NoWords) × (outcome ≡ lacks)))

-- a turn was had, and told how many words it used; or one is lacking, or memory was refused
abbrev pub TurnsTo : Result Effects SceneError → Scene → ℕ → List ℕ → Scene → Type 0
TurnsTo result s i ws u =
    MatchResult result
    (λ e. (left : List ℕ) × (Turn s i ws (Some (state u left e.lines)) × (e.used ≡ length ws - length left) × (e.number ≡ u.running)))
    (λ e. (e ≡ Memory) ⊎ ((e ≡ NoWords) × Turn s i ws None))

-- a turn was had, with these messages; or a word is lacking, or memory was refused
abbrev pub HasTurn : Result (List (List ℕ)) SceneError → Scene → ℕ → List ℕ → Scene → List ℕ → Type 0
HasTurn result s i ws u left =
    MatchResult result
    (λ ls. Turn s i ws (Some (state u left ls)))
    (λ e. (e ≡ Memory) ⊎ ((e ≡ NoWords) × Turn s i ws None))

-- how far a reading is from the end of the program: each step without a command word makes it less
abbrev pub room_at : Reading → ℕ → Option ℕ → ℕ
room_at r n None = 0
room_at Instructing n (Some at) = 2 * (n - at)
room_at (Commanding start) n (Some at) = 2 * (n - at) + 1

-- how far a reading is from the end of this stat's program; 0 where the stat is gone
abbrev pub room_of : Reading → Option Stat → Scene → ℕ
room_of r None s = 0
room_of r (Some a) s = room_at r (length (program_of s a.program)) a.position

-- how far a reading is from the end of the program that has its turn
abbrev pub room : Reading → Scene → ℕ
room r s = room_of r (running_stat s) s

-- where the turn goes on and no command word was read, the end of the program is nearer
abbrev pub IsNearer : After → Reading → Scene → Scene → Type 0
IsNearer Ends r s t = Unit {0}
IsNearer (Goes q) r s t = room q t < room r s
IsNearer (Counts q) r s t = Unit {0}

-- steps up to a command word, or to the end of the turn
abbrev pub Runs : Result (Option Reading) SceneError → Reading → State → State → Type 0
Runs (Ok None) r t u = (n : ℕ) → Chain (suc n) r t (Some u)
Runs (Ok (Some q)) r t u = (n : ℕ) (e : Option State) → Chain n q u e → Chain (suc n) r t e
Runs (Err e) r t u = (e ≡ Memory) ⊎ ((e ≡ NoWords) × ((n : ℕ) → Chain (suc n) r t None))

-- what takes memory behind steps up to a command word takes it in the chain that begins with them; and where memory was
-- refused, something in them took it
abbrev pub RunTakes : Result (Option Reading) SceneError → Reading → State → State → Type 0
RunTakes (Ok None) r t u = Unit {0}
RunTakes (Ok (Some q)) r t u = (n : ℕ) → ChainTakes n q u → ChainTakes (suc n) r t
RunTakes (Err e) r t u = e ≡ Memory → (n : ℕ) → ChainTakes (suc n) r t
