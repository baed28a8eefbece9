-- Where a turn takes memory.
use Rattle.std.proofs.Common.{◌≡◌, inl, inr, ℕ, zero, suc, ◌<◌, Result, Ok, Err, List, Option, Some, None, sym, subst, arith}
use Rattle.zed_scene.specs.declared.error.SceneError.{SceneError}
use Rattle.zed_scene.specs.declared.error.SceneError.TheVariants.{Memory, NoWords}
use Rattle.zed_scene.specs.declared.stat.Stat.{Stat}
use Rattle.zed_scene.specs.Scene.{Scene, program_of, running_stat}
use Rattle.zed_scene.specs.Words.{Drawn}
use Rattle.zed_oop_syntax.specs.declared.commands.OopCommand.{OopCommand}
use Rattle.zed_oop_syntax.specs.declared.lines.Instruction.{Instruction}
use Rattle.zed_oop_syntax.specs.Command.{CommandAt, CommandTakes}
use Rattle.zed_oop_syntax.specs.Line.{InstructionAt, InstructionTakes}
use Rattle.zed_oop.specs.declared.turning.After.{After}
use Rattle.zed_oop.specs.declared.turning.After.TheVariants.{Goes, Counts}
use Rattle.zed_oop.specs.declared.turning.Reading.{Reading}
use Rattle.zed_oop.specs.declared.turning.Reading.TheVariants.{Commanding, Instructing}
use Rattle.zed_oop.specs.Effect.{Plays}
use Rattle.zed_oop.specs.Turn.{ChainTakes, CommandWants, Does, InstructionWants, ReadingTakes, RunTakes, State, after, takes_behind, takes_further, to_place}

-- an instruction that was read takes memory
pub reading_takes : (r : Reading) (t : State) (a : Stat) (at : ℕ) (p : List ℕ) → r ≡ Instructing → running_stat t.scene ≡ Some a
    → a.position ≡ Some at → p ≡ program_of t.scene a.program → InstructionTakes p at
    → ReadingTakes r t
reading_takes r t a at p is own place text (i, (next, (stands, keeps))) =
    let P : List ℕ → Type 0 = λ x. InstructionAt x at i next in
    let R : Reading → Type 0 = λ x. ReadingTakes x t in
    subst R (sym is) (a, (at, ((own, place), (i, (next, (subst P text stands, inl keeps))))))

-- doing it takes memory
pub following_takes : (r : Reading) (t : State) (a : Stat) (at : ℕ) (p : List ℕ) (i : Instruction) (next : ℕ) → r ≡ Instructing
    → running_stat t.scene ≡ Some a → a.position ≡ Some at → p ≡ program_of t.scene a.program → InstructionAt p at i next
    → InstructionWants i a t
    → ReadingTakes r t
following_takes r t a at p i next is own place text stands wants =
    let P : List ℕ → Type 0 = λ x. InstructionAt x at i next in
    let R : Reading → Type 0 = λ x. ReadingTakes x t in
    subst R (sym is) (a, (at, ((own, place), (i, (next, (subst P text stands, inr wants))))))

-- a command that was read takes memory
pub command_reading_takes : (r : Reading) (t : State) (a : Stat) (at start : ℕ) (p : List ℕ) → r ≡ Commanding start
    → running_stat t.scene ≡ Some a → a.position ≡ Some at → p ≡ program_of t.scene a.program → CommandTakes p at
    → ReadingTakes r t
command_reading_takes r t a at start p is own place text (c, (next, (stands, keeps))) =
    let P : List ℕ → Type 0 = λ x. CommandAt x at (Some c) next in
    let R : Reading → Type 0 = λ x. ReadingTakes x t in
    subst R (sym is) (a, (at, ((own, place), (c, (next, (subst P text stands, inl keeps))))))

-- doing it takes memory
pub command_takes : (r : Reading) (t : State) (a : Stat) (at start : ℕ) (p : List ℕ) (c : Option OopCommand) (next : ℕ)
    → r ≡ Commanding start → running_stat t.scene ≡ Some a → a.position ≡ Some at → p ≡ program_of t.scene a.program → CommandAt p at c next
    → CommandWants c start a (to_place (Some next) t)
    → ReadingTakes r t
command_takes r t a at start p None next is own place text stands wants = absurd wants
command_takes r t a at start p (Some c) next is own place text stands wants =
    let P : List ℕ → Type 0 = λ x. CommandAt x at (Some c) next in
    let R : Reading → Type 0 = λ x. ReadingTakes x t in
    subst R (sym is) (a, (at, ((own, place), (c, (next, (subst P text stands, inr wants))))))

-- what lacks a word isn't refused for memory
pub lacks_no_memory : {A T : Type 0} (e : SceneError) → e ≡ NoWords → ◌≡◌ {A = Result A SceneError} (Err e) (Err Memory) → T
lacks_no_memory e lacks refused = absurd (cc)

-- nor is what only words can be lacking to
pub plays_no_memory : {X T : Type 0} (r : Result X SceneError) (s : Scene) (left : List ℕ) (drawn : Drawn (X × Scene))
    → Plays r s left drawn → r ≡ Err Memory
    → T
plays_no_memory (Ok x) s left drawn p e = absurd (cc)
plays_no_memory (Err e) s left drawn p refused = lacks_no_memory e p.0 refused

-- ---- in a chain

pub goes_takes : (r q : Reading) (t u : State) (a : After) (n : ℕ) → Does r t (after a u) → a ≡ Goes q → ChainTakes (suc n) q u
    → ChainTakes (suc n) r t
goes_takes r q t u a n d e rest = let P : After → Type 0 = λ x. Does r t (after x u) in takes_further n r q t u (subst P e d) rest

pub counts_takes : (r q : Reading) (t u : State) (a : After) (n : ℕ) → Does r t (after a u) → a ≡ Counts q → ChainTakes n q u
    → ChainTakes (suc n) r t
counts_takes r q t u a n d e rest = let P : After → Type 0 = λ x. Does r t (after x u) in takes_behind n r q t u (subst P e d) rest

-- a run in which memory was refused, within a turn
pub run_takes : (T : Type 0) (r : Reading) (t u : State) (x : SceneError) (k : ℕ) → 0 < k → (ChainTakes k r t → T) → RunTakes (Err x) r t u
    → x ≡ Memory
    → T
run_takes T r t u x zero h further takes e = absurd (omega arith)
run_takes T r t u x (suc n) h further takes e = further (takes e n)

-- a run that went on, within a turn
pub run_goes_on : (T : Type 0) (r q : Reading) (t u : State) (o : Option Reading) (m k : ℕ) → RunTakes (Ok o) r t u → o ≡ Some q → k ≡ suc m
    → (ChainTakes k r t → T) → ChainTakes m q u
    → T
run_goes_on T r q t u o m k takes is count further rest =
    let P : Option Reading → Type 0 = λ x. RunTakes (Ok x) r t u in
    let on : (n : ℕ) → ChainTakes n q u → ChainTakes (suc n) r t = subst P is takes in
    let Q : ℕ → Type 0 = λ n. ChainTakes n r t in
    further (subst Q (sym count) (on m rest))
