-- What a call shows of a turn that did an instruction.
use Rattle.std.proofs.Common.{Result, Ok, Err, inl, inr, subst, ◌≡◌, ℕ, List, Option, Some, sym}
use Rattle.zed_scene.specs.declared.stat.Stat.{Stat}
use Rattle.zed_oop_syntax.specs.Command.{CommandAt}
use Rattle.zed_oop_syntax.specs.declared.commands.OopCommand.{OopCommand}
use Rattle.zed_scene.specs.declared.error.SceneError.{SceneError}
use Rattle.zed_oop_syntax.specs.declared.lines.Instruction.{Instruction}
use Rattle.zed_oop.specs.declared.turning.After.{After}
use Rattle.zed_oop.specs.declared.turning.Reading.{Reading}
use Rattle.zed_oop.specs.declared.turning.Reading.TheVariants.{Instructing, Commanding}
use Rattle.zed_scene.specs.Scene.{program_of, running_stat}
use Rattle.zed_oop_syntax.specs.Line.{InstructionAt}
use Rattle.zed_oop.specs.Turn.{Comes, Does, Outcome, State, StepsTo, commanded, commands, instructed, instructs}

-- where it was shown what an instruction does, a call that came to that made the step
pub comes_of : (r : Reading) (t u : State) (o : Outcome) (result : Result After SceneError) → Does r t o → Comes result o u
    → StepsTo result r t u
comes_of r t u o (Ok a) d e = let P : Outcome → Type 0 = λ x. Does r t x in subst P e d
comes_of r t u o (Err e) d (inl memory) = inl memory
comes_of r t u o (Err e) d (inr w) = let P : Outcome → Type 0 = λ x. Does r t x in inr (w.0, subst P w.1 d)

-- the same of an instruction that stands in the own program
pub instruction_done : (r : Reading) (t u : State) (a : Stat) (at : ℕ) (i : Instruction) (next : ℕ) (p : List ℕ) (result : Result After SceneError)
    → r ≡ Instructing → running_stat t.scene ≡ Some a → a.position ≡ Some at → p ≡ program_of t.scene a.program → InstructionAt p at i next
    → Comes result (instructed i at next a t) u
    → StepsTo result r t u
instruction_done r t u a at i next p result is_i here place text stands comes =
    let P : List ℕ → Type 0 = λ q. InstructionAt q at i next in
    let R : Reading → Type 0 = λ q. StepsTo result q t u in
    subst R (sym is_i) (comes_of Instructing t u (instructed i at next a t) result (instructs t a at i next (here, place) (subst P text stands)) comes)

pub command_done : (r : Reading) (t u : State) (a : Stat) (at start : ℕ) (k : Option OopCommand) (next : ℕ) (p : List ℕ) (result : Result After SceneError)
    → r ≡ Commanding start → running_stat t.scene ≡ Some a → a.position ≡ Some at → p ≡ program_of t.scene a.program → CommandAt p at k next
    → Comes result (commanded k start next a t) u
    → StepsTo result r t u
command_done r t u a at start k next p result is_c here place text stands comes =
    let P : List ℕ → Type 0 = λ q. CommandAt q at k next in
    let R : Reading → Type 0 = λ q. StepsTo result q t u in
    subst R (sym is_c) (comes_of (Commanding start) t u (commanded k start next a t) result (commands start t a at k next (here, place) (subst P text stands)) comes)
