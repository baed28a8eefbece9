-- Turns that take no memory.
use borrow.Author.Tests.{ltb-false}
use Rattle.std.proofs.Common.{◌≡◌, ◌∙◌, ◌≤◌, ◌⊎◌, inl, inr, ℕ, zero, suc, arith, Bool, true, false, cond, nat_lt, length, slice_get, List, [], ◌∷◌, Option, Some, None, refl, sym, ap, subst}
use Rattle.zed_scene.specs.declared.stat.Stat.{Stat}
use Rattle.zed_scene.specs.Scene.{Scene, program_of, running_stat, stat_of}
use Rattle.zed_oop_syntax.specs.declared.lines.Instruction.{Instruction}
use Rattle.zed_oop_syntax.specs.declared.lines.Instruction.TheVariants.{End, Skipped, Blank, Step, Attempt, Command as CommandLine, Message}
use Rattle.zed_oop_syntax.specs.declared.lines.LineKind.TheVariants.{End as EndKind, Step as StepKind, Attempt as AttemptKind, Message as MessageKind}
use Rattle.zed_oop_syntax.specs.Line.{InstructionAt, InstructionKeeps}
use Rattle.zed_oop.specs.declared.turning.Reading.{Reading}
use Rattle.zed_oop.specs.declared.turning.Reading.TheVariants.{Instructing}
use Rattle.zed_oop.specs.Turn.{ChainTakes, Does, InstructionWants, ReadingTakes, State, TurnTakes, ends, goes, counts, instructs, over, position_of, start_of, takes_behind, takes_further, takes_here, to_place}
use Rattle.zed_oop.proofs.OneTurn.{does_one}

-- where an instruction ends the turn and takes none, the chain takes none
ends_takes_none : (n : ℕ) (r : Reading) (t u : State) → Does r t (ends u) → (ReadingTakes r t → ⊥) → ChainTakes n r t → ⊥
ends_takes_none n r t u d none (takes_here m r2 t2 w) = none w
ends_takes_none n r t u d none (takes_further m r2 q t2 v g rest) = let same : ends u ≡ goes q v = does_one r t (ends u) (goes q v) d g in absurd (cc)
ends_takes_none n r t u d none (takes_behind m r2 q t2 v g rest) = let same : ends u ≡ counts q v = does_one r t (ends u) (counts q v) d g in absurd (cc)

get_past : {X : Type 0} (xs : List X) (i : ℕ) → length xs ≤ i → slice_get xs i ≡ None
get_past [] i h = refl
get_past (x ∷ xs) zero h = absurd (omega arith)
get_past (x ∷ xs) (suc i) h = get_past xs i (omega arith)

-- the running stat where a turn begins
running_at_start : (s : Scene) (i : ℕ) (ws : List ℕ) → running_stat (start_of s i ws).scene ≡ slice_get s.stats i
running_at_start s i ws = by_there (nat_lt i (length s.stats)) refl
  where
    by_there : (b : Bool) → nat_lt i (length s.stats) ≡ b → stat_of s (cond (nat_lt i (length s.stats)) (Some i) None) ≡ slice_get s.stats i
    by_there true e = rw e refl
    by_there false e = rw e (sym (get_past s.stats i (ltb-false i (length s.stats) e)))

-- a stat that stands somewhere has a place
stands_somewhere : (r : Reading) (t : State) → position_of (running_stat t.scene) ≡ None → ReadingTakes r t → ⊥
stands_somewhere r t none (a, (at, ((o, p), w))) = let there : position_of (running_stat t.scene) ≡ Some at = ap position_of o ∙ p in absurd (cc)

pub ended_takes_none : (s : Scene) (i : ℕ) (ws : List ℕ) → position_of (slice_get s.stats i) ≡ None → TurnTakes s i ws → ⊥
ended_takes_none s i ws ended takes =
    let t = start_of s i ws in
    let none : position_of (running_stat t.scene) ≡ None = ap position_of (running_at_start s i ws) ∙ ended in
    ends_takes_none 33 Instructing t t (over Instructing t none) (stands_somewhere Instructing t none) takes

-- at the end of a program nothing takes memory
end_takes_none : (at : ℕ) (i : Instruction) (next : ℕ) (a : Stat) (t : State) → InstructionAt [] at i next
    → InstructionKeeps i ⊎ InstructionWants i a t
    → ⊥
end_takes_none at End next a t x (inl w) = w
end_takes_none at End next a t x (inr w) = w
end_takes_none at Skipped next a t x (inl w) = w
end_takes_none at Skipped next a t x (inr w) = w
end_takes_none at Blank next a t x (inl w) = w
end_takes_none at Blank next a t x (inr w) = w
end_takes_none at CommandLine next a t x (inl w) = w
end_takes_none at CommandLine next a t x (inr w) = w
end_takes_none at (Message m) next a t x w = let e : EndKind ≡ MessageKind = x.0 in absurd (cc)
end_takes_none at (Step h) next a t x w = let e : EndKind ≡ StepKind = x.0 in absurd (cc)
end_takes_none at (Attempt h) next a t x w = let e : EndKind ≡ AttemptKind = x.0 in absurd (cc)

-- a stat without a program reads its end
reads_end : (t : State) (a : Stat) → running_stat t.scene ≡ Some a → a.program ≡ None → ReadingTakes Instructing t → ⊥
reads_end t a is none (b, (at, ((o, p), (i, (next, (stands, w)))))) =
    let both : Some a ≡ Some b = sym is ∙ o in
    let same : b ≡ a = cc in
    let P : Stat → Type 0 = λ x. InstructionAt (program_of t.scene x.program) at i next in
    let Q : Option ℕ → Type 0 = λ x. InstructionAt (program_of t.scene x) at i next in
    end_takes_none at i next b t (subst Q none (subst P same stands)) w

none_takes_none_at : (o : Option ℕ) (t : State) (a : Stat) → running_stat t.scene ≡ Some a → a.position ≡ o → a.program ≡ None
    → ChainTakes 33 Instructing t
    → ⊥
none_takes_none_at None t a is place none takes =
    let ended : position_of (running_stat t.scene) ≡ None = ap position_of is ∙ place in
    ends_takes_none 33 Instructing t t (over Instructing t ended) (stands_somewhere Instructing t ended) takes
none_takes_none_at (Some at) t a is place none takes =
    let P : Option ℕ → Type 0 = λ x. InstructionAt (program_of t.scene x) at End at in
    ends_takes_none 33 Instructing t (to_place None t) (instructs t a at End at (is, place) (subst P (sym none) (refl, refl))) (reads_end t a is none) takes

pub none_takes_none : (s : Scene) (i : ℕ) (ws : List ℕ) (a : Stat) → slice_get s.stats i ≡ Some a → a.program ≡ None → TurnTakes s i ws → ⊥
none_takes_none s i ws a is none takes = none_takes_none_at a.position (start_of s i ws) a (running_at_start s i ws ∙ is) refl none takes
