-- At each place stands one instruction.
use Rattle.std.proofs.Common.{◌≡◌, ℕ, ◌+◌, List, refl, sym, subst, ap}
use Rattle.zed_oop_syntax.specs.declared.lines.LineKind.{LineKind}
use Rattle.zed_oop_syntax.specs.declared.lines.LineKind.TheVariants.{End as EndKind, Skipped as SkippedKind, Blank as BlankKind, Step as StepKind, Attempt as AttemptKind, Command as CommandKind, Message as MessageKind}
use Rattle.zed_oop_syntax.specs.declared.lines.Instruction.{Instruction}
use Rattle.zed_oop_syntax.specs.declared.lines.Instruction.TheVariants.{End, Skipped, Blank, Step, Attempt, Command, Message}
use Rattle.zed_oop_syntax.specs.Heading.{DirectionAt}
use Rattle.zed_oop_syntax.specs.Line.{InstructionAt, begun_at, line_kind, line_text}
use Rattle.zed_oop_syntax.specs.Text.{line_after}
use Rattle.zed_oop_syntax.proofs.Building.{Alone, Built, alone_one, built_one}
use Rattle.zed_oop_syntax.proofs.OneDirection.{direction_one, direction_there}

-- an instruction by its kind
Seen : List ℕ → ℕ → LineKind → Instruction → ℕ → Type 0
Seen p at EndKind = Alone End at
Seen p at SkippedKind = Alone Skipped (line_after p at)
Seen p at BlankKind = Alone Blank (at + 1)
Seen p at StepKind = Built Step (DirectionAt p (at + 1))
Seen p at AttemptKind = Built Attempt (DirectionAt p (at + 1))
Seen p at CommandKind = Alone Command (at + 1)
Seen p at MessageKind = Alone (Message (line_text p at)) (line_after p at)

seen : (p : List ℕ) (at : ℕ) (i : Instruction) (next : ℕ) → InstructionAt p at i next → Seen p at (begun_at p at) i next
unfolding Seen
seen p at End next x = let P : LineKind → Type 0 = λ k. Seen p at k End next in subst P (sym x.0) (refl, x.1)
seen p at Skipped next x = let P : LineKind → Type 0 = λ k. Seen p at k Skipped next in subst P (sym x.0) (refl, x.1)
seen p at Blank next x = let P : LineKind → Type 0 = λ k. Seen p at k Blank next in subst P (sym x.0) (refl, x.1)
seen p at (Step h) next x = let P : LineKind → Type 0 = λ k. Seen p at k (Step h) next in subst P (sym x.0) (h, (refl, x.1))
seen p at (Attempt h) next x = let P : LineKind → Type 0 = λ k. Seen p at k (Attempt h) next in subst P (sym x.0) (h, (refl, x.1))
seen p at Command next x = let P : LineKind → Type 0 = λ k. Seen p at k Command next in subst P (sym x.0) (refl, x.1)
seen p at (Message m) next x = let P : LineKind → Type 0 = λ k. Seen p at k (Message m) next in subst P (sym x.0) (ap Message x.1, x.2)

seen_one : (p : List ℕ) (at : ℕ) (k : LineKind) (i j : Instruction) (m n : ℕ) → Seen p at k i m → Seen p at k j n → (i ≡ j) × (m ≡ n)
unfolding Seen
seen_one p at EndKind = alone_one End at
seen_one p at SkippedKind = alone_one Skipped (line_after p at)
seen_one p at BlankKind = alone_one Blank (at + 1)
seen_one p at StepKind = built_one Step (DirectionAt p (at + 1)) (direction_one p (at + 1))
seen_one p at AttemptKind = built_one Attempt (DirectionAt p (at + 1)) (direction_one p (at + 1))
seen_one p at CommandKind = alone_one Command (at + 1)
seen_one p at MessageKind = alone_one (Message (line_text p at)) (line_after p at)

-- at most one instruction stands at a place
pub instruction_one : (p : List ℕ) (at : ℕ) (i j : Instruction) (m n : ℕ) → InstructionAt p at i m → InstructionAt p at j n
    → (i ≡ j) × (m ≡ n)
instruction_one p at i j m n x y = seen_one p at (begun_at p at) i j m n (seen p at i m x) (seen p at j n y)

-- an instruction stands at each place
pub instruction_there : (p : List ℕ) (at : ℕ)
    → (i : Instruction) × ((next : ℕ) × (InstructionAt p at i next × (begun_at p at ≡ line_kind i)))
instruction_there p at = by_kind (begun_at p at) refl
  where
    by_kind : (k : LineKind) → begun_at p at ≡ k
        → (i : Instruction) × ((next : ℕ) × (InstructionAt p at i next × (begun_at p at ≡ line_kind i)))
    by_kind EndKind e = (End, (at, ((e, refl), e)))
    by_kind SkippedKind e = (Skipped, (line_after p at, ((e, refl), e)))
    by_kind BlankKind e = (Blank, (at + 1, ((e, refl), e)))
    by_kind StepKind e = let d = direction_there p (at + 1) in (Step d.0, (d.1.0, ((e, d.1.1), e)))
    by_kind AttemptKind e = let d = direction_there p (at + 1) in (Attempt d.0, (d.1.0, ((e, d.1.1), e)))
    by_kind CommandKind e = (Command, (at + 1, ((e, refl), e)))
    by_kind MessageKind e = (Message (line_text p at), (line_after p at, ((e, refl, refl), e)))
