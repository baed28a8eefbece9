-- Where a program goes on behind what stands at a place.
use borrow.Author.Tests.{ltb-true, ltb-false}
use Rattle.std.proofs.Common.{◌≡◌, ◌∙◌, ℕ, zero, suc, ◌+◌, ◌<◌, ◌≤◌, Bool, true, false, cond, List, [], ◌∷◌, length, None, slice_get, nat_lt, refl, sym, ap, arith}
use Rattle.zed_oop_syntax.specs.declared.lines.Instruction.{Instruction}
use Rattle.zed_oop_syntax.specs.declared.lines.Instruction.TheVariants.{End, Skipped, Blank, Step, Attempt, Command, Message}
use Rattle.zed_oop_syntax.specs.declared.lines.LineKind.{LineKind}
use Rattle.zed_oop_syntax.specs.declared.lines.LineKind.TheVariants.{End as EndKind}
use Rattle.zed_oop_syntax.specs.declared.text.Class.TheVariants.{Line}
use Rattle.zed_oop_syntax.specs.Text.{line_after, line_end, word_end}
use Rattle.zed_oop_syntax.specs.Line.{InstructionAt, IsAhead, begun_at, begun_by, line_kind}
use Rattle.zed_oop_syntax.specs.Command.{BehindThen, CommandAt, there, passed}
use Rattle.zed_oop_syntax.proofs.TextLemmas.{run_end_after, run_end_within, word_end_after}

get_past : (xs : List ℕ) (i : ℕ) → length xs ≤ i → slice_get xs i ≡ None
get_past [] i h = refl
get_past (x ∷ xs) zero h = absurd (omega arith)
get_past (x ∷ xs) (suc i) h = get_past xs i (omega arith)

-- what isn't the end stands within the program
pub begun_within : (p : List ℕ) (at : ℕ) (k : LineKind) → begun_at p at ≡ k → (EndKind ≡ k → ⊥) → at < length p
begun_within p at k e other = by_place (nat_lt at (length p)) refl
  where
    by_place : (b : Bool) → nat_lt at (length p) ≡ b → at < length p
    by_place true l = ltb-true at (length p) l
    by_place false l = absurd (other (sym (ap begun_by (get_past p at (ltb-false at (length p) l))) ∙ e))

-- the line behind one begins further on, within the program or at its end
line_moves : (p : List ℕ) (at : ℕ) → at < length p → (at < line_after p at) × (line_after p at ≤ length p)
unfolding line_after line_end
line_moves p at h = by_place (nat_lt (line_end p at) (length p)) refl
  where
    by_place : (b : Bool) → nat_lt (line_end p at) (length p) ≡ b
        → (at < cond b (line_end p at + 1) (line_end p at)) × (cond b (line_end p at + 1) (line_end p at) ≤ length p)
    by_place true e =
        let after = run_end_after Line p at in
        let less = ltb-true (line_end p at) (length p) e in
        (omega arith, omega arith)
    by_place false e =
        let within = run_end_within Line p at in
        let most = ltb-false (line_end p at) (length p) e in
        (omega arith, omega arith)

-- behind an instruction that doesn't end a turn the program goes on
pub instruction_ahead : (p : List ℕ) (at : ℕ) (i : Instruction) (next : ℕ) → InstructionAt p at i next → IsAhead i at next (length p)
instruction_ahead p at End next x = tt
instruction_ahead p at (Step h) next x = tt
instruction_ahead p at (Attempt h) next x = tt
instruction_ahead p at Skipped next x =
    let moves = line_moves p at (begun_within p at (line_kind Skipped) x.0 (λ e. cc)) in
    let ends = x.1 in
    let after = moves.0 in let within = moves.1 in
    (omega arith, omega arith)
instruction_ahead p at Blank next x =
    let here = begun_within p at (line_kind Blank) x.0 (λ e. cc) in
    let ends = x.1 in
    (omega arith, omega arith)
instruction_ahead p at Command next x =
    let here = begun_within p at (line_kind Command) x.0 (λ e. cc) in
    let ends = x.1 in
    (omega arith, omega arith)
instruction_ahead p at (Message m) next x =
    let moves = line_moves p at (begun_within p at (line_kind (Message m)) x.0 (λ e. cc)) in
    let ends = x.2 in
    let after = moves.0 in let within = moves.1 in
    (omega arith, omega arith)

-- behind THEN the program doesn't go back
then_after : (p : List ℕ) (at from : ℕ) → BehindThen p at from → at ≤ from
then_after p at from (there a e) = omega arith
then_after p at from (passed a f e rest) =
    let next = word_end_after p a in
    let more = then_after p (word_end p a) f rest in
    omega arith

-- nor does it where no word stands
pub no_command_after : (p : List ℕ) (at next : ℕ) → CommandAt p at None next → at ≤ next
no_command_after p at next x =
    let behind = then_after p at x.0 x.1.0 in
    let end = word_end_after p x.0 in
    let ends = x.1.2 in
    omega arith
