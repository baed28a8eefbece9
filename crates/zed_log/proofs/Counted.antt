-- How many lines a text has.
use Rattle.std.proofs.Common.{◌≡◌, ◌∙◌, ℕ, suc, ◌+◌, Bool, true, false, cond, List, [], ◌∷◌, ◌++◌, length, get_or, filter, refl, ap, sym, arith, eqb, nat_le, append_assoc, ◌&&◌}
use Rattle.std.proofs.lemmas.List.{append-nil}
use Rattle.std.specs.List.{flat_map, list_all}
use Rattle.std.proofs.lemmas.Bool.Decides.{nat_tests}
use Rattle.zed_world.specs.declared.board.BoardData.{BoardData}
use Rattle.zed_world.specs.declared.stat.StatData.{StatData}
use Rattle.zed_log.specs.Boards.{board_lines, board_words}
use Rattle.zed_log.specs.ListLaws.{lines_in}
use Rattle.zed_log.specs.Program.{line_words, lines_behind, numbered, unless_empty}
use Rattle.zed_log.specs.Stats.{stat_lines, stat_words}
use Rattle.zed_log.proofs.ListPrinted.{board_is, line_is, stat_is}

-- a line feed is a control byte
apart : (c : ℕ) → nat_le 32 c ≡ true → eqb c 10 ≡ true → ⊥
apart c at is = grind (arith, nat_tests)

-- a text without control bytes, a line feed, and more
pub one_more : (words rest : List ℕ) → list_all (λ c. nat_le 32 c) words ≡ true → lines_in (words ++ 10 ∷ [] ++ rest) ≡ suc (lines_in rest)
one_more [] rest h = refl
one_more (c ∷ words) rest h = go (nat_le 32 c) (eqb c 10) refl refl h (one_more words rest)
  where
    go : (p q : Bool) → nat_le 32 c ≡ p → eqb c 10 ≡ q → (p && list_all (λ c. nat_le 32 c) words) ≡ true
        → (list_all (λ c. nat_le 32 c) words ≡ true → lines_in (words ++ 10 ∷ [] ++ rest) ≡ suc (lines_in rest))
        → length (cond q (c ∷ filter (λ c. eqb c 10) (words ++ 10 ∷ [] ++ rest)) (filter (λ c. eqb c 10) (words ++ 10 ∷ [] ++ rest)))
        ≡ suc (lines_in rest)
    go true false at is h more = more h
    go true true at is h more = absurd (apart c at is)
    go false q at is h more = absurd cc

pub boards_counted : (ranks : List ℕ) (n : ℕ) (bs : List BoardData) → lines_in (board_lines ranks n bs) ≡ length bs
boards_counted ranks n [] = refl
boards_counted ranks n (b ∷ bs) =
    one_more (board_words n (get_or ranks n 0) b) (board_lines ranks (n + 1) bs) (board_is n (get_or ranks n 0) b) ∙ ap suc (boards_counted ranks (n + 1) bs)

pub stats_counted : (b : BoardData) (n : ℕ) (ss : List StatData) → lines_in (stat_lines b n ss) ≡ length ss
stats_counted b n [] = refl
stats_counted b n (s ∷ ss) =
    one_more (stat_words b n s) (stat_lines b (n + 1) ss) (stat_is b n s) ∙ ap suc (stats_counted b (n + 1) ss)

pub lines_counted : (at : ℕ) (lines : List (List ℕ)) → lines_in (numbered at lines) ≡ length lines
lines_counted at [] = refl
lines_counted at (line ∷ lines) =
    one_more (line_words at line) (numbered (at + length line) lines) (line_is at line) ∙ ap suc (lines_counted (at + length line) lines)

-- ---- the lines of a program, one after another

begun : (line : List ℕ) → flat_map (λ (l : List ℕ). l) (unless_empty line) ≡ line
begun [] = refl
begun (c ∷ cs) = append-nil (c ∷ cs)

pub are_program : (line bytes : List ℕ) → flat_map (λ (l : List ℕ). l) (lines_behind line bytes) ≡ line ++ bytes
are_program line [] = begun line ∙ sym (append-nil line)
are_program line (b ∷ bs) = go (eqb b 13) (are_program [] bs) (are_program (line ++ b ∷ []) bs)
  where
    go : (t : Bool) → flat_map (λ (l : List ℕ). l) (lines_behind [] bs) ≡ bs
        → flat_map (λ (l : List ℕ). l) (lines_behind (line ++ b ∷ []) bs) ≡ line ++ b ∷ [] ++ bs
        → flat_map (λ (l : List ℕ). l) (cond t ((line ++ b ∷ []) ∷ lines_behind [] bs) (lines_behind (line ++ b ∷ []) bs)) ≡ line ++ b ∷ bs
    go true fresh on = ap (λ (l : List ℕ). line ++ b ∷ [] ++ l) fresh ∙ append_assoc line (b ∷ []) bs
    go false fresh on = on ∙ append_assoc line (b ∷ []) bs
