-- Cells that are found one after the other.
use Rattle.std.proofs.Common.{◌≡◌, ◌∙◌, ℕ, suc, ◌+◌, ◌-◌, ◌<◌, ◌≤◌, List, [], ◌∷◌, ◌++◌, Some, None, refl, ap, append-nil, sym, arith}
use Rattle.std.specs.Prelude.{option_map}
use Rattle.std.specs.List.{cons_option}
use Rattle.std.proofs.lemmas.List.{append_assoc}
use Rattle.zed_types.specs.declared.names.BoardId.{BoardId}
use Rattle.zed_types.specs.declared.tile.Tile.{Tile}
use Rattle.zed_sides.specs.declared.side.Overridden.{Overridden}
use Rattle.zed_compare.specs.declared.finding.Finding.{Finding}
use Rattle.zed_compare.specs.declared.finding.Finding.TheVariants as finding
use Rattle.zed_compare.specs.Findings.{cell_of, cells_from}

-- the findings from a cell on are its own, and those behind it
pub from_here : (b : BoardId) (base mine theirs union : List Tile) (i : ℕ) → i < 1500
    → cells_from b base mine theirs union i (1500 - i)
    ≡ cons_option (option_map (finding.Cell b i) (cell_of base mine theirs union i)) (cells_from b base mine theirs union (i + 1) (1500 - (i + 1)))
unfolding cells_from
from_here b base mine theirs union i within =
    let e : 1500 - i ≡ suc (1500 - (i + 1)) = omega arith in rw e refl

-- a cell that is overridden is appended
pub one_found : (b : BoardId) (base mine theirs union : List Tile) (i : ℕ) (found : List Finding) (x : Overridden) → i < 1500
    → cell_of base mine theirs union i ≡ Some x
    → (found ++ finding.Cell b i x ∷ []) ++ cells_from b base mine theirs union (i + 1) (1500 - (i + 1))
    ≡ found ++ cells_from b base mine theirs union i (1500 - i)
one_found b base mine theirs union i found x within is =
    let rest = cells_from b base mine theirs union (i + 1) (1500 - (i + 1)) in
    append_assoc found (finding.Cell b i x ∷ []) rest
    ∙ ap (λ l. found ++ l) (ap (λ o. cons_option (option_map (finding.Cell b i) o) rest) (sym is) ∙ sym (from_here b base mine theirs union i within))

-- another one isn't
pub none_found : (b : BoardId) (base mine theirs union : List Tile) (i : ℕ) (found : List Finding) → i < 1500
    → cell_of base mine theirs union i ≡ None
    → found ++ cells_from b base mine theirs union (i + 1) (1500 - (i + 1)) ≡ found ++ cells_from b base mine theirs union i (1500 - i)
none_found b base mine theirs union i found within is =
    let rest = cells_from b base mine theirs union (i + 1) (1500 - (i + 1)) in
    ap (λ l. found ++ l) (ap (λ o. cons_option (option_map (finding.Cell b i) o) rest) (sym is) ∙ sym (from_here b base mine theirs union i within))

-- behind the last cell none is left
pub all_found : (b : BoardId) (base mine theirs union : List Tile) (i : ℕ) (found : List Finding) → 1500 ≤ i
    → found ++ cells_from b base mine theirs union i (1500 - i) ≡ found
unfolding cells_from
all_found b base mine theirs union i found past = let e : 1500 - i ≡ 0 = omega arith in rw e (append-nil found)
