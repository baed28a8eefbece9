-- Which cells of a rectangle stand in its first rows, and what setting one row more does.
use Rattle.std.proofs.Common.{◌≡◌, ℕ, ◌+◌, ◌-◌, ◌*◌, ◌≤◌, Bool, true, false, ◌&&◌, ◌||◌, nat_le, nat_lt, eqb, List, refl, arith}
use Rattle.std.proofs.lemmas.Bool.{ltb-true, ltb-false}
use Rattle.std.proofs.lemmas.Bool.Decides.{nat_tests}
use Rattle.zed_types.specs.declared.tile.Tile.{Tile}
use Rattle.zed_types.specs.declared.tile.Rectangle.{Rectangle}
use Rattle.zed_types.specs.declared.written.Written.{Written}
use Rattle.zed_types.proofs.TableRows.{inside, inside-none, inside-row, inside-before, inside-behind}
use Rattle.zed_cells.specs.Cells.{keep_where, set_cells}
use Rattle.zed_cells.proofs.Stamped.{keep_where-none, keep_where-twice}

-- whether a number is at least one and below another
abbrev pub between : ℕ → ℕ → ℕ → Bool
between from to k = nat_le from k && nat_lt k to

between-none : (from k : ℕ) → between from from k ≡ false
between-none from k = grind (arith, nat_tests)

between-more : (from i k : ℕ) → from ≤ i → between from (i + 1) k ≡ (eqb k i || between from i k)
between-more from i k h = grind (arith, nat_tests)

-- before the first cell of a row none is set
pub row-none : (from : ℕ) (w : Written Tile) (cells : List (Written Tile)) → cells ≡ keep_where (between from from) w cells
row-none from w cells = keep_where-none (between from from) w cells (λ k m. between-none from k)

-- one cell more of a row
pub row-more : (from i : ℕ) (w : Written Tile) (cells : List (Written Tile)) → from ≤ i
    → keep_where (λ k. eqb k i) w (keep_where (between from i) w cells) ≡ keep_where (between from (i + 1)) w cells
row-more from i w cells h = keep_where-twice (λ k. eqb k i) (between from i) (between from (i + 1)) w cells (λ k m. between-more from i k h)

inside-step : (left right top bottom from to k : ℕ) → 1 ≤ left → left ≤ right → right ≤ 60 → top ≤ bottom + 1
    → from ≡ bottom * 60 + (left - 1) → to ≡ bottom * 60 + right
    → inside left right top (bottom + 1) k ≡ (between from to k || inside left right top bottom k)
inside-step left right top bottom from to k a b c d f t = go (nat_lt k from) refl (nat_lt k to) refl
  where
    outside : between from to k ≡ false → inside left right top (bottom + 1) k ≡ inside left right top bottom k
        → inside left right top (bottom + 1) k ≡ (between from to k || inside left right top bottom k)
    outside u v = rw u v

    go : (x : Bool) → nat_lt k from ≡ x → (y : Bool) → nat_lt k to ≡ y
        → inside left right top (bottom + 1) k ≡ (between from to k || inside left right top bottom k)
    go true x y y' =
        let l = ltb-true k from x in
        outside (grind (arith, nat_tests)) (inside-before left right top bottom k a b c (omega arith))
    go false x false y =
        let l = ltb-false k to y in
        outside (grind (arith, nat_tests)) (inside-behind left right top bottom k a b c (omega arith))
    go false x true y =
        let l = ltb-false k from x in
        let m = ltb-true k to y in
        let u : between from to k ≡ true = grind (arith, nat_tests) in
        rw u (inside-row left right top bottom k a b c d (omega arith) (omega arith))

-- before the first row nothing is set
pub set_cells-none : (r : Rectangle) (row : ℕ) (w : Written Tile) (cells : List (Written Tile)) → row + 1 ≤ r.top
    → cells ≡ set_cells (record r { bottom = row }) w cells
set_cells-none r row w cells top =
    keep_where-none (inside r.left r.right r.top row) w cells (λ k m. inside-none r.left r.right r.top row k top)

-- one row more
pub set_cells-more : (r : Rectangle) (row from to : ℕ) (w : Written Tile) (cells : List (Written Tile))
    → 1 ≤ r.left → r.left ≤ r.right → r.right ≤ 60 → r.top ≤ row + 1
    → from ≡ row * 60 + (r.left - 1) → to ≡ row * 60 + r.right
    → keep_where (between from to) w (set_cells (record r { bottom = row }) w cells) ≡ set_cells (record r { bottom = row + 1 }) w cells
set_cells-more r row from to w cells a b c d f t =
    keep_where-twice (between from to) (inside r.left r.right r.top row) (inside r.left r.right r.top (row + 1)) w cells (λ k m. inside-step r.left r.right r.top row from to k a b c d f t)
