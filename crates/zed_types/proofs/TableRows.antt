-- Which cells of a rectangle stand in its first rows.
use Rattle.std.proofs.Common.{◌≡◌, ℕ, ◌+◌, ◌-◌, ◌*◌, ◌/◌, ◌%◌, ◌<◌, ◌≤◌, Bool, true, false, ◌&&◌, nat_le, nat_lt, refl, arith, rules, IsTrue}
use Rattle.std.proofs.lemmas.Bool.{ltb-true, ltb-false}
use Rattle.std.proofs.Math.Bool.{and-false}
use Rattle.std.proofs.lemmas.Bool.Decides.{nat_tests}
use Rattle.zed_types.specs.declared.tile.Rectangle.{Rectangle}
use Rattle.zed_types.specs.Table.{is_in_table}

-- whether the cell at an index stands in the columns from left to right and in the rows from top to bottom
abbrev pub inside : ℕ → ℕ → ℕ → ℕ → ℕ → Bool
inside left right top bottom k =
    (nat_le left (k % 60 + 1) && nat_le (k % 60 + 1) right) && (nat_le top (k / 60 + 1) && nat_le (k / 60 + 1) bottom)

-- before the first row there is none
pub inside-none : (left right top bottom k : ℕ) → bottom + 1 ≤ top → inside left right top bottom k ≡ false
inside-none left right top bottom k h = grind (arith, nat_tests)

-- the cells of the last row
pub inside-row : (left right top bottom k : ℕ) → 1 ≤ left → left ≤ right → right ≤ 60 → top ≤ bottom + 1 → bottom * 60 + (left - 1) ≤ k
    → k < bottom * 60 + right
    → inside left right top (bottom + 1) k ≡ true
inside-row left right top bottom k a b c d e f =
    let quotient : k / 60 ≡ bottom = omega arith in
    let rest : k ≡ bottom * 60 + k % 60 = omega arith in
    grind (arith, nat_tests)

inside-low : (left right top bottom k : ℕ) → k / 60 < bottom → inside left right top (bottom + 1) k ≡ inside left right top bottom k
inside-low left right top bottom k h =
    let a : nat_le (k / 60 + 1) (bottom + 1) ≡ true = grind (arith, nat_tests) in
    let b : nat_le (k / 60 + 1) bottom ≡ true = grind (arith, nat_tests) in
    rw (a, b)

inside-high : (left right top bottom k : ℕ) → bottom < k / 60 → inside left right top (bottom + 1) k ≡ inside left right top bottom k
inside-high left right top bottom k h =
    let a : nat_le (k / 60 + 1) (bottom + 1) ≡ false = grind (arith, nat_tests) in
    let b : nat_le (k / 60 + 1) bottom ≡ false = grind (arith, nat_tests) in
    rw (a, b)

inside-left : (left right top bottom k : ℕ) → k % 60 + 1 < left → inside left right top (bottom + 1) k ≡ inside left right top bottom k
inside-left left right top bottom k h =
    let a : nat_le left (k % 60 + 1) ≡ false = grind (arith, nat_tests) in
    rw a

inside-right : (left right top bottom k : ℕ) → right < k % 60 + 1 → inside left right top (bottom + 1) k ≡ inside left right top bottom k
inside-right left right top bottom k h =
    let a : nat_le (k % 60 + 1) right ≡ false = grind (arith, nat_tests) in
    rw (a, and-false)

-- the cells before the last row
pub inside-before : (left right top bottom k : ℕ) → 1 ≤ left → left ≤ right → right ≤ 60 → k < bottom * 60 + (left - 1)
    → inside left right top (bottom + 1) k ≡ inside left right top bottom k
inside-before left right top bottom k a b c e = go (nat_lt (k / 60) bottom) refl
  where
    go : (v : Bool) → nat_lt (k / 60) bottom ≡ v → inside left right top (bottom + 1) k ≡ inside left right top bottom k
    go true v = inside-low left right top bottom k (ltb-true (k / 60) bottom v)
    go false v = let h = ltb-false (k / 60) bottom v in inside-left left right top bottom k (omega arith)

-- the cells behind the last row
pub inside-behind : (left right top bottom k : ℕ) → 1 ≤ left → left ≤ right → right ≤ 60 → bottom * 60 + right ≤ k
    → inside left right top (bottom + 1) k ≡ inside left right top bottom k
inside-behind left right top bottom k a b c e = go (nat_lt bottom (k / 60)) refl
  where
    go : (v : Bool) → nat_lt bottom (k / 60) ≡ v → inside left right top (bottom + 1) k ≡ inside left right top bottom k
    go true v = inside-high left right top bottom k (ltb-true bottom (k / 60) v)
    go false v = let h = ltb-false bottom (k / 60) v in inside-right left right top bottom k (omega arith)

-- where a rectangle of the table is
pub in_table : (r : Rectangle) → IsTrue (is_in_table r)
    → ((1 ≤ r.left) × (r.left ≤ r.right) × (r.right ≤ 60)) × ((1 ≤ r.top) × (r.top ≤ r.bottom) × (r.bottom ≤ 25))
in_table r h = search rules
