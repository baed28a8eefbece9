-- Filling a row of a table.
use Rattle.std.proofs.Common.{◌≡◌, ℕ, ◌+◌, ◌-◌, ◌*◌, ◌<◌, ◌≤◌, zero, suc, cond, List, [], ◌∷◌, ◌++◌, length, take, drop, replicate, refl, sym, arith}
use Rattle.std.proofs.lemmas.List.{drop-drop}
use Rattle.zed_types.specs.declared.tile.Tile.{Tile}
use Rattle.zed_types.specs.declared.tile.Rectangle.{Rectangle}
use Rattle.zed_types.specs.Table.{map_from}
use Rattle.zed_types.proofs.TableRows.{inside, inside-none, inside-row, inside-before, inside-behind}
use Rattle.zed_edit.specs.Board.{set_cells}

module _ {X Y : Type 0} where
  -- two functions that agree on the members
  pub map_from-alike : (f g : ℕ → X → Y) (i : ℕ) (xs : List X) → ((k : ℕ) (x : X) → i ≤ k → k < i + length xs → f k x ≡ g k x)
      → map_from f i xs ≡ map_from g i xs
  map_from-alike f g i [] same = refl
  map_from-alike f g i (x ∷ xs) same =
      let here : f i x ≡ g i x = same i x (omega arith) (omega arith) in
      let more = map_from-alike f g (i + 1) xs (λ k y l m. same k y (omega arith) (omega arith)) in
      cc

-- a function that leaves each member as it is
pub map_from-kept : {X : Type 0} (f : ℕ → X → X) (i : ℕ) (xs : List X) → ((k : ℕ) (x : X) → i ≤ k → k < i + length xs → f k x ≡ x)
    → map_from f i xs ≡ xs
map_from-kept f i [] same = refl
map_from-kept f i (x ∷ xs) same =
    let here : f i x ≡ x = same i x (omega arith) (omega arith) in
    let more = map_from-kept f (i + 1) xs (λ k y l m. same k y (omega arith) (omega arith)) in
    cc

-- the first n members are replaced by one value
map_from-filled_front : {X : Type 0} (f g : ℕ → X → X) (t : X) (i n : ℕ) (xs : List X) → n ≤ length xs
    → ((k : ℕ) (x : X) → i ≤ k → k < i + n → f k x ≡ t)
    → ((k : ℕ) (x : X) → i + n ≤ k → k < i + length xs → f k x ≡ g k x)
    → replicate n t ++ drop n (map_from g i xs) ≡ map_from f i xs
map_from-filled_front f g t i zero xs m within behind = sym (map_from-alike f g i xs (λ k x p q. behind k x (omega arith) q))
map_from-filled_front f g t i (suc n) [] m within behind = absurd (omega arith)
map_from-filled_front f g t i (suc n) (x ∷ xs) m within behind =
    let here : f i x ≡ t = within i x (omega arith) (omega arith) in
    let more : replicate n t ++ drop n (map_from g (i + 1) xs) ≡ map_from f (i + 1) xs
    = map_from-filled_front f g t (i + 1) n xs (omega arith)
    (λ k y p q. within k y (omega arith) (omega arith))
    (λ k y p q. behind k y (omega arith) (omega arith)) in
    cc

-- n members from member a on are replaced by one value
pub map_from-filled : {X : Type 0} (f g : ℕ → X → X) (t : X) (i a n : ℕ) (xs : List X) → a + n ≤ length xs
    → ((k : ℕ) (x : X) → i ≤ k → k < i + a → f k x ≡ g k x)
    → ((k : ℕ) (x : X) → i + a ≤ k → k < i + a + n → f k x ≡ t)
    → ((k : ℕ) (x : X) → i + a + n ≤ k → k < i + length xs → f k x ≡ g k x)
    → take a (map_from g i xs) ++ (replicate n t ++ drop n (drop a (map_from g i xs))) ≡ map_from f i xs
map_from-filled f g t i zero n xs m before within behind =
    map_from-filled_front f g t i n xs (omega arith) (λ k y p q. within k y (omega arith) (omega arith)) (λ k y p q. behind k y (omega arith) q)
map_from-filled f g t i (suc a) n [] m before within behind = absurd (omega arith)
map_from-filled f g t i (suc a) n (x ∷ xs) m before within behind =
    let here : f i x ≡ g i x = before i x (omega arith) (omega arith) in
    let more : take a (map_from g (i + 1) xs) ++ (replicate n t ++ drop n (drop a (map_from g (i + 1) xs))) ≡ map_from f (i + 1) xs
    = map_from-filled f g t (i + 1) a n xs (omega arith)
    (λ k y p q. before k y (omega arith) (omega arith))
    (λ k y p q. within k y (omega arith) (omega arith))
    (λ k y p q. behind k y (omega arith) (omega arith)) in
    cc

-- before the first row nothing is filled
pub set_cells-none : (r : Rectangle) (row : ℕ) (tile : Tile) (xs : List Tile) → row + 1 ≤ r.top
    → xs ≡ set_cells (record r { bottom = row }) tile xs
set_cells-none r row tile xs top = sym (map_from-kept _ 0 xs (λ k x p q. rw (inside-none r.left r.right r.top row k top) refl))

-- one row more
pub set_cells-more : (r : Rectangle) (row from to : ℕ) (tile : Tile) (xs : List Tile)
    → 1 ≤ r.left → r.left ≤ r.right → r.right ≤ 60 → r.top ≤ row + 1 → row < 25 → length xs ≡ 1500
    → from ≡ row * 60 + (r.left - 1) → to ≡ row * 60 + r.right
    → take from (set_cells (record r { bottom = row }) tile xs) ++ (replicate (to - from) tile ++ drop to (set_cells (record r { bottom = row }) tile xs))
    ≡ set_cells (record r { bottom = row + 1 }) tile xs
set_cells-more r row from to tile xs a b c d e l f t =
    let width = to - from in
    let there : drop to (set_cells (record r { bottom = row }) tile xs) ≡ drop width (drop from (set_cells (record r { bottom = row }) tile xs))
    = let sum : from + width ≡ to = omega arith in rw (drop-drop, sum) in
    let fill : take from (set_cells (record r { bottom = row }) tile xs) ++ (replicate width tile ++ drop width (drop from (set_cells (record r { bottom = row }) tile xs)))
    ≡ set_cells (record r { bottom = row + 1 }) tile xs
    = map_from-filled
    (λ k old. cond (inside r.left r.right r.top (row + 1) k) tile old)
    (λ k old. cond (inside r.left r.right r.top row k) tile old)
    tile 0 from width xs (omega arith)
    (λ k x p q. rw (inside-before r.left r.right r.top row k a b c (omega arith)) refl)
    (λ k x p q. rw (inside-row r.left r.right r.top row k a b c d (omega arith) (omega arith)) refl)
    (λ k x p q. rw (inside-behind r.left r.right r.top row k a b c (omega arith)) refl) in
    rw there fill
