-- The latest of writes.
use Rattle.std.proofs.Common.{◌≡◌, ℕ, zero, suc, ◌+◌, ◌<◌, Bool, true, false, cond, List, [], ◌∷◌, length, map, slice_get, filter, Option, None, Some, refl, sym, ap, subst, ◌∙◌, arith}
use Rattle.std.specs.List.{AllByRecursion, Contains}
use Rattle.zed_types.specs.declared.stamp.Stamp.{Stamp}
use Rattle.zed_types.specs.declared.tile.Tile.{Tile}
use Rattle.zed_types.specs.declared.tile.Rectangle.{Rectangle}
use Rattle.zed_types.specs.declared.written.Written.{Written}
use Rattle.zed_types.specs.Stamp.{before}
use Rattle.zed_types.specs.Register.{keep_later, latest_of}
use Rattle.zed_types.specs.Table.{is_inside, place_at, map_from}
use Rattle.zed_types.proofs.StampOrder.{before_irrefl, before_total, same_stamp-true}
use Rattle.zed_types.proofs.Facts.{length-map_from}
use Rattle.zed_cells.specs.Writes.{later}
use Rattle.zed_cells.specs.Latest.{IsLatest, StampsAgree, HasAll}
use Rattle.zed_cells.specs.Cells.{set_cells, writes_into, CellsHoldTheLatest}

-- what stands after a write is one of the two
keep_later-one : {V : Type 0} (k w : Written V) (P : Written V → Type 0) → P k → P w → P (later k w)
keep_later-one k w P p q = go (before k.stamp w.stamp)
  where
    go : (b : Bool) → P (cond b w k)
    go true = q
    go false = p

-- what is kept is a later one of two
keep_later-later : {V : Type 0} (k w : Written V) → keep_later (Some k) w ≡ Some (later k w)
keep_later-later k w = go (before k.stamp w.stamp)
  where
    go : (b : Bool) → cond b (Some w) (Some k) ≡ Some (cond b w k)
    go true = refl
    go false = refl

-- what was not below the one before isn't below the later one
later-above : {V : Type 0} (k w : Written V) (s : Stamp) → before k.stamp s ≡ false → before (later k w).stamp s ≡ false
later-above k w s h = go (before k.stamp w.stamp) refl
  where
    go : (b : Bool) → before k.stamp w.stamp ≡ b → before (later k w).stamp s ≡ false
    go true b = rw b (grind (arith, h))
    go false b = rw b h

later-new : {V : Type 0} (k w : Written V) → before (later k w).stamp w.stamp ≡ false
later-new k w = go (before k.stamp w.stamp) refl
  where
    go : (b : Bool) → before k.stamp w.stamp ≡ b → before (later k w).stamp w.stamp ≡ false
    go true b = rw b (before_irrefl w.stamp)
    go false b = rw b b

here : {V : Type 0} (w : Written V) (ws : List (Written V)) → Contains (w ∷ ws) w
here w ws = (0, omega arith, refl)

there : {V : Type 0} (w k : Written V) (ws : List (Written V)) → Contains ws k → Contains (w ∷ ws) k
there w k ws c = (suc c.0, let l : c.0 < length ws = c.1 in omega arith, c.2)

-- what is kept of a write and those that come after it
abbrev greatest : {V : Type 0} → Written V → List (Written V) → Written V
greatest k [] = k
greatest k (w ∷ ws) = greatest (later k w) ws

latest_of-some : {V : Type 0} (k : Written V) (ws : List (Written V)) → latest_of (Some k) ws ≡ Some (greatest k ws)
latest_of-some k [] = refl
latest_of-some k (w ∷ ws) = ap (λ o. latest_of o ws) (keep_later-later k w) ∙ latest_of-some (later k w) ws

skip : {V : Type 0} (k w x : Written V) (ws : List (Written V)) → Contains (k ∷ ws) x → Contains (k ∷ w ∷ ws) x
skip k w x ws (zero, l, e) = (0, omega arith, e)
skip k w x ws (suc i, l, e) = (suc (suc i), omega arith, e)

-- it is one of them
greatest-one : {V : Type 0} (k : Written V) (ws : List (Written V)) → Contains (k ∷ ws) (greatest k ws)
greatest-one k [] = here k []
greatest-one k (w ∷ ws) =
    keep_later-one k w (λ v. Contains (v ∷ ws) (greatest (later k w) ws) → Contains (k ∷ w ∷ ws) (greatest (later k w) ws))
    (skip k w (greatest (later k w) ws) ws)
    (there k (greatest (later k w) ws) (w ∷ ws))
    (greatest-one (later k w) ws)

-- and none of them is later
greatest-above : {V : Type 0} (k : Written V) (ws : List (Written V)) (s : Stamp) → before k.stamp s ≡ false
    → before (greatest k ws).stamp s ≡ false
greatest-above k [] s h = h
greatest-above k (w ∷ ws) s h = greatest-above (later k w) ws s (later-above k w s h)

greatest-all : {V : Type 0} (k : Written V) (ws : List (Written V)) → AllByRecursion (λ w. before (greatest k ws).stamp w.stamp ≡ false) ws
greatest-all k [] = tt
greatest-all k (w ∷ ws) = (greatest-above (later k w) ws w.stamp (later-new k w), greatest-all (later k w) ws)

greatest-is : {V : Type 0} (w : Written V) (ws : List (Written V)) → IsLatest (Some (greatest w ws)) (w ∷ ws)
greatest-is w ws = (greatest-one w ws, (greatest-above w ws w.stamp (before_irrefl w.stamp), greatest-all w ws))

pub latest_is_held : {V : Type 0} (ws : List (Written V)) → IsLatest (latest_of None ws) ws
latest_is_held [] = refl
latest_is_held (w ∷ ws) = subst (λ o. IsLatest o (w ∷ ws)) (sym (latest_of-some w ws)) (greatest-is w ws)

-- what holds of each member holds of one
of_one : {X : Type 0} (P : X → Type 0) (xs : List X) (x : X) → AllByRecursion P xs → Contains xs x → P x
of_one P [] x all (k, l, e) = absurd (omega arith)
of_one P (y ∷ xs) x all (zero, l, e) = subst P e all.0
of_one P (y ∷ xs) x all (suc k, l, e) = of_one P xs x all.1 (k, omega arith, e)

none_in_empty : {X : Type 0} (x : X) → Contains [] x → ⊥
none_in_empty x (k, l, e) = omega arith

pub order_is_forgotten : {V : Type 0} (ws vs : List (Written V)) → StampsAgree ws → HasAll ws vs → HasAll vs ws
    → latest_of None ws ≡ latest_of None vs
order_is_forgotten [] [] agree a b = refl
order_is_forgotten [] (v ∷ vs) agree a b = absurd (none_in_empty v a.0)
order_is_forgotten (w ∷ ws) [] agree a b = absurd (none_in_empty w b.0)
order_is_forgotten (w ∷ ws) (v ∷ vs) agree a b =
    let x = greatest w ws in
    let y = greatest v vs in
    let p = greatest-is w ws in
    let q = greatest-is v vs in
    let there = of_one (Contains (w ∷ ws)) (v ∷ vs) y a q.0 in
    let back = of_one (Contains (v ∷ vs)) (w ∷ ws) x b p.0 in
    let low = of_one (λ u. before x.stamp u.stamp ≡ false) (w ∷ ws) y p.1 there in
    let high = of_one (λ u. before y.stamp u.stamp ≡ false) (v ∷ vs) x q.1 back in
    let same = agree x y p.0 there (same_stamp-true x.stamp y.stamp (before_total x.stamp y.stamp low high)) in
    latest_of-some w ws ∙ ap Some same ∙ sym (latest_of-some v vs)

-- a cell after one rectangle
kept_at : (test : ℕ → Bool) (w : Written Tile) (i j n : ℕ) (cells : List (Written Tile)) → j ≡ n + i → i < length cells
    → slice_get (map_from (λ k kept. cond (test k) (later kept w) kept) n cells) i
    ≡ cond (test j) (keep_later (slice_get cells i) w) (slice_get cells i)
kept_at test w i j n [] e l = absurd (omega arith)
kept_at test w zero j n (x ∷ cells) e l =
    let same : j ≡ n = omega arith in
    rw same (go (test n))
  where
    go : (b : Bool) → Some (cond b (later x w) x) ≡ cond b (keep_later (Some x) w) (Some x)
    go true = sym (keep_later-later x w)
    go false = refl
kept_at test w (suc i) j n (x ∷ cells) e l = kept_at test w i j (n + 1) cells (omega arith) (omega arith)

reached : (b : Bool) (w : Written Tile) (o : Option (Written Tile)) (ws : List (Written Tile)) (i : ℕ) (ds : List (Rectangle × Written Tile)) (r : Rectangle)
    → latest_of (cond b (keep_later o w) o) (writes_into i ds)
    ≡ latest_of o (map (λ d. d.1) (cond b ((r, w) ∷ filter (λ d. is_inside d.0 (place_at i)) ds) (filter (λ d. is_inside d.0 (place_at i)) ds)))
reached true w o ws i ds r = refl
reached false w o ws i ds r = refl

pub cells_hold_the_latest : CellsHoldTheLatest
cells_hold_the_latest i [] cells l = refl
cells_hold_the_latest i ((r, w) ∷ ds) cells l =
    let size = length-map_from (λ k kept. cond (is_inside r (place_at k)) (later kept w) kept) 0 cells in
    let at : slice_get (set_cells r w cells) i ≡ cond (is_inside r (place_at i)) (keep_later (slice_get cells i) w) (slice_get cells i)
    = kept_at (λ k. is_inside r (place_at k)) w i i 0 cells (omega arith) l in
    cells_hold_the_latest i ds (set_cells r w cells) (omega arith)
    ∙ ap (λ o. latest_of o (writes_into i ds)) at
    ∙ reached (is_inside r (place_at i)) w (slice_get cells i) [] i ds r
