-- Tiles with their stamps beside them: what setting one cell does, and setting twice.
use Rattle.std.proofs.Common.{◌≡◌, ℕ, zero, suc, ◌+◌, ◌<◌, ◌≤◌, Bool, true, false, ◌||◌, cond, eqb, List, [], ◌∷◌, length, map, replicate, slice_set, slice_index_or, refl, sym, ap, ◌∙◌, arith}
use Rattle.std.proofs.lemmas.Bool.Decides.{nat_tests}
use Rattle.zed_types.specs.declared.stamp.Stamp.{Stamp}
use Rattle.zed_types.specs.declared.tile.Tile.{Tile}
use Rattle.zed_types.specs.declared.written.Written.{Written}
use Rattle.zed_types.specs.Stamp.{before}
use Rattle.zed_types.specs.Table.{map_from}
use Rattle.zed_types.proofs.StampOrder.{before_irrefl}
use Rattle.zed_types.specs.Register.{written_at}
use Rattle.zed_cells.specs.Writes.{later}
use Rattle.zed_cells.specs.Cells.{with_stamps, tiles_of, keep_where}

-- the tiles are what they were
pub tiles_of-with_stamps : (ts : List Tile) (ss : List Stamp) → length ts ≡ length ss → ts ≡ tiles_of (with_stamps ts ss)
tiles_of-with_stamps [] ss h = refl
tiles_of-with_stamps (t ∷ ts) [] h = absurd (omega arith)
tiles_of-with_stamps (t ∷ ts) (s ∷ ss) h = ap (λ xs. t ∷ xs) (tiles_of-with_stamps ts ss (omega arith))

-- and as many
pub length-with_stamps : (ts : List Tile) (ss : List Stamp) → length ts ≡ length ss → length (with_stamps ts ss) ≡ length ts
length-with_stamps [] ss h = refl
length-with_stamps (t ∷ ts) [] h = absurd (omega arith)
length-with_stamps (t ∷ ts) (s ∷ ss) h = ap suc (length-with_stamps ts ss (omega arith))

-- one stamp for all of them
pub with_stamps-alike : (ts : List Tile) (s : Stamp) (n : ℕ) → length ts ≡ n → with_stamps ts (replicate n s) ≡ map (written_at s) ts
with_stamps-alike [] s n h = refl
with_stamps-alike (t ∷ ts) s zero h = absurd (omega arith)
with_stamps-alike (t ∷ ts) s (suc n) h = ap (λ xs. written_at s t ∷ xs) (with_stamps-alike ts s n (omega arith))

-- a write where the test holds
abbrev keep_if : (ℕ → Bool) → Written Tile → ℕ → Written Tile → Written Tile
keep_if test w i kept = cond (test i) (later kept w) kept

kept : (test : ℕ → Bool) (w : Written Tile) (n : ℕ) (xs : List (Written Tile)) → ((k : ℕ) → n ≤ k → test k ≡ false)
    → xs ≡ map_from (keep_if test w) n xs
kept test w n [] h = refl
kept test w n (x ∷ xs) h =
    let here : x ≡ keep_if test w n x = rw (h n (omega arith)) refl in
    let more = kept test w (n + 1) xs (λ k m. h k (omega arith)) in
    cc

-- where no number passes the test, all stay
pub keep_where-none : (test : ℕ → Bool) (w : Written Tile) (xs : List (Written Tile)) → ((k : ℕ) → 0 ≤ k → test k ≡ false)
    → xs ≡ keep_where test w xs
keep_where-none test w xs h = kept test w 0 xs h

later-again : (x w : Written Tile) → later (later x w) w ≡ later x w
later-again x w = go (before x.stamp w.stamp) refl
  where
    go : (b : Bool) → before x.stamp w.stamp ≡ b → later (later x w) w ≡ later x w
    go true b = rw b (rw (before_irrefl w.stamp) refl)
    go false b = rw b (rw b refl)

both : (a b : Bool) (x w : Written Tile) → cond a (later (cond b (later x w) x) w) (cond b (later x w) x) ≡ cond (a || b) (later x w) x
both true true x w = later-again x w
both true false x w = refl
both false true x w = refl
both false false x w = refl

twice : (f g h : ℕ → Bool) (w : Written Tile) (n : ℕ) (xs : List (Written Tile)) → ((k : ℕ) → n ≤ k → h k ≡ (f k || g k))
    → map_from (keep_if f w) n (map_from (keep_if g w) n xs) ≡ map_from (keep_if h w) n xs
twice f g h w n [] e = refl
twice f g h w n (x ∷ xs) e =
    let here : keep_if f w n (keep_if g w n x) ≡ keep_if h w n x =
    both (f n) (g n) x w ∙ ap (λ b. cond b (later x w) x) (sym (e n (omega arith))) in
    let more = twice f g h w (n + 1) xs (λ k m. e k (omega arith)) in
    cc

-- one write to cells and then to more cells is one write to all of them
pub keep_where-twice : (f g h : ℕ → Bool) (w : Written Tile) (xs : List (Written Tile)) → ((k : ℕ) → 0 ≤ k → h k ≡ (f k || g k))
    → keep_where f w (keep_where g w xs) ≡ keep_where h w xs
keep_where-twice f g h w xs e = twice f g h w 0 xs e

eqb-behind : (k j : ℕ) → j < k → eqb k j ≡ false
eqb-behind k j h = grind (arith, nat_tests)

eqb-before : (k j : ℕ) → k < j → eqb k j ≡ false
eqb-before k j h = grind (arith, nat_tests)

eqb-here : (k j : ℕ) → k ≡ j → eqb k j ≡ true
eqb-here k j h = grind (arith, nat_tests)

set_from : (i j n : ℕ) (ts : List Tile) (ss : List Stamp) (w : Written Tile) (a e : Tile) (b d : Stamp) → j ≡ n + i → i < length ts
    → length ts ≡ length ss
    → written_at b a ≡ later (written_at (slice_index_or ss i d) (slice_index_or ts i e)) w
    → with_stamps (slice_set ts i a) (slice_set ss i b) ≡ map_from (keep_if (λ k. eqb k j) w) n (with_stamps ts ss)
set_from i j n [] ss w a e b d p m l q = absurd (omega arith)
set_from i j n (x ∷ ts) [] w a e b d p m l q = absurd (omega arith)
set_from zero j n (x ∷ ts) (y ∷ ss) w a e b d p m l q =
    let here = ap (λ v. v ∷ with_stamps ts ss) q in
    let rest = kept (λ k. eqb k j) w (n + 1) (with_stamps ts ss) (λ k o. eqb-behind k j (omega arith)) in
    rw (eqb-here n j (omega arith)) (here ∙ ap (λ xs. later (written_at y x) w ∷ xs) rest)
set_from (suc i) j n (x ∷ ts) (y ∷ ss) w a e b d p m l q =
    rw (eqb-before n j (omega arith)) (ap (λ xs. written_at y x ∷ xs) (set_from i j (n + 1) ts ss w a e b d (omega arith) (omega arith) (omega arith) q))

-- one cell keeps the later write
pub cell_set : (i : ℕ) (ts : List Tile) (ss : List Stamp) (w kept : Written Tile) (e : Tile) (d : Stamp) → i < length ts
    → length ts ≡ length ss
    → kept ≡ later (written_at (slice_index_or ss i d) (slice_index_or ts i e)) w
    → with_stamps (slice_set ts i kept.value) (slice_set ss i kept.stamp) ≡ keep_where (λ k. eqb k i) w (with_stamps ts ss)
cell_set i ts ss w kept e d m l q = set_from i i 0 ts ss w kept.value e kept.stamp d (omega arith) m l q
