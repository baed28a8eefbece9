-- Tiles that are read are as many as are wanted.
use Rattle.std.proofs.Common.{◌≡◌, ℕ, zero, suc, ◌-◌, min, List, [], ◌∷◌, ◌++◌, length, replicate, Option, Some, None, refl, sym, ap, length-append, arith}
use Rattle.std.proofs.lemmas.List.{length-replicate}
use Rattle.zed_types.specs.declared.tile.Tile.{Tile}
use Rattle.zed_runs.specs.Runs.{tiles_of_count, greedy}
use Rattle.zed_runs.specs.Reading.{followed_by, tiles_at}

-- what the law on greedy runs promises: they are read back
abbrev pub GreedyIsRead : Type 0
GreedyIsRead = (tiles : List Tile) (rest : List ℕ) → length tiles ≡ 1500 → tiles_at 1500 (greedy tiles ++ rest) ≡ Some (tiles, rest)

followed_is : (tiles : List Tile) (r : Option (List Tile × List ℕ)) (y : List Tile × List ℕ) → followed_by tiles r ≡ Some y
    → (x : List Tile × List ℕ) × (r ≡ Some x) × (tiles ++ x.0 ≡ y.0)
followed_is tiles (Some x) y h = (x, refl, first (tiles ++ x.0, x.1) y h)
  where
    first : (p q : List Tile × List ℕ) → Some p ≡ Some q → p.0 ≡ q.0
    first p q h = let same : p ≡ q = cc in ap (λ (z : List Tile × List ℕ). z.0) same
followed_is tiles None y h = absurd cc

pub tiles_long : (wanted : ℕ) (bytes : List ℕ) (x : List Tile × List ℕ) → tiles_at wanted bytes ≡ Some x → length x.0 ≡ wanted
unfolding tiles_at
tiles_long zero bytes x h = none x h
  where
    none : (y : List Tile × List ℕ) → Some ([], bytes) ≡ Some y → length y.0 ≡ 0
    none y h = let same : ([], bytes) ≡ y = cc in sym (ap (λ (z : List Tile × List ℕ). length z.0) same)
tiles_long (suc w) [] x h = absurd cc
tiles_long (suc w) (a ∷ []) x h = absurd cc
tiles_long (suc w) (a ∷ b ∷ []) x h = absurd cc
tiles_long (suc w) (a ∷ b ∷ c ∷ rest) x h =
    let n = tiles_of_count a in
    let t : Tile = record { element = b; colour = c } in
    let run = replicate (min (suc w) n) t in
    let o = followed_is run (tiles_at (suc w - n) rest) x h in
    let others = tiles_long (suc w - n) rest o.0 o.1 in
    omega (arith, ap length o.2, length-append run o.0.0, length-replicate (min (suc w) n) t)
