-- What is read of lists of runs that are joined.
use Rattle.std.proofs.Common.{◌≡◌, ◌≤◌, ◌<◌, ℕ, ◌+◌, ◌-◌, Bool, true, false, cond, List, [], ◌∷◌, ◌++◌, map, length, drop, get_or, Some, refl, ap, ◌∙◌, arith, ltb}
use Rattle.std.proofs.lemmas.List.{map-append}
use Rattle.std.proofs.lemmas.List.Elements.{filter-append}
use Rattle.zed_types.specs.Text.{alive_bytes}
use Rattle.std.specs.List.{filter}
use Rattle.zed_code.specs.declared.run.Run.{Run}
use Rattle.zed_code.specs.declared.block.Block.{Block}
use Rattle.zed_code.specs.Blocks.{lists, joined}
use Rattle.zed_code.specs.Cutting.{spelled}
use Rattle.zed_code.specs.Kept.{total}
use Rattle.zed_code.specs.Reading.{live, live_at}
use Rattle.zed_code.proofs.Alive.{live-within}
use Rattle.zed_code.proofs.Joins.{joined-drop, length-lists, list_at-is}
use Rattle.zed_code.proofs.Killing.{spelled-append, total-append}

-- the runs from a block on that is read
pub next-block : (bs : List Block) (i : ℕ) (b : Block) → i < length bs → b ≡ get_or bs i b
    → joined (drop i (lists bs)) ≡ b.runs.items ++ joined (drop (i + 1) (lists bs))
next-block bs i b l e =
    joined-drop (lists bs) i (omega (arith, l, length-lists bs))
    ∙ ap (λ xs. xs ++ joined (drop (i + 1) (lists bs))) (list_at-is bs i b l e)

pub live-append : (xs ys : List Run) → live (xs ++ ys) ≡ live xs + live ys
live-append [] ys = omega arith
live-append (r ∷ xs) ys = go r.alive (live-append xs ys)
  where
    go : (b : Bool) → live (xs ++ ys) ≡ live xs + live ys
        → cond b (r.len + live (xs ++ ys)) (live (xs ++ ys)) ≡ cond b (r.len + live xs) (live xs) + live ys
    go true more = omega (arith, more)
    go false more = more

live_at-first : (xs ys : List Run) (k : ℕ) → k < live xs → live_at (xs ++ ys) k ≡ live_at xs k
live_at-first [] ys k l = absurd (omega (arith, l))
live_at-first (r ∷ xs) ys k l = go r.alive (ltb k r.len) refl l (λ j m. live_at-first xs ys j m)
  where
    go : (a b : Bool) → ltb k r.len ≡ b → k < cond a (r.len + live xs) (live xs)
        → ((j : ℕ) → j < live xs → live_at (xs ++ ys) j ≡ live_at xs j)
        → cond a (cond b (Some (r, k)) (live_at (xs ++ ys) (k - r.len))) (live_at (xs ++ ys) k)
        ≡ cond a (cond b (Some (r, k)) (live_at xs (k - r.len))) (live_at xs k)
    go false b e m more = more k m
    go true true e m more = refl
    go true false e m more = let n : r.len ≤ k = grind (arith) in more (k - r.len) (omega (arith, m, n))

live_at-later : (xs ys : List Run) (k : ℕ) → live xs ≤ k → live_at (xs ++ ys) k ≡ live_at ys (k - live xs)
live_at-later [] ys k l = ap (live_at ys) (omega arith)
live_at-later (r ∷ xs) ys k l = go r.alive (ltb k r.len) refl l (λ j m. live_at-later xs ys j m)
  where
    go : (a b : Bool) → ltb k r.len ≡ b → cond a (r.len + live xs) (live xs) ≤ k
        → ((j : ℕ) → live xs ≤ j → live_at (xs ++ ys) j ≡ live_at ys (j - live xs))
        → cond a (cond b (Some (r, k)) (live_at (xs ++ ys) (k - r.len))) (live_at (xs ++ ys) k)
        ≡ live_at ys (k - cond a (r.len + live xs) (live xs))
    go false b e m more = more k m
    go true true e m more = let n : k < r.len = grind (arith) in absurd (omega (arith, m, n))
    go true false e m more = let n : k - r.len - live xs ≡ k - (r.len + live xs) = omega arith in more (k - r.len) (omega (arith, m)) ∙ ap (live_at ys) n

-- a count over blocks, one block further: what it tells, and that it has room
pub record IsCounted (bs : List Block) (i n : ℕ) (b : Block) : Type 0 where
  pub rest : n + live b.runs.items + live (joined (drop (i + 1) (lists bs))) ≡ live (joined (lists bs))
  pub room : n + live b.runs.items + total (joined (drop (i + 1) (lists bs))) ≤ total (joined (lists bs))
  pub fits : n + live b.runs.items ≤ total (joined (lists bs))
  pub here : total b.runs.items ≤ total (joined (lists bs))

pub counted : (bs : List Block) (i n : ℕ) (b : Block) → i < length bs → b ≡ get_or bs i b
    → n + live (joined (drop i (lists bs))) ≡ live (joined (lists bs)) → n + total (joined (drop i (lists bs))) ≤ total (joined (lists bs))
    → IsCounted bs i n b
counted bs i n b l e rest room =
    let next = next-block bs i b l e in
    let a = ap live next ∙ live-append b.runs.items (joined (drop (i + 1) (lists bs))) in
    let t = ap total next ∙ total-append b.runs.items (joined (drop (i + 1) (lists bs))) in
    let most = live-within b.runs.items in
    record { rest = omega (arith, a, rest); room = omega (arith, t, room, most); fits = omega (arith, t, room, most); here = omega (arith, t, room) }

-- a search for a live byte: it is in a block, or behind it
pub record IsSought (bs : List Block) (i : ℕ) (b : Block) : Type 0 where
  pub within : (k : ℕ) → k < live b.runs.items → live_at (joined (drop i (lists bs))) k ≡ live_at b.runs.items k
  pub behind : (k : ℕ) → live b.runs.items ≤ k
      → live_at (joined (drop i (lists bs))) k ≡ live_at (joined (drop (i + 1) (lists bs))) (k - live b.runs.items)
  pub here : total b.runs.items ≤ total (joined (drop i (lists bs)))
  pub room : total (joined (drop (i + 1) (lists bs))) ≤ total (joined (drop i (lists bs)))

pub searched : (bs : List Block) (i : ℕ) (b : Block) → i < length bs → b ≡ get_or bs i b → IsSought bs i b
searched bs i b l e =
    let next = next-block bs i b l e in
    let t = ap total next ∙ total-append b.runs.items (joined (drop (i + 1) (lists bs))) in
    record {
      within = λ k m. ap (λ rs. live_at rs k) next ∙ live_at-first b.runs.items (joined (drop (i + 1) (lists bs))) k m;
      behind = λ k m. ap (λ rs. live_at rs k) next ∙ live_at-later b.runs.items (joined (drop (i + 1) (lists bs))) k m;
      here = omega (arith, t);
      room = omega (arith, t);
    }

-- the live bytes of some runs, and of those behind them
pub alive-append : (store : List ℕ) (xs ys : List Run)
    → alive_bytes (spelled store (xs ++ ys)) ≡ alive_bytes (spelled store xs) ++ alive_bytes (spelled store ys)
alive-append store xs ys =
    ap alive_bytes (spelled-append store xs ys)
    ∙ ap (map (λ x. x.byte)) (filter-append (λ x. x.alive) (spelled store xs) (spelled store ys))
    ∙ map-append (λ x. x.byte) (filter (λ x. x.alive) (spelled store xs)) (filter (λ x. x.alive) (spelled store ys))
