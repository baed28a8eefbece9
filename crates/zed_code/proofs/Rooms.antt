-- Blocks that are given room.
use Rattle.std.proofs.Common.{◌≡◌, ◌≤◌, ◌<◌, ℕ, zero, suc, ◌+◌, List, [], ◌∷◌, ◌++◌, length, take, drop, set, map, get_or, refl, ap, ◌∙◌, sym, subst, arith}
use Rattle.std.specs.List.{AllByRecursion}
use Rattle.std.proofs.lemmas.List.{get_or_default}
use Rattle.std.proofs.lemmas.List.Edits.{map_over_more}
use Rattle.zed_code.specs.declared.block.Block.{Block}
use Rattle.zed_code.specs.Blocks.{lists, list_at, HasRoom}
use Rattle.zed_code.proofs.Puts.{lists-set}
use Rattle.zed_code.proofs.Joins.{list_at-is}

-- a block that keeps its runs
pub lists-kept : (bs : List Block) (i : ℕ) (old new : Block) → i < length bs → old ≡ get_or bs i old → new.runs.items ≡ old.runs.items
    → lists (set bs i new) ≡ lists bs
lists-kept bs i old new l e kept =
    lists-set bs i new ∙ ap (set (lists bs) i) (kept ∙ sym (list_at-is bs i old l e)) ∙ set-list bs i l
  where
    set-list : (bs : List Block) (i : ℕ) → i < length bs → set (lists bs) i (list_at i (lists bs)) ≡ lists bs
    set-list [] i l = absurd (omega (arith, l))
    set-list (q ∷ bs) zero l = refl
    set-list (q ∷ bs) (suc i) l = ap (λ qs. q.runs.items ∷ qs) (set-list bs i (omega (arith, l)))

pub room-next : (bs : List Block) (i first : ℕ) (new : Block) → first ≤ i → i < length bs → AllByRecursion HasRoom (drop first (take i bs))
    → HasRoom new
    → AllByRecursion HasRoom (drop first (take (i + 1) (set bs i new)))
room-next [] i first new f l h room = absurd (omega (arith, l))
room-next (b ∷ bs) zero zero new f l h room = (room, tt)
room-next (b ∷ bs) zero (suc first) new f l h room = absurd (omega (arith, f))
room-next (b ∷ bs) (suc i) zero new f l h room = let e : suc i + 1 ≡ suc (i + 1) = omega arith in rw e (h.0, room-next bs i zero new (omega arith) (omega (arith, l)) h.1 room)
room-next (b ∷ bs) (suc i) (suc first) new f l h room = let e : suc i + 1 ≡ suc (i + 1) = omega arith in rw e (room-next bs i first new (omega (arith, f)) (omega (arith, l)) h room)

pub room-at : (bs : List Block) (i : ℕ) (b : Block) → i < length bs → b ≡ get_or bs i b → AllByRecursion HasRoom (take 1 (drop i bs))
    → HasRoom b
room-at [] i b l e h = absurd (omega (arith, l))
room-at (q ∷ bs) zero b l e h = let P : Block → Type 0 = λ x. HasRoom x in subst P (sym e) h.0
room-at (q ∷ bs) (suc i) b l e h = room-at bs i b (omega (arith, l)) e h

pub room-first : (bs : List Block) (i : ℕ) → AllByRecursion HasRoom (drop i bs) → AllByRecursion HasRoom (take 1 (drop i bs))
room-first bs i h = go (drop i bs) h
  where
    go : (bs : List Block) → AllByRecursion HasRoom bs → AllByRecursion HasRoom (take 1 bs)
    go [] k = tt
    go (b ∷ bs) k = (k.0, tt)

pub room-behind : (bs : List Block) (i : ℕ) (new : Block) → AllByRecursion HasRoom (drop i bs)
    → AllByRecursion HasRoom (drop (i + 1) (set bs i new))
room-behind [] zero new h = tt
room-behind [] (suc i) new h = let e : suc i + 1 ≡ suc (i + 1) = omega arith in rw e tt
room-behind (b ∷ bs) zero new h = h.1
room-behind (b ∷ bs) (suc i) new h = let e : suc i + 1 ≡ suc (i + 1) = omega arith in rw e (room-behind bs i new h)

-- a loop that writes over each number, one further
pub map_over_at : (F : ℕ → ℕ) (xs ys : List ℕ) (i : ℕ) (d y : ℕ) → i < length xs → length ys ≡ length xs
    → ys ≡ map F (take i xs) ++ drop i xs → y ≡ F (get_or ys i d)
    → set ys i y ≡ map F (take (i + 1) xs) ++ drop (i + 1) xs
map_over_at F xs ys i d y l m e h = rw h (map_over_more F xs ys i (get_or ys i d) l e (get_or_default ys i d (get_or ys i d) (omega arith)))
