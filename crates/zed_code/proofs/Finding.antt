-- Where a run stands that was put in, and what it tells.
use Rattle.std.proofs.Common.{◌≡◌, ◌≤◌, ◌<◌, ℕ, zero, suc, ◌+◌, min, Bool, true, false, cond, ◌&&◌, ◌||◌, Option, Some, None, List, [], ◌∷◌, length, take, drop, set, refl, ap, ◌∙◌, sym, subst, arith, ltb}
use Rattle.std.specs.List.{list_any}
use Rattle.zed_types.specs.declared.names.ElemId.{ElemId}
use Rattle.zed_types.specs.declared.stamp.Stamp.{Stamp}
use Rattle.zed_types.specs.Stamp.{same_stamp}
use Rattle.zed_code.specs.declared.run.Run.{Run}
use Rattle.zed_code.specs.declared.block.Block.{Block}
use Rattle.zed_code.specs.declared.block.Spot.{Spot}
use Rattle.zed_code.specs.declared.block.Cut.{Cut}
use Rattle.zed_code.specs.declared.search.Found.{Found}
use Rattle.zed_code.specs.declared.insertion.Target.{Target}
use Rattle.zed_code.specs.Targets.{IsTarget, IsCut, cut_bytes, fronts}
use Rattle.zed_code.specs.Blocks.{lists, joined, list_at, before_spot}
use Rattle.zed_code.specs.Found.{IsFound, StandsAt}
use Rattle.zed_code.specs.Runs.{lasts, sought, put_in, front, back, has}
use Rattle.zed_code.specs.Kept.{NoneOf}
use Rattle.zed_code.proofs.Puts.{put-joined, length-set}
use Rattle.zed_code.proofs.Joins.{length-at}
use Rattle.zed_code.proofs.Hinting.{take-set}

-- a run that is cut has a front
fronts-are : (o : Option Cut) (rs : List Run) → IsCut o rs → min (cut_bytes o) 1 ≡ fronts o
fronts-are None rs h = refl
fronts-are (Some c) rs h = let l = h.0 in omega (arith, l)

none-lasts : (s : Stamp) (n : ℕ) (r : Run) → same_stamp r.stamp s ≡ false → lasts s n r ≡ false
none-lasts s n r e = ap (λ b. b && ltb n (r.first + r.len)) e

-- a run that is put in stands behind the front of the run that it cuts, and is the first of its insertion
sought-own : (m i n : ℕ) (run : Run) (rs : List Run) → NoneOf run.stamp rs → lasts run.stamp m run ≡ true → i + min n 1 ≤ length rs
    → sought run.stamp m (put_in i n run rs) ≡ i + min n 1
sought-own m zero n run [] none own l = rw own (omega (arith, l))
sought-own m (suc i) n run [] none own l = absurd (omega (arith, l))
sought-own m zero n run (r ∷ rs) none own l = go (ltb 0 n) refl
  where
    other : lasts run.stamp m (front n r) ≡ false
    other = none-lasts run.stamp m (front n r) none.0

    go : (b : Bool) → ltb 0 n ≡ b → sought run.stamp m (cond b (front n r ∷ run ∷ back n r ∷ rs) (run ∷ r ∷ rs)) ≡ 0 + min n 1
    go true e = let some : 0 < n = grind (arith) in rw (other, own) (omega (arith, some))
    go false e = let nothing : n ≡ 0 = grind (arith) in rw own (omega (arith, nothing))
sought-own m (suc i) n run (r ∷ rs) none own l =
    rw (none-lasts run.stamp m r none.0) (omega (arith, sought-own m i n run rs none.1 own (omega (arith, l))))

longer : (i n : ℕ) (run : Run) (rs : List Run) → i + min n 1 ≤ length rs → i + min n 1 + 1 ≤ length (put_in i n run rs)
longer zero n run [] l = omega (arith, l)
longer (suc i) n run [] l = absurd (omega (arith, l))
longer zero n run (r ∷ rs) l = go (ltb 0 n)
  where
    go : (b : Bool) → 0 + min n 1 + 1 ≤ length (cond b (front n r ∷ run ∷ back n r ∷ rs) (run ∷ r ∷ rs))
    go true = omega arith
    go false = omega arith
longer (suc i) n run (r ∷ rs) l = omega (arith, longer i n run rs (omega (arith, l)))

list_at-set : (ls : List (List Run)) (b : ℕ) (xs : List Run) → b < length ls → list_at b (set ls b xs) ≡ xs
list_at-set [] b xs l = absurd (omega (arith, l))
list_at-set (rs ∷ ls) zero xs l = refl
list_at-set (rs ∷ ls) (suc b) xs l = list_at-set ls b xs (omega (arith, l))

pub put-stands : (aim : Target) (run : Run) (ls : List (List Run)) → IsTarget aim ls → NoneOf run.stamp (joined ls)
    → StandsAt run (record { block = aim.at.block; place = aim.at.place + fronts aim.cut }) (set ls aim.at.block (put_in aim.at.place (cut_bytes aim.cut) run (list_at aim.at.block ls)))
put-stands aim run ls h new =
    let n = cut_bytes aim.cut in
    let at = aim.at in
    let xs = put_in at.place n run (list_at at.block ls) in
    let f = fronts-are aim.cut (drop (before_spot at ls) (joined ls)) h.there in
    let here = ap length (list_at-set ls at.block xs h.within.block) in
    let long = longer at.place n run (list_at at.block ls) h.within.place in
    let before = ap (λ qs. length (joined qs)) (take-set ls at.block at.block xs (omega arith)) in
    record {
      within = record { block = omega (arith, length-set ls at.block xs, h.within.block); place = omega (arith, here, long, f) };
      first = λ m own.
          let within : before_spot at ls + min n 1 ≤ length (joined ls) = omega (arith, h.within.place, bounded at ls h.within.block) in
          let is =
          ap (sought run.stamp m) (put-joined at n run ls h.within)
          ∙ sought-own m (before_spot at ls) n run (joined ls) new own within in
          omega (arith, is, before, f);
    }
  where
    bounded : (at : Spot) (ls : List (List Run)) → at.block < length ls
        → length (joined (take at.block ls)) + length (list_at at.block ls) ≤ length (joined ls)
    bounded at ls l = omega (arith, length-at ls at.block l)

-- the first run of a text
pub alone-stands : (run : Run) → StandsAt run (record { block = 0; place = 0 }) ((run ∷ []) ∷ [])
alone-stands run = record {
  within = record { block = omega arith; place = omega arith };
  first = λ n own. sym (rw own refl);
}

pub found-of : (f : Option Found) (bs cs : List Block) → bs ≡ cs → IsFound f (lists bs) → IsFound f (lists cs)
found-of f bs cs e is = let P : List Block → Type 0 = λ xs. IsFound f (lists xs) in subst P e is

-- a byte of a run is there
pub any-at : (a : ElemId) (i : ℕ) (rs : List Run) (r : Run) (qs : List Run) → drop i rs ≡ r ∷ qs → has a r ≡ true
    → list_any (has a) rs ≡ true
any-at a i [] r qs e h = absurd (none i e)
  where
    none : (i : ℕ) → drop i [] ≡ r ∷ qs → ⊥
    none zero e = absurd (cc)
    none (suc i) e = absurd (cc)
any-at a zero (p ∷ rs) r qs e h = let f : p ≡ r = ap first e in ap (λ b. b || list_any (has a) rs) (ap (has a) f ∙ h)
  where
    first : List Run → Run
    first [] = r
    first (x ∷ xs) = x
any-at a (suc i) (p ∷ rs) r qs e h = go (has a p) (any-at a i rs r qs e h)
  where
    go : (b : Bool) → list_any (has a) rs ≡ true → (b || list_any (has a) rs) ≡ true
    go true more = refl
    go false more = more

-- a byte of a whole insertion is found where that was put
pub last-lasts : (n len : ℕ) (run : Run) → run.first ≡ 0 → run.len ≡ len → n < len → lasts run.stamp n run ≡ true
last-lasts n len run f g l = let own : same_stamp run.stamp run.stamp ≡ true = grind (arith) in rw own (let m : n < run.first + run.len = omega (arith, l, g, f) in grind (arith))
