-- Whether a text has bytes of an insertion from a number on.
use Rattle.std.proofs.Common.{◌≡◌, ◌≤◌, ◌<◌, ℕ, suc, ◌+◌, Bool, true, false, cond, ◌&&◌, ◌||◌, List, [], ◌∷◌, ◌++◌, length, refl, arith, leb, ltb}
use Rattle.std.specs.List.{AllByRecursion}
use Rattle.zed_types.specs.declared.stamp.Stamp.{Stamp}
use Rattle.zed_types.specs.declared.text.TextByte.{TextByte}
use Rattle.zed_types.specs.Stamp.{same_stamp}
use Rattle.zed_code.specs.declared.run.Run.{Run}
use Rattle.zed_code.specs.Cutting.{bytes_in, spelled}
use Rattle.zed_code.specs.Kept.{IsRun}
use Rattle.zed_code.specs.Pieces.{run_of}
use Rattle.zed_code.specs.Runs.{lasts, sought}
use Rattle.zed_code.specs.Text.{has_from}
use Rattle.zed_code.proofs.Spelling.{bytes-count}

or-next : (a b : Bool) → b ≡ true → (a || b) ≡ true
or-next true b e = refl
or-next false b e = e

reached : (m n : ℕ) → n < m + 1 → leb n m ≡ true
reached m n l = grind (arith)

parts : (s : Bool) (n k : ℕ) → (s && ltb n k) ≡ true → (s ≡ true) × (n < k)
parts false n k h = absurd (cc)
parts true n k h = (refl, grind (arith))

last-there : (s r : Stamp) (alive : Bool) (m n : ℕ) (bs : List ℕ) (rest : List TextByte) → same_stamp r s ≡ true → n < m + length bs
    → 0 < length bs
    → has_from s n (run_of r alive m bs ++ rest) ≡ true
last-there s r alive m n [] rest e l some = absurd (omega (arith, some))
last-there s r alive m n (b ∷ []) rest e l some = let t = reached m n (omega (arith, l)) in rw (e, t) refl
last-there s r alive m n (b ∷ c ∷ bs) rest e l some =
    let more = last-there s r alive (m + 1) n (c ∷ bs) rest e (omega (arith, l)) (omega arith) in
    or-next (same_stamp r s && leb n m) (has_from s n (run_of r alive (m + 1) (c ∷ bs) ++ rest)) more

behind-there : (s r : Stamp) (alive : Bool) (m n : ℕ) (bs : List ℕ) (rest : List TextByte) → has_from s n rest ≡ true
    → has_from s n (run_of r alive m bs ++ rest) ≡ true
behind-there s r alive m n [] rest h = h
behind-there s r alive m n (b ∷ bs) rest h =
    or-next (same_stamp r s && leb n m) (has_from s n (run_of r alive (m + 1) bs ++ rest)) (behind-there s r alive (m + 1) n bs rest h)

-- where a run was found that has them
pub sought-from : (store : List ℕ) (s : Stamp) (n : ℕ) (rs : List Run) → AllByRecursion (IsRun store) rs → sought s n rs < length rs
    → has_from s n (spelled store rs) ≡ true
sought-from store s n [] each l = absurd (omega (arith, l))
sought-from store s n (r ∷ rs) each l = go (λ m. sought-from store s n rs each.1 m) (lasts s n r) refl l
  where
    go : (sought s n rs < length rs → has_from s n (spelled store rs) ≡ true) → (b : Bool) → lasts s n r ≡ b
        → cond b 0 (suc (sought s n rs)) < suc (length rs)
        → has_from s n (spelled store (r ∷ rs)) ≡ true
    go more true e l =
        let p = parts (same_stamp r.stamp s) n (r.first + r.len) e in
        let k = bytes-count store r each.0 in
        let some = each.0.some in
        last-there s r.stamp r.alive r.first n (bytes_in store r) (spelled store rs) p.0 (omega (arith, p.1, k)) (omega (arith, some, k))
    go more false e l = behind-there s r.stamp r.alive r.first n (bytes_in store r) (spelled store rs) (more (omega (arith, l)))
