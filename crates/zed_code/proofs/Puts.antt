-- A run that is put into a list of runs, and into one of lists that are joined.
use Rattle.std.proofs.Common.{◌≡◌, ◌≤◌, ◌<◌, ℕ, zero, suc, ◌+◌, min, Bool, true, false, cond, List, [], ◌∷◌, ◌++◌, length, take, drop, set, get_or, append_assoc, refl, ap, ◌∙◌, sym, arith, ltb}
use Rattle.std.specs.List.{insert}
use Rattle.zed_types.specs.declared.names.ElemId.{ElemId}
use Rattle.zed_types.specs.Stamp.{before}
use Rattle.zed_code.specs.declared.run.Run.{Run}
use Rattle.zed_code.specs.declared.block.Block.{Block}
use Rattle.zed_code.specs.declared.block.Spot.{Spot}
use Rattle.zed_code.specs.Blocks.{lists, joined, list_at, before_spot, IsIn, NoneEmpty}
use Rattle.zed_code.specs.Runs.{passed, put_in, front, back, found, has, pass_runs, put_at, put_behind, up_to}
use Rattle.zed_code.proofs.Joins.{joined-at}

pub put_in-whole : (i n : ℕ) (run : Run) (rs : List Run) → n ≡ 0 → i ≤ length rs → insert rs i run ≡ put_in i n run rs
put_in-whole zero n run [] e l = refl
put_in-whole (suc i) n run [] e l = absurd (omega (arith, l))
put_in-whole zero n run (r ∷ rs) e l = rw e refl
put_in-whole (suc i) n run (r ∷ rs) e l = ap (λ xs. r ∷ xs) (put_in-whole i n run rs e (omega (arith, l)))

pub put_in-cut : (i n : ℕ) (run : Run) (rs : List Run) (r : Run) → i < length rs → r ≡ get_or rs i r → ltb 0 n ≡ true
    → insert (insert (set rs i (front n r)) (suc i) (back n r)) (suc i) run ≡ put_in i n run rs
put_in-cut i n run [] r l e c = absurd (omega (arith, l))
put_in-cut zero n run (q ∷ rs) r l e c = ap (λ (x : Run). front n x ∷ run ∷ back n x ∷ rs) e ∙ rw c refl
put_in-cut (suc i) n run (q ∷ rs) r l e c = ap (λ xs. q ∷ xs) (put_in-cut i n run rs r (omega (arith, l)) e c)

pub put_in-front : (xs ys : List Run) (i n : ℕ) (run : Run) → put_in (length xs + i) n run (xs ++ ys) ≡ xs ++ put_in i n run ys
put_in-front [] ys i n run = ap (λ k. put_in k n run ys) (omega arith)
put_in-front (x ∷ xs) ys i n run = let e : suc (length xs) + i ≡ suc (length xs + i) = omega arith in rw e (ap (λ zs. x ∷ zs) (put_in-front xs ys i n run))

pub put_in-within : (ys zs : List Run) (i n : ℕ) (run : Run) → i + min n 1 ≤ length ys → put_in i n run (ys ++ zs) ≡ put_in i n run ys ++ zs
put_in-within [] [] zero n run l = refl
put_in-within [] (z ∷ zs) zero n run l = let e : n ≡ 0 = omega (arith, l) in rw e refl
put_in-within [] zs (suc i) n run l = absurd (omega (arith, l))
put_in-within (y ∷ ys) zs zero n run l = go (ltb 0 n)
  where
    go : (b : Bool)
        → cond b (front n y ∷ run ∷ back n y ∷ (ys ++ zs)) (run ∷ y ∷ (ys ++ zs))
        ≡ cond b (front n y ∷ run ∷ back n y ∷ ys) (run ∷ y ∷ ys) ++ zs
    go true = refl
    go false = refl
put_in-within (y ∷ ys) zs (suc i) n run l = ap (λ xs. y ∷ xs) (put_in-within ys zs i n run (omega (arith, l)))

pub joined-set : (ls : List (List Run)) (i : ℕ) (xs : List Run) → i < length ls
    → joined (set ls i xs) ≡ joined (take i ls) ++ (xs ++ joined (drop (i + 1) ls))
joined-set [] i xs l = absurd (omega (arith, l))
joined-set (rs ∷ ls) zero xs l = refl
joined-set (rs ∷ ls) (suc i) xs l = let e : suc i + 1 ≡ suc (i + 1) = omega arith in rw e (ap (λ ys. rs ++ ys) (joined-set ls i xs (omega (arith, l))) ∙ sym (append_assoc rs (joined (take i ls)) (xs ++ joined (drop (i + 1) ls))))

pub put-joined : (at : Spot) (n : ℕ) (run : Run) (ls : List (List Run)) → IsIn at (min n 1) ls
    → joined (set ls at.block (put_in at.place n run (list_at at.block ls))) ≡ put_in (before_spot at ls) n run (joined ls)
put-joined at n run ls h =
    joined-set ls at.block (put_in at.place n run (list_at at.block ls)) h.block
    ∙ ap (λ xs. joined (take at.block ls) ++ xs) (sym (put_in-within (list_at at.block ls) (joined (drop (at.block + 1) ls)) at.place n run h.place))
    ∙ sym (put_in-front (joined (take at.block ls)) (list_at at.block ls ++ joined (drop (at.block + 1) ls)) at.place n run)
    ∙ ap (λ xs. put_in (before_spot at ls) n run xs) (sym (joined-at ls at.block h.block))

pub lists-set : (bs : List Block) (i : ℕ) (b : Block) → lists (set bs i b) ≡ set (lists bs) i b.runs.items
lists-set [] i b = refl
lists-set (q ∷ bs) zero b = refl
lists-set (q ∷ bs) (suc i) b = ap (λ xs. q.runs.items ∷ xs) (lists-set bs i b)

pub length-set : {X : Type 0} (xs : List X) (i : ℕ) (x : X) → length (set xs i x) ≡ length xs
length-set [] i x = refl
length-set (y ∷ xs) zero x = refl
length-set (y ∷ xs) (suc i) x = ap suc (length-set xs i x)

pub some-put_in : (i n : ℕ) (run : Run) (rs : List Run) → 0 < length (put_in i n run rs)
some-put_in i n run [] = omega arith
some-put_in zero n run (r ∷ rs) = go (ltb 0 n)
  where
    go : (b : Bool) → 0 < length (cond b (front n r ∷ run ∷ back n r ∷ rs) (run ∷ r ∷ rs))
    go true = omega arith
    go false = omega arith
some-put_in (suc i) n run (r ∷ rs) = omega arith

pub full-set : (ls : List (List Run)) (i : ℕ) (xs : List Run) → 0 < length xs → NoneEmpty ls → NoneEmpty (set ls i xs)
full-set [] i xs some full = tt
full-set (rs ∷ ls) zero xs some full = (some, full.1)
full-set (rs ∷ ls) (suc i) xs some full = (full.0, full-set ls i xs some full.1)

-- where a run goes that passes those of later edits
pub put_in-passed : (run : Run) (rs : List Run) → put_in (passed run.stamp rs) 0 run rs ≡ pass_runs run rs
put_in-passed run [] = refl
put_in-passed run (r ∷ rs) = go (put_in-passed run rs) (before run.stamp r.stamp)
  where
    go : put_in (passed run.stamp rs) 0 run rs ≡ pass_runs run rs → (b : Bool)
        → put_in (cond b (suc (passed run.stamp rs)) 0) 0 run (r ∷ rs) ≡ cond b (r ∷ pass_runs run rs) (run ∷ r ∷ rs)
    go more true = ap (λ xs. r ∷ xs) more
    go more false = refl

-- and one that goes behind a byte within a run, or behind all the run
module _ (a : ElemId) (run r : Run) where
  pub put_in-inside : (rs qs : List Run) → found a rs < length rs → drop (found a rs) rs ≡ r ∷ qs → ltb (up_to a r) r.len ≡ true
      → put_in (found a rs) (up_to a r) run rs ≡ put_at a run rs
  put_in-inside [] qs l e c = absurd (omega (arith, l))
  put_in-inside (q ∷ rs) qs l e c = go (λ m f. put_in-inside rs qs m f c) (has a q) refl l e
    where
      first : List Run → Run
      first [] = r
      first (x ∷ xs) = x

      go : (found a rs < length rs → drop (found a rs) rs ≡ r ∷ qs → put_in (found a rs) (up_to a r) run rs ≡ put_at a run rs) → (b : Bool)
          → has a q ≡ b → cond b 0 (suc (found a rs)) < suc (length rs) → drop (cond b 0 (suc (found a rs))) (q ∷ rs) ≡ r ∷ qs
          → put_in (cond b 0 (suc (found a rs))) (up_to a r) run (q ∷ rs) ≡ cond b (put_behind a run q rs) (q ∷ put_at a run rs)
      go more true b l e =
          let f : q ≡ r = ap first e in
          let some : ltb 0 (up_to a r) ≡ true = grind (arith) in
          let cut : ltb (up_to a q) q.len ≡ true = ap (λ (x : Run). ltb (up_to a x) x.len) f ∙ c in
          rw (cut, some) (ap (λ (x : Run). front (up_to a x) q ∷ run ∷ back (up_to a x) q ∷ rs) (sym f))
      go more false b l e = ap (λ xs. q ∷ xs) (more (omega (arith, l)) e)

  pub put_in-behind : (rs qs : List Run) (j : ℕ) → found a rs < length rs → drop (found a rs) rs ≡ r ∷ qs → ltb (up_to a r) r.len ≡ false
      → j ≡ suc (found a rs + passed run.stamp (drop (suc (found a rs)) rs))
      → put_in j 0 run rs ≡ put_at a run rs
  put_in-behind [] qs j l e c p = absurd (omega (arith, l))
  put_in-behind (q ∷ rs) qs zero l e c p = absurd (omega (arith, p))
  put_in-behind (q ∷ rs) qs (suc j) l e c p = go j (λ k m f g. put_in-behind rs qs k m f c g) (has a q) refl l e p
    where
      first : List Run → Run
      first [] = r
      first (x ∷ xs) = x

      go : (j : ℕ)
          → ((k : ℕ) → found a rs < length rs → drop (found a rs) rs ≡ r ∷ qs → k ≡ suc (found a rs + passed run.stamp (drop (suc (found a rs)) rs)) → put_in k 0 run rs ≡ put_at a run rs)
          → (b : Bool) → has a q ≡ b → cond b 0 (suc (found a rs)) < suc (length rs) → drop (cond b 0 (suc (found a rs))) (q ∷ rs) ≡ r ∷ qs
          → suc j ≡ suc (cond b 0 (suc (found a rs)) + passed run.stamp (drop (suc (cond b 0 (suc (found a rs)))) (q ∷ rs)))
          → q ∷ put_in j 0 run rs ≡ cond b (put_behind a run q rs) (q ∷ put_at a run rs)
      go j more true b l e p =
          let f : q ≡ r = ap first e in
          let whole : ltb (up_to a q) q.len ≡ false = ap (λ (x : Run). ltb (up_to a x) x.len) f ∙ c in
          let k : j ≡ passed run.stamp rs = omega (arith, p) in
          rw (whole, k) (ap (λ xs. q ∷ xs) (put_in-passed run rs))
      go j more false b l e p = ap (λ xs. q ∷ xs) (more j (omega (arith, l)) e (omega (arith, p)))
