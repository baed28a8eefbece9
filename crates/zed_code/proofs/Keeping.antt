-- Runs and their store stay well kept by an insertion.
use Rattle.std.proofs.Common.{◌≡◌, ◌≤◌, ◌<◌, ◌^◌, ℕ, suc, ◌+◌, Bool, true, false, cond, List, [], ◌∷◌, ◌++◌, length, Option, Some, None, length-append, refl, ap, arith, ltb}
use Rattle.std.specs.List.{AllByRecursion}
use Rattle.zed_types.specs.declared.names.ElemId.{ElemId}
use Rattle.zed_types.specs.Stamp.{before, same_stamp}
use Rattle.zed_code.specs.declared.run.Run.{Run}
use Rattle.zed_code.specs.Runs.{has, found, pass_runs, put_behind, put_at, put_run, up_to, front, back}
use Rattle.zed_code.specs.There.{IsThere}
use Rattle.zed_code.specs.Kept.{IsRun, InOrder, AllInOrder, total, NoneOf, AreKept}

-- what has of the new run, and of each run with the parts of it, has after an insertion
module _ (P : Run → Type 0) (run : Run) (new : P run) where
  pub all-pass_runs : (rs : List Run) → AllByRecursion P rs → AllByRecursion P (pass_runs run rs)
  all-pass_runs [] h = (new, tt)
  all-pass_runs (r ∷ rs) h = go (all-pass_runs rs h.1) (before run.stamp r.stamp)
    where
      go : AllByRecursion P (pass_runs run rs) → (b : Bool) → AllByRecursion P (cond b (r ∷ pass_runs run rs) (run ∷ r ∷ rs))
      go more true = (h.0, more)
      go more false = (new, h)

  pub all-put_at : (a : ElemId) → ((r : Run) → P r → has a r ≡ true → up_to a r < r.len → P (front (up_to a r) r) × P (back (up_to a r) r))
      → (rs : List Run) → AllByRecursion P rs
      → AllByRecursion P (put_at a run rs)
  all-put_at a parts [] h = tt
  all-put_at a parts (r ∷ rs) h = go (all-put_at a parts rs h.1) (has a r) refl
    where
      split : (b : Bool) → ltb (up_to a r) r.len ≡ b → has a r ≡ true
          → AllByRecursion P (cond b (front (up_to a r) r ∷ run ∷ back (up_to a r) r ∷ rs) (r ∷ pass_runs run rs))
      split true b held = let p = parts r h.0 held (grind (arith)) in (p.0, (new, (p.1, h.1)))
      split false b held = (h.0, all-pass_runs rs h.1)

      go : AllByRecursion P (put_at a run rs) → (b : Bool) → has a r ≡ b
          → AllByRecursion P (cond b (put_behind a run r rs) (r ∷ put_at a run rs))
      go more true b = split (ltb (up_to a r) r.len) refl b
      go more false b = (h.0, more)

-- each run is one
is-front : (store : List ℕ) (k : ℕ) (r : Run) → IsRun store r → 0 < k → k ≤ r.len → IsRun store (front k r)
is-front store k r h some most = record { some = some; within = omega (arith, h.within, most); numbered = omega (arith, h.numbered, most) }

is-back : (store : List ℕ) (k : ℕ) (r : Run) → IsRun store r → k < r.len → IsRun store (back k r)
is-back store k r h less =
    record { some = omega (arith, less); within = omega (arith, h.within, less); numbered = omega (arith, h.numbered, less) }

-- the new run comes in order with those of other insertions
order-other : (r run : Run) → same_stamp r.stamp run.stamp ≡ false → InOrder r run × InOrder run r
order-other r run h = (λ e. absurd (cc), λ e. absurd (grind (arith)))

order-front : (k : ℕ) (q r : Run) → InOrder q r → InOrder q (front k r)
order-front k q r h = h

order-back : (k : ℕ) (q r : Run) → InOrder q r → InOrder q (back k r)
order-back k q r h e = omega (arith, h e)

order-others : (run : Run) (rs : List Run) → NoneOf run.stamp rs → AllByRecursion (InOrder run) rs
order-others run [] h = tt
order-others run (r ∷ rs) h = ((order-other r run h.0).1, order-others run rs h.1)

order-pass_runs : (run : Run) (rs : List Run) → NoneOf run.stamp rs → AllInOrder rs → AllInOrder (pass_runs run rs)
order-pass_runs run [] n h = (tt, tt)
order-pass_runs run (r ∷ rs) n h = go (order-pass_runs run rs n.1 h.1) (before run.stamp r.stamp)
  where
    go : AllInOrder (pass_runs run rs) → (b : Bool) → AllInOrder (cond b (r ∷ pass_runs run rs) (run ∷ r ∷ rs))
    go more true = (all-pass_runs (InOrder r) run (order-other r run n.0).0 rs h.0, more)
    go more false = (order-others run (r ∷ rs) n, h)

-- the parts of a run come in order before the runs behind it
order-parts : (k : ℕ) (r : Run) (rs : List Run) → k ≤ r.len → AllByRecursion (InOrder r) rs
    → AllByRecursion (InOrder (front k r)) rs × AllByRecursion (InOrder (back k r)) rs
order-parts k r [] l h = (tt, tt)
order-parts k r (q ∷ rs) l h =
    let more = order-parts k r rs l h.1 in
    ((λ e. omega (arith, h.0 e, l), more.0), (λ e. omega (arith, h.0 e, l), more.1))

order-put_at : (a : ElemId) (run : Run) (rs : List Run) → NoneOf run.stamp rs → AllInOrder rs → AllInOrder (put_at a run rs)
order-put_at a run [] n h = tt
order-put_at a run (r ∷ rs) n h = go (order-put_at a run rs n.1 h.1) (has a r) refl
  where
    split : (b : Bool) → ltb (up_to a r) r.len ≡ b
        → AllInOrder (cond b (front (up_to a r) r ∷ run ∷ back (up_to a r) r ∷ rs) (r ∷ pass_runs run rs))
    split true b =
        let l : up_to a r < r.len = grind (arith) in
        let p = order-parts (up_to a r) r rs (omega (arith, l)) h.0 in
        let f = order-other (front (up_to a r) r) run n.0 in
        let b = order-other (back (up_to a r) r) run n.0 in
        ((f.0, ((λ e. omega arith), p.0)), ((b.1, order-others run rs n.1), (p.1, h.1)))
    split false b = (all-pass_runs (InOrder r) run (order-other r run n.0).0 rs h.0, order-pass_runs run rs n.1 h.1)

    go : AllInOrder (put_at a run rs) → (b : Bool) → has a r ≡ b → AllInOrder (cond b (put_behind a run r rs) (r ∷ put_at a run rs))
    go more true b = split (ltb (up_to a r) r.len) refl
    go more false b = (all-put_at (InOrder r) run (order-other r run n.0).0 a (λ q k held l. (order-front (up_to a q) r q k, order-back (up_to a q) r q k)) rs h.0, more)

-- the new run's bytes are added
total-pass_runs : (run : Run) (rs : List Run) → total (pass_runs run rs) ≡ run.len + total rs
total-pass_runs run [] = refl
total-pass_runs run (r ∷ rs) = go (total-pass_runs run rs) (before run.stamp r.stamp)
  where
    go : total (pass_runs run rs) ≡ run.len + total rs → (b : Bool)
        → total (cond b (r ∷ pass_runs run rs) (run ∷ r ∷ rs)) ≡ run.len + (r.len + total rs)
    go more true = omega (arith, more)
    go more false = refl

total-put_at : (a : ElemId) (run : Run) (rs : List Run) → found a rs < length rs → total (put_at a run rs) ≡ run.len + total rs
total-put_at a run [] h = absurd (omega (arith, h))
total-put_at a run (r ∷ rs) h = go (λ k. total-put_at a run rs k) (has a r) refl
  where
    split : (b : Bool) → ltb (up_to a r) r.len ≡ b
        → total (cond b (front (up_to a r) r ∷ run ∷ back (up_to a r) r ∷ rs) (r ∷ pass_runs run rs)) ≡ run.len + (r.len + total rs)
    split true b = let l : up_to a r < r.len = grind (arith) in omega (arith, l)
    split false b = omega (arith, total-pass_runs run rs)

    go : (found a rs < length rs → total (put_at a run rs) ≡ run.len + total rs) → (b : Bool) → has a r ≡ b
        → total (cond b (put_behind a run r rs) (r ∷ put_at a run rs)) ≡ run.len + (r.len + total rs)
    go more true b = split (ltb (up_to a r) r.len) refl
    go more false b =
        let k : suc (found a rs) < suc (length rs) = rw b at h in
        omega (arith, more (omega (arith, k)))

-- at most two runs more, and at least one
length-pass_runs : (run : Run) (rs : List Run) → length (pass_runs run rs) ≡ suc (length rs)
length-pass_runs run [] = refl
length-pass_runs run (r ∷ rs) = go (length-pass_runs run rs) (before run.stamp r.stamp)
  where
    go : length (pass_runs run rs) ≡ suc (length rs) → (b : Bool)
        → length (cond b (r ∷ pass_runs run rs) (run ∷ r ∷ rs)) ≡ suc (suc (length rs))
    go more true = ap suc more
    go more false = refl

pub length-put_at : (a : ElemId) (run : Run) (rs : List Run) → length (put_at a run rs) ≤ length rs + 2
length-put_at a run [] = omega arith
length-put_at a run (r ∷ rs) = go (length-put_at a run rs) (has a r)
  where
    split : (b : Bool) → length (cond b (front (up_to a r) r ∷ run ∷ back (up_to a r) r ∷ rs) (r ∷ pass_runs run rs)) ≤ suc (length rs) + 2
    split true = omega arith
    split false = omega (arith, length-pass_runs run rs)

    go : length (put_at a run rs) ≤ length rs + 2 → (b : Bool)
        → length (cond b (put_behind a run r rs) (r ∷ put_at a run rs)) ≤ suc (length rs) + 2
    go more true = split (ltb (up_to a r) r.len)
    go more false = omega (arith, more)

pub length-put_run : (after : Option ElemId) (run : Run) (rs : List Run) → length (put_run after run rs) ≤ length rs + 2
length-put_run None run rs = omega (arith, length-pass_runs run rs)
length-put_run (Some a) run rs = length-put_at a run rs

-- the store grows behind what was there
pub is-longer : (store more : List ℕ) (rs : List Run) → AllByRecursion (IsRun store) rs → AllByRecursion (IsRun (store ++ more)) rs
is-longer store more [] h = tt
is-longer store more (r ∷ rs) h =
    let l = length-append store more in
    (record { some = h.0.some; within = omega (arith, l, h.0.within); numbered = h.0.numbered }, is-longer store more rs h.1)

all-put_run : (store : List ℕ) (after : Option ElemId) (run : Run) (rs : List Run) → IsRun store run → AllByRecursion (IsRun store) rs
    → AllByRecursion (IsRun store) (put_run after run rs)
all-put_run store None run rs new h = all-pass_runs (IsRun store) run new rs h
all-put_run store (Some a) run rs new h =
    all-put_at (IsRun store) run new a (λ r k held l. (is-front store (up_to a r) r k (omega arith) (omega (arith, l)), is-back store (up_to a r) r k l)) rs h

order-put_run : (after : Option ElemId) (run : Run) (rs : List Run) → NoneOf run.stamp rs → AllInOrder rs
    → AllInOrder (put_run after run rs)
order-put_run None run rs n h = order-pass_runs run rs n h
order-put_run (Some a) run rs n h = order-put_at a run rs n h

total-put_run : (after : Option ElemId) (run : Run) (rs : List Run) → IsThere after rs → total (put_run after run rs) ≡ run.len + total rs
total-put_run None run rs h = total-pass_runs run rs
total-put_run (Some a) run rs h = total-put_at a run rs h

-- runs and their store stay well kept, with the bytes of the new run behind those of the others
pub kept-put_run : (store bytes : List ℕ) (after : Option ElemId) (run : Run) (rs : List Run) → AreKept store rs → NoneOf run.stamp rs
    → IsThere after rs → 0 < length bytes → run.start ≡ length store → run.len ≡ length bytes → run.first + run.len < 2 ^ 32
    → AreKept (store ++ bytes) (put_run after run rs)
kept-put_run store bytes after run rs h n held some start len numbered =
    let l = length-append store bytes in
    record {
      each = all-put_run (store ++ bytes) after run rs (record { some = omega (arith, some, len); within = omega (arith, l, start, len); numbered = numbered }) (is-longer store bytes rs h.each);
      ordered = order-put_run after run rs n h.ordered;
      all = omega (arith, l, total-put_run after run rs held, h.all, len);
    }
