-- What blocks of runs spell from a place on.
use Rattle.std.proofs.Common.{◌≡◌, ◌≤◌, ◌<◌, ℕ, zero, suc, ◌+◌, Bool, true, false, cond, List, [], ◌∷◌, ◌++◌, length, drop, get_or, slice_get, Option, Some, None, refl, ap, ◌∙◌, sym, subst, arith, ltb}
use Rattle.std.specs.List.{AllByRecursion}
use Rattle.std.proofs.lemmas.List.{drop_more, drop_at, drop_all, get_or_default, length-drop}
use Rattle.zed_types.specs.Names.{byte_of}
use Rattle.zed_types.specs.declared.stamp.Stamp.{Stamp}
use Rattle.zed_types.specs.declared.text.TextByte.{TextByte}
use Rattle.zed_code.specs.declared.run.Run.{Run}
use Rattle.zed_code.specs.declared.same.Cursor.{Cursor}
use Rattle.zed_code.specs.Pieces.{run_of}
use Rattle.zed_code.specs.Blocks.{joined, list_at, NoneEmpty}
use Rattle.zed_code.specs.Cutting.{bytes_in, elements_in, spelled}
use Rattle.zed_code.specs.Cursors.{rest, stepped, IsPlace}
use Rattle.zed_code.specs.Kept.{IsRun}
use Rattle.zed_code.proofs.Spelling.{bytes-count}
use Rattle.zed_code.proofs.Alive.{byte-there, length-run}
use Rattle.zed_code.proofs.Places.{all-behind}
use Rattle.zed_code.proofs.Joins.{joined-drop, drop-within, drop-none}
use Rattle.zed_code.proofs.Hinting.{each-at, first-is, full-some}

abbrev value : ℕ → Option ℕ → ℕ
value d None = d
value d (Some z) = z

abbrev pub element : Stamp → ℕ → ℕ → Bool → TextByte
element s n v b = record { id = byte_of s n; byte = v; alive = b }

drop-row : (s : Stamp) (alive : Bool) (n : ℕ) (bs : List ℕ) (xs : List TextByte) (k v : ℕ) → slice_get bs k ≡ Some v
    → drop k (run_of s alive n bs ++ xs) ≡ element s (n + k) v alive ∷ drop (k + 1) (run_of s alive n bs ++ xs)
drop-row s alive n [] xs k v e = absurd (cc)
drop-row s alive n (b ∷ bs) xs zero v e =
    let i : b ≡ v = ap (value v) e in
    let m : n + 0 ≡ n = omega arith in
    rw (m, i) refl
drop-row s alive n (b ∷ bs) xs (suc k) v e =
    let m : n + suc k ≡ n + 1 + k = omega arith in
    let j : suc k + 1 ≡ suc (k + 1) = omega arith in
    rw (m, j) (drop-row s alive (n + 1) bs xs k v e)

past-run : (store : List ℕ) (r : Run) (qs : List Run) (k : ℕ) → IsRun store r → k ≡ r.len
    → drop k (spelled store (r ∷ qs)) ≡ spelled store qs
past-run store r qs k is e = drop_at (elements_in store r) (spelled store qs) k (length-run r.stamp r.alive r.first (bytes_in store r) ∙ bytes-count store r is ∙ sym e)

-- the byte that is read, at any default
pub read-is : (store : List ℕ) (i : ℕ) → i < length store → get_or store i 0 ≡ get_or store i (get_or store i 0)
read-is store i l = get_or_default store i 0 (get_or store i 0) l

abbrev pub none : Run
none = record { stamp = record { time = 0; replica = 0 }; first = 0; start = 0; len = 0; alive = false }

-- the run that is read at a place
pub run-at : (ls : List (List Run)) (c : Cursor) (rs : List Run) → c.block < length ls → IsPlace c ls → rs ≡ list_at c.block ls
    → drop c.run (list_at c.block ls) ≡ get_or rs c.run none ∷ drop (c.run + 1) (list_at c.block ls)
run-at ls c rs l p e =
    drop_more (list_at c.block ls) c.run none (p.run l)
    ∙ ap (λ xs. get_or xs c.run none ∷ drop (c.run + 1) (list_at c.block ls)) (sym e)

-- a run at a place, with those behind it in its block
pub record IsRead (store : List ℕ) (ls : List (List Run)) (c : Cursor) (r : Run) : Type 0 where
  pub block : c.block < length ls
  pub there : drop c.run (list_at c.block ls) ≡ r ∷ drop (c.run + 1) (list_at c.block ls)
  pub is : IsRun store r
  pub byte : c.byte < r.len

pub reads : (store : List ℕ) (ls : List (List Run)) (c : Cursor) (rs : List Run) → c.block < length ls → IsPlace c ls
    → AllByRecursion (IsRun store) (joined ls) → rs ≡ list_at c.block ls
    → IsRead store ls c (get_or rs c.run none)
reads store ls c rs l p each e =
    let h = run-at ls c rs l p e in
    record {
      block = l;
      there = h;
      is = all-behind (IsRun store) (list_at c.block ls) c.run (get_or rs c.run none) (drop (c.run + 1) (list_at c.block ls)) (each-at (IsRun store) ls c.block each) h;
      byte = p.byte (get_or rs c.run none) (drop (c.run + 1) (list_at c.block ls)) h;
    }

behind : {X : Type 0} (xs : List X) (x : X) (ys : List X) (i : ℕ) → drop i xs ≡ x ∷ ys → i < length xs
behind xs x ys i e = let n = ap length e in omega (arith, n, length-drop i xs)

block-run : (store : List ℕ) (ls : List (List Run)) (c : Cursor) (r : Run) → IsRead store ls c r
    → drop c.run (joined (drop c.block ls)) ≡ r ∷ (drop (c.run + 1) (list_at c.block ls) ++ joined (drop (c.block + 1) ls))
block-run store ls c r h =
    let l = behind (list_at c.block ls) r (drop (c.run + 1) (list_at c.block ls)) c.run h.there in
    ap (drop c.run) (joined-drop ls c.block h.block)
    ∙ drop-within (list_at c.block ls) (joined (drop (c.block + 1) ls)) c.run (omega (arith, l))
    ∙ ap (λ xs. xs ++ joined (drop (c.block + 1) ls)) h.there

block-next : (store : List ℕ) (ls : List (List Run)) (c : Cursor) (r : Run) → IsRead store ls c r
    → drop (c.run + 1) (joined (drop c.block ls)) ≡ drop (c.run + 1) (list_at c.block ls) ++ joined (drop (c.block + 1) ls)
block-next store ls c r h =
    let l = behind (list_at c.block ls) r (drop (c.run + 1) (list_at c.block ls)) c.run h.there in
    ap (drop (c.run + 1)) (joined-drop ls c.block h.block)
    ∙ drop-within (list_at c.block ls) (joined (drop (c.block + 1) ls)) (c.run + 1) (omega (arith, l))

rest-here : (store : List ℕ) (ls : List (List Run)) (c : Cursor) (r : Run) (v : ℕ) → IsRead store ls c r
    → v ≡ get_or store (r.start + c.byte) v
    → rest store ls c
    ≡ element r.stamp (r.first + c.byte) v r.alive ∷ drop (c.byte + 1) (spelled store (drop c.run (joined (drop c.block ls))))
rest-here store ls c r v h e =
    let at = block-run store ls c r h in
    ap (λ ps. drop c.byte (spelled store ps)) at
    ∙ drop-row r.stamp r.alive r.first (bytes_in store r) (spelled store (drop (c.run + 1) (list_at c.block ls) ++ joined (drop (c.block + 1) ls))) c.byte v (byte-there store r c.byte v h.is h.byte e)
    ∙ ap (λ ps. element r.stamp (r.first + c.byte) v r.alive ∷ drop (c.byte + 1) (spelled store ps)) (sym at)

rest-behind : (store : List ℕ) (ls : List (List Run)) (c : Cursor) (r : Run) (m : ℕ) → IsRead store ls c r → m ≡ length (list_at c.block ls)
    → drop (c.byte + 1) (spelled store (drop c.run (joined (drop c.block ls)))) ≡ rest store ls (stepped r.len m c)
rest-behind store ls c r m h n = go (ltb (c.byte + 1) r.len) refl (ltb (c.run + 1) m) refl
  where
    more : List Run
    more = drop (c.run + 1) (list_at c.block ls) ++ joined (drop (c.block + 1) ls)

    past : c.byte + 1 ≡ r.len → drop (c.byte + 1) (spelled store (drop c.run (joined (drop c.block ls)))) ≡ spelled store more
    past k = ap (λ ps. drop (c.byte + 1) (spelled store ps)) (block-run store ls c r h) ∙ past-run store r more (c.byte + 1) h.is k

    go : (a : Bool) → ltb (c.byte + 1) r.len ≡ a → (b : Bool) → ltb (c.run + 1) m ≡ b
        → drop (c.byte + 1) (spelled store (drop c.run (joined (drop c.block ls))))
        ≡ rest store ls (cond a (record { block = c.block; run = c.run; byte = c.byte + 1 }) (cond b (record { block = c.block; run = c.run + 1; byte = 0 }) (record { block = c.block + 1; run = 0; byte = 0 })))
    go true e b f = refl
    go false e true f =
        let l = h.byte in
        let k : c.byte + 1 ≡ r.len = grind (arith) in
        past k ∙ ap (spelled store) (sym (block-next store ls c r h))
    go false e false f =
        let l = h.byte in
        let k : c.byte + 1 ≡ r.len = grind (arith) in
        let far : m ≤ c.run + 1 = grind (arith) in
        let none : drop (c.run + 1) (list_at c.block ls) ≡ [] = drop_all (c.run + 1) (list_at c.block ls) (omega (arith, far, n)) in
        past k ∙ ap (λ xs. spelled store (xs ++ joined (drop (c.block + 1) ls))) none

pub rest-step : (store : List ℕ) (ls : List (List Run)) (c : Cursor) (r : Run) (v m : ℕ) → IsRead store ls c r
    → v ≡ get_or store (r.start + c.byte) v → m ≡ length (list_at c.block ls)
    → rest store ls c ≡ element r.stamp (r.first + c.byte) v r.alive ∷ rest store ls (stepped r.len m c)
rest-step store ls c r v m h e n =
    rest-here store ls c r v h e
    ∙ ap (λ xs. element r.stamp (r.first + c.byte) v r.alive ∷ xs) (rest-behind store ls c r m h n)

some-byte : (store : List ℕ) (ls : List (List Run)) (b i : ℕ) (q : Run) (qs : List Run) → AllByRecursion (IsRun store) (joined ls)
    → drop i (list_at b ls) ≡ q ∷ qs
    → 0 < q.len
some-byte store ls b i q qs each g = (all-behind (IsRun store) (list_at b ls) i q qs (each-at (IsRun store) ls b each) g).some

-- the first place is one, and the place behind one
pub place-first : (store : List ℕ) (ls : List (List Run)) → NoneEmpty ls → AllByRecursion (IsRun store) (joined ls)
    → IsPlace (record { block = 0; run = 0; byte = 0 }) ls
place-first store ls full each = record {
  within = omega arith;
  run = λ g. full-some ls 0 g full;
  byte = λ q qs g. some-byte store ls 0 0 q qs each g;
  end = λ g. (refl, refl);
}

pub place-step : (store : List ℕ) (ls : List (List Run)) (c : Cursor) (r : Run) (m : ℕ) → IsRead store ls c r → NoneEmpty ls
    → AllByRecursion (IsRun store) (joined ls) → IsPlace c ls → m ≡ length (list_at c.block ls)
    → IsPlace (stepped r.len m c) ls
place-step store ls c r m h full each p n = go (ltb (c.byte + 1) r.len) refl (ltb (c.run + 1) m) refl
  where
    go : (a : Bool) → ltb (c.byte + 1) r.len ≡ a → (b : Bool) → ltb (c.run + 1) m ≡ b
        → IsPlace (cond a (record { block = c.block; run = c.run; byte = c.byte + 1 }) (cond b (record { block = c.block; run = c.run + 1; byte = 0 }) (record { block = c.block + 1; run = 0; byte = 0 }))) ls
    go true e b f =
        let k : c.byte + 1 < r.len = grind (arith) in
        let l = h.block in
        record {
          within = p.within;
          run = p.run;
          byte = λ q qs g. let P : Run → Type 0 = λ x. c.byte + 1 < x.len in subst P (first-is r q (drop (c.run + 1) (list_at c.block ls)) qs (sym h.there ∙ g)) k;
          end = λ g. absurd (omega (arith, l, g));
        }
    go false e true f =
        let k : c.run + 1 < m = grind (arith) in
        let l = h.block in
        record {
          within = p.within;
          run = λ g. omega (arith, k, n);
          byte = λ q qs g. some-byte store ls c.block (c.run + 1) q qs each g;
          end = λ g. absurd (omega (arith, l, g));
        }
    go false e false f =
        let l = h.block in
        record {
          within = omega (arith, l);
          run = λ g. full-some ls (c.block + 1) g full;
          byte = λ q qs g. some-byte store ls (c.block + 1) 0 q qs each g;
          end = λ g. (refl, refl);
        }

pub rest-some : (store : List ℕ) (ls : List (List Run)) (c : Cursor) → AllByRecursion (IsRun store) (joined ls) → c.block < length ls
    → IsPlace c ls
    → 0 < length (rest store ls c)
rest-some store ls c each l p =
    let r = get_or (list_at c.block ls) c.run none in
    let h = reads store ls c (list_at c.block ls) l p each refl in
    let is = h.is in
    let b = h.byte in
    let s = rest-here store ls c r (get_or store (r.start + c.byte) 0) h (read-is store (r.start + c.byte) (omega (arith, is.within, b))) in
    let n = ap length s in
    omega (arith, n)

pub rest-end : (store : List ℕ) (ls : List (List Run)) (c : Cursor) → c.block ≡ length ls → rest store ls c ≡ []
rest-end store ls c e =
    let d : joined (drop c.block ls) ≡ [] = drop-none ls c.block (omega (arith, e)) in
    ap (λ rs. drop c.byte (spelled store (drop c.run rs))) d
    ∙ ap (λ rs. drop c.byte (spelled store rs)) (no-runs c.run) ∙ nothing c.byte
  where
    no-runs : (k : ℕ) → ◌≡◌ {A = List Run} (drop k []) []
    no-runs zero = refl
    no-runs (suc k) = refl

    nothing : (k : ℕ) → drop k (spelled store []) ≡ []
    nothing zero = refl
    nothing (suc k) = refl

-- where nothing is left, the place is the end
pub at-end : (store : List ℕ) (ls : List (List Run)) (c : Cursor) → AllByRecursion (IsRun store) (joined ls) → IsPlace c ls
    → rest store ls c ≡ []
    → c.block ≡ length ls
at-end store ls c each p e = go (ltb c.block (length ls)) refl
  where
    go : (b : Bool) → ltb c.block (length ls) ≡ b → c.block ≡ length ls
    go true b =
        let n : length (rest store ls c) ≡ 0 = ap length e in
        let l : c.block < length ls = grind (arith) in
        absurd (omega (arith, n, rest-some store ls c each l p))
    go false b =
        let l : length ls ≤ c.block = grind (arith) in
        omega (arith, l, p.within)
