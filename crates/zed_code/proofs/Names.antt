-- The names of live bytes at some positions.
use Rattle.std.proofs.Common.{◌≡◌, ◌≤◌, ◌<◌, ℕ, zero, suc, ◌+◌, ◌-◌, min, Bool, true, false, cond, List, [], ◌∷◌, ◌++◌, map, length, take, drop, length-append, append-nil, append_assoc, refl, ap, ◌∙◌, sym, arith}
use Rattle.std.specs.List.{AllByRecursion}
use Rattle.std.proofs.lemmas.List.{map-append}
use Rattle.zed_types.specs.Names.{byte_of}
use Rattle.zed_types.specs.declared.names.ElemId.{ElemId}
use Rattle.zed_types.specs.declared.stamp.Stamp.{Stamp}
use Rattle.zed_types.specs.Text.{alive}
use Rattle.zed_code.specs.declared.readers.Positions.{Positions}
use Rattle.zed_code.specs.declared.run.Run.{Run}
use Rattle.zed_code.specs.Cutting.{bytes_in, spelled}
use Rattle.zed_code.specs.Kept.{IsRun}
use Rattle.zed_code.specs.Pieces.{run_of}
use Rattle.zed_code.specs.Reading.{between, live, live_names, names_from, positions_behind}
use Rattle.zed_code.specs.Text.{alive_names}
use Rattle.zed_code.proofs.Alive.{alive-run, dead-run}
use Rattle.zed_code.proofs.Spelling.{bytes-count}

-- ---- parts of lists

module _ (X : Type 0) where
  abbrev empty : List X
  empty = []

  nil : (n : ℕ) → drop n empty ≡ []
  nil zero = refl
  nil (suc n) = refl

  pub part-none : (from to : ℕ) → drop from (take to empty) ≡ []
  part-none from zero = nil from
  part-none from (suc to) = nil from

  part-append : (from to : ℕ) (xs ys : List X)
      → drop from (take to (xs ++ ys)) ≡ drop from (take to xs) ++ drop (from - length xs) (take (to - length xs) ys)
  part-append from to [] ys =
      let a : from ≡ from - 0 = omega arith in
      let b : to ≡ to - 0 = omega arith in
      ap (λ n. drop n (take to ys)) a ∙ ap (λ n. drop (from - 0) (take n ys)) b
      ∙ sym (ap (λ zs. zs ++ drop (from - 0) (take (to - 0) ys)) (part-none from to))
  part-append from zero (x ∷ xs) ys =
      let z : zero - length (x ∷ xs) ≡ 0 = omega arith in
      let m = from - length (x ∷ xs) in
      nil from ∙ sym (nil m) ∙ sym (ap (λ n. drop m (take n ys)) z)
      ∙ sym (ap (λ zs. zs ++ drop m (take (zero - length (x ∷ xs)) ys)) (nil from))
  part-append zero (suc to) (x ∷ xs) ys =
      let a : zero - length xs ≡ zero - length (x ∷ xs) = omega arith in
      let b : to - length xs ≡ suc to - length (x ∷ xs) = omega arith in
      ap (λ zs. x ∷ zs) (part-append zero to xs ys ∙ ap (λ n. take to xs ++ drop n (take (to - length xs) ys)) a ∙ ap (λ n. take to xs ++ drop (zero - length (x ∷ xs)) (take n ys)) b)
  part-append (suc from) (suc to) (x ∷ xs) ys =
      let a : from - length xs ≡ suc from - length (x ∷ xs) = omega arith in
      let b : to - length xs ≡ suc to - length (x ∷ xs) = omega arith in
      part-append from to xs ys ∙ ap (λ n. drop from (take to xs) ++ drop n (take (to - length xs) ys)) a ∙ ap (λ n. drop from (take to xs) ++ drop (suc from - length (x ∷ xs)) (take n ys)) b

  pub between-append : (at : Positions) (xs ys : List X) (n : ℕ) → length xs ≡ n
      → between at (xs ++ ys) ≡ between at xs ++ between (positions_behind n at) ys
  between-append at xs ys n e =
      part-append at.from at.to xs ys ∙ ap (λ k. drop at.from (take at.to xs) ++ drop (at.from - k) (take (at.to - k) ys)) e

  pub between-none : (at : Positions) → between at empty ≡ []
  between-none at = part-none at.from at.to

  pub between-zero : (at : Positions) (xs : List X) → at.to ≡ 0 → between at xs ≡ []
  between-zero at xs e = ap (λ n. drop at.from (take n xs)) e ∙ nil at.from

pub behind-twice : (at : Positions) (m n : ℕ) → positions_behind n (positions_behind m at) ≡ positions_behind (m + n) at
behind-twice at m n =
    let make : ℕ → ℕ → Positions = λ a b. record { from = a; to = b } in
    let a : at.from - m - n ≡ at.from - (m + n) = omega arith in
    let b : at.to - m - n ≡ at.to - (m + n) = omega arith in
    ap (λ k. make k (at.to - m - n)) a ∙ ap (make (at.from - (m + n))) b

pub behind-none : (at : Positions) → at ≡ positions_behind 0 at
behind-none at =
    let make : ℕ → ℕ → Positions = λ a b. record { from = a; to = b } in
    let a : at.from ≡ at.from - 0 = omega arith in
    let b : at.to ≡ at.to - 0 = omega arith in
    let path : make at.from at.to ≡ make (at.from - 0) (at.to - 0) = ap (λ k. make k at.to) a ∙ ap (make (at.from - 0)) b in
    path

-- ---- the names of one insertion

pub length-names : (s : Stamp) (n k : ℕ) → length (names_from s n k) ≡ k
length-names s n zero = refl
length-names s n (suc k) = ap suc (length-names s (n + 1) k)

same-names : (s : Stamp) (a b c d : ℕ) → a ≡ b → c ≡ d → names_from s a c ≡ names_from s b d
same-names s a b c d e f = ap (λ n. names_from s n c) e ∙ ap (names_from s b) f

pub names-next : (s : Stamp) (n i to : ℕ) → i < to
    → names_from s (n + i) (to - i) ≡ byte_of s (n + i) ∷ names_from s (n + (i + 1)) (to - (i + 1))
names-next s n i to l =
    let a : to - i ≡ suc (to - (i + 1)) = omega (arith, l) in
    let b : n + i + 1 ≡ n + (i + 1) = omega arith in
    ap (names_from s (n + i)) a ∙ ap (λ m. byte_of s (n + i) ∷ names_from s m (to - (i + 1))) b

part-names : (from to : ℕ) (s : Stamp) (n k : ℕ)
    → drop from (take to (names_from s n k)) ≡ names_from s (n + min from k) (min to k - min from k)
part-names from to s n zero =
    let z : 0 ≡ min to zero - min from zero = omega arith in
    part-none ElemId from to ∙ ap (names_from s (n + min from zero)) z
part-names from zero s n (suc k) =
    let z : 0 ≡ min zero (suc k) - min from (suc k) = omega arith in
    nil ElemId from ∙ ap (names_from s (n + min from (suc k))) z
part-names zero (suc to) s n (suc k) =
    let a : n + 1 + min zero k ≡ n + 1 = omega arith in
    let b : min to k - min zero k ≡ min to k = omega arith in
    let c : n ≡ n + min zero (suc k) = omega arith in
    let d : suc (min to k) ≡ min (suc to) (suc k) - min zero (suc k) = omega arith in
    ap (λ zs. byte_of s n ∷ zs) (part-names zero to s (n + 1) k ∙ same-names s (n + 1 + min zero k) (n + 1) (min to k - min zero k) (min to k) a b)
    ∙ same-names s n (n + min zero (suc k)) (suc (min to k)) (min (suc to) (suc k) - min zero (suc k)) c d
part-names (suc from) (suc to) s n (suc k) =
    let a : n + 1 + min from k ≡ n + min (suc from) (suc k) = omega arith in
    let b : min to k - min from k ≡ min (suc to) (suc k) - min (suc from) (suc k) = omega arith in
    part-names from to s (n + 1) k ∙ same-names s (n + 1 + min from k) (n + min (suc from) (suc k)) (min to k - min from k) (min (suc to) (suc k) - min (suc from) (suc k)) a b

-- ---- the names of live bytes of runs

-- of one run
pub between-run : (at : Positions) (r : Run) (i j : ℕ) → r.alive ≡ true → i ≡ min at.from r.len → j ≡ min at.to r.len
    → names_from r.stamp (r.first + i) (j - i) ≡ between at (live_names (r ∷ []))
between-run at r i j e f g =
    let ids = names_from r.stamp r.first r.len in
    same-names r.stamp (r.first + i) (r.first + min at.from r.len) (j - i) (min at.to r.len - min at.from r.len) (omega (arith, f)) (omega (arith, f, g))
    ∙ sym (part-names at.from at.to r.stamp r.first r.len)
    ∙ ap (between at) (sym (append-nil ids) ∙ sym (ap (λ b. cond b (ids ++ []) []) e))

pub live-run : (r : Run) → r.alive ≡ true → live (r ∷ []) ≡ r.len
live-run r e = let a : live (r ∷ []) ≡ r.len + 0 = ap (λ b. cond b (r.len + 0) 0) e in omega (arith, a)

pub dead-run-names : (r : Run) → r.alive ≡ false → live_names (r ∷ []) ≡ []
dead-run-names r e = ap (λ b. cond b (names_from r.stamp r.first r.len ++ []) []) e

pub dead-run-live : (r : Run) → r.alive ≡ false → live (r ∷ []) ≡ 0
dead-run-live r e = ap (λ b. cond b (r.len + 0) 0) e

pub names-append : (xs ys : List Run) → live_names (xs ++ ys) ≡ live_names xs ++ live_names ys
names-append [] ys = refl
names-append (r ∷ xs) ys = go r.alive (names-append xs ys)
  where
    go : (b : Bool) → live_names (xs ++ ys) ≡ live_names xs ++ live_names ys
        → cond b (names_from r.stamp r.first r.len ++ live_names (xs ++ ys)) (live_names (xs ++ ys))
        ≡ cond b (names_from r.stamp r.first r.len ++ live_names xs) (live_names xs) ++ live_names ys
    go true more =
        ap (λ zs. names_from r.stamp r.first r.len ++ zs) more
        ∙ sym (append_assoc (names_from r.stamp r.first r.len) (live_names xs) (live_names ys))
    go false more = more

pub length-live : (rs : List Run) → length (live_names rs) ≡ live rs
length-live [] = refl
length-live (r ∷ rs) = go r.alive (length-live rs)
  where
    go : (b : Bool) → length (live_names rs) ≡ live rs
        → length (cond b (names_from r.stamp r.first r.len ++ live_names rs) (live_names rs)) ≡ cond b (r.len + live rs) (live rs)
    go true more = omega (arith, length-append (names_from r.stamp r.first r.len) (live_names rs), length-names r.stamp r.first r.len, more)
    go false more = more

-- what was appended of some runs, and what is to be appended of those behind them
pub names-on : (at : Positions) (xs ys : List Run)
    → between at (live_names (xs ++ ys)) ≡ between at (live_names xs) ++ between (positions_behind (live xs) at) (live_names ys)
names-on at xs ys =
    ap (between at) (names-append xs ys) ∙ between-append ElemId at (live_names xs) (live_names ys) (live xs) (length-live xs)

ids-run : (s : Stamp) (n : ℕ) (bs : List ℕ) → map (λ x. x.id) (run_of s true n bs) ≡ names_from s n (length bs)
ids-run s n [] = refl
ids-run s n (b ∷ bs) = ap (λ xs. byte_of s n ∷ xs) (ids-run s (n + 1) bs)

pub names-shown : (store : List ℕ) (rs : List Run) → AllByRecursion (IsRun store) rs → alive_names (spelled store rs) ≡ live_names rs
names-shown store [] h = refl
names-shown store (r ∷ rs) h = go r.alive refl (names-shown store rs h.1)
  where
    go : (b : Bool) → r.alive ≡ b → alive_names (spelled store rs) ≡ live_names rs
        → alive_names (spelled store (r ∷ rs)) ≡ cond r.alive (names_from r.stamp r.first r.len ++ live_names rs) (live_names rs)
    go true e more =
        let ids = names_from r.stamp r.first r.len in
        rw e (ap (map (λ x. x.id)) (alive-run r.stamp r.first (bytes_in store r) (spelled store rs))
        ∙ map-append (λ x. x.id) (run_of r.stamp true r.first (bytes_in store r)) (alive (spelled store rs))
        ∙ ap (λ xs. xs ++ alive_names (spelled store rs)) (ids-run r.stamp r.first (bytes_in store r) ∙ ap (names_from r.stamp r.first) (bytes-count store r h.0))
        ∙ ap (λ xs. ids ++ xs) more)
    go false e more = rw e (ap (map (λ x. x.id)) (dead-run r.stamp r.first (bytes_in store r) (spelled store rs)) ∙ more)
