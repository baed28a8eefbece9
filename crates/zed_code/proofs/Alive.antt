-- The bytes of runs that are alive.
use Rattle.std.proofs.Common.{◌≡◌, ◌≤◌, ◌<◌, ℕ, zero, suc, ◌+◌, ◌-◌, Bool, true, false, cond, List, [], ◌∷◌, ◌++◌, map, length, drop, get_or, slice_get, Option, Some, None, length-append, subst, refl, ap, ◌∙◌, sym, arith, ltb}
use Rattle.std.specs.List.{AllByRecursion, filter}
use Rattle.std.proofs.lemmas.List.{length-map, map-append, get_or-take, get_or-drop}
use Rattle.zed_types.specs.Names.{byte_of}
use Rattle.zed_types.specs.declared.stamp.Stamp.{Stamp}
use Rattle.zed_types.specs.declared.names.ElemId.{ElemId}
use Rattle.zed_types.specs.declared.text.TextByte.{TextByte}
use Rattle.zed_types.specs.Text.{alive, alive_bytes}
use Rattle.zed_code.specs.declared.run.Run.{Run}
use Rattle.zed_code.specs.Pieces.{run_of}
use Rattle.zed_code.specs.Cutting.{bytes_in, spelled}
use Rattle.zed_code.specs.Reading.{live, live_at}
use Rattle.zed_code.specs.Kept.{IsRun, total}
use Rattle.zed_code.specs.Text.{alive_names}
use Rattle.zed_code.proofs.Spelling.{bytes-count}

pub alive-run : (s : Stamp) (n : ℕ) (bs : List ℕ) (rest : List TextByte)
    → alive (run_of s true n bs ++ rest) ≡ run_of s true n bs ++ alive rest
alive-run s n [] rest = refl
alive-run s n (b ∷ bs) rest = ap (λ xs. record { id = byte_of s n; byte = b; alive = true } ∷ xs) (alive-run s (n + 1) bs rest)

pub dead-run : (s : Stamp) (n : ℕ) (bs : List ℕ) (rest : List TextByte) → alive (run_of s false n bs ++ rest) ≡ alive rest
dead-run s n [] rest = refl
dead-run s n (b ∷ bs) rest = dead-run s (n + 1) bs rest

pub length-run : (s : Stamp) (b : Bool) (n : ℕ) (bs : List ℕ) → length (run_of s b n bs) ≡ length bs
length-run s b n [] = refl
length-run s b n (x ∷ bs) = ap suc (length-run s b (n + 1) bs)

pub live-length : (store : List ℕ) (rs : List Run) → AllByRecursion (IsRun store) rs → length (alive (spelled store rs)) ≡ live rs
live-length store [] h = refl
live-length store (r ∷ rs) h = go r.alive refl (live-length store rs h.1)
  where
    go : (b : Bool) → r.alive ≡ b → length (alive (spelled store rs)) ≡ live rs
        → length (alive (spelled store (r ∷ rs))) ≡ cond r.alive (r.len + live rs) (live rs)
    go true e more =
        let n = bytes-count store r h.0 in
        rw e (ap length (alive-run r.stamp r.first (bytes_in store r) (spelled store rs)) ∙ omega (arith, length-append (run_of r.stamp true r.first (bytes_in store r)) (alive (spelled store rs)), length-run r.stamp true r.first (bytes_in store r), n, more))
    go false e more = rw e (ap length (dead-run r.stamp r.first (bytes_in store r) (spelled store rs)) ∙ more)

pub live-bytes : (store : List ℕ) (rs : List Run) → AllByRecursion (IsRun store) rs → length (alive_bytes (spelled store rs)) ≡ live rs
live-bytes store rs h = length-map (alive (spelled store rs)) (λ x. x.byte) ∙ live-length store rs h

-- the k-th of a row
name-in : (s : Stamp) (n : ℕ) (bs : List ℕ) (xs : List ElemId) (k : ℕ) → k < length bs
    → slice_get (map (λ x. x.id) (run_of s true n bs) ++ xs) k ≡ Some (byte_of s (n + k))
name-in s n [] xs k l = absurd (omega (arith, l))
name-in s n (b ∷ bs) xs zero l = let e : n + 0 ≡ n = omega arith in rw e refl
name-in s n (b ∷ bs) xs (suc k) l = let e : n + suc k ≡ n + 1 + k = omega arith in rw e (name-in s (n + 1) bs xs k (omega (arith, l)))

byte-in : (s : Stamp) (n : ℕ) (bs xs : List ℕ) (k : ℕ) → k < length bs
    → slice_get (map (λ x. x.byte) (run_of s true n bs) ++ xs) k ≡ slice_get bs k
byte-in s n [] xs k l = absurd (omega (arith, l))
byte-in s n (b ∷ bs) xs zero l = refl
byte-in s n (b ∷ bs) xs (suc k) l = byte-in s (n + 1) bs xs k (omega (arith, l))

get-behind : {X : Type 0} (xs ys : List X) (n k : ℕ) → length xs ≡ n → n ≤ k → slice_get (xs ++ ys) k ≡ slice_get ys (k - n)
get-behind [] ys n k e l = ap (slice_get ys) (omega (arith, e))
get-behind (x ∷ xs) ys n zero e l = absurd (omega (arith, e))
get-behind (x ∷ xs) ys n (suc k) e l =
    let m : length xs ≡ n - 1 = omega (arith, e) in
    let same : k - (n - 1) ≡ suc k - n = omega (arith, e) in
    get-behind xs ys (n - 1) k m (omega (arith, e)) ∙ ap (slice_get ys) same

-- what is read of the k-th byte alive
module _ (X : Type 0) (f : TextByte → X) (of : Run → ℕ → Option X) (store : List ℕ) (there : (r : Run) → IsRun store r → (xs : List X) (k : ℕ) → k < r.len → slice_get (map f (run_of r.stamp true r.first (bytes_in store r)) ++ xs) k ≡ of r k) where
  abbrev read_at : Option (Run × ℕ) → Option X
  read_at None = None
  read_at (Some p) = of p.0 p.1

  pub alive-at : (rs : List Run) → AllByRecursion (IsRun store) rs → (k : ℕ)
      → slice_get (map f (alive (spelled store rs))) k ≡ read_at (live_at rs k)
  alive-at [] h k = refl
  alive-at (r ∷ rs) h k = go r.alive refl (alive-at rs h.1)
    where
      n : length (map f (run_of r.stamp true r.first (bytes_in store r))) ≡ r.len
      n =
          length-map (run_of r.stamp true r.first (bytes_in store r)) f ∙ length-run r.stamp true r.first (bytes_in store r)
          ∙ bytes-count store r h.0

      within : (b : Bool) → ltb k r.len ≡ b → ((j : ℕ) → slice_get (map f (alive (spelled store rs))) j ≡ read_at (live_at rs j))
          → slice_get (map f (run_of r.stamp true r.first (bytes_in store r)) ++ map f (alive (spelled store rs))) k
          ≡ read_at (cond b (Some (r, k)) (live_at rs (k - r.len)))
      within true e more = there r h.0 (map f (alive (spelled store rs))) k (grind (arith))
      within false e more =
          get-behind (map f (run_of r.stamp true r.first (bytes_in store r))) (map f (alive (spelled store rs))) r.len k n (grind (arith))
          ∙ more (k - r.len)

      go : (b : Bool) → r.alive ≡ b → ((j : ℕ) → slice_get (map f (alive (spelled store rs))) j ≡ read_at (live_at rs j))
          → slice_get (map f (alive (spelled store (r ∷ rs)))) k
          ≡ read_at (cond r.alive (cond (ltb k r.len) (Some (r, k)) (live_at rs (k - r.len))) (live_at rs k))
      go true e more =
          ap (λ b. slice_get (map f (alive (run_of r.stamp b r.first (bytes_in store r) ++ spelled store rs))) k) e
          ∙ ap (λ xs. slice_get (map f xs) k) (alive-run r.stamp r.first (bytes_in store r) (spelled store rs)) ∙ ap (λ xs. slice_get xs k) (map-append f (run_of r.stamp true r.first (bytes_in store r)) (alive (spelled store rs))) ∙ within (ltb k r.len) refl more
          ∙ sym (ap (λ b. read_at (cond b (cond (ltb k r.len) (Some (r, k)) (live_at rs (k - r.len))) (live_at rs k))) e)
      go false e more =
          ap (λ b. slice_get (map f (alive (run_of r.stamp b r.first (bytes_in store r) ++ spelled store rs))) k) e
          ∙ ap (λ xs. slice_get (map f xs) k) (dead-run r.stamp r.first (bytes_in store r) (spelled store rs)) ∙ more k
          ∙ sym (ap (λ b. read_at (cond b (cond (ltb k r.len) (Some (r, k)) (live_at rs (k - r.len))) (live_at rs k))) e)

-- the name of the k-th byte alive
abbrev pub name_of : Run → ℕ → Option ElemId
name_of r k = Some (byte_of r.stamp (r.first + k))

abbrev pub name_at : Option (Run × ℕ) → Option ElemId
name_at None = None
name_at (Some p) = name_of p.0 p.1

pub name-is : (store : List ℕ) (rs : List Run) → AllByRecursion (IsRun store) rs → (k : ℕ)
    → slice_get (alive_names (spelled store rs)) k ≡ name_at (live_at rs k)
name-is store rs h k = alive-at ElemId (λ x. x.id) name_of store (λ r is xs j l. name-in r.stamp r.first (bytes_in store r) xs j (rw (bytes-count store r is) l)) rs h k ∙ same (live_at rs k)
  where
    same : (o : Option (Run × ℕ))
        → read_at ElemId (λ x. x.id) name_of store (λ r is xs j l. name-in r.stamp r.first (bytes_in store r) xs j (rw (bytes-count store r is) l)) o
        ≡ name_at o
    same None = refl
    same (Some p) = refl

-- and its byte
abbrev pub value_of : List ℕ → Run → ℕ → Option ℕ
value_of store r k = slice_get (bytes_in store r) k

abbrev pub value_at : List ℕ → Option (Run × ℕ) → Option ℕ
value_at store None = None
value_at store (Some p) = value_of store p.0 p.1

pub byte-is : (store : List ℕ) (rs : List Run) → AllByRecursion (IsRun store) rs → (k : ℕ)
    → slice_get (alive_bytes (spelled store rs)) k ≡ value_at store (live_at rs k)
byte-is store rs h k = alive-at ℕ (λ x. x.byte) (value_of store) store (λ r is xs j l. byte-in r.stamp r.first (bytes_in store r) xs j (rw (bytes-count store r is) l)) rs h k ∙ same (live_at rs k)
  where
    same : (o : Option (Run × ℕ))
        → read_at ℕ (λ x. x.byte) (value_of store) store (λ r is xs j l. byte-in r.stamp r.first (bytes_in store r) xs j (rw (bytes-count store r is) l)) o
        ≡ value_at store o
    same None = refl
    same (Some p) = refl

abbrev pair_or : Run × ℕ → Option (Run × ℕ) → Run × ℕ
pair_or d None = d
pair_or d (Some p) = p

-- the place that is told is one
pub live_at-is : (P : Run → Type 0) (rs : List Run) (k : ℕ) (r : Run) (i : ℕ) → AllByRecursion P rs → live_at rs k ≡ Some (r, i)
    → P r × (i < r.len)
live_at-is P [] k r i h e = absurd (cc)
live_at-is P (q ∷ rs) k r i h e = go q.alive (ltb k q.len) refl (λ j f. live_at-is P rs j r i h.1 f) e
  where
    go : (a b : Bool) → ltb k q.len ≡ b → ((j : ℕ) → live_at rs j ≡ Some (r, i) → P r × (i < r.len))
        → cond a (cond b (Some (q, k)) (live_at rs (k - q.len))) (live_at rs k) ≡ Some (r, i)
        → P r × (i < r.len)
    go false b c more e = more k e
    go true false c more e = more (k - q.len) e
    go true true c more e =
        let w : (q, k) ≡ (r, i) = ap (pair_or (r, i)) e in
        let a : q ≡ r = ap (λ p. p.0) w in
        let b : k ≡ i = ap (λ p. p.1) w in
        let n : q.len ≡ r.len = ap (λ (x : Run). x.len) a in
        let m : k < q.len = grind (arith) in
        (subst P a h.0, omega (arith, m, n, b))

pub live-within : (rs : List Run) → live rs ≤ total rs
live-within [] = omega arith
live-within (r ∷ rs) = go r.alive (live-within rs)
  where
    go : (b : Bool) → live rs ≤ total rs → cond b (r.len + live rs) (live rs) ≤ r.len + total rs
    go true more = omega (arith, more)
    go false more = omega (arith, more)

some-at : (xs : List ℕ) (i d : ℕ) → i < length xs → slice_get xs i ≡ Some (get_or xs i d)
some-at [] i d l = absurd (omega (arith, l))
some-at (x ∷ xs) zero d l = refl
some-at (x ∷ xs) (suc i) d l = some-at xs i d (omega (arith, l))

pub byte-there : (store : List ℕ) (r : Run) (i d : ℕ) → IsRun store r → i < r.len → d ≡ get_or store (r.start + i) d
    → slice_get (bytes_in store r) i ≡ Some d
byte-there store r i d h l e =
    some-at (bytes_in store r) i d (rw (bytes-count store r h) l)
    ∙ ap Some (get_or-take r.len (drop r.start store) i d l ∙ get_or-drop r.start store i d ∙ sym e)

-- the bytes of the first run, and then of the others
pub alive-next : (store : List ℕ) (r : Run) (rs : List Run) → r.alive ≡ true
    → alive_bytes (spelled store (r ∷ rs)) ≡ bytes_in store r ++ alive_bytes (spelled store rs)
alive-next store r rs e =
    ap (λ b. alive_bytes (run_of r.stamp b r.first (bytes_in store r) ++ spelled store rs)) e
    ∙ ap (map (λ x. x.byte)) (alive-run r.stamp r.first (bytes_in store r) (spelled store rs))
    ∙ map-append (λ x. x.byte) (run_of r.stamp true r.first (bytes_in store r)) (alive (spelled store rs))
    ∙ ap (λ xs. xs ++ alive_bytes (spelled store rs)) (bytes-run r.stamp r.first (bytes_in store r))
  where
    bytes-run : (s : Stamp) (n : ℕ) (bs : List ℕ) → map (λ x. x.byte) (run_of s true n bs) ≡ bs
    bytes-run s n [] = refl
    bytes-run s n (b ∷ bs) = ap (λ xs. b ∷ xs) (bytes-run s (n + 1) bs)

pub dead-next : (store : List ℕ) (r : Run) (rs : List Run) → r.alive ≡ false
    → alive_bytes (spelled store (r ∷ rs)) ≡ alive_bytes (spelled store rs)
dead-next store r rs e =
    ap (λ b. alive_bytes (run_of r.stamp b r.first (bytes_in store r) ++ spelled store rs)) e
    ∙ ap (map (λ x. x.byte)) (dead-run r.stamp r.first (bytes_in store r) (spelled store rs))
