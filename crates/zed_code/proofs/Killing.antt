-- What runs spell after a deletion, and how they stay well kept.
use Rattle.std.proofs.Common.{◌≡◌, ◌≤◌, ◌<◌, ℕ, zero, suc, ◌+◌, ◌-◌, min, Bool, true, false, cond, ◌&&◌, List, [], ◌∷◌, ◌++◌, length, take, drop, length-append, refl, ap, ◌∙◌, sym, arith, leb, ltb, append_assoc, append-nil}
use Rattle.std.specs.List.{AllByRecursion}
use Rattle.std.proofs.lemmas.List.{take-append-drop, drop-drop, length-take-le, length-drop, take_all}
use Rattle.zed_types.specs.Names.{byte_of}
use Rattle.zed_types.specs.declared.stamp.Stamp.{Stamp}
use Rattle.zed_types.specs.declared.text.TextByte.{TextByte}
use Rattle.zed_types.specs.declared.text.ByteRange.{ByteRange}
use Rattle.zed_types.specs.Stamp.{same_stamp}
use Rattle.zed_types.specs.Text.{kill}
use Rattle.zed_types.proofs.Passing.{kill-append}
use Rattle.zed_code.specs.declared.run.Run.{Run}
use Rattle.zed_code.specs.Runs.{low, high, touches, part, killed, if_any, pieces, kill_runs, back}
use Rattle.zed_code.specs.Pieces.{run_of}
use Rattle.zed_code.specs.Cutting.{bytes_in, elements_in, spelled}
use Rattle.zed_code.specs.Kept.{IsRun, InOrder, AllInOrder, total, AreKept}
use Rattle.zed_code.proofs.Spelling.{bytes-count, bytes-front, bytes-back}

run_of-append : (s : Stamp) (alive : Bool) (n : ℕ) (xs ys : List ℕ)
    → run_of s alive n (xs ++ ys) ≡ run_of s alive n xs ++ run_of s alive (n + length xs) ys
run_of-append s alive n [] ys = let same : n + 0 ≡ n = omega arith in rw same refl
run_of-append s alive n (b ∷ xs) ys =
    let same : n + 1 + length xs ≡ n + suc (length xs) = omega arith in
    rw (run_of-append s alive (n + 1) xs ys, same) refl

-- a range that no byte of a row is in
outside : (s : Bool) (f l n c : ℕ) → min (suc c) (suc l - n) ≤ f - n → (s && (leb f n && leb n l)) ≡ false
outside false f l n c h = refl
outside true f l n c h = grind (arith)

kill-misses : (x : ByteRange) (s : Stamp) (alive : Bool) (n : ℕ) (bs : List ℕ) → min (length bs) (suc x.last - n) ≤ x.first - n
    → kill x (run_of s alive n bs) ≡ run_of s alive n bs
kill-misses x s alive n [] h = refl
kill-misses x s alive n (b ∷ bs) h =
    let out = outside (same_stamp s x.stamp) x.first x.last n (length bs) h in
    let more = kill-misses x s alive n' bs (omega (arith, h)) in
    rw (out, more, keep alive) refl
  where
    n' : ℕ
    n' = n + 1

    keep : (b : Bool) → b && true ≡ b
    keep true = refl
    keep false = refl

inside : (s : Bool) (f l n c : ℕ) → s ≡ true → f ≤ n → n + suc c ≤ suc l → (s && (leb f n && leb n l)) ≡ true
inside false f l n c e h k = absurd (cc)
inside true f l n c e h k = grind (arith)

kill-hits : (x : ByteRange) (s : Stamp) (alive : Bool) (n : ℕ) (bs : List ℕ) → same_stamp s x.stamp ≡ true → x.first ≤ n
    → n + length bs ≤ suc x.last
    → kill x (run_of s alive n bs) ≡ run_of s false n bs
kill-hits x s alive n [] e h k = refl
kill-hits x s alive n (b ∷ bs) e h k =
    let in_range = inside (same_stamp s x.stamp) x.first x.last n (length bs) e h k in
    let more = kill-hits x s alive (n + 1) bs e (omega (arith, h)) (omega (arith, k)) in
    rw (in_range, more, gone alive) refl
  where
    gone : (b : Bool) → b && false ≡ false
    gone true = refl
    gone false = refl

kill-dead : (x : ByteRange) (s : Stamp) (n : ℕ) (bs : List ℕ) → kill x (run_of s false n bs) ≡ run_of s false n bs
kill-dead x s n [] = refl
kill-dead x s n (b ∷ bs) = ap (λ xs. record { id = byte_of s n; byte = b; alive = false } ∷ xs) (kill-dead x s (n + 1) bs)

kill-other : (x : ByteRange) (s : Stamp) (alive : Bool) (n : ℕ) (bs : List ℕ) → same_stamp s x.stamp ≡ false
    → kill x (run_of s alive n bs) ≡ run_of s alive n bs
kill-other x s alive n [] h = refl
kill-other x s alive n (b ∷ bs) h = rw (h, kill-other x s alive (n + 1) bs h, keep alive) refl
  where
    keep : (b : Bool) → b && true ≡ b
    keep true = refl
    keep false = refl

-- a row of bytes, cut at two places
cut-row : (s : Stamp) (alive : Bool) (n i j : ℕ) (bs : List ℕ) → i ≤ j → j ≤ length bs
    → run_of s alive n bs
    ≡ run_of s alive n (take i bs) ++ (run_of s alive (n + i) (take (j - i) (drop i bs)) ++ run_of s alive (n + j) (drop j bs))
cut-row s alive n i j bs h k =
    let a : length (take i bs) ≡ i = length-take-le i bs (omega (arith, h, k)) in
    let b : length (take (j - i) (drop i bs)) ≡ j - i = length-take-le (j - i) (drop i bs) (rw length-drop (omega (arith, h, k))) in
    let d : drop (j - i) (drop i bs) ≡ drop j bs = drop-drop (j - i) i bs ∙ ap (λ m. drop m bs) (omega (arith, h)) in
    let m : n + i + (j - i) ≡ n + j = omega (arith, h) in
    ap (run_of s alive n) (sym (take-append-drop i bs))
    ∙ run_of-append s alive n (take i bs) (drop i bs)
    ∙ rw a (ap (λ xs. run_of s alive n (take i bs) ++ xs) (ap (run_of s alive (n + i)) (sym (take-append-drop (j - i) (drop i bs))) ∙ run_of-append s alive (n + i) (take (j - i) (drop i bs)) (drop (j - i) (drop i bs)) ∙ rw (b, d, m) refl))

-- the bytes of a part
bytes-part : (store : List ℕ) (i j : ℕ) (r : Run) → i ≤ j → j ≤ r.len
    → bytes_in store (part i j r) ≡ take (j - i) (drop i (bytes_in store r))
bytes-part store i j r h k =
    let f = bytes-back store i r (omega (arith, h, k)) in
    let g = bytes-front store (j - i) (back i r) (omega (arith, h, k)) in
    g ∙ ap (take (j - i)) f

elements-if_any : (store : List ℕ) (r : Run) → spelled store (if_any r) ≡ elements_in store r
elements-if_any store r = go r.len refl
  where
    go : (n : ℕ) → r.len ≡ n → spelled store (cond (ltb 0 r.len) (r ∷ []) []) ≡ elements_in store r
    go zero e = rw e refl
    go (suc n) e = let some : ltb 0 r.len ≡ true = grind (arith) in rw some (append-nil (elements_in store r))

pub spelled-append : (store : List ℕ) (rs qs : List Run) → spelled store (rs ++ qs) ≡ spelled store rs ++ spelled store qs
spelled-append store [] qs = refl
spelled-append store (r ∷ rs) qs =
    rw (spelled-append store rs qs) (sym (append_assoc (elements_in store r) (spelled store rs) (spelled store qs)))

touched : (a s : Bool) (m n : ℕ) → (a && (s && ltb m n)) ≡ true → (a ≡ true) × (s ≡ true) × (m < n)
touched false s m n h = absurd (cc)
touched true false m n h = absurd (cc)
touched true true m n h = (refl, refl, grind (arith))

pub touches-parts : (x : ByteRange) (r : Run) → touches x r ≡ true
    → (r.alive ≡ true) × (same_stamp r.stamp x.stamp ≡ true) × (low x r < high x r)
touches-parts x r h = touched r.alive (same_stamp r.stamp x.stamp) (low x r) (high x r) h

elements-part : (store : List ℕ) (i j : ℕ) (r : Run) → i ≤ j → j ≤ r.len
    → elements_in store (part i j r) ≡ run_of r.stamp r.alive (r.first + i) (take (j - i) (drop i (bytes_in store r)))
elements-part store i j r h k = ap (run_of r.stamp r.alive (r.first + i)) (bytes-part store i j r h k)

elements-killed : (store : List ℕ) (i j : ℕ) (r : Run) → i ≤ j → j ≤ r.len
    → elements_in store (killed (part i j r)) ≡ run_of r.stamp false (r.first + i) (take (j - i) (drop i (bytes_in store r)))
elements-killed store i j r h k = ap (run_of r.stamp false (r.first + i)) (bytes-part store i j r h k)

kill-three : (x : ByteRange) (us vs ws : List TextByte) → kill x (us ++ (vs ++ ws)) ≡ kill x us ++ (kill x vs ++ kill x ws)
kill-three x us vs ws = kill-append x us (vs ++ ws) ∙ ap (λ xs. kill x us ++ xs) (kill-append x vs ws)

three : {us vs ws us' vs' ws' : List TextByte} → us ≡ us' → vs ≡ vs' → ws ≡ ws' → us ++ (vs ++ ws) ≡ us' ++ (vs' ++ ws')
three a b c = rw (a, b, c) refl

pieces-touched : (store : List ℕ) (x : ByteRange) (r : Run) → IsRun store r → touches x r ≡ true
    → spelled store (pieces x r) ≡ kill x (elements_in store r)
pieces-touched store x r h t =
    let lo = low x r in
    let hi = high x r in
    let bs = bytes_in store r in
    let n : length bs ≡ r.len = bytes-count store r h in
    let p = touches-parts x r t in
    let l : low x r < high x r = p.2 in
    let k : high x r ≤ r.len = omega arith in
    let P = if_any (part 0 lo r) ++ killed (part lo hi r) ∷ if_any (part hi r.len r) in
    let z : lo - 0 ≡ lo = omega arith in
    let f : r.first + 0 ≡ r.first = omega arith in
    let w : take (r.len - hi) (drop hi bs) ≡ drop hi bs = take_all (r.len - hi) (drop hi bs) (rw length-drop (omega (arith, n))) in
    let front : elements_in store (part 0 lo r) ≡ run_of r.stamp r.alive r.first (take lo bs) =
    elements-part store 0 lo r (omega arith) (omega (arith, l, k)) ∙ rw (z, f) refl in
    let mid : elements_in store (killed (part lo hi r)) ≡ run_of r.stamp false (r.first + lo) (take (hi - lo) (drop lo bs)) =
    elements-killed store lo hi r (omega (arith, l)) k in
    let back : elements_in store (part hi r.len r) ≡ run_of r.stamp r.alive (r.first + hi) (drop hi bs) =
    elements-part store hi r.len r k (omega arith) ∙ ap (run_of r.stamp r.alive (r.first + hi)) w in
    let kept : kill x (run_of r.stamp r.alive r.first (take lo bs)) ≡ run_of r.stamp r.alive r.first (take lo bs) = kill-misses x r.stamp r.alive r.first (take lo bs) (let a : length (take lo bs) ≡ lo = length-take-le lo bs (omega (arith, n, l, k)) in omega (arith, a)) in
    let gone : kill x (run_of r.stamp r.alive (r.first + lo) (take (hi - lo) (drop lo bs))) ≡ run_of r.stamp false (r.first + lo) (take (hi - lo) (drop lo bs)) = kill-hits x r.stamp r.alive (r.first + lo) (take (hi - lo) (drop lo bs)) p.1 (omega arith) (let a : length (take (hi - lo) (drop lo bs)) ≡ hi - lo = length-take-le (hi - lo) (drop lo bs) (rw length-drop (omega (arith, n, k))) in omega (arith, a, l)) in
    let left : kill x (run_of r.stamp r.alive (r.first + hi) (drop hi bs)) ≡ run_of r.stamp r.alive (r.first + hi) (drop hi bs) = kill-misses x r.stamp r.alive (r.first + hi) (drop hi bs) (let a : length (drop hi bs) ≡ length bs - hi = length-drop hi bs in omega (arith, a, n, l)) in
    let cut = cut-row r.stamp r.alive r.first lo hi bs (omega (arith, l)) (omega (arith, n, k)) in
    ap (λ b. spelled store (cond b P (r ∷ []))) t
    ∙ spelled-append store (if_any (part 0 lo r)) (killed (part lo hi r) ∷ if_any (part hi r.len r))
    ∙ ap (λ xs. xs ++ (elements_in store (killed (part lo hi r)) ++ spelled store (if_any (part hi r.len r)))) (elements-if_any store (part 0 lo r) ∙ front)
    ∙ ap (λ xs. run_of r.stamp r.alive r.first (take lo bs) ++ (xs ++ spelled store (if_any (part hi r.len r)))) mid
    ∙ ap (λ xs. run_of r.stamp r.alive r.first (take lo bs) ++ (run_of r.stamp false (r.first + lo) (take (hi - lo) (drop lo bs)) ++ xs)) (elements-if_any store (part hi r.len r) ∙ back)
    ∙ sym (ap (kill x) cut ∙ kill-three x (run_of r.stamp r.alive r.first (take lo bs)) (run_of r.stamp r.alive (r.first + lo) (take (hi - lo) (drop lo bs))) (run_of r.stamp r.alive (r.first + hi) (drop hi bs)) ∙ three kept gone left)

pieces-spell : (store : List ℕ) (x : ByteRange) (r : Run) → IsRun store r → spelled store (pieces x r) ≡ kill x (elements_in store r)
pieces-spell store x r h = go r.alive refl (same_stamp r.stamp x.stamp) refl (ltb (low x r) (high x r)) refl
  where
    n : length (bytes_in store r) ≡ r.len
    n = bytes-count store r h

    go : (a : Bool) → r.alive ≡ a → (s : Bool) → same_stamp r.stamp x.stamp ≡ s → (t : Bool) → ltb (low x r) (high x r) ≡ t
        → spelled store (pieces x r) ≡ kill x (elements_in store r)
    go false a s e t f = rw a (append-nil _ ∙ sym (kill-dead x r.stamp r.first (bytes_in store r)))
    go true a false e t f = rw (a, e) (append-nil _ ∙ sym (kill-other x r.stamp true r.first (bytes_in store r) e))
    go true a true e false f =
        let out : min (length (bytes_in store r)) (suc x.last - r.first) ≤ x.first - r.first = rw n (grind (arith)) in
        rw (a, e, f) (append-nil _ ∙ sym (kill-misses x r.stamp true r.first (bytes_in store r) out))
    go true a true e true f = pieces-touched store x r h (rw (a, e, f) refl)

pub kill_runs-spell : (store : List ℕ) (x : ByteRange) (rs : List Run) → AllByRecursion (IsRun store) rs
    → spelled store (kill_runs x rs) ≡ kill x (spelled store rs)
kill_runs-spell store x [] h = refl
kill_runs-spell store x (r ∷ rs) h =
    spelled-append store (pieces x r) (kill_runs x rs)
    ∙ rw (pieces-spell store x r h.0, kill_runs-spell store x rs h.1) (sym (kill-append x (elements_in store r) (spelled store rs)))

-- what has of the parts of a run has of its pieces
all-append : (P : Run → Type 0) (rs qs : List Run) → AllByRecursion P rs → AllByRecursion P qs → AllByRecursion P (rs ++ qs)
all-append P [] qs a b = b
all-append P (r ∷ rs) qs a b = (a.0, all-append P rs qs a.1 b)

all-if_any : (P : Run → Type 0) (r : Run) → (0 < r.len → P r) → AllByRecursion P (if_any r)
all-if_any P r h = go (ltb 0 r.len) refl
  where
    go : (b : Bool) → ltb 0 r.len ≡ b → AllByRecursion P (cond b (r ∷ []) [])
    go true e = (h (grind (arith)), tt)
    go false e = tt

pub all-pieces : (P : Run → Type 0) (x : ByteRange) (r : Run) → P r
    → ((i j : ℕ) → i < j → j ≤ r.len → P (part i j r) × P (killed (part i j r)))
    → AllByRecursion P (pieces x r)
all-pieces P x r p parts = go (touches x r) refl
  where
    go : (b : Bool) → touches x r ≡ b
        → AllByRecursion P (cond b (if_any (part 0 (low x r) r) ++ killed (part (low x r) (high x r) r) ∷ if_any (part (high x r) r.len r)) (r ∷ []))
    go false e = (p, tt)
    go true e =
        let l : low x r < high x r = (touches-parts x r e).2 in
        let k : high x r ≤ r.len = omega arith in
        all-append P (if_any (part 0 (low x r) r)) (killed (part (low x r) (high x r) r) ∷ if_any (part (high x r) r.len r))
        (all-if_any P (part 0 (low x r) r) (λ s. (parts 0 (low x r) (omega (arith, s)) (omega (arith, l, k))).0))
        ((parts (low x r) (high x r) l k).1, all-if_any P (part (high x r) r.len r) (λ s. (parts (high x r) r.len (omega (arith, s)) (omega arith)).0))

all-kill_runs : (P : Run → Type 0) (x : ByteRange) (rs : List Run) → ((r : Run) → P r → AllByRecursion P (pieces x r)) → AllByRecursion P rs
    → AllByRecursion P (kill_runs x rs)
all-kill_runs P x [] parts h = tt
all-kill_runs P x (r ∷ rs) parts h = all-append P (pieces x r) (kill_runs x rs) (parts r h.0) (all-kill_runs P x rs parts h.1)

is-part : (store : List ℕ) (r : Run) → IsRun store r → (i j : ℕ) → i < j → j ≤ r.len → IsRun store (part i j r)
is-part store r h i j l k =
    record { some = omega (arith, l); within = omega (arith, h.within, l, k); numbered = omega (arith, h.numbered, l, k) }

is-killed : (store : List ℕ) (r : Run) → IsRun store r → IsRun store (killed r)
is-killed store r h = record { some = h.some; within = h.within; numbered = h.numbered }

is-pieces : (store : List ℕ) (x : ByteRange) (r : Run) → IsRun store r → AllByRecursion (IsRun store) (pieces x r)
is-pieces store x r h =
    all-pieces (IsRun store) x r h (λ i j l k. (is-part store r h i j l k, is-killed store (part i j r) (is-part store r h i j l k)))

-- in order
order-pieces : (q : Run) (x : ByteRange) (r : Run) → InOrder q r → AllByRecursion (InOrder q) (pieces x r)
order-pieces q x r h = all-pieces (InOrder q) x r h (λ i j l k. ((λ e. omega (arith, h e)), (λ e. omega (arith, h e))))

order-from-part : (r : Run) (i j : ℕ) (qs : List Run) → i < j → j ≤ r.len → AllByRecursion (InOrder r) qs
    → AllByRecursion (InOrder (part i j r)) qs × AllByRecursion (InOrder (killed (part i j r))) qs
order-from-part r i j [] l k h = (tt, tt)
order-from-part r i j (q ∷ qs) l k h =
    let more = order-from-part r i j qs l k h.1 in
    (((λ e. omega (arith, h.0 e, l, k)), more.0), ((λ e. omega (arith, h.0 e, l, k)), more.1))

order-append : (rs qs : List Run) → AllInOrder rs → AllInOrder qs → AllByRecursion (λ r. AllByRecursion (InOrder r) qs) rs
    → AllInOrder (rs ++ qs)
order-append [] qs a b h = b
order-append (r ∷ rs) qs a b h = (all-append (InOrder r) rs qs a.0 h.0, order-append rs qs a.1 b h.1)

in-order-if_any : (r : Run) → AllInOrder (if_any r)
in-order-if_any r = go (ltb 0 r.len)
  where
    go : (b : Bool) → AllInOrder (cond b (r ∷ []) [])
    go true = (tt, tt)
    go false = tt

in-order-pieces : (x : ByteRange) (r : Run) → AllInOrder (pieces x r)
in-order-pieces x r = go (touches x r) refl
  where
    go : (b : Bool) → touches x r ≡ b
        → AllInOrder (cond b (if_any (part 0 (low x r) r) ++ killed (part (low x r) (high x r) r) ∷ if_any (part (high x r) r.len r)) (r ∷ []))
    go false e = (tt, tt)
    go true e =
        let l : low x r < high x r = (touches-parts x r e).2 in
        let k : high x r ≤ r.len = omega arith in
        let last = λ (p : Run) (o : InOrder p (part (high x r) r.len r)). all-if_any (InOrder p) (part (high x r) r.len r) (λ s. o) in
        order-append (if_any (part 0 (low x r) r)) (killed (part (low x r) (high x r) r) ∷ if_any (part (high x r) r.len r))
        (in-order-if_any (part 0 (low x r) r))
        (last (killed (part (low x r) (high x r) r)) (λ o. omega (arith, l)), in-order-if_any (part (high x r) r.len r))
        (all-if_any (λ p. AllByRecursion (InOrder p) (killed (part (low x r) (high x r) r) ∷ if_any (part (high x r) r.len r))) (part 0 (low x r) r)
        (λ s. ((λ o. omega arith), last (part 0 (low x r) r) (λ o. omega (arith, l)))))

order-kill_runs : (x : ByteRange) (rs : List Run) → AllInOrder rs → AllInOrder (kill_runs x rs)
order-kill_runs x [] h = tt
order-kill_runs x (r ∷ rs) h =
    let behind : AllByRecursion (InOrder r) (kill_runs x rs) = all-kill_runs (InOrder r) x rs (λ q o. order-pieces r x q o) h.0 in
    order-append (pieces x r) (kill_runs x rs) (in-order-pieces x r) (order-kill_runs x rs h.1)
    (all-pieces (λ p. AllByRecursion (InOrder p) (kill_runs x rs)) x r behind (λ i j l k. order-from-part r i j (kill_runs x rs) l k behind))

-- as many bytes as before
pub total-append : (rs qs : List Run) → total (rs ++ qs) ≡ total rs + total qs
total-append [] qs = sym (omega arith)
total-append (r ∷ rs) qs = omega (arith, total-append rs qs)

total-if_any : (r : Run) → total (if_any r) ≡ r.len
total-if_any r = go (ltb 0 r.len) refl
  where
    go : (b : Bool) → ltb 0 r.len ≡ b → total (cond b (r ∷ []) []) ≡ r.len
    go true e = omega arith
    go false e = grind (arith)

total-pieces : (x : ByteRange) (r : Run) → total (pieces x r) ≡ r.len
total-pieces x r = go (touches x r) refl
  where
    go : (b : Bool) → touches x r ≡ b
        → total (cond b (if_any (part 0 (low x r) r) ++ killed (part (low x r) (high x r) r) ∷ if_any (part (high x r) r.len r)) (r ∷ []))
        ≡ r.len
    go false e = omega arith
    go true e =
        let l : low x r < high x r = (touches-parts x r e).2 in
        let k : high x r ≤ r.len = omega arith in
        let a = total-append (if_any (part 0 (low x r) r)) (killed (part (low x r) (high x r) r) ∷ if_any (part (high x r) r.len r)) in
        let b = total-if_any (part 0 (low x r) r) in
        let c = total-if_any (part (high x r) r.len r) in
        omega (arith, a, b, c, l, k)

total-kill_runs : (x : ByteRange) (rs : List Run) → total (kill_runs x rs) ≡ total rs
total-kill_runs x [] = refl
total-kill_runs x (r ∷ rs) = omega (arith, total-append (pieces x r) (kill_runs x rs), total-pieces x r, total-kill_runs x rs)

pub kill_runs-keep : (store : List ℕ) (x : ByteRange) (rs : List Run) → AreKept store rs → AreKept store (kill_runs x rs)
kill_runs-keep store x rs h = record {
  each = all-kill_runs (IsRun store) x rs (λ r k. is-pieces store x r k) h.each;
  ordered = order-kill_runs x rs h.ordered;
  all = total-kill_runs x rs ∙ h.all;
}

-- at most two runs more
abbrev cuts : Stamp → ℕ → Run → Bool
cuts s k r = same_stamp r.stamp s && (ltb r.first k && ltb k (r.first + r.len))

abbrev count_cuts : Stamp → ℕ → List Run → ℕ
count_cuts s k [] = 0
count_cuts s k (r ∷ rs) = cond (cuts s k r) 1 0 + count_cuts s k rs

one-stamp : (r q s : Stamp) → same_stamp r s ≡ true → same_stamp q s ≡ true → same_stamp r q ≡ true
one-stamp r q s h k = grind (arith)

none-cut : (s : Stamp) (k : ℕ) (r : Run) (rs : List Run) → cuts s k r ≡ true → AllByRecursion (InOrder r) rs → count_cuts s k rs ≡ 0
none-cut s k r [] h o = refl
none-cut s k r (q ∷ rs) h o = let n : cuts s k q ≡ false = none (same_stamp q.stamp s) refl in rw (n, none-cut s k r rs h o.1) refl
  where
    p : (same_stamp r.stamp s ≡ true) × (r.first < k) × (k < r.first + r.len)
    p = at (same_stamp r.stamp s) r.first k (r.first + r.len) h
      where
        at : (b : Bool) (f k e : ℕ) → (b && (ltb f k && ltb k e)) ≡ true → (b ≡ true) × (f < k) × (k < e)
        at false f k e h = absurd (cc)
        at true f k e h = (refl, grind (arith), grind (arith))

    none : (b : Bool) → same_stamp q.stamp s ≡ b → cuts s k q ≡ false
    none false e = rw e refl
    none true e =
        let same : same_stamp r.stamp q.stamp ≡ true = one-stamp r.stamp q.stamp s p.0 e in
        let l : r.first + r.len ≤ q.first = o.0 same in
        let f : ltb q.first k ≡ false = grind (arith, l, p.2) in
        rw (e, f) refl

count-one : (s : Stamp) (k : ℕ) (rs : List Run) → AllInOrder rs → count_cuts s k rs ≤ 1
count-one s k [] h = omega arith
count-one s k (r ∷ rs) h = go (count-one s k rs h.1) (cuts s k r) refl
  where
    go : count_cuts s k rs ≤ 1 → (b : Bool) → cuts s k r ≡ b → cond b 1 0 + count_cuts s k rs ≤ 1
    go more true e = omega (arith, none-cut s k r rs e h.0)
    go more false e = omega (arith, more)

length-if_any : (r : Run) (b : Bool) → (0 < r.len → b ≡ true) → length (if_any r) ≤ cond b 1 0
length-if_any r b h = go (ltb 0 r.len) refl
  where
    go : (c : Bool) → ltb 0 r.len ≡ c → length (cond c (r ∷ []) []) ≤ cond b 1 0
    go false e = omega arith
    go true e = rw (h (grind (arith))) (omega arith)

length-pieces : (x : ByteRange) (r : Run)
    → length (pieces x r) ≤ suc (cond (cuts x.stamp x.first r) 1 0 + cond (cuts x.stamp (suc x.last) r) 1 0)
length-pieces x r = go (touches x r) refl
  where
    go : (b : Bool) → touches x r ≡ b
        → length (cond b (if_any (part 0 (low x r) r) ++ killed (part (low x r) (high x r) r) ∷ if_any (part (high x r) r.len r)) (r ∷ [])) ≤ suc (cond (cuts x.stamp x.first r) 1 0 + cond (cuts x.stamp (suc x.last) r) 1 0)
    go false e = omega arith
    go true e =
        let p = touches-parts x r e in
        let l : low x r < high x r = p.2 in
        let a = length-if_any (part 0 (low x r) r) (cuts x.stamp x.first r) (λ s. rw (p.1) (grind (arith, s, l))) in
        let b = length-if_any (part (high x r) r.len r) (cuts x.stamp (suc x.last) r) (λ s. rw (p.1) (grind (arith, s, l))) in
        omega (arith, length-append (if_any (part 0 (low x r) r)) (killed (part (low x r) (high x r) r) ∷ if_any (part (high x r) r.len r)), a, b)

length-counted : (x : ByteRange) (rs : List Run)
    → length (kill_runs x rs) ≤ length rs + (count_cuts x.stamp x.first rs + count_cuts x.stamp (suc x.last) rs)
length-counted x [] = omega arith
length-counted x (r ∷ rs) = omega (arith, length-append (pieces x r) (kill_runs x rs), length-pieces x r, length-counted x rs)

pub length-kill_runs : (x : ByteRange) (rs : List Run) → AllInOrder rs → length (kill_runs x rs) ≤ length rs + 2
length-kill_runs x rs h = omega (arith, length-counted x rs, count-one x.stamp x.first rs h, count-one x.stamp (suc x.last) rs h)
