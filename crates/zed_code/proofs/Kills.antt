-- A deletion begins where a range does, and ends behind it.
use Rattle.std.proofs.Common.{◌≡◌, ◌≤◌, ◌<◌, ◌∙◌, ◌&&◌, ◌||◌, ℕ, zero, suc, ◌+◌, ◌-◌, Bool, true, false, cond, List, [], ◌∷◌, ◌++◌, length, take, drop, set, map, length-append, append_assoc, refl, ap, sym, subst, arith, ltb}
use Rattle.std.specs.List.{AllByRecursion, list_any}
use Rattle.zed_types.specs.declared.stamp.Stamp.{Stamp}
use Rattle.zed_types.specs.declared.names.ElemId.{ElemId}
use Rattle.zed_types.specs.declared.text.ByteRange.{ByteRange}
use Rattle.zed_types.specs.Stamp.{same_stamp}
use Rattle.zed_code.specs.declared.run.Run.{Run}
use Rattle.zed_code.specs.declared.block.Block.{Block}
use Rattle.zed_code.specs.Blocks.{lists, joined, list_at, NoneEmpty}
use Rattle.zed_code.specs.Runs.{lasts, low, high, touches, reaches, part, killed, pieces, kill_runs, if_any}
use Rattle.zed_code.specs.Kept.{InOrder, AllInOrder, NoneFrom, AreHints, some_of}
use Rattle.zed_code.proofs.Killing.{all-pieces}
use Rattle.zed_code.proofs.Joins.{length-lists}
use Rattle.zed_code.proofs.Cuts.{some-pieces}
use Rattle.zed_code.proofs.Hinting.{all-left, all-right, all-both}

-- a run that ends before a range has no byte of it
pub spared : (x : ByteRange) (r : Run) → lasts x.stamp x.first r ≡ false → touches x r ≡ false
spared x r e = misses r.alive (same_stamp r.stamp x.stamp) e
  where
    misses : (a s : Bool) → (s && ltb x.first (r.first + r.len)) ≡ false → (a && (s && ltb (low x r) (high x r))) ≡ false
    misses false s h = refl
    misses true false h = refl
    misses true true h = let l : r.first + r.len ≤ x.first = grind (arith) in let m : high x r ≤ low x r = omega (arith, l) in grind (arith)

-- it is left alone
untouched : (x : ByteRange) (r : Run) → lasts x.stamp x.first r ≡ false → pieces x r ≡ r ∷ []
untouched x r e = rw (spared x r e) refl

pub cut_from : (x : ByteRange) (rs : List Run) (n : ℕ) → NoneFrom x.stamp x.first (take n rs)
    → take n rs ++ kill_runs x (drop n rs) ≡ kill_runs x rs
cut_from x rs zero none = refl
cut_from x [] (suc n) none = refl
cut_from x (r ∷ rs) (suc n) none = rw (untouched x r none.0) (ap (λ qs. r ∷ qs) (cut_from x rs n none.1))

pub cut_none : (x : ByteRange) (rs : List Run) → NoneFrom x.stamp x.first rs → kill_runs x rs ≡ rs
cut_none x [] none = refl
cut_none x (r ∷ rs) none = rw (untouched x r none.0) (ap (λ qs. r ∷ qs) (cut_none x rs none.1))

pub cut_room : (x : ByteRange) (rs : List Run) (n : ℕ) → n ≤ length rs → NoneFrom x.stamp x.first (take n rs)
    → n + length (kill_runs x (drop n rs)) ≡ length (kill_runs x rs)
cut_room x rs zero l none = omega arith
cut_room x [] (suc n) l none = absurd (omega (arith, l))
cut_room x (r ∷ rs) (suc n) l none =
    let more : n + length (kill_runs x (drop n rs)) ≡ length (kill_runs x rs) = cut_room x rs n (omega (arith, l)) none.1 in
    rw (untouched x r none.0) (omega (arith, more))

pub all_from : (P : Run → Type 0) (rs : List Run) (n : ℕ) → AllByRecursion P rs → AllByRecursion P (drop n rs)
all_from P rs zero all = all
all_from P [] (suc n) all = tt
all_from P (r ∷ rs) (suc n) all = all_from P rs n all.1

pub order_from : (rs : List Run) (n : ℕ) → AllInOrder rs → AllInOrder (drop n rs)
order_from rs zero ordered = ordered
order_from [] (suc n) ordered = tt
order_from (r ∷ rs) (suc n) ordered = order_from rs n ordered.1

reach_parts : (s : Bool) (n m : ℕ) → (s && ltb n m) ≡ true → (s ≡ true) × (n < m)
reach_parts false n m h = absurd (cc)
reach_parts true n m h = (refl, grind (arith))

both_same : (q r a : Stamp) → same_stamp q a ≡ true → same_stamp r a ≡ true → same_stamp q r ≡ true
both_same q r a h k = grind (arith)

not_less : (m n : ℕ) → n ≤ m → ltb m n ≡ false
not_less m n l = grind (arith)

pub beyond : (x : ByteRange) (q r : Run) → reaches x q ≡ true → InOrder q r → touches x r ≡ false
beyond x q r h behind = go r.alive (same_stamp r.stamp x.stamp) refl
  where
    go : (a s : Bool) → same_stamp r.stamp x.stamp ≡ s → (a && (s && ltb (low x r) (high x r))) ≡ false
    go false s e = refl
    go true false e = refl
    go true true e =
        let parts = reach_parts (same_stamp q.stamp x.stamp) x.last (q.first + q.len) h in
        let first : q.first + q.len ≤ r.first = behind (both_same q.stamp r.stamp x.stamp parts.0 e) in
        not_less (low x r) (high x r) (omega (arith, parts.1, first))

-- nor does anything in an empty range
pub missed : (x : ByteRange) (r : Run) → x.last < x.first → touches x r ≡ false
missed x r l = go r.alive (same_stamp r.stamp x.stamp)
  where
    go : (a s : Bool) → (a && (s && ltb (low x r) (high x r))) ≡ false
    go false s = refl
    go true false = refl
    go true true = not_less (low x r) (high x r) (omega (arith, l))

pub cut_empty : (x : ByteRange) (rs : List Run) → x.last < x.first → kill_runs x rs ≡ rs
cut_empty x [] l = refl
cut_empty x (r ∷ rs) l = rw (missed x r l) (ap (λ qs. r ∷ qs) (cut_empty x rs l))

-- behind a run that reaches the end of a range nothing dies
pub cut_done : (x : ByteRange) (q : Run) (rs : List Run) → reaches x q ≡ true → AllByRecursion (InOrder q) rs → kill_runs x rs ≡ rs
cut_done x q [] h behind = refl
cut_done x q (r ∷ rs) h behind = rw (beyond x q r h behind.0) (ap (λ qs. r ∷ qs) (cut_done x q rs h behind.1))

pub order-right : (xs ys : List Run) → AllInOrder (xs ++ ys) → AllInOrder ys
order-right [] ys h = h
order-right (x ∷ xs) ys h = order-right xs ys h.1

pub order-left : (xs ys : List Run) → AllInOrder (xs ++ ys) → AllInOrder xs
order-left [] ys h = tt
order-left (x ∷ xs) ys h = (all-left (InOrder x) xs ys h.0, order-left xs ys h.1)

pub order-at : (ls : List (List Run)) (i : ℕ) → AllInOrder (joined ls) → AllInOrder (list_at i ls)
order-at [] i h = tt
order-at (rs ∷ ls) zero h = order-left rs (joined ls) h
order-at (rs ∷ ls) (suc i) h = order-at ls i (order-right rs (joined ls) h)

-- nothing of a range is behind a run that has its end
pub reach-touch : (x : ByteRange) (rs qs : List Run) → list_any (reaches x) rs ≡ true → AllInOrder (rs ++ qs)
    → AllByRecursion (λ r. touches x r ≡ false) qs
reach-touch x [] qs h ordered = absurd (cc)
reach-touch x (r ∷ rs) qs h ordered = go (reaches x r) refl h (λ k. reach-touch x rs qs k ordered.1)
  where
    all : (q : Run) (qs : List Run) → reaches x q ≡ true → AllByRecursion (InOrder q) qs → AllByRecursion (λ r. touches x r ≡ false) qs
    all q [] e k = tt
    all q (p ∷ qs) e k = (beyond x q p e k.0, all q qs e k.1)

    go : (b : Bool) → reaches x r ≡ b → (b || list_any (reaches x) rs) ≡ true
        → (list_any (reaches x) rs ≡ true → AllByRecursion (λ r. touches x r ≡ false) qs)
        → AllByRecursion (λ r. touches x r ≡ false) qs
    go true e k more = all r qs e (all-right (InOrder r) rs qs ordered.0)
    go false e k more = more k

none-touched : (x : ByteRange) (rs : List Run) → AllByRecursion (λ r. touches x r ≡ false) rs → kill_runs x rs ≡ rs
none-touched x [] h = refl
none-touched x (r ∷ rs) h = rw h.0 (ap (λ qs. r ∷ qs) (none-touched x rs h.1))

lists-touched : (x : ByteRange) (ls : List (List Run)) → AllByRecursion (λ r. touches x r ≡ false) (joined ls) → map (kill_runs x) ls ≡ ls
lists-touched x [] h = refl
lists-touched x (rs ∷ ls) h =
    ap (λ qs. qs ∷ map (kill_runs x) ls) (none-touched x rs (all-left (λ r. touches x r ≡ false) rs (joined ls) h))
    ∙ ap (λ qs. rs ∷ qs) (lists-touched x ls (all-right (λ r. touches x r ≡ false) rs (joined ls) h))

lists-before : (x : ByteRange) (ls : List (List Run)) → NoneFrom x.stamp x.first (joined ls) → map (kill_runs x) ls ≡ ls
lists-before x [] h = refl
lists-before x (rs ∷ ls) h =
    ap (λ qs. qs ∷ map (kill_runs x) ls) (cut_none x rs (all-left (λ r. lasts x.stamp x.first r ≡ false) rs (joined ls) h))
    ∙ ap (λ qs. rs ∷ qs) (lists-before x ls (all-right (λ r. lasts x.stamp x.first r ≡ false) rs (joined ls) h))

-- some blocks are cut, from the first on
abbrev pub cut_up_to : ByteRange → ℕ → List (List Run) → List (List Run)
cut_up_to x n ls = map (kill_runs x) (take n ls) ++ drop n ls

pub cut_up_to-first : (x : ByteRange) (ls : List (List Run)) (n : ℕ) → NoneFrom x.stamp x.first (joined (take n ls)) → ls ≡ cut_up_to x n ls
cut_up_to-first x ls n h = sym (ap (λ qs. qs ++ drop n ls) (lists-before x (take n ls) h) ∙ take-on ls n)
  where
    take-on : (ls : List (List Run)) (n : ℕ) → take n ls ++ drop n ls ≡ ls
    take-on ls zero = refl
    take-on [] (suc n) = refl
    take-on (rs ∷ ls) (suc n) = ap (λ qs. rs ∷ qs) (take-on ls n)

cut_up_to-next : (x : ByteRange) (ls : List (List Run)) (n : ℕ) → n < length ls
    → set (cut_up_to x n ls) n (kill_runs x (list_at n (cut_up_to x n ls))) ≡ cut_up_to x (n + 1) ls
cut_up_to-next x [] n l = absurd (omega (arith, l))
cut_up_to-next x (rs ∷ ls) zero l = refl
cut_up_to-next x (rs ∷ ls) (suc n) l = let e : suc n + 1 ≡ suc (n + 1) = omega arith in rw e (ap (λ qs. kill_runs x rs ∷ qs) (cut_up_to-next x ls n (omega (arith, l))))

cut_up_to-at : (x : ByteRange) (ls : List (List Run)) (n : ℕ) → list_at n (cut_up_to x n ls) ≡ list_at n ls
cut_up_to-at x [] zero = refl
cut_up_to-at x [] (suc n) = refl
cut_up_to-at x (rs ∷ ls) zero = refl
cut_up_to-at x (rs ∷ ls) (suc n) = cut_up_to-at x ls n

length-cut_up_to : (x : ByteRange) (ls : List (List Run)) (n : ℕ) → length (cut_up_to x n ls) ≡ length ls
length-cut_up_to x ls zero = refl
length-cut_up_to x [] (suc n) = refl
length-cut_up_to x (rs ∷ ls) (suc n) = ap suc (length-cut_up_to x ls n)

pub cut_up_to-end : (x : ByteRange) (ls : List (List Run)) (n : ℕ) → n < length ls → list_any (reaches x) (list_at n ls) ≡ true
    → AllInOrder (joined ls)
    → cut_up_to x (n + 1) ls ≡ map (kill_runs x) ls
cut_up_to-end x [] n l h ordered = absurd (omega (arith, l))
cut_up_to-end x (rs ∷ ls) zero l h ordered =
    ap (λ qs. kill_runs x rs ∷ qs) (sym (lists-touched x ls (reach-touch x rs (joined ls) h ordered)))
cut_up_to-end x (rs ∷ ls) (suc n) l h ordered = let e : suc n + 1 ≡ suc (n + 1) = omega arith in rw e (ap (λ qs. kill_runs x rs ∷ qs) (cut_up_to-end x ls n (omega (arith, l)) h (order-right rs (joined ls) ordered)))

pub joined-kill : (x : ByteRange) (ls : List (List Run)) → joined (map (kill_runs x) ls) ≡ kill_runs x (joined ls)
joined-kill x [] = refl
joined-kill x (rs ∷ ls) = ap (λ qs. kill_runs x rs ++ qs) (joined-kill x ls) ∙ sym (kill-append rs (joined ls))
  where
    kill-append : (xs ys : List Run) → kill_runs x (xs ++ ys) ≡ kill_runs x xs ++ kill_runs x ys
    kill-append [] ys = refl
    kill-append (r ∷ xs) ys =
        ap (λ qs. pieces x r ++ qs) (kill-append xs ys) ∙ sym (append_assoc (pieces x r) (kill_runs x xs) (kill_runs x ys))

-- hints hold as bytes die
pieces-none : (x : ByteRange) (s : Stamp) (n : ℕ) (r : Run) → lasts s n r ≡ false → AllByRecursion (λ q. lasts s n q ≡ false) (pieces x r)
pieces-none x s n r e = all-pieces (λ q. lasts s n q ≡ false) x r e (λ i j l m. (shorter (same_stamp r.stamp s) i j l m e, shorter (same_stamp r.stamp s) i j l m e))
  where
    shorter : (b : Bool) (i j : ℕ) → i < j → j ≤ r.len → (b && ltb n (r.first + r.len)) ≡ false
        → (b && ltb n (r.first + i + (j - i))) ≡ false
    shorter false i j l m h = refl
    shorter true i j l m h = grind (arith)

kill-none : (x : ByteRange) (s : Stamp) (n : ℕ) (rs : List Run) → NoneFrom s n rs → NoneFrom s n (kill_runs x rs)
kill-none x s n [] h = tt
kill-none x s n (r ∷ rs) h =
    all-both (λ q. lasts s n q ≡ false) (pieces x r) (kill_runs x rs) (pieces-none x s n r h.0) (kill-none x s n rs h.1)

take-map : (x : ByteRange) (ls : List (List Run)) (p : ℕ) → take p (map (kill_runs x) ls) ≡ map (kill_runs x) (take p ls)
take-map x ls zero = refl
take-map x [] (suc p) = refl
take-map x (rs ∷ ls) (suc p) = ap (λ qs. kill_runs x rs ∷ qs) (take-map x ls p)

some-kill : (x : ByteRange) (s : Stamp) (rs : List Run) → some_of s rs ≡ true → some_of s (kill_runs x rs) ≡ true
some-kill x s [] h = absurd (cc)
some-kill x s (r ∷ rs) h = go (same_stamp r.stamp s) refl h (some-kill x s rs)
  where
    left : (xs ys : List Run) → some_of s xs ≡ true → some_of s (xs ++ ys) ≡ true
    left [] ys k = absurd (cc)
    left (q ∷ xs) ys k = either (same_stamp q.stamp s) k (left xs ys)
      where
        either : (b : Bool) → (b || some_of s xs) ≡ true → (some_of s xs ≡ true → some_of s (xs ++ ys) ≡ true)
            → (b || some_of s (xs ++ ys)) ≡ true
        either true m more = refl
        either false m more = more m

    right : (xs ys : List Run) → some_of s ys ≡ true → some_of s (xs ++ ys) ≡ true
    right [] ys k = k
    right (q ∷ xs) ys k = either (same_stamp q.stamp s) (right xs ys k)
      where
        either : (b : Bool) → some_of s (xs ++ ys) ≡ true → (b || some_of s (xs ++ ys)) ≡ true
        either true m = refl
        either false m = m

    piece : (b : Bool) → same_stamp r.stamp s ≡ true
        → some_of s (cond b (if_any (part 0 (low x r) r) ++ killed (part (low x r) (high x r) r) ∷ if_any (part (high x r) r.len r)) (r ∷ []))
        ≡ true
    piece true e = right (if_any (part 0 (low x r) r)) (killed (part (low x r) (high x r) r) ∷ if_any (part (high x r) r.len r)) (ap (λ b. b || some_of s (if_any (part (high x r) r.len r))) e)
    piece false e = ap (λ b. b || false) e

    go : (b : Bool) → same_stamp r.stamp s ≡ b → (b || some_of s rs) ≡ true → (some_of s rs ≡ true → some_of s (kill_runs x rs) ≡ true)
        → some_of s (pieces x r ++ kill_runs x rs) ≡ true
    go true e k more = left (pieces x r) (kill_runs x rs) (piece (touches x r) e)
    go false e k more = right (pieces x r) (kill_runs x rs) (more k)

pub kill-hints : (x : ByteRange) (hs : List (ElemId × ℕ)) (places : List ℕ) (ls : List (List Run)) → AreHints hs places ls
    → AreHints hs places (map (kill_runs x) ls)
kill-hints x hs places ls are hint one =
    let was = are hint one in
    let N : List Run → Type 0 = λ rs. NoneFrom hint.0.name.stamp hint.0.name.index rs in
    record {
      within = was.within;
      some = rw (joined-kill x ls) (some-kill x hint.0.name.stamp (joined ls) was.some);
      none = λ p g. subst N (sym (ap joined (take-map x ls p) ∙ joined-kill x (take p ls))) (kill-none x hint.0.name.stamp hint.0.name.index (joined (take p ls)) (was.none p g));
    }

pub kill-full : (x : ByteRange) (ls : List (List Run)) → NoneEmpty ls → NoneEmpty (map (kill_runs x) ls)
kill-full x [] h = tt
kill-full x (rs ∷ ls) h = (longer rs h.0, kill-full x ls h.1)
  where
    longer : (rs : List Run) → 0 < length rs → 0 < length (kill_runs x rs)
    longer [] l = absurd (omega (arith, l))
    longer (r ∷ rs) l = omega (arith, some-pieces x r, length-append (pieces x r) (kill_runs x rs))

pub any-drop : (x : ByteRange) (rs : List Run) (n : ℕ) → list_any (reaches x) (drop n rs) ≡ true → list_any (reaches x) rs ≡ true
any-drop x rs zero h = h
any-drop x [] (suc n) h = absurd (cc)
any-drop x (r ∷ rs) (suc n) h = go (reaches x r) (any-drop x rs n h)
  where
    go : (b : Bool) → list_any (reaches x) rs ≡ true → (b || list_any (reaches x) rs) ≡ true
    go true k = refl
    go false k = k

pub any-first : (x : ByteRange) (r : Run) (rs : List Run) → reaches x r ≡ true → list_any (reaches x) (r ∷ rs) ≡ true
any-first x r rs e = ap (λ b. b || list_any (reaches x) rs) e

pub any-next : (x : ByteRange) (r : Run) (rs : List Run) → list_any (reaches x) rs ≡ true → list_any (reaches x) (r ∷ rs) ≡ true
any-next x r rs e = go (reaches x r)
  where
    go : (b : Bool) → (b || list_any (reaches x) rs) ≡ true
    go true = refl
    go false = e

-- behind all blocks
pub past-end : (ls : List (List Run)) (n : ℕ) → length ls ≤ n
    → (length (joined (take n ls)) ≡ length (joined ls)) × (length (list_at n ls) ≡ 0)
past-end [] zero l = (refl, refl)
past-end [] (suc n) l = (refl, refl)
past-end (rs ∷ ls) zero l = absurd (omega (arith, l))
past-end (rs ∷ ls) (suc n) l = let more = past-end ls n (omega (arith, l)) in (omega (arith, more.0, length-append rs (joined (take n ls)), length-append rs (joined ls)), more.1)

-- a step of a deletion over blocks
module _ (x : ByteRange) (bs cs : List Block) (b : ℕ) (e : lists cs ≡ cut_up_to x b (lists bs)) where
  pub block-same : list_at b (lists cs) ≡ list_at b (lists bs)
  block-same = ap (list_at b) e ∙ cut_up_to-at x (lists bs) b

  pub blocks-count : length cs ≡ length bs
  blocks-count = let n = ap length e ∙ length-cut_up_to x (lists bs) b in omega (arith, n, length-lists bs, length-lists cs)

  pub block-cut : (ds : List Block) → b < length bs → lists ds ≡ set (lists cs) b (kill_runs x (list_at b (lists cs)))
      → lists ds ≡ cut_up_to x (b + 1) (lists bs)
  block-cut ds l h =
      h ∙ ap (λ qs. set qs b (kill_runs x (list_at b qs))) e ∙ cut_up_to-next x (lists bs) b (omega (arith, l, length-lists bs))
