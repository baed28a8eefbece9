-- The first boards of those that pass are the first of all that pass, in the order of their numbers.
use Rattle.std.proofs.Common.{◌≡◌, ◌∙◌, ℕ, zero, suc, ◌+◌, ◌<◌, ◌≤◌, Bool, true, false, cond, not, ◌&&◌, List, [], ◌∷◌, length, map, filter, filter_map, take, drop, count_by, slice_get, get_or, drop-cons, ◌++◌, IsPermutation, Option, Some, None, option_map, refl, sym, ap, subst, true≢false, arith}
use Rattle.std.specs.List.{AllByRecursion, range_with_len}
use Rattle.std.specs.Ordering.{is_eq, is_lt, ordering_reverse, nat_cmp}
use Rattle.std.specs.declared.cmp.Ordering.{Ordering}
use Rattle.std.specs.declared.cmp.Ordering.TheVariants.{Less, Equal, Greater}
use Rattle.std.proofs.lemmas.Bool.{and_parts}
use Rattle.std.proofs.lemmas.List.MinMax.{ranks_by}
use Rattle.std.proofs.lemmas.List.Sorted.{length_permutation, IsPermutation-refl, IsPermutation-trans, IsPermutation-append_left, IsPermutation-to_front, IsPermutation-cons}
use Rattle.zed_types.specs.Names.{same_board, name_cmp}
use Rattle.zed_types.proofs.Orderings.{less_from, name_same, then_eq}
use Rattle.zed_edit.specs.declared.numbers.Standing.{Standing}
use Rattle.zed_edit.specs.declared.plain.Board.{Board}
use Rattle.zed_edit.specs.Numbers.{AreApart, board_with, by_number, comes_before, standing, standing_cmp, stands_before}
use Rattle.zed_edit.proofs.Numbering.{is_less, one-way, same-itself, total}
use Rattle.zed_edit.proofs.Ordered.{Rises, count-cons, count-yes, none_some, numbered, same_some, walk}
use Rattle.zed_view.specs.First.{FirstHaveFirstNumbers, IsInOrder, NextHaveNextNumbers, first_of, is_behind, put}

-- ---- the order of boards

once : (a b : Board) → comes_before a b ≡ true → comes_before b a ≡ false
once a b h = one-way (standing a) (standing b) h

through : (a b c : Standing) → stands_before a b ≡ true → stands_before b c ≡ true → stands_before a c ≡ true
through a b c h k =
    sym (is_less a c) ∙ ap is_lt (total.trans a b c (less_from (standing_cmp a b) (is_less a b ∙ h)) (less_from (standing_cmp b c) (is_less b c ∙ k)))

-- of two boards of different names one comes before the other
other : (a b : Board) → comes_before a b ≡ false → same_board a.id b.id ≡ false → comes_before b a ≡ true
other a b h d = go (standing_cmp s t) refl
  where
    s : Standing
    s = standing a

    t : Standing
    t = standing b

    go : (o : Ordering) → standing_cmp s t ≡ o → stands_before t s ≡ true
    go Less e = absurd (true≢false (sym (ap is_lt e) ∙ is_less s t ∙ h))
    go Equal e =
        let both = sym (then_eq (nat_cmp s.place t.place) (name_cmp s.board.name t.board.name)) ∙ ap is_eq e in
        absurd (true≢false (sym (sym (name_same s.board.name t.board.name) ∙ (and_parts (is_eq (nat_cmp s.place t.place)) (is_eq (name_cmp s.board.name t.board.name)) both).1) ∙ d))
    go Greater e = sym (is_less t s) ∙ ap is_lt (total.antisymm t s ∙ ap ordering_reverse e)

-- ---- sorted boards

abbrev pub sorted : List Board → List Board
sorted [] = []
sorted (b ∷ bs) = put b (sorted bs)

put-same : (b : Board) (xs : List Board) → IsPermutation (b ∷ xs) (put b xs)
put-same b [] = IsPermutation-refl (b ∷ [])
put-same b (x ∷ xs) = go (comes_before b x) (put-same b xs)
  where
    go : (t : Bool) → IsPermutation (b ∷ xs) (put b xs) → IsPermutation (b ∷ x ∷ xs) (cond t (b ∷ x ∷ xs) (x ∷ put b xs))
    go true e = IsPermutation-refl (b ∷ x ∷ xs)
    go false e =
        IsPermutation-trans (b ∷ x ∷ xs) (x ∷ b ∷ xs) (x ∷ put b xs)
        (IsPermutation-append_left xs (b ∷ x ∷ []) (x ∷ b ∷ []) (IsPermutation-to_front (b ∷ []) x))
        (IsPermutation-cons x (b ∷ xs) (put b xs) e)

sorted-same : (bs : List Board) → IsPermutation bs (sorted bs)
sorted-same [] = IsPermutation-refl []
sorted-same (b ∷ bs) = IsPermutation-trans (b ∷ bs) (b ∷ sorted bs) (put b (sorted bs)) (IsPermutation-cons b bs (sorted bs) (sorted-same bs)) (put-same b (sorted bs))

all-put : (P : Board → Type 0) (b : Board) (xs : List Board) → P b → AllByRecursion P xs → AllByRecursion P (put b xs)
all-put P b [] p h = (p, tt)
all-put P b (x ∷ xs) p h = go (comes_before b x) (all-put P b xs p h.1)
  where
    go : (t : Bool) → AllByRecursion P (put b xs) → AllByRecursion P (cond t (b ∷ x ∷ xs) (x ∷ put b xs))
    go true e = (p, h)
    go false e = (h.0, e)

all-sorted : (P : Board → Type 0) (bs : List Board) → AllByRecursion P bs → AllByRecursion P (sorted bs)
all-sorted P [] h = tt
all-sorted P (b ∷ bs) h = all-put P b (sorted bs) h.0 (all-sorted P bs h.1)

all-behind : (a b : Board) (xs : List Board) → comes_before a b ≡ true → AllByRecursion (λ x. comes_before b x ≡ true) xs
    → AllByRecursion (λ x. comes_before a x ≡ true) xs
all-behind a b [] h k = tt
all-behind a b (x ∷ xs) h k = (through (standing a) (standing b) (standing x) h k.0, all-behind a b xs h k.1)

put-rises : (b : Board) (xs : List Board) → AllByRecursion (λ x. same_board x.id b.id ≡ false) xs → Rises comes_before xs
    → Rises comes_before (put b xs)
put-rises b [] d r = (tt, tt)
put-rises b (x ∷ xs) d r = go (comes_before b x) refl (put-rises b xs d.1 r.1)
  where
    other-way : (a c : Board) → same_board a.id c.id ≡ false → same_board c.id a.id ≡ false
    other-way a c h = grind (arith)

    go : (t : Bool) → comes_before b x ≡ t → Rises comes_before (put b xs) → Rises comes_before (cond t (b ∷ x ∷ xs) (x ∷ put b xs))
    go true e more = ((e, all-behind b x xs e r.0), r)
    go false e more = (all-put (λ z. comes_before x z ≡ true) b xs (other b x e (other-way x b d.0)) r.0, more)

none-of : (q : Board → Bool) (xs : List Board) → count_by q xs ≤ 0 → AllByRecursion (λ x. q x ≡ false) xs
none-of q [] c = tt
none-of q (x ∷ xs) c = let n = count-cons q x xs in (go (q x) refl, none-of q xs (omega (arith, n, c)))
  where
    go : (t : Bool) → q x ≡ t → t ≡ false
    go true e = let m = count-yes q x xs e in absurd (omega (arith, m, c))
    go false e = refl

-- boards of different names rise once they are sorted
sorted-rises : (bs : List Board) → AreApart bs → Rises comes_before (sorted bs)
sorted-rises [] apart = tt
sorted-rises (b ∷ bs) apart =
    let q : Board → Bool = λ x. same_board x.id b.id in
    let c = count-yes q b bs (same-itself (standing b)) in
    put-rises b (sorted bs) (all-sorted (λ x. q x ≡ false) bs (none-of q bs (omega (arith, c, apart b.id))))
    (sorted-rises bs (λ id. let n = count-cons (λ (x : Board). same_board x.id id) b bs in omega (arith, n, apart id)))

-- so they stand by their numbers
by_number-is : (bs : List Board) → AreApart bs → by_number bs ≡ sorted bs
by_number-is bs apart =
    let ks = sorted bs in
    let long : length ks ≡ length bs = length_permutation bs ks (sorted-same bs) in
    let at : (n : ℕ) → option_map (λ (b : Board). b) (board_with bs (0 + n)) ≡ slice_get ks n
    = λ n. whole (board_with bs (0 + n)) ∙ ap (board_with bs) (omega arith) ∙ numbered comes_before once bs ks (sorted-same bs) (sorted-rises bs apart) n in
    sym (each (by_number bs)) ∙ ap (λ n. map (λ (b : Board). b) (filter_map (board_with bs) (range_with_len 0 n))) (sym long) ∙ walk (board_with bs) (λ (b : Board). b) ks 0 at
  where
    whole : (o : Option Board) → option_map (λ (b : Board). b) o ≡ o
    whole None = refl
    whole (Some b) = refl

    each : (xs : List Board) → map (λ (b : Board). b) xs ≡ xs
    each [] = refl
    each (x ∷ xs) = ap (λ ys. x ∷ ys) (each xs)

-- ---- taking few on the way

less : (n : ℕ) (b : Board) (xs : List Board) → take n (b ∷ take n xs) ≡ take n (b ∷ xs)
less zero b xs = refl
less (suc n) b xs = ap (λ ys. b ∷ ys) (short n xs)
  where
    short : (k : ℕ) (zs : List Board) → take k (take (suc k) zs) ≡ take k zs
    short zero zs = refl
    short (suc k) [] = refl
    short (suc k) (z ∷ zs) = ap (λ ws. z ∷ ws) (short k zs)

put_few : (m : ℕ) (b : Board) (xs : List Board) → take m (put b (take m xs)) ≡ take m (put b xs)
put_few zero b xs = refl
put_few (suc m) b [] = refl
put_few (suc m) b (x ∷ xs) = go (comes_before b x) (put_few m b xs)
  where
    go : (t : Bool) → take m (put b (take m xs)) ≡ take m (put b xs)
        → take (suc m) (cond t (b ∷ x ∷ take m xs) (x ∷ put b (take m xs))) ≡ take (suc m) (cond t (b ∷ x ∷ xs) (x ∷ put b xs))
    go true e = ap (λ ys. b ∷ ys) (less m x xs)
    go false e = ap (λ ys. x ∷ ys) e

first_is : (m : ℕ) (q : Board → Bool) (bs : List Board) → first_of m q bs ≡ take m (sorted (filter q bs))
first_is m q [] = none m
  where
    none : (k : ℕ) → [] ≡ take k (sorted [])
    none zero = refl
    none (suc k) = refl
first_is m q (b ∷ bs) = go (q b) (first_is m q bs)
  where
    go : (t : Bool) → first_of m q bs ≡ take m (sorted (filter q bs))
        → cond t (take m (put b (first_of m q bs))) (first_of m q bs) ≡ take m (sorted (cond t (b ∷ filter q bs) (filter q bs)))
    go true e = ap (λ xs. take m (put b xs)) e ∙ put_few m b (sorted (filter q bs))
    go false e = e

-- ---- those behind one

module _ (q : Board → Bool) (up : (a b : Board) → q a ≡ true → comes_before a b ≡ true → q b ≡ true) where
  filter-put : (b : Board) (xs : List Board) → filter q (put b xs) ≡ cond (q b) (put b (filter q xs)) (filter q xs)
  filter-put b [] = one (q b)
    where
      one : (t : Bool) → cond t (b ∷ []) [] ≡ cond t (b ∷ []) []
      one t = refl
  filter-put b (x ∷ xs) = go (comes_before b x) refl (q b) refl (q x) refl (filter-put b xs)
    where
      rest : List Board
      rest = filter q xs

      go : (t : Bool) → comes_before b x ≡ t → (u : Bool) → q b ≡ u → (v : Bool) → q x ≡ v
          → filter q (put b xs) ≡ cond (q b) (put b rest) rest
          → filter q (cond t (b ∷ x ∷ xs) (x ∷ put b xs)) ≡ cond (q b) (put b (filter q (x ∷ xs))) (filter q (x ∷ xs))
      go true e true f true g more = rw (f, g, e) refl
      go true e true f false g more = absurd (true≢false (sym (up b x f e) ∙ g))
      go true e false f v g more = rw f refl
      go false e true f true g more = rw (f, g, e) (ap (λ ys. x ∷ ys) (more ∙ ap (λ t. cond t (put b rest) rest) f))
      go false e true f false g more = rw (f, g) (more ∙ ap (λ t. cond t (put b rest) rest) f)
      go false e false f true g more = rw (f, g) (ap (λ ys. x ∷ ys) (more ∙ ap (λ t. cond t (put b rest) rest) f))
      go false e false f false g more = rw (f, g) (more ∙ ap (λ t. cond t (put b rest) rest) f)

  filter-sorted : (bs : List Board) → filter q (sorted bs) ≡ sorted (filter q bs)
  filter-sorted [] = refl
  filter-sorted (b ∷ bs) = filter-put b (sorted bs) ∙ go (q b) (filter-sorted bs)
    where
      go : (t : Bool) → filter q (sorted bs) ≡ sorted (filter q bs)
          → cond t (put b (filter q (sorted bs))) (filter q (sorted bs)) ≡ sorted (cond t (b ∷ filter q bs) (filter q bs))
      go true e = ap (put b) e
      go false e = e

filter-all : (q : Board → Bool) (xs : List Board) → AllByRecursion (λ x. q x ≡ true) xs → filter q xs ≡ xs
filter-all q [] h = refl
filter-all q (x ∷ xs) h = ap (λ t. cond t (x ∷ filter q xs) (filter q xs)) h.0 ∙ ap (λ ys. x ∷ ys) (filter-all q xs h.1)

-- those behind member n of boards that rise are those from place n + 1 on
behind-is : (xs : List Board) (n : ℕ) (a : Board) → Rises comes_before xs → slice_get xs n ≡ Some a
    → filter (λ x. comes_before a x) xs ≡ drop (suc n) xs
behind-is [] n a r e = absurd (none_some a e)
behind-is (x ∷ xs) zero a r e =
    let s : x ≡ a = same_some x x a e in
    subst (λ z. filter (λ y. comes_before z y) (x ∷ xs) ≡ xs) s
    (ap (λ t. cond t (x ∷ filter (λ y. comes_before x y) xs) (filter (λ y. comes_before x y) xs)) (itself (comes_before x x) refl) ∙ filter-all (λ y. comes_before x y) xs r.0)
  where
    itself : (t : Bool) → comes_before x x ≡ t → t ≡ false
    itself true h = sym h ∙ once x x h
    itself false h = refl
behind-is (x ∷ xs) (suc n) a r e =
    let before : comes_before x a ≡ true = at xs n r.0 e in
    ap (λ t. cond t (x ∷ filter (λ y. comes_before a y) xs) (filter (λ y. comes_before a y) xs)) (once x a before) ∙ behind-is xs n a r.1 e
  where
    at : (ys : List Board) (k : ℕ) → AllByRecursion (λ y. comes_before x y ≡ true) ys → slice_get ys k ≡ Some a → comes_before x a ≡ true
    at [] k h e = absurd (none_some a e)
    at (y ∷ ys) zero h e = subst (λ z. comes_before x z ≡ true) (same_some y y a e) h.0
    at (y ∷ ys) (suc k) h e = at ys k h.1 e

-- ---- what first_of finds

pub first-so : FirstHaveFirstNumbers
first-so m bs apart = first_is m (is_behind None) bs ∙ ap (λ xs. take m (sorted xs)) (all bs) ∙ ap (take m) (sym (by_number-is bs apart))
  where
    all : (xs : List Board) → filter (is_behind None) xs ≡ xs
    all [] = refl
    all (x ∷ xs) = ap (λ ys. x ∷ ys) (all xs)

pub next-so : NextHaveNextNumbers
next-so m bs apart n a e =
    let is = by_number-is bs apart in
    let q : Board → Bool = λ x. comes_before a x in
    let more : suc n ≡ n + 1 = omega arith in
    first_is m q bs
    ∙ ap (take m) (sym (filter-sorted q (λ x y f g. through (standing a) (standing x) (standing y) f g) bs))
    ∙ ap (take m) (behind-is (sorted bs) n a (sorted-rises bs apart) (ap (λ xs. slice_get xs n) (sym is) ∙ e))
    ∙ ap (λ xs. take m (drop (suc n) xs)) (sym is)
    ∙ ap (λ k. take m (drop k (by_number bs))) more

-- ---- boards behind many

chain : (a b c : Board) → comes_before a b ≡ false → comes_before b c ≡ false → comes_before a c ≡ false
chain a b c h k =
    let s = standing a in
    let t = standing b in
    let u = standing c in
    sym (is_less s u) ∙ (ranks_by total (λ x. x)).chain s t u (is_less s t ∙ h) (is_less t u ∙ k)

all-past : (a b : Board) (xs : List Board) → comes_before a b ≡ false → AllByRecursion (λ y. comes_before y a ≡ false) xs
    → AllByRecursion (λ y. comes_before y b ≡ false) xs
all-past a b [] h k = tt
all-past a b (x ∷ xs) h k = (chain x a b k.0 h, all-past a b xs h k.1)

put-in_order : (b : Board) (xs : List Board) → IsInOrder xs → IsInOrder (put b xs)
put-in_order b [] o = (tt, tt)
put-in_order b (x ∷ xs) o = go (comes_before b x) refl (put-in_order b xs o.1)
  where
    go : (t : Bool) → comes_before b x ≡ t → IsInOrder (put b xs) → IsInOrder (cond t (b ∷ x ∷ xs) (x ∷ put b xs))
    go true e more = let f = once b x e in ((f, all-past x b xs f o.0), o)
    go false e more = (all-put (λ y. comes_before y x ≡ false) b xs e o.0, more)

take-in_order : (m : ℕ) (xs : List Board) → IsInOrder xs → IsInOrder (take m xs)
take-in_order zero xs o = tt
take-in_order (suc m) [] o = tt
take-in_order (suc m) (x ∷ xs) o = (all-take m xs o.0, take-in_order m xs o.1)
  where
    all-take : (k : ℕ) (ys : List Board) → AllByRecursion (λ y. comes_before y x ≡ false) ys
        → AllByRecursion (λ y. comes_before y x ≡ false) (take k ys)
    all-take zero ys h = tt
    all-take (suc k) [] h = tt
    all-take (suc k) (y ∷ ys) h = (h.0, all-take k ys h.1)

-- the first boards stand in order
pub first-in_order : (m : ℕ) (q : Board → Bool) (bs : List Board) → IsInOrder (first_of m q bs)
first-in_order m q [] = tt
first-in_order m q (b ∷ bs) = go (q b) (first-in_order m q bs)
  where
    go : (t : Bool) → IsInOrder (first_of m q bs) → IsInOrder (cond t (take m (put b (first_of m q bs))) (first_of m q bs))
    go true o = take-in_order m (put b (first_of m q bs)) (put-in_order b (first_of m q bs) o)
    go false o = o

-- one that does not come before the last one of them goes behind all
put-last : (n : ℕ) (b z : Board) (xs : List Board) → IsInOrder xs → length xs ≡ suc n → slice_get xs n ≡ Some z → comes_before b z ≡ false
    → put b xs ≡ xs ++ b ∷ []
put-last n b z [] o long at h = absurd (omega (arith, long))
put-last zero b z (x ∷ []) o long at h =
    let s : x ≡ z = same_some x x z at in
    ap (λ t. cond t (b ∷ x ∷ []) (x ∷ b ∷ [])) (subst (λ y. comes_before b y ≡ false) (sym s) h)
put-last zero b z (x ∷ y ∷ xs) o long at h = absurd (omega (arith, long))
put-last (suc n) b z (x ∷ xs) o long at h =
    let first : comes_before z x ≡ false = behind n xs o.0 at in
    ap (λ t. cond t (b ∷ x ∷ xs) (x ∷ put b xs)) (chain b z x h first) ∙ ap (λ ys. x ∷ ys) (put-last n b z xs o.1 (omega (arith, long)) at h)
  where
    behind : (k : ℕ) (ys : List Board) → AllByRecursion (λ y. comes_before y x ≡ false) ys → slice_get ys k ≡ Some z
        → comes_before z x ≡ false
    behind k [] a e = absurd (none_some z e)
    behind zero (y ∷ ys) a e = subst (λ w. comes_before w x ≡ false) (same_some y y z e) a.0
    behind (suc k) (y ∷ ys) a e = behind k ys a.1 e

-- so where there are enough it is left out
pub put-past : (n : ℕ) (b z : Board) (xs : List Board) → IsInOrder xs → length xs ≡ suc n → slice_get xs n ≡ Some z
    → comes_before b z ≡ false
    → take (suc n) (put b xs) ≡ xs
put-past n b z xs o long at h = ap (take (suc n)) (put-last n b z xs o long at h) ∙ ap (λ k. take k (xs ++ b ∷ [])) (sym long) ∙ front xs
  where
    front : (ys : List Board) → take (length ys) (ys ++ b ∷ []) ≡ ys
    front [] = refl
    front (y ∷ ys) = ap (λ zs. y ∷ zs) (front ys)

-- ---- going through the boards

module _ (m : ℕ) (q : Board → Bool) (bs : List Board) (i : ℕ) (d : Board) (lt : i < length bs) where
  abbrev left : List Board
  left = first_of m q (filter (λ x. not x.removed) (drop (i + 1) bs))

  first-next : first_of m q (filter (λ x. not x.removed) (drop i bs))
      ≡ cond (not (get_or bs i d).removed && q (get_or bs i d)) (take m (put (get_or bs i d) left)) left
  first-next =
      let e : suc i ≡ i + 1 = omega arith in
      ap (λ xs. first_of m q (filter (λ x. not x.removed) xs)) (drop-cons bs i d lt ∙ ap (λ n. get_or bs i d ∷ drop n bs) e) ∙ go (get_or bs i d).removed
    where
      go : (t : Bool)
          → first_of m q (cond (not t) (get_or bs i d ∷ filter (λ x. not x.removed) (drop (i + 1) bs)) (filter (λ x. not x.removed) (drop (i + 1) bs)))
          ≡ cond (not t && q (get_or bs i d)) (take m (put (get_or bs i d) left)) left
      go true = refl
      go false = refl

  -- a board that passes is put among those behind it
  pub taken_in : (not (get_or bs i d).removed && q (get_or bs i d)) ≡ true
      → first_of m q (filter (λ x. not x.removed) (drop i bs)) ≡ take m (put (get_or bs i d) left)
  taken_in h = first-next ∙ ap (λ t. cond t (take m (put (get_or bs i d) left)) left) h

  -- another isn't
  pub left_out : (not (get_or bs i d).removed && q (get_or bs i d)) ≡ false → first_of m q (filter (λ x. not x.removed) (drop i bs)) ≡ left
  left_out h = first-next ∙ ap (λ t. cond t (take m (put (get_or bs i d) left)) left) h

-- ---- boards by their places

pub image_at : {X Y : Type 0} (f : X → Y) (xs : List X) (n : ℕ) (v : X) → slice_get xs n ≡ Some v → slice_get (map f xs) n ≡ Some (f v)
image_at f [] n v e = absurd (none_some v e)
image_at f (x ∷ xs) zero v e = ap (λ y. Some (f y)) (same_some x x v e)
image_at f (x ∷ xs) (suc n) v e = image_at f xs n v e

pub map-take : {X Y : Type 0} (f : X → Y) (n : ℕ) (xs : List X) → map f (take n xs) ≡ take n (map f xs)
map-take f zero xs = refl
map-take f (suc n) [] = refl
map-take f (suc n) (x ∷ xs) = ap (λ ys. f x ∷ ys) (map-take f n xs)
