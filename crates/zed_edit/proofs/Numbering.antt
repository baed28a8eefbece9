-- The numbers of boards are their places in the order in which they stand.
use Rattle.std.proofs.Common.{◌≡◌, ◌∙◌, ℕ, zero, suc, ◌+◌, ◌<◌, ◌≤◌, Bool, true, false, cond, not, ◌&&◌, ◌||◌, eqb, ltb, List, [], ◌∷◌, length, map, find, position, count_by, get_or, IsPermutation, IsSorted, Option, Some, None, option_map, slice_get, refl, sym, ap, subst, true≢false, arith}
use Rattle.std.specs.List.{AllByRecursion, cons_option, filter_map, range_with_len, prefix_len}
use Rattle.std.specs.Ordering.{is_eq, is_lt, ordering_reverse, ordering_then, nat_cmp}
use Rattle.std.specs.declared.cmp.Ordering.{Ordering}
use Rattle.std.specs.declared.cmp.Ordering.TheVariants.{Less, Equal, Greater}
use Rattle.std.specs.Cmp.{IsTotalOrder, on_total, then_total}
use Rattle.std.proofs.lemmas.Cmp.{nat_cmp_total}
use Rattle.std.proofs.lemmas.Bool.{and_parts}
use Rattle.std.proofs.lemmas.List.{length-map}
use Rattle.std.proofs.lemmas.List.MinMax.{ranks_by}
use Rattle.std.proofs.lemmas.List.Sorted.{sorted_far, length_permutation, IsPermutation-refl, IsPermutation-trans, IsPermutation-append_left, IsPermutation-to_front, IsPermutation-cons}
use Rattle.zed_types.specs.declared.names.BoardId.{BoardId}
use Rattle.zed_types.specs.Names.{same_board, name_cmp}
use Rattle.zed_types.proofs.Orderings.{less_from, name_less, name_same, name_total, then_eq}
use Rattle.zed_edit.specs.declared.numbers.Standing.{Standing}
use Rattle.zed_edit.specs.declared.plain.Board.{Board}
use Rattle.zed_edit.specs.Numbers.{AreApart, boards_before, board_with, by_number, standing, standing_cmp, stands_before}
use Rattle.zed_edit.specs.NumberLaws.{EachHasItsNumber, NumberedStandAtTheirPlaces, NumbersArePlaces, StandingsSortByNumber}
use Rattle.zed_edit.proofs.Ordered.{Rises, before, count-mapped, count-cons, count-yes, count-permutation, find-mapped, found-again, found-is, as-many, has-place, numbered, place-found, walk}

pub total : IsTotalOrder standing_cmp
total =
    then_total
    (on_total (λ (x : Standing). x.place) nat_cmp_total)
    (on_total (λ (x : Standing). x.board.name) name_total)

first_decides : (a b : Bool) (o : Ordering) → is_lt (ordering_then (cond a Less (cond b Equal Greater)) o) ≡ (a || (b && is_lt o))
first_decides true b o = refl
first_decides false true o = refl
first_decides false false o = refl

-- a standing compares as lower where it comes before
pub is_less : (a b : Standing) → is_lt (standing_cmp a b) ≡ stands_before a b
is_less a b =
    let m = a.board.name in
    let n = b.board.name in
    first_decides (ltb a.place b.place) (eqb a.place b.place) (name_cmp m n)
    ∙ ap (λ t. ltb a.place b.place || (eqb a.place b.place && t))
    (name_less m n)

pub one-way : (a b : Standing) → stands_before a b ≡ true → stands_before b a ≡ false
one-way a b h = sym (is_less b a) ∙ (ranks_by total (λ x. x)).one_way a b (is_less a b ∙ h)

-- of two standings of different names one comes before the other
tie : (a b : Standing) → stands_before a b ≡ false → stands_before b a ≡ false → same_board a.board b.board ≡ true
tie a b h k = go (standing_cmp a b) refl
  where
    go : (o : Ordering) → standing_cmp a b ≡ o → same_board a.board b.board ≡ true
    go Less e = absurd (true≢false (sym (ap is_lt e) ∙ is_less a b ∙ h))
    go Equal e =
        let both = sym (then_eq (nat_cmp a.place b.place) (name_cmp a.board.name b.board.name)) ∙ ap is_eq e in
        sym (name_same a.board.name b.board.name) ∙ (and_parts (is_eq (nat_cmp a.place b.place)) (is_eq (name_cmp a.board.name b.board.name)) both).1
    go Greater e = absurd (true≢false (sym (ap is_lt (total.antisymm b a ∙ ap ordering_reverse e)) ∙ is_less b a ∙ k))

-- each name is that of one standing at most
abbrev pub Apart : List Standing → Type 0
Apart ks = (id : BoardId) → count_by (λ k. same_board k.board id) ks ≤ 1

behind : (x : Standing) (xs : List Standing) → ((i : ℕ) (d : Standing) → i < length xs → stands_before (get_or xs i d) x ≡ false)
    → count_by (λ k. same_board k.board x.board) xs ≤ 0
    → AllByRecursion (λ y. stands_before x y ≡ true) xs
behind x [] f c = tt
behind x (y ∷ ys) f c = (go (stands_before x y) refl, behind x ys (λ i d l. f (suc i) d (omega arith)) (omega (arith, n, c)))
  where
    q : Standing → Bool
    q k = same_board k.board x.board

    n : count_by q (y ∷ ys) ≡ cond (q y) 1 0 + count_by q ys
    n = count-cons q y ys

    go : (b : Bool) → stands_before x y ≡ b → b ≡ true
    go true e = refl
    go false e = let m = count-yes q y ys (tie y x (f 0 y (omega arith)) e) in absurd (omega (arith, m, c))

sorted-tail : (x : Standing) (xs : List Standing) → IsSorted standing_cmp (x ∷ xs) → IsSorted standing_cmp xs
sorted-tail x xs h k d l m =
    let e : suc k + 1 ≡ suc (k + 1) = omega arith in
    subst (λ n. is_lt (standing_cmp (get_or (x ∷ xs) n d) (get_or xs k d)) ≡ false) e (h (suc k) d (omega arith) (omega arith))

pub same-itself : (x : Standing) → same_board x.board x.board ≡ true
same-itself x = grind (arith)

-- a sorted list of standings of different names rises
pub rising : (ks : List Standing) → IsSorted standing_cmp ks → Apart ks → Rises stands_before ks
rising [] h apart = tt
rising (x ∷ xs) h apart =
    let far : (i : ℕ) (d : Standing) → i < length xs → stands_before (get_or xs i d) x ≡ false
    = λ i d l. sym (is_less (get_or xs i d) x) ∙ sorted_far (λ a b. is_lt (standing_cmp a b)) (ranks_by total (λ a. a)) (x ∷ xs) h 0 (suc i) d (omega arith) (omega arith) in
    let c = count-yes (λ k. same_board k.board x.board) x xs (same-itself x) in
    (behind x xs far (omega (arith, c, apart x.board)), rising xs (sorted-tail x xs h) (λ id. let n = count-cons (λ k. same_board k.board id) x xs in omega (arith, n, apart id)))

-- of three standings
before-through : (a b c : Standing) → stands_before a b ≡ true → stands_before b c ≡ true → stands_before a c ≡ true
before-through a b c h k =
    sym (is_less a c) ∙ ap is_lt (total.trans a b c (less_from (standing_cmp a b) (is_less a b ∙ h)) (less_from (standing_cmp b c) (is_less b c ∙ k)))

other-before : (a b : Standing) → stands_before a b ≡ false → same_board b.board a.board ≡ false → stands_before b a ≡ true
other-before a b h d = go (stands_before b a) refl
  where
    go : (t : Bool) → stands_before b a ≡ t → t ≡ true
    go true e = refl
    go false e = absurd (true≢false (sym (tie b a e h) ∙ d))

-- one standing more among those that rise
abbrev put : Standing → List Standing → List Standing
put x [] = x ∷ []
put x (y ∷ ys) = cond (stands_before x y) (x ∷ y ∷ ys) (y ∷ put x ys)

-- standings in the order in which they rise
abbrev pub in_order : List Standing → List Standing
in_order [] = []
in_order (x ∷ xs) = put x (in_order xs)

put-same : (x : Standing) (ys : List Standing) → IsPermutation (x ∷ ys) (put x ys)
put-same x [] = IsPermutation-refl (x ∷ [])
put-same x (y ∷ ys) = go (stands_before x y) (put-same x ys)
  where
    go : (b : Bool) → IsPermutation (x ∷ ys) (put x ys) → IsPermutation (x ∷ y ∷ ys) (cond b (x ∷ y ∷ ys) (y ∷ put x ys))
    go true e = IsPermutation-refl (x ∷ y ∷ ys)
    go false e =
        IsPermutation-trans (x ∷ y ∷ ys) (y ∷ x ∷ ys) (y ∷ put x ys)
        (IsPermutation-append_left ys (x ∷ y ∷ []) (y ∷ x ∷ []) (IsPermutation-to_front (x ∷ []) y))
        (IsPermutation-cons y (x ∷ ys) (put x ys) e)

pub order-same : (xs : List Standing) → IsPermutation xs (in_order xs)
order-same [] = IsPermutation-refl []
order-same (x ∷ xs) = IsPermutation-trans (x ∷ xs) (x ∷ in_order xs) (put x (in_order xs)) (IsPermutation-cons x xs (in_order xs) (order-same xs)) (put-same x (in_order xs))

all-put : (P : Standing → Type 0) (x : Standing) (ys : List Standing) → P x → AllByRecursion P ys → AllByRecursion P (put x ys)
all-put P x [] p h = (p, tt)
all-put P x (y ∷ ys) p h = go (stands_before x y) (all-put P x ys p h.1)
  where
    go : (b : Bool) → AllByRecursion P (put x ys) → AllByRecursion P (cond b (x ∷ y ∷ ys) (y ∷ put x ys))
    go true e = (p, h)
    go false e = (h.0, e)

all-in_order : (P : Standing → Type 0) (xs : List Standing) → AllByRecursion P xs → AllByRecursion P (in_order xs)
all-in_order P [] h = tt
all-in_order P (x ∷ xs) h = all-put P x (in_order xs) h.0 (all-in_order P xs h.1)

all-behind : (x y : Standing) (ys : List Standing) → stands_before x y ≡ true → AllByRecursion (λ z. stands_before y z ≡ true) ys
    → AllByRecursion (λ z. stands_before x z ≡ true) ys
all-behind x y [] h k = tt
all-behind x y (z ∷ zs) h k = (before-through x y z h k.0, all-behind x y zs h k.1)

put-rises : (x : Standing) (ys : List Standing) → AllByRecursion (λ y. same_board y.board x.board ≡ false) ys → Rises stands_before ys
    → Rises stands_before (put x ys)
put-rises x [] d r = (tt, tt)
put-rises x (y ∷ ys) d r = go (stands_before x y) refl (put-rises x ys d.1 r.1)
  where
    go : (b : Bool) → stands_before x y ≡ b → Rises stands_before (put x ys) → Rises stands_before (cond b (x ∷ y ∷ ys) (y ∷ put x ys))
    go true e more = ((e, all-behind x y ys e r.0), r)
    go false e more = (all-put (λ z. stands_before y z ≡ true) x ys (other-before x y e d.0) r.0, more)

none-passes : (q : Standing → Bool) (xs : List Standing) → count_by q xs ≤ 0 → AllByRecursion (λ y. q y ≡ false) xs
none-passes q [] c = tt
none-passes q (y ∷ ys) c = let n = count-cons q y ys in (go (q y) refl, none-passes q ys (omega (arith, n, c)))
  where
    go : (b : Bool) → q y ≡ b → b ≡ false
    go true e = let m = count-yes q y ys e in absurd (omega (arith, m, c))
    go false e = refl

-- standings of different names rise in their order
pub order-rises : (xs : List Standing) → Apart xs → Rises stands_before (in_order xs)
order-rises [] apart = tt
order-rises (x ∷ xs) apart =
    let q : Standing → Bool = λ k. same_board k.board x.board in
    let c = count-yes q x xs (same-itself x) in
    let others = none-passes q xs (omega (arith, c, apart x.board)) in
    put-rises x (in_order xs) (all-in_order (λ y. q y ≡ false) xs others)
    (order-rises xs (λ id. let n = count-cons (λ k. same_board k.board id) x xs in omega (arith, n, apart id)))

through : {X K Y : Type 0} (key : X → K) (f : K → Y) (o : Option X) → option_map (λ x. f (key x)) o ≡ option_map f (option_map key o)
through key f None = refl
through key f (Some x) = refl

front_mapped : {X Y : Type 0} (f : X → Y) (test : Y → Bool) (xs : List X) → prefix_len test (map f xs) ≡ prefix_len (λ x. test (f x)) xs
front_mapped f test [] = refl
front_mapped f test (x ∷ xs) = ap (λ (n : ℕ). cond (test (f x)) (1 + n) 0) (front_mapped f test xs)

position_mapped : {X Y : Type 0} (f : X → Y) (test : Y → Bool) (xs : List X) → position test (map f xs) ≡ position (λ x. test (f x)) xs
position_mapped f test xs = rw (front_mapped f (λ y. not (test y)) xs, length-map xs f) refl

module _ (bs : List Board) (ks : List Standing) (same : IsPermutation (map standing bs) ks) (up : Rises stands_before ks) where
  before-is : (b : Board) → boards_before bs b ≡ before stands_before (map standing bs) (standing b)
  before-is b = sym (count-mapped standing (λ j. stands_before j (standing b)) bs)

  -- the standing of the board of a number is that at this place
  pub with-number : (n : ℕ) → option_map standing (board_with bs n) ≡ slice_get ks n
  with-number n =
      ap (λ (f : Board → ℕ). option_map standing (find (λ b. eqb (f b) n) bs)) (λ i b. before-is b i)
      ∙ sym (find-mapped standing (λ k. eqb (before stands_before (map standing bs) k) n) bs)
      ∙ numbered stands_before one-way (map standing bs) ks same up n

  as-long : length ks ≡ length bs
  as-long = length_permutation (map standing bs) ks same ∙ length-map bs standing

  -- the standings of the boards by their numbers
  pub stand-so : map standing (by_number bs) ≡ ks
  stand-so =
      ap (λ n. map standing (filter_map (board_with bs) (range_with_len 0 n))) (sym as-long)
      ∙ walk (board_with bs) standing ks 0 (λ n. ap (λ m. option_map standing (board_with bs m)) (omega arith) ∙ with-number n)

  pub same-length : length (by_number bs) ≡ length bs
  same-length = sym (length-map (by_number bs) standing) ∙ ap (λ xs. length xs) stand-so ∙ as-long

  -- the number of a board is its place
  pub number-is : AreApart bs → (id : BoardId)
      → option_map (boards_before bs) (find (λ b. same_board b.id id) bs) ≡ position (λ b. same_board b.id id) (by_number bs)
  number-is apart id =
      let ms = map standing bs in
      let q : Standing → Bool = λ k. same_board k.board id in
      let few : count_by q ms ≤ 1 = subst (λ n. n ≤ 1) (sym (count-mapped standing q bs)) (apart id) in
      ap (λ (f : Board → ℕ). option_map f (find (λ b. q (standing b)) bs)) (λ i b. before-is b i)
      ∙ through standing (before stands_before ms) (find (λ b. q (standing b)) bs)
      ∙ ap (option_map (before stands_before ms)) (sym (find-mapped standing q bs))
      ∙ ap (λ (f : Standing → ℕ). option_map f (find q ms)) (λ i k. sym (as-many stands_before one-way ms ks same up k) i)
      ∙ ap (option_map (before stands_before ks)) (found-again stands_before one-way ms ks same up q few)
      ∙ place-found (before stands_before ks) q ks (λ n v e. has-place stands_before one-way ks n v up e)
      ∙ ap (position q) (sym stand-so)
      ∙ position_mapped standing q (by_number bs)

pub apart-mapped : (bs : List Board) → AreApart bs → Apart (map standing bs)
apart-mapped bs apart id = subst (λ n. n ≤ 1) (sym (count-mapped standing (λ k. same_board k.board id) bs)) (apart id)

-- sorted standings are those of the boards by their numbers
pub sorted-so : StandingsSortByNumber
sorted-so bs ks apart same sorted =
    stand-so bs ks same
    (rising ks sorted (λ id. subst (λ n. n ≤ 1) (sym (count-permutation (λ k. same_board k.board id) (map standing bs) ks same)) (apart-mapped bs apart id)))

pub places-so : NumbersArePlaces
places-so bs apart id = let ms = map standing bs in number-is bs (in_order ms) (order-same ms) (order-rises ms (apart-mapped bs apart)) apart id

pub long-so : EachHasItsNumber
long-so bs apart = let ms = map standing bs in same-length bs (in_order ms) (order-same ms) (order-rises ms (apart-mapped bs apart))

found-among : {X : Type 0} (P : X → Type 0) (q : X → Bool) (xs : List X) → AllByRecursion P xs → (x : X) → find q xs ≡ Some x → P x
found-among P q xs h x e = (found-is q P xs x h e).1

some-among : {X : Type 0} (P : X → Type 0) (f : ℕ → Option X) → ((n : ℕ) (x : X) → f n ≡ Some x → P x) → (ns : List ℕ)
    → AllByRecursion P (filter_map f ns)
some-among P f h [] = tt
some-among {X} P f h (n ∷ ns) = go (f n) refl (some-among P f h ns)
  where
    go : (o : Option X) → f n ≡ o → AllByRecursion P (filter_map f ns) → AllByRecursion P (cons_option o (filter_map f ns))
    go None e more = more
    go (Some x) e more = (h n x e, more)

-- what holds of each board holds of each by their numbers
pub each-so : (P : Board → Type 0) (bs : List Board) → AllByRecursion P bs → AllByRecursion P (by_number bs)
each-so P bs h =
    some-among P (board_with bs) (λ n x e. found-among P (λ b. eqb (boards_before bs b) n) bs h x e) (range_with_len 0 (length bs))

get-mapped : {X Y : Type 0} (f : X → Y) (xs : List X) (n : ℕ) → slice_get (map f xs) n ≡ option_map f (slice_get xs n)
get-mapped f [] n = refl
get-mapped f (x ∷ xs) zero = refl
get-mapped f (x ∷ xs) (suc n) = get-mapped f xs n

-- the board of a number stands at that place
pub numbered-so : NumberedStandAtTheirPlaces
numbered-so bs apart n =
    let ms = map standing bs in
    let ks = in_order ms in
    let up = order-rises ms (apart-mapped bs apart) in
    through standing (λ (s : Standing). s.board) (board_with bs n)
    ∙ ap (option_map (λ (s : Standing). s.board)) (with-number bs ks (order-same ms) up n ∙ sym (ap (λ xs. slice_get xs n) (stand-so bs ks (order-same ms) up)) ∙ get-mapped standing (by_number bs) n)
    ∙ sym (through standing (λ (s : Standing). s.board) (slice_get (by_number bs) n))
