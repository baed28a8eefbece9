-- What the counts of texts come to as an edit is taken.
use Rattle.std.proofs.Common.{◌≡◌, ◌∙◌, ℕ, ◌≤◌, ◌<◌, ◌+◌, ◌-◌, ◌*◌, ◌^◌, min, Bool, true, false, cond, List, [], ◌∷◌, length, map, Option, Some, None, refl, ap, sym, subst, arith}
use Rattle.std.specs.List.{AllByRecursion, sum_by}
use Rattle.std.specs.Option.{option_map}
use Rattle.std.proofs.lemmas.List.Sums.{sum_by-cons}
use Rattle.zed_types.specs.declared.names.Name.{Name}
use Rattle.zed_types.specs.declared.names.TextId.{TextId}
use Rattle.zed_types.specs.Names.{same_text, NamesRise, is_earlier}
use Rattle.zed_types.proofs.StampOrder.{before_irrefl, same_text-true, same_text-itself, same_text-apart}
use Rattle.zed_types.proofs.Facts.{all_weaker}
use Rattle.zed_op.specs.declared.op.Edit.{Edit}
use Rattle.zed_code.specs.Pieces.{Shown}
use Rattle.zed_code.specs.Visits.{greatest, raised}
use Rattle.zed_code.specs.Text.{elements}
use Rattle.zed_texts.specs.ByName.{text_in}
use Rattle.zed_texts.specs.Looks.{greatest_sum, looks_of}
use Rattle.zed_texts.specs.Texts.{Texts, elements_of, Grows, AllGrow}
use Rattle.zed_delivery.specs.Counts.{HasFew, HaveFew, IsNoLess, NoneFalls, edits_of}
use Rattle.zed_document.specs.Counts.{Counts, added, capped, count_of, counts_of, or_zero, total, NoCountFalls}

-- ---- sums

sums-add : {X : Type 0} (f g h : X → ℕ) (xs : List X) → AllByRecursion (λ x. f x + g x ≡ h x) xs → sum_by f xs + sum_by g xs ≡ sum_by h xs
sums-add f g h [] a = refl
sums-add f g h (x ∷ xs) a =
    let p = sum_by-cons f x xs in
    let q = sum_by-cons g x xs in
    let r = sum_by-cons h x xs in
    let more = sums-add f g h xs a.1 in
    omega (arith, p, q, r, more, a.0)

sums-le : {X : Type 0} (f g : X → ℕ) (xs : List X) → AllByRecursion (λ x. f x ≤ g x) xs → sum_by f xs ≤ sum_by g xs
sums-le f g [] a = omega arith
sums-le f g (x ∷ xs) a =
    let p = sum_by-cons f x xs in
    let q = sum_by-cons g x xs in
    let more = sums-le f g xs a.1 in
    omega (arith, p, q, more, a.0)

-- ---- names that rise

abbrev pub Rise : {X : Type 0} → List (TextId × X) → Type 0
Rise xs = NamesRise (λ x. (x.0).name) xs

earlier-irrefl : (a : Name) → is_earlier a a ≡ false
earlier-irrefl a = grind (arith, before_irrefl a.stamp)

earlier-differs : (a b : TextId) → is_earlier a.name b.name ≡ true → same_text b a ≡ false
earlier-differs a b h = go (same_text b a) refl
  where
    go : (t : Bool) → same_text b a ≡ t → t ≡ false
    go false q = refl
    go true q =
        let same : b ≡ a = same_text-true b a q in
        let bad : is_earlier a.name a.name ≡ true = subst (λ (x : TextId). is_earlier a.name x.name ≡ true) same h in
        let none = earlier-irrefl a.name in
        absurd (cc)

-- what holds of each, from what holds of each and of it
all-from : {X : Type 0} (P Q R : X → Type 0) (xs : List X) → ((x : X) → P x → Q x → R x) → AllByRecursion P xs → AllByRecursion Q xs
    → AllByRecursion R xs
all-from P Q R [] f a b = tt
all-from P Q R (x ∷ xs) f a b = (f x a.0 b.0, all-from P Q R xs f a.1 b.1)

-- each is found by its name
each-found : {X : Type 0} (xs : List (TextId × X)) → Rise xs → AllByRecursion (λ x. text_in x.0 xs ≡ Some x.1) xs
each-found [] r = tt
each-found (x ∷ xs) r = (
  rw (same_text-itself x.0) refl,
  all-from (λ y. is_earlier (x.0).name (y.0).name ≡ true) (λ y. text_in y.0 xs ≡ Some y.1) (λ y. text_in y.0 (x ∷ xs) ≡ Some y.1) xs
      (λ y e f. rw (earlier-differs x.0 y.0 e) f) r.0 (each-found xs r.1),
)

-- a text whose name comes later is another
other-name : (t u v : TextId) → same_text t u ≡ true → is_earlier u.name v.name ≡ true → same_text t v ≡ false
other-name t u v s later = subst (λ w. same_text w v ≡ false) (sym (same_text-true t u s)) (go (same_text u v) refl)
  where
    go : (b : Bool) → same_text u v ≡ b → b ≡ false
    go false q = refl
    go true q =
        let same : u ≡ v = same_text-true u v q in
        let bad : is_earlier u.name u.name ≡ true = subst (λ (w : TextId). is_earlier u.name w.name ≡ true) (sym same) later in
        let none = earlier-irrefl u.name in
        absurd (cc)

-- what stands under one name in a sum, where no other has the name
none-named : {X : Type 0} (t : TextId) (n : ℕ) (x : TextId × X) (xs : List (TextId × X)) → same_text t x.0 ≡ true
    → AllByRecursion (λ y. is_earlier (x.0).name (y.0).name ≡ true) xs
    → sum_by (λ y. cond (same_text t y.0) n 0) xs ≡ 0
none-named t n x [] s a = refl
none-named t n x (y ∷ xs) s a =
    let here = other-name t x.0 y.0 s a.0 in
    let first : cond (same_text t y.0) n 0 ≡ 0 = ap (λ b. cond b n 0) here in
    let all = sum_by-cons (λ z. cond (same_text t z.0) n 0) y xs in
    let more = none-named t n x xs s a.1 in
    omega (arith, first, all, more)

one-named : {X : Type 0} (t : TextId) (n : ℕ) (xs : List (TextId × X)) → Rise xs → sum_by (λ y. cond (same_text t y.0) n 0) xs ≤ n
one-named t n [] r = omega arith
one-named t n (x ∷ xs) r = go (same_text t x.0) refl (one-named t n xs r.1)
  where
    all : sum_by (λ z. cond (same_text t z.0) n 0) (x ∷ xs) ≡ cond (same_text t x.0) n 0 + sum_by (λ z. cond (same_text t z.0) n 0) xs
    all = sum_by-cons (λ z. cond (same_text t z.0) n 0) x xs

    go : (b : Bool) → same_text t x.0 ≡ b → sum_by (λ y. cond (same_text t y.0) n 0) xs ≤ n
        → sum_by (λ y. cond (same_text t y.0) n 0) (x ∷ xs) ≤ n
    go true q more =
        let first : cond (same_text t x.0) n 0 ≡ n = ap (λ b. cond b n 0) q in
        let rest = none-named t n x xs q r.0 in
        omega (arith, first, rest, all)
    go false q more =
        let first : cond (same_text t x.0) n 0 ≡ 0 = ap (λ b. cond b n 0) q in
        omega (arith, first, more, all)

there-named : {X : Type 0} (t : TextId) (n : ℕ) (xs : List (TextId × X)) (v : X) → Rise xs → text_in t xs ≡ Some v
    → sum_by (λ y. cond (same_text t y.0) n 0) xs ≡ n
there-named t n [] v r h = absurd (cc)
there-named t n (x ∷ xs) v r h = go (same_text t x.0) refl h (λ k. there-named t n xs v r.1 k)
  where
    all : sum_by (λ z. cond (same_text t z.0) n 0) (x ∷ xs) ≡ cond (same_text t x.0) n 0 + sum_by (λ z. cond (same_text t z.0) n 0) xs
    all = sum_by-cons (λ z. cond (same_text t z.0) n 0) x xs

    go : (b : Bool) → same_text t x.0 ≡ b → cond b (Some x.1) (text_in t xs) ≡ Some v
        → (text_in t xs ≡ Some v → sum_by (λ y. cond (same_text t y.0) n 0) xs ≡ n)
        → sum_by (λ y. cond (same_text t y.0) n 0) (x ∷ xs) ≡ n
    go true q k more =
        let first : cond (same_text t x.0) n 0 ≡ n = ap (λ b. cond b n 0) q in
        let rest = none-named t n x xs q r.0 in
        omega (arith, first, rest, all)
    go false q k more =
        let first : cond (same_text t x.0) n 0 ≡ 0 = ap (λ b. cond b n 0) q in
        let rest = more k in
        omega (arith, first, rest, all)

everywhere : {X : Type 0} (P : X → Type 0) (xs : List X) → ((x : X) → P x) → AllByRecursion P xs
everywhere P [] f = tt
everywhere P (x ∷ xs) f = (f x, everywhere P xs f)

all-mapped : {X Y : Type 0} (f : X → Y) (P : Y → Type 0) (xs : List X) → AllByRecursion (λ x. P (f x)) xs → AllByRecursion P (map f xs)
all-mapped f P [] a = tt
all-mapped f P (x ∷ xs) a = (a.0, all-mapped f P xs a.1)

all-unmapped : {X Y : Type 0} (f : X → Y) (P : Y → Type 0) (xs : List X) → AllByRecursion P (map f xs) → AllByRecursion (λ x. P (f x)) xs
all-unmapped f P [] a = tt
all-unmapped f P (x ∷ xs) a = (a.0, all-unmapped f P xs a.1)

-- ---- the sum of what was added

zeros : {X : Type 0} (xs : List X) → sum_by (λ x. 0) xs ≡ 0
zeros [] = refl
zeros (x ∷ xs) = let all = sum_by-cons (λ y. 0) x xs in let more = zeros xs in omega (arith, all, more)

not-behind : (t : TextId) (x : TextId × ℕ) (xs : Counts) → same_text t x.0 ≡ true
    → AllByRecursion (λ y. is_earlier (x.0).name (y.0).name ≡ true) xs
    → text_in t xs ≡ None
not-behind t x [] s a = refl
not-behind t x (y ∷ xs) s a =
    let here = other-name t x.0 y.0 s a.0 in
    rw here (not-behind t x xs s a.1)

first-or-behind : (t : TextId) (x : TextId × ℕ) (xs : Counts) → AllByRecursion (λ y. is_earlier (x.0).name (y.0).name ≡ true) xs
    → cond (same_text x.0 t) x.1 0 + count_of t xs ≡ count_of t (x ∷ xs)
first-or-behind t x xs a = go (same_text t x.0) refl
  where
    go : (b : Bool) → same_text t x.0 ≡ b → cond (same_text x.0 t) x.1 0 + count_of t xs ≡ or_zero (cond b (Some x.1) (text_in t xs))
    go true q =
        let turned : same_text x.0 t ≡ true = subst (λ u. same_text x.0 u ≡ true) (sym (same_text-true t x.0 q)) (same_text-itself x.0) in
        let first : cond (same_text x.0 t) x.1 0 ≡ x.1 = ap (λ b. cond b x.1 0) turned in
        let rest : count_of t xs ≡ 0 = ap or_zero (not-behind t x xs q a) in
        omega (arith, first, rest)
    go false q =
        let turned : same_text x.0 t ≡ false = same_text-apart t x.0 x.0 q (same_text-itself x.0) in
        let first : cond (same_text x.0 t) x.1 0 ≡ 0 = ap (λ b. cond b x.1 0) turned in
        omega (arith, first)

-- each text is still there
abbrev Stay : Counts → Counts → Type 0
Stay old new = AllByRecursion (λ x. (v : ℕ) × (text_in x.0 new ≡ Some v)) old

shared : (old new : Counts) → Rise old → Rise new → Stay old new → sum_by (λ y. count_of y.0 old) new ≡ total old
shared [] new r s a = zeros new
shared (x ∷ xs) new r s a =
    let both = sums-add (λ y. cond (same_text x.0 y.0) x.1 0) (λ y. count_of y.0 xs) (λ y. count_of y.0 (x ∷ xs)) new
    (everywhere (λ y. cond (same_text x.0 y.0) x.1 0 + count_of y.0 xs ≡ count_of y.0 (x ∷ xs)) new (λ y. first-or-behind y.0 x xs r.0)) in
    let first = there-named x.0 x.1 new a.0.0 s a.0.1 in
    let rest = shared xs new r.1 s a.1 in
    let all = sum_by-cons (λ (y : TextId × ℕ). y.1) x xs in
    omega (arith, both, first, rest, all)

minus-plus : (a b : ℕ) → a ≤ b → (b - a) + a ≡ b
minus-plus a b h = omega (arith, h)

total-added : (old new : Counts) → Rise old → Rise new → Stay old new → NoCountFalls old new → added old new + total old ≡ total new
total-added old new r s a falls =
    ap (λ n. added old new + n) (sym (shared old new r s a))
    ∙ sums-add (λ y. y.1 - count_of y.0 old) (λ y. count_of y.0 old) (λ y. y.1) new
    (all_weaker (λ y. text_in y.0 new ≡ Some y.1) (λ y. (y.1 - count_of y.0 old) + count_of y.0 old ≡ y.1) new
    (λ y f. minus-plus (count_of y.0 old) y.1 (subst (λ o. count_of y.0 old ≤ or_zero o) f (falls y.0))) (each-found new s))

-- ---- texts and their counts

in-counts : (t : TextId) (ys : Texts) → text_in t (counts_of ys) ≡ option_map (λ x. x.visits) (text_in t ys)
in-counts t [] = refl
in-counts t (y ∷ ys) = go (same_text t y.0) (in-counts t ys)
  where
    go : (b : Bool) → text_in t (counts_of ys) ≡ option_map (λ x. x.visits) (text_in t ys)
        → cond b (Some y.1.visits) (text_in t (counts_of ys)) ≡ option_map (λ x. x.visits) (cond b (Some y.1) (text_in t ys))
    go true more = refl
    go false more = more

-- the count of a text that may be there
abbrev pub looks : Option Shown → ℕ
looks o = or_zero (option_map (λ x. x.visits) o)

pub count-is : (t : TextId) (ys : Texts) → count_of t (counts_of ys) ≡ looks (text_in t ys)
count-is t ys = ap or_zero (in-counts t ys)

pub texts-rise : (xs : Texts) → Rise (elements_of xs) → Rise xs
texts-rise [] r = tt
texts-rise (x ∷ xs) r = (all-unmapped (λ y. (y.0, elements y.1)) (λ y. is_earlier (x.0).name (y.0).name ≡ true) xs r.0, texts-rise xs r.1)

counts-rise : (xs : Texts) → Rise xs → Rise (counts_of xs)
counts-rise [] r = tt
counts-rise (x ∷ xs) r = (all-mapped (λ y. (y.0, y.1.visits)) (λ y. is_earlier (x.0).name (y.0).name ≡ true) xs r.0, counts-rise xs r.1)

pub counts-fall-not : (xs ys : Texts) → NoneFalls xs ys → NoCountFalls (counts_of xs) (counts_of ys)
counts-fall-not xs ys falls t =
    subst (λ n. n ≤ count_of t (counts_of ys)) (sym (count-is t xs)) (subst (λ n. looks (text_in t xs) ≤ n) (sym (count-is t ys)) (go (text_in t xs) (text_in t ys) (falls t)))
  where
    go : (o p : Option Shown) → IsNoLess o p → looks o ≤ looks p
    go None p h = omega arith
    go (Some x) None h = absurd h
    go (Some x) (Some y) h = h

counts-stay : (xs ys : Texts) → Rise xs → NoneFalls xs ys → Stay (counts_of xs) (counts_of ys)
counts-stay xs ys r falls =
    all-mapped (λ y. (y.0, y.1.visits)) (λ x. (v : ℕ) × (text_in x.0 (counts_of ys) ≡ Some v)) xs
    (all_weaker (λ x. text_in x.0 xs ≡ Some x.1) (λ x. (v : ℕ) × (text_in x.0 (counts_of ys) ≡ Some v)) xs (λ x f. go x f (text_in x.0 ys) refl) (each-found xs r))
  where
    go : (x : TextId × Shown) → text_in x.0 xs ≡ Some x.1 → (p : Option Shown) → text_in x.0 ys ≡ p
        → (v : ℕ) × (text_in x.0 (counts_of ys) ≡ Some v)
    go x f (Some z) q = (z.visits, in-counts x.0 ys ∙ ap (option_map (λ y. y.visits)) q)
    go x f None q =
        let l : IsNoLess (Some x.1) (text_in x.0 ys) = subst (λ o. IsNoLess o (text_in x.0 ys)) f (falls x.0) in
        absurd (subst (IsNoLess (Some x.1)) q l)

pub sum-law : (xs ys : Texts) → Rise xs → Rise ys → NoneFalls xs ys
    → added (counts_of xs) (counts_of ys) + total (counts_of xs) ≡ total (counts_of ys)
sum-law xs ys r s falls = total-added (counts_of xs) (counts_of ys) (counts-rise xs r) (counts-rise ys s) (counts-stay xs ys r falls) (counts-fall-not xs ys falls)

-- ---- an edit that wakes none

few-looks : (n v k m : ℕ) → n ≤ 2 * m + 1 → k ≤ n + 1 → raised v k - v ≤ 2 * m + 2
few-looks n v k m a b = omega (arith, a, b)

-- at most so many more under each name
added-most : (xs ys : Texts) (most : TextId → ℕ) → Rise ys
    → ((y : TextId × Shown) → text_in y.0 ys ≡ Some y.1 → y.1.visits - looks (text_in y.0 xs) ≤ most y.0)
    → added (counts_of xs) (counts_of ys) ≤ sum_by (λ z. most z.0) (counts_of ys)
added-most xs ys most s each =
    sums-le (λ z. z.1 - count_of z.0 (counts_of xs)) (λ z. most z.0) (counts_of ys)
    (all-mapped (λ y. (y.0, y.1.visits)) (λ z. z.1 - count_of z.0 (counts_of xs) ≤ most z.0) ys
    (all_weaker (λ y. text_in y.0 ys ≡ Some y.1) (λ y. y.1.visits - count_of y.0 (counts_of xs) ≤ most y.0) ys
    (λ y f. subst (λ n. y.1.visits - n ≤ most y.0) (sym (count-is y.0 xs)) (each y f)) (each-found ys s)))

pub most-one : (t : TextId) (n : ℕ) (xs ys : Texts) → Rise ys → AllGrow (λ i. same_text t i) xs ys → HasFew n (text_in t xs)
    → added (counts_of xs) (counts_of ys) ≤ 2 * n + 2
most-one t n xs ys s grow few =
    let all = added-most xs ys (λ i. cond (same_text t i) (2 * n + 2) 0) s (λ y f. go y (same_text t y.0) refl (text_in y.0 xs) refl (subst (Grows (same_text t y.0) (text_in y.0 xs)) f (grow y.0))) in
    let one = one-named t (2 * n + 2) (counts_of ys) (counts-rise ys s) in
    omega (arith, all, one)
  where
    go : (y : TextId × Shown) (c : Bool) → same_text t y.0 ≡ c → (o : Option Shown) → text_in y.0 xs ≡ o
        → Grows (same_text t y.0) o (Some y.1)
        → y.1.visits - looks o ≤ cond (same_text t y.0) (2 * n + 2) 0
    go y true q None h g = let g0 : y.1.visits ≡ 0 = g.1 in omega (arith, g0)
    go y false q None h g = let g0 : y.1.visits ≡ 0 = g.1 in omega (arith, g0)
    go y true q (Some x) h g =
        let g1 : Grows true (Some x) (Some y.1) = subst (λ b. Grows b (Some x) (Some y.1)) q g in
        let same : t ≡ y.0 = same_text-true t y.0 q in
        let few1 : HasFew n (Some x) = subst (HasFew n) h (subst (λ u. HasFew n (text_in u xs)) same few) in
        let l : raised x.visits g1.1.0 - x.visits ≤ 2 * n + 2 =
        few-looks (length x.cutting) x.visits g1.1.0 n few1.0 (omega (arith, g1.1.2)) in
        rw (q, g1.1.1) l
    go y false q (Some x) h g =
        let g1 : x ≡ y.1 = subst (λ b. Grows b (Some x) (Some y.1)) q g in
        let z : y.1.visits - x.visits ≤ 0 = subst (λ (v : Shown). v.visits - x.visits ≤ 0) g1 (omega arith) in
        rw q z

pub most-none : (xs ys : Texts) → Rise ys → AllGrow (λ i. false) xs ys → added (counts_of xs) (counts_of ys) ≤ 0
most-none xs ys s grow =
    let all = added-most xs ys (λ i. 0) s (λ y f. go y.1 (text_in y.0 xs) (subst (Grows false (text_in y.0 xs)) f (grow y.0))) in
    let none = zeros (counts_of ys) in
    omega (arith, all, none)
  where
    go : (y : Shown) (o : Option Shown) → Grows false o (Some y) → y.visits - looks o ≤ 0
    go y None g = let g0 : y.visits ≡ 0 = g.1 in omega (arith, g0)
    go y (Some x) g = subst (λ (v : Shown). v.visits - x.visits ≤ 0) g (omega arith)

-- ---- a text that has an element

found-le : (f : TextId × ℕ → ℕ) (t : TextId) (xs : Counts) (v : ℕ) → text_in t xs ≡ Some v → f (t, v) ≤ sum_by f xs
found-le f t [] v h = absurd (cc)
found-le f t (x ∷ xs) v h = go (same_text t x.0) refl h (λ k. found-le f t xs v k)
  where
    all : sum_by f (x ∷ xs) ≡ f x + sum_by f xs
    all = sum_by-cons f x xs

    go : (b : Bool) → same_text t x.0 ≡ b → cond b (Some x.1) (text_in t xs) ≡ Some v → (text_in t xs ≡ Some v → f (t, v) ≤ sum_by f xs)
        → f (t, v) ≤ sum_by f (x ∷ xs)
    go true q k more =
        let name : t ≡ x.0 = same_text-true t x.0 q in
        let value : x.1 ≡ v = cc in
        let here : f (t, v) ≡ f x = ap (λ u. f (u, v)) name ∙ ap (λ w. f (x.0, w)) (sym value) in
        omega (arith, here, all)
    go false q k more =
        let rest = more k in
        omega (arith, rest, all)

more-than : (x m z k g : ℕ) → m ≡ min (x + k) g → m ≤ z → z < g → 0 < k → 0 < z - x
more-than x m z k g a b c d = omega (arith, a, b, c, d)

pub looked-at : (t : TextId) (xs mid ys : Texts) (x : Shown) → text_in t xs ≡ Some x → 0 < length x.cutting
    → Grows true (text_in t xs) (text_in t mid) → IsNoLess (text_in t mid) (text_in t ys) → count_of t (counts_of ys) < greatest
    → 0 < added (counts_of xs) (counts_of ys)
looked-at t xs mid ys x there some grow less room =
    go (text_in t mid) (text_in t ys) refl (subst (λ o. Grows true o (text_in t mid)) there grow) less
  where
    go : (p q : Option Shown) → text_in t ys ≡ q → Grows true (Some x) p → IsNoLess p q → 0 < added (counts_of xs) (counts_of ys)
    go None q f g l = absurd g
    go (Some m) None f g l = absurd l
    go (Some m) (Some z) f g l =
        let has : text_in t (counts_of ys) ≡ Some z.visits = in-counts t ys ∙ ap (option_map (λ y. y.visits)) f in
        let now : count_of t (counts_of ys) ≡ z.visits = count-is t ys ∙ ap looks f in
        let part = found-le (λ y. y.1 - count_of y.0 (counts_of xs)) t (counts_of ys) z.visits has in
        let was : count_of t (counts_of xs) ≡ x.visits = count-is t xs ∙ ap looks there in
        let one = more-than x.visits m.visits z.visits g.1.0 greatest g.1.1 l (omega (arith, now, room)) (g.1.3 some) in
        omega (arith, part, was, one)

-- ---- the sum that the texts keep

total-kept : (ys : Texts) → sum_by (λ y. y.1.visits) ys ≡ total (counts_of ys)
total-kept [] = refl
total-kept (y ∷ ys) =
    let kept = sum_by-cons (λ (z : TextId × Shown). z.1.visits) y ys in
    let all = sum_by-cons (λ (z : TextId × ℕ). z.1) (y.0, y.1.visits) (counts_of ys) in
    let more = total-kept ys in
    omega (arith, kept, all, more)

pub looks_kept : (ys : Texts) → looks_of ys ≡ capped (counts_of ys)
looks_kept ys = ap (λ n. min n greatest_sum) (total-kept ys)

-- of fewer than 2^64 texts, whose counts have room each, it has room
few-each : (es : List Edit) (ys : Texts) → Rise ys → HaveFew es ys → AllByRecursion (λ y. y.1.visits ≤ greatest) ys
few-each es ys r few =
    all_weaker (λ y. text_in y.0 ys ≡ Some y.1) (λ y. y.1.visits ≤ greatest) ys
    (λ y f. (subst (HasFew (edits_of y.0 es)) f (few y.0)).1) (each-found ys r)

total-most : (ys : Texts) → AllByRecursion (λ y. y.1.visits ≤ greatest) ys → total (counts_of ys) ≤ length ys * greatest
total-most [] a = omega arith
total-most (y ∷ ys) a =
    let all = sum_by-cons (λ (z : TextId × ℕ). z.1) (y.0, y.1.visits) (counts_of ys) in
    let more = total-most ys a.1 in
    omega (arith, all, more, a.0)

pub total-room : (es : List Edit) (ys : Texts) → Rise ys → HaveFew es ys → length ys < 2 ^ 64 → total (counts_of ys) ≤ greatest_sum
total-room es ys r few l = let most = total-most ys (few-each es ys r few) in omega (arith, most, l)
