-- What deleting the stretches of a part of a text shows.
use Rattle.std.proofs.Common.{◌≡◌, ℕ, zero, suc, ◌+◌, ◌≤◌, Bool, true, false, ◌&&◌, ◌||◌, not, cond, eqb, leb, List, [], ◌∷◌, map, take, drop, refl, ap, sym, ◌∙◌, arith}
use Rattle.std.specs.List.{AllByRecursion, list_any, filter}
use Rattle.std.proofs.lemmas.Bool.{and_parts, eqb-true}
use Rattle.zed_types.specs.declared.names.ElemId.{ElemId}
use Rattle.zed_types.specs.declared.text.TextByte.{TextByte}
use Rattle.zed_types.specs.declared.text.ByteRange.{ByteRange}
use Rattle.zed_types.specs.Stamp.{same_stamp}
use Rattle.zed_types.specs.Names.{same_element}
use Rattle.zed_types.specs.Text.{alive, is_within, kill, alive_bytes}
use Rattle.zed_laws.specs.TextNames.{HaveOwnNames}
use Rattle.zed_document.specs.Authoring.{alone, goes_before, with_byte, stretches, part, without}
use Rattle.zed_types.proofs.StampOrder.{same_stamp-true, same_stamp-sym}
use Rattle.zed_document.proofs.TypedTexts.{same_element-itself}

-- ranges deleted one after the other
abbrev pub kills : List ByteRange → List TextByte → List TextByte
kills [] xs = xs
kills (r ∷ rs) xs = kills rs (kill r xs)

abbrev pub within_any : List ByteRange → ElemId → Bool
within_any [] a = false
within_any (r ∷ rs) a = is_within r a || within_any rs a

-- the bytes of those outside all ranges
abbrev pub outside : List ByteRange → List TextByte → List ℕ
outside rs xs = map (λ x. x.byte) (filter (λ x. not (within_any rs x.id)) xs)

filter-all : {X : Type 0} (xs : List X) → filter (λ x. true) xs ≡ xs
filter-all [] = refl
filter-all (x ∷ xs) = ap (λ rest. x ∷ rest) (filter-all xs)

kill-step : (r : ByteRange) (rs : List ByteRange) (xs : List TextByte) → outside rs (alive (kill r xs)) ≡ outside (r ∷ rs) (alive xs)
kill-step r rs [] = refl
kill-step r rs (x ∷ xs) = go x.alive refl (is_within r x.id) refl (within_any rs x.id) refl (kill-step r rs xs)
  where
    go : (a : Bool) → x.alive ≡ a → (w : Bool) → is_within r x.id ≡ w → (v : Bool) → within_any rs x.id ≡ v
        → outside rs (alive (kill r xs)) ≡ outside (r ∷ rs) (alive xs)
        → outside rs (alive (kill r (x ∷ xs))) ≡ outside (r ∷ rs) (alive (x ∷ xs))
    go false a w p v q more = rw a more
    go true a true p v q more = rw (a, p) more
    go true a false p true q more = rw (a, p, q) more
    go true a false p false q more = rw (a, p, q) (ap (λ rest. x.byte ∷ rest) more)

pub kills-outside : (rs : List ByteRange) (xs : List TextByte) → alive_bytes (kills rs xs) ≡ outside rs (alive xs)
kills-outside [] xs = ap (map (λ x. x.byte)) (sym (filter-all (alive xs)))
kills-outside (r ∷ rs) xs = kills-outside rs (kill r xs) ∙ kill-step r rs xs

one-number : (i x : ℕ) → (leb i x && leb x i) ≡ eqb i x
one-number i x = grind (arith)

more-numbers : (i x l f : ℕ) → i + 1 ≡ f → f ≤ l → (leb i x && leb x l) ≡ (eqb i x || (leb f x && leb x l))
more-numbers i x l f e h = grind (arith)

one-within : (b a : ElemId) → is_within (alone b) a ≡ same_element b a
one-within b a =
    ap (λ s. s && (leb b.name.index a.name.index && leb a.name.index b.name.index)) (same_stamp-sym a.name.stamp b.name.stamp)
    ∙ ap (λ n. same_stamp b.name.stamp a.name.stamp && n) (one-number b.name.index a.name.index)

spread : (s e f : Bool) → (s && (e || f)) ≡ ((s && e) || (s && f))
spread true e f = refl
spread false e f = refl

or-assoc : (a b c : Bool) → ((a || b) || c) ≡ (a || (b || c))
or-assoc true b c = refl
or-assoc false b c = refl

longer-within : (b : ElemId) (r : ByteRange) (a : ElemId) → goes_before b r ≡ true → r.first ≤ r.last
    → is_within (record r { first = b.name.index }) a ≡ (same_element b a || is_within r a)
longer-within b r a g h =
    let k = and_parts (same_stamp b.name.stamp r.stamp) (eqb (b.name.index + 1) r.first) g in
    let s : b.name.stamp ≡ r.stamp = same_stamp-true b.name.stamp r.stamp k.0 in
    let i : b.name.index + 1 ≡ r.first = eqb-true (b.name.index + 1) r.first k.1 in
    ap (λ n. same_stamp a.name.stamp r.stamp && n) (more-numbers b.name.index a.name.index r.last r.first i h)
    ∙ spread (same_stamp a.name.stamp r.stamp) (eqb b.name.index a.name.index) (leb r.first a.name.index && leb a.name.index r.last)
    ∙ ap (λ t. (t && eqb b.name.index a.name.index) || is_within r a) (ap (same_stamp a.name.stamp) (sym s) ∙ same_stamp-sym a.name.stamp b.name.stamp)

abbrev pub AreOrdered : List ByteRange → Type 0
AreOrdered rs = AllByRecursion (λ r. r.first ≤ r.last) rs

within-byte : (b : ElemId) (rs : List ByteRange) (a : ElemId) → AreOrdered rs
    → within_any (with_byte b rs) a ≡ (same_element b a || within_any rs a)
within-byte b [] a o = ap (λ t. t || false) (one-within b a)
within-byte b (r ∷ rs) a o = go (goes_before b r) refl
  where
    go : (t : Bool) → goes_before b r ≡ t → within_any (with_byte b (r ∷ rs)) a ≡ (same_element b a || within_any (r ∷ rs) a)
    go true t =
        rw t (ap (λ w. w || within_any rs a) (longer-within b r a t o.0) ∙ or-assoc (same_element b a) (is_within r a) (within_any rs a))
    go false t = rw t (ap (λ w. w || within_any (r ∷ rs) a) (one-within b a))

ordered-byte : (b : ElemId) (rs : List ByteRange) → AreOrdered rs → AreOrdered (with_byte b rs)
ordered-byte b [] o = (omega arith, tt)
ordered-byte b (r ∷ rs) o = go (goes_before b r) refl
  where
    go : (t : Bool) → goes_before b r ≡ t → AreOrdered (with_byte b (r ∷ rs))
    go true t =
        let k = and_parts (same_stamp b.name.stamp r.stamp) (eqb (b.name.index + 1) r.first) t in
        let i : b.name.index + 1 ≡ r.first = eqb-true (b.name.index + 1) r.first k.1 in
        let h = o.0 in
        rw t (omega arith, o.1)
    go false t = rw t (omega arith, o)

ordered : (ys : List TextByte) → AreOrdered (stretches ys)
ordered [] = tt
ordered (y ∷ ys) = ordered-byte y.id (stretches ys) (ordered ys)

-- whether an element is among some
abbrev pub among : List TextByte → ElemId → Bool
among ys a = list_any (λ y. same_element y.id a) ys

pub within-stretches : (ys : List TextByte) (a : ElemId) → within_any (stretches ys) a ≡ among ys a
within-stretches [] a = refl
within-stretches (y ∷ ys) a = within-byte y.id (stretches ys) a (ordered ys) ∙ ap (λ t. same_element y.id a || t) (within-stretches ys a)

filter-cong : (p q : TextByte → Bool) (xs : List TextByte) → AllByRecursion (λ x. p x ≡ q x) xs → filter p xs ≡ filter q xs
filter-cong p q [] a = refl
filter-cong p q (x ∷ xs) a = go (q x) refl (filter-cong p q xs a.1)
  where
    go : (b : Bool) → q x ≡ b → filter p xs ≡ filter q xs → filter p (x ∷ xs) ≡ filter q (x ∷ xs)
    go true b more = let c : p x ≡ true = a.0 ∙ b in rw (b, c) (ap (λ rest. x ∷ rest) more)
    go false b more = let c : p x ≡ false = a.0 ∙ b in rw (b, c) more

pub All-take : (P : TextByte → Type 0) (n : ℕ) (xs : List TextByte) → AllByRecursion P xs → AllByRecursion P (take n xs)
All-take P zero xs a = tt
All-take P (suc n) [] a = tt
All-take P (suc n) (x ∷ xs) a = (a.0, All-take P n xs a.1)

pub All-drop : (P : TextByte → Type 0) (n : ℕ) (xs : List TextByte) → AllByRecursion P xs → AllByRecursion P (drop n xs)
All-drop P zero xs a = a
All-drop P (suc n) [] a = tt
All-drop P (suc n) (x ∷ xs) a = All-drop P n xs a.1

same_element-sym : (a b : ElemId) → same_element a b ≡ same_element b a
same_element-sym a b = grind (arith)

none-among : (a : ElemId) (ys : List TextByte) → AllByRecursion (λ y. same_element a y.id ≡ false) ys → among ys a ≡ false
none-among a [] h = refl
none-among a (y ∷ ys) h = let s : same_element y.id a ≡ false = same_element-sym y.id a ∙ h.0 in rw s (none-among a ys h.1)

abbrev pub LeavesOut : ℕ → ℕ → List TextByte → Type 0
LeavesOut f t xs = map (λ x. x.byte) (filter (λ x. not (among (part f t xs) x.id)) xs) ≡ without f t (map (λ x. x.byte) xs)

without-none : (f t : ℕ) → without f t [] ≡ []
without-none zero zero = refl
without-none zero (suc t) = refl
without-none (suc f) zero = refl
without-none (suc f) (suc t) = refl

others-alike : (x : TextByte) (ys xs : List TextByte) → AllByRecursion (λ y. same_element x.id y.id ≡ false) xs
    → AllByRecursion (λ y. not (among (x ∷ ys) y.id) ≡ not (among ys y.id)) xs
others-alike x ys [] a = tt
others-alike x ys (y ∷ xs) a = (ap (λ t. not (t || among ys y.id)) a.0, others-alike x ys xs a.1)

pub leaves-out : (f t : ℕ) (xs : List TextByte) → f ≤ t → HaveOwnNames xs → LeavesOut f t xs
leaves-out f t [] l o = sym (without-none f t)
leaves-out zero zero (x ∷ xs) l o = ap (map (λ y. y.byte)) (filter-all (x ∷ xs))
leaves-out (suc f) zero (x ∷ xs) l o = absurd (omega arith)
leaves-out zero (suc t) (x ∷ xs) l o =
    let i = same_element-itself x.id in
    rw i (ap (map (λ y. y.byte)) (filter-cong (λ y. not (among (x ∷ take t xs) y.id)) (λ y. not (among (take t xs) y.id)) xs (others-alike x (take t xs) xs o.0)) ∙ leaves-out zero t xs (omega arith) o.1)
leaves-out (suc f) (suc t) (x ∷ xs) l o =
    let n : among (part f t xs) x.id ≡ false = none-among x.id (part f t xs) (All-drop (λ y. same_element x.id y.id ≡ false) f (take t xs) (All-take (λ y. same_element x.id y.id ≡ false) t xs o.0)) in
    rw n (ap (λ rest. x.byte ∷ rest) (leaves-out f t xs (omega arith) o.1))

pub All-alive : (P : TextByte → Type 0) (xs : List TextByte) → AllByRecursion P xs → AllByRecursion P (alive xs)
All-alive P [] a = tt
All-alive P (x ∷ xs) a = go x.alive (All-alive P xs a.1)
  where
    go : (b : Bool) → AllByRecursion P (alive xs) → AllByRecursion P (cond b (x ∷ alive xs) (alive xs))
    go true more = (a.0, more)
    go false more = more

own-alive : (xs : List TextByte) → HaveOwnNames xs → HaveOwnNames (alive xs)
own-alive [] o = tt
own-alive (x ∷ xs) o = go x.alive (own-alive xs o.1)
  where
    go : (b : Bool) → HaveOwnNames (alive xs) → HaveOwnNames (cond b (x ∷ alive xs) (alive xs))
    go true more = (All-alive (λ y. same_element x.id y.id ≡ false) xs o.0, more)
    go false more = more

alike : (ys xs : List TextByte) → AllByRecursion (λ x. not (within_any (stretches ys) x.id) ≡ not (among ys x.id)) xs
alike ys [] = tt
alike ys (x ∷ xs) = (ap not (within-stretches ys x.id), alike ys xs)

-- the text that is left is the one without the part
pub left-text : (f t : ℕ) (xs : List TextByte) → f ≤ t → HaveOwnNames xs
    → alive_bytes (kills (stretches (part f t (alive xs))) xs) ≡ without f t (alive_bytes xs)
left-text f t xs l o =
    let ys : List TextByte = part f t (alive xs) in
    kills-outside (stretches ys) xs
    ∙ ap (map (λ x. x.byte)) (filter-cong (λ x. not (within_any (stretches ys) x.id)) (λ x. not (among ys x.id)) (alive xs) (alike ys (alive xs)))
    ∙ leaves-out f t (alive xs) l (own-alive xs o)
