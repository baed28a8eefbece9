-- What the counts of texts come to, as one rises and as texts are added.
use Rattle.std.proofs.Common.{◌≡◌, ◌∙◌, ℕ, zero, suc, ◌+◌, min, Bool, true, false, cond, [], ◌∷◌, slice_get, Some, is_some, refl, ap, sym, arith}
use Rattle.std.specs.List.{AllByRecursion, sum_by}
use Rattle.std.specs.Map.{values_of}
use Rattle.std.proofs.lemmas.List.Sums.{sum_by-cons}
use Rattle.indexmap.specs.IndexMap.{set_value_at}
use Rattle.zed_types.specs.declared.names.TextId.{TextId}
use Rattle.zed_types.specs.Names.{is_earlier}
use Rattle.zed_stats.specs.ByName.{put}
use Rattle.zed_code.specs.Pieces.{Shown}
use Rattle.zed_texts.specs.ByName.{text_name, text_in, add, add_all}
use Rattle.zed_texts.specs.Looks.{greatest_sum, looks_of}
use Rattle.zed_texts.specs.Texts.{Texts, IsUnworked}

abbrev count : TextId × Shown → ℕ
count y = y.1.visits

-- the counts together, where there is room for all
abbrev total : Texts → ℕ
total ys = sum_by (λ y. y.1.visits) ys

-- ---- one rises

rises-by : (ys : Texts) (i n : ℕ) (v w : Shown) → slice_get (values_of ys) i ≡ Some v → w.visits ≡ v.visits + n
    → total (set_value_at ys i w) ≡ total ys + n
rises-by [] i n v w h e = absurd (cc)
rises-by (y ∷ ys) zero n v w h e =
    let here : y.1 ≡ v = cc in
    let was : y.1.visits ≡ v.visits = ap (λ (x : Shown). x.visits) here in
    let old = sum_by-cons count y ys in
    let new = sum_by-cons count (y.0, w) ys in
    omega (arith, was, old, new, e)
rises-by (y ∷ ys) (suc i) n v w h e =
    let old = sum_by-cons count y ys in
    let new = sum_by-cons count y (set_value_at ys i w) in
    let more = rises-by ys i n v w h e in
    omega (arith, old, new, more)

capped-twice : (a b n : ℕ) → b ≡ a + n → min (min a greatest_sum + n) greatest_sum ≡ min b greatest_sum
capped-twice a b n h = omega (arith, h)

-- the text at a place rises by so many
pub looks-rise : (ys : Texts) (i n : ℕ) (v w : Shown) → Some v ≡ slice_get (values_of ys) i → w.visits ≡ v.visits + n
    → min (looks_of ys + n) greatest_sum ≡ looks_of (set_value_at ys i w)
looks-rise ys i n v w h e = capped-twice (total ys) (total (set_value_at ys i w)) n (rises-by ys i n v w (sym h) e)

-- ---- some are added that were never looked at

put-total : (t : TextId) (x : Shown) (ys : Texts) → x.visits ≡ 0 → total (put text_name t x ys) ≡ total ys
put-total t x [] h = let new = sum_by-cons count (t, x) [] in omega (arith, h, new)
put-total t x (y ∷ ys) h = go (is_earlier t.name (y.0).name) (put-total t x ys h)
  where
    go : (b : Bool) → total (put text_name t x ys) ≡ total ys → total (cond b ((t, x) ∷ y ∷ ys) (y ∷ put text_name t x ys)) ≡ total (y ∷ ys)
    go true more = let new = sum_by-cons count (t, x) (y ∷ ys) in omega (arith, h, new)
    go false more =
        let old = sum_by-cons count y ys in
        let new = sum_by-cons count y (put text_name t x ys) in
        omega (arith, old, new, more)

add-total : (t : TextId) (x : Shown) (ys : Texts) → x.visits ≡ 0 → total (add t x ys) ≡ total ys
add-total t x ys h = go (is_some (text_in t ys))
  where
    go : (b : Bool) → total (cond b ys (put text_name t x ys)) ≡ total ys
    go true = refl
    go false = put-total t x ys h

add_all-total : (xs ys : Texts) → AllByRecursion (λ y. IsUnworked y.1) xs → total (add_all xs ys) ≡ total ys
add_all-total [] ys a = refl
add_all-total (x ∷ xs) ys a = add_all-total xs (add x.0 x.1 ys) a.1 ∙ add-total x.0 x.1 ys (a.0).1

pub add-looks : (t : TextId) (x : Shown) (ys : Texts) → x.visits ≡ 0 → looks_of (add t x ys) ≡ looks_of ys
add-looks t x ys h = ap (λ n. min n greatest_sum) (add-total t x ys h)

pub add_all-looks : (xs ys : Texts) → AllByRecursion (λ y. IsUnworked y.1) xs → looks_of (add_all xs ys) ≡ looks_of ys
add_all-looks xs ys a = ap (λ n. min n greatest_sum) (add_all-total xs ys a)
