-- Two lists that are compared item by item, those of a table by what they show.
use Rattle.std.proofs.Common.{◌≡◌, ◌∙◌, ◌<◌, ◌+◌, ℕ, List, [], ◌∷◌, length, map, get_or, slice_get, take, Some, refl, ap, sym, arith}
use Rattle.std.proofs.lemmas.List.{take_more_same, length-map}
use Rattle.std.proofs.lemmas.Option.{slice_get-get_or, slice_get-map, slice_get_read}
use Rattle.zed_types.proofs.Facts.{some_is}

-- lists that are alike up to an item, and at it, are alike past it
pub more_alike : {X : Type 0} (xs ys : List X) (i : ℕ) → i < length xs → i < length ys
    → take i xs ≡ take i ys → slice_get xs i ≡ slice_get ys i → take (i + 1) xs ≡ take (i + 1) ys
more_alike [] ys i h k t e = absurd (omega (arith, h))
more_alike (x ∷ xs) ys i h k t e =
    take_more_same (x ∷ xs) ys i x h k t
    (some_is (get_or (x ∷ xs) i x) (get_or ys i x) (sym (slice_get-get_or (x ∷ xs) i x h) ∙ e ∙ slice_get-get_or ys i x k))

-- an item of a table shows what stands there among what the table shows
shown_at : {X Y : Type 0} (f : X → Y) (xs : List X) (i : ℕ) (x : X)
    → i < length xs → x ≡ get_or xs i x → slice_get (map f xs) i ≡ Some (f x)
shown_at f xs i x h is = rw (slice_get-map f xs i, slice_get_read xs (length xs) i x refl h is) refl

-- tables that are alike up to an item, and at it, are alike past it
pub more_shown : {X Y : Type 0} (f : X → Y) (xs ys : List X) (i : ℕ) (x y : X)
    → i < length xs → i < length ys → x ≡ get_or xs i x → y ≡ get_or ys i y
    → f x ≡ f y → take i (map f xs) ≡ take i (map f ys) → take (i + 1) (map f xs) ≡ take (i + 1) (map f ys)
more_shown f xs ys i x y h k at there e t =
    let h' : i < length (map f xs) = rw (length-map xs f) h in
    let k' : i < length (map f ys) = rw (length-map ys f) k in
    more_alike (map f xs) (map f ys) i h' k' t (shown_at f xs i x h at ∙ ap Some e ∙ sym (shown_at f ys i y k there))

-- tables that show the some_is show the some_is at each place
pub same_shown : {X Y : Type 0} (f : X → Y) (xs ys : List X) (i : ℕ) (x y : X)
    → i < length xs → i < length ys → x ≡ get_or xs i x → y ≡ get_or ys i y
    → map f xs ≡ map f ys → f x ≡ f y
same_shown f xs ys i x y h k at there e =
    some_is (f x) (f y) (sym (shown_at f xs i x h at) ∙ ap (λ zs. slice_get zs i) e ∙ shown_at f ys i y k there)
