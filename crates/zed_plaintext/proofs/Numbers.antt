-- How words of digits are parsed.
use Rattle.std.proofs.Common.{◌≡◌, ◌<◌, ◌≤◌, ◌^◌, ◌==◌, ℕ, arith, Bool, true, false, cond, List, [], ◌∷◌, drop, length, Option, Some, None, Result, Ok, Err, refl, ap, nat_le}
use Rattle.std.specs.Prelude.{◌&&◌}
use Rattle.std.specs.List.{list_all}
use Rattle.std.specs.Char.{digit_value, is_ascii_digit}
use Rattle.std.specs.Str.Parse.{AllDigits, ParsesUnsigned, digits_value, without_leading_plus}
use Rattle.std.proofs.lemmas.Bool.Decides.{nat_tests}
use Rattle.std.proofs.lemmas.Bool.{le-leb, leb-true}
use Rattle.std.proofs.lemmas.Str.{digit_value_digit}
use Rattle.zed_plaintext.specs.Digits.{digits_of, is_number}

and_parts : (a b : Bool) → (a && b) ≡ true → (a ≡ true) × (b ≡ true)
and_parts true b h = (refl, h)
and_parts false b h = let bad : false ≡ true = h in cc

digit_small : (c : ℕ) → is_ascii_digit c ≡ true → digit_value c < 10
digit_small c h =
    let low : 48 ≤ c = grind (arith, nat_tests) in
    let high : c ≤ 57 = grind (arith, nat_tests) in
    let is = digit_value_digit c (low, high) in
    omega arith

-- digits are digits for `parse`
pub all_digits : (word : List ℕ) → list_all is_ascii_digit word ≡ true → AllDigits 10 word
all_digits [] h = tt
all_digits (c ∷ cs) h = let p = and_parts _ _ h in (digit_small c p.0, all_digits cs p.1)

no_plus : (c : ℕ) → is_ascii_digit c ≡ true → (c == 43) ≡ false
no_plus c h = grind (arith, nat_tests)

-- and none of them is a sign
pub without_sign : (word : List ℕ) → list_all is_ascii_digit word ≡ true → without_leading_plus word ≡ word
without_sign [] h = refl
without_sign (c ∷ cs) h = ap (λ b. drop (cond b 1 0) (c ∷ cs)) (no_plus c (and_parts _ _ h).0)

-- a number that was read, if it is at most `most`
abbrev pub up_to : {E : Type 0} → ℕ → Result ℕ E → Option ℕ
up_to most (Ok n) = cond (nat_le n most) (Some n) None
up_to most (Err e) = None

-- what `parse` reads of digits is the number
pub number_read : {E : Type 0} (most : ℕ) (word : List ℕ) (r : Result ℕ E) → list_all is_ascii_digit word ≡ true → most < 2 ^ 64
    → ParsesUnsigned 64 10 word r → up_to most r ≡ digits_of most word
number_read most word (Ok n) digits small reads =
    let numeral = rw (without_sign word digits) at reads.0.0.0 in
    let some : nat_le 1 (length word) ≡ true = le-leb 1 (length word) numeral in
    let is : n ≡ digits_value 10 word = rw (without_sign word digits) at reads.1 in
    rw (some, digits, is) refl
number_read most word (Err e) digits small reads = go (is_number word && nat_le (digits_value 10 word) most) refl
  where
    go : (b : Bool) → (is_number word && nat_le (digits_value 10 word) most) ≡ b → None ≡ digits_of most word
    go false t = rw t refl
    go true t =
        let outer = and_parts _ _ t in
        let inner = and_parts _ _ outer.0 in
        let some : 1 ≤ length word = leb-true 1 (length word) inner.0 in
        let fits : digits_value 10 word ≤ most = leb-true _ _ outer.1 in
        absurd (rw (without_sign word digits) at reads ((some, all_digits word digits), omega arith))
