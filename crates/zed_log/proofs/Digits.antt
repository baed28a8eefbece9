-- Decimal digits.
use Rattle.std.proofs.Common.{◌≡◌, ℕ, ℤ, pos, negsuc, zero, suc, ◌<◌, ◌^◌, List, ◌∷◌, sym, ap, arith}
use Rattle.std.specs.Int.{w16}
use Rattle.std.specs.Prelude.{FitsSigned}
use Rattle.std.specs.Fmt.{decimal, signed_decimal}
use Rattle.std.proofs.lemmas.Fmt.{decimal-digits_of, decimal_digit}
use Rattle.zed_log.specs.Fields.{number, integer}

-- what `{}` writes
pub number_is_decimal : (n : ℕ) → n < 2 ^ 64 → number n ≡ decimal n
unfolding number
number_is_decimal zero lt = sym (decimal_digit 0 (omega arith))
number_is_decimal (suc n) lt = sym (decimal-digits_of (suc n) (omega arith) lt)

-- what `{}` writes of a number with a sign
pub integer_is_decimal : (z : ℤ) → FitsSigned w16 z → integer z ≡ signed_decimal z
unfolding integer
integer_is_decimal (pos n) fits = number_is_decimal n (omega arith)
integer_is_decimal (negsuc n) fits = ap (λ (t : List ℕ). 45 ∷ t) (number_is_decimal (suc n) (omega arith))
