-- Decimal digits.
use Rattle.std.proofs.Common.{◌≡◌, ℕ, zero, suc, ◌<◌, ◌^◌, sym, arith}
use Rattle.std.specs.Fmt.{decimal}
use Rattle.std.proofs.lemmas.Fmt.{decimal-digits_of, decimal_digit}
use Rattle.zed_look.specs.Parts.{number}

-- what `{}` writes
pub number_is_decimal : (n : ℕ) → n < 2 ^ 64 → number n ≡ decimal n
unfolding number
number_is_decimal zero lt = sym (decimal_digit 0 (omega arith))
number_is_decimal (suc n) lt = sym (decimal-digits_of (suc n) (omega arith) lt)
