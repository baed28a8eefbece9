-- The decimal digits of a number, the last one apart.
use Rattle.std.proofs.Common.{◌≡◌, ℕ, ◌+◌, ◌*◌, ◌^◌, ◌/◌, ◌%◌, ◌<◌, ◌≤◌, [], ◌∷◌, ◌++◌, length, length-append, arith, ap, sym, ◌∙◌}
use Rattle.std.specs.Fmt.{decimal}
use Rattle.std.proofs.lemmas.Fmt.{decimal_digit, decimal_step, length-decimal-le}
use Rattle.std.proofs.lemmas.Nat.{div_below, mod-mul-add}

pub tenth_less : (n : ℕ) → 10 ≤ n → n / 10 < n
tenth_less n le = div_below n 10 n (omega arith) (omega (arith, le))

pub one_digit : (n : ℕ) → n < 10 → decimal n ≡ (48 + n % 10) ∷ []
one_digit n lt =
    let form : 0 * 10 + n ≡ n = omega arith in
    let same : n % 10 ≡ n = ap (λ (k : ℕ). k % 10) (sym form) ∙ mod-mul-add 0 10 n lt in
    decimal_digit n lt ∙ ap (λ (k : ℕ). (48 + k) ∷ []) (sym same)

pub more_digits : (n : ℕ) → 10 ≤ n → n < 2 ^ 64 → decimal n ≡ decimal (n / 10) ++ ((48 + n % 10) ∷ [])
more_digits n le lt = decimal_step n le lt

pub one_long : (n : ℕ) → n < 10 → length (decimal n) ≡ 1
one_long n lt = ap length (one_digit n lt)

pub digits_longer : (n : ℕ) → 10 ≤ n → n < 2 ^ 64 → length (decimal n) ≡ length (decimal (n / 10)) + 1
digits_longer n le lt = ap length (more_digits n le lt) ∙ length-append (decimal (n / 10)) ((48 + n % 10) ∷ [])

pub few_digits : (n : ℕ) → n < 2 ^ 64 → length (decimal n) ≤ 20
few_digits n lt = length-decimal-le 20 n (omega arith) (omega (arith, lt)) lt
