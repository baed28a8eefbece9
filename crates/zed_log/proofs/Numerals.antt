-- Numbers are read from their digits.
use Rattle.std.proofs.Common.{◌≡◌, ℕ, zero, suc, ◌+◌, ◌-◌, ◌<◌, pos, negsuc, Bool, true, false, List, [], ◌∷◌, ◌++◌, map, get_or, drop, refl, sym, ap, ◌∙◌, arith}
use Rattle.std.specs.Int.Digits.{digits_of, number_from_digits, AllBelowBase}
use Rattle.std.proofs.lemmas.Int.Digits.{all_below_base_digits_of, number_digits_of}
use Rattle.std.proofs.lemmas.Bool.Decides.{nat_tests}
use Rattle.zed_log.specs.Fields.{number, integer}
use Rattle.zed_log.proofs.Codes.{is_digit, IsCode}

-- each passes a test
abbrev pub Each : (ℕ → Bool) → List ℕ → Type 0
Each p [] = Unit {0}
Each p (c ∷ cs) = (p c ≡ true) × Each p cs

true_is_not : (b : Bool) → b ≡ true → b ≡ false → ⊥
true_is_not b h k = absurd cc

-- two runs that pass a test, with something behind them that doesn't
pub split : (p : ℕ → Bool) (ds es x y : List ℕ) → Each p ds → Each p es → p (get_or x 0 0) ≡ false → p (get_or y 0 0) ≡ false
    → ds ++ x ≡ es ++ y
    → (ds ≡ es) × (x ≡ y)
split p [] [] x y a b s t h = (refl, h)
split p [] (e ∷ es) x y a b s t h =
    absurd (true_is_not (p (get_or x 0 0)) (ap (λ (l : List ℕ). p (get_or l 0 0)) h ∙ b.0) s)
split p (d ∷ ds) [] x y a b s t h =
    absurd (true_is_not (p (get_or y 0 0)) (ap (λ (l : List ℕ). p (get_or l 0 0)) (sym h) ∙ a.0) t)
split p (d ∷ ds) (e ∷ es) x y a b s t h =
    let r = split p ds es x y a.1 b.1 s t (ap (drop 1) h) in
    let first : d ≡ e = ap (λ (l : List ℕ). get_or l 0 0) h in
    (ap (λ (c : ℕ). c ∷ ds) first ∙ ap (λ (l : List ℕ). e ∷ l) r.0, r.1)

-- ---- the digits of a number

digit_is : (d : ℕ) → d < 10 → is_digit (48 + d) ≡ true
digit_is d lt = grind (arith, nat_tests)

digits_are : (ds : List ℕ) → AllBelowBase 10 ds → Each is_digit (map (λ d. 48 + d) ds)
digits_are [] h = tt
digits_are (d ∷ ds) h = (digit_is d h.0, digits_are ds h.1)

pub number_digits : (n : ℕ) → Each is_digit (number n)
unfolding number
number_digits zero = (refl, tt)
number_digits (suc n) = digits_are (digits_of 10 (suc n)) (all_below_base_digits_of 10 (suc n) (omega arith))

-- the number that digits spell
abbrev value : List ℕ → ℕ
value ds = number_from_digits 10 (map (λ c. c - 48) ds)

unmap : (ds : List ℕ) → map (λ c. c - 48) (map (λ d. 48 + d) ds) ≡ ds
unmap [] = refl
unmap (d ∷ ds) =
    let first : 48 + d - 48 ≡ d = omega arith in
    ap (λ (c : ℕ). c ∷ map (λ c. c - 48) (map (λ d. 48 + d) ds)) first ∙ ap (λ (l : List ℕ). d ∷ l) (unmap ds)

number_back : (n : ℕ) → value (number n) ≡ n
unfolding number
number_back zero = refl
number_back (suc n) = ap (number_from_digits 10) (unmap (digits_of 10 (suc n))) ∙ number_digits_of 10 (suc n) (omega arith)

pub number_code : IsCode number
number_code m n x y p q h =
    let r = split is_digit (number m) (number n) x y (number_digits m) (number_digits n) p q h in
    (sym (number_back m) ∙ ap value r.0 ∙ number_back n, r.1)

-- ---- the first sign of a number

starts : (ds x : List ℕ) → Each is_digit ds → (ds ≡ [] → ⊥) → is_digit (get_or (ds ++ x) 0 0) ≡ true
starts [] x e some = absurd (some refl)
starts (d ∷ ds) x e some = e.0

zero_is_some : number 0 ≡ [] → ⊥
unfolding number
zero_is_some h = absurd cc

is_some_number : (n : ℕ) → number n ≡ [] → ⊥
is_some_number n h =
    let z : n ≡ 0 = sym (number_back n) ∙ ap value h in
    zero_is_some (ap number (sym z) ∙ h)

pub number_starts : (n : ℕ) (x : List ℕ) → is_digit (get_or (number n ++ x) 0 0) ≡ true
number_starts n x = starts (number n) x (number_digits n) (is_some_number n)

-- ---- numbers with a sign

no_sign : (n : ℕ) (x y : List ℕ) → number n ++ x ≡ 45 ∷ y → ⊥
no_sign n x y h =
    true_is_not (is_digit 45) (sym (ap (λ (l : List ℕ). is_digit (get_or l 0 0)) h) ∙ number_starts n x) refl

pub integer_code : IsCode integer
unfolding integer
integer_code (pos m) (pos n) x y p q h = let r = number_code m n x y p q h in (ap pos r.0, r.1)
integer_code (pos m) (negsuc n) x y p q h = absurd (no_sign m x (number (suc n) ++ y) h)
integer_code (negsuc m) (pos n) x y p q h = absurd (no_sign n y (number (suc m) ++ x) (sym h))
integer_code (negsuc m) (negsuc n) x y p q h =
    let r = number_code (suc m) (suc n) x y p q (ap (drop 1) h) in
    let same : m ≡ n = omega (arith, r.0) in
    (ap negsuc same, r.1)
