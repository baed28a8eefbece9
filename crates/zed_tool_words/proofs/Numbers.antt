-- What `parse` reads as a number.
use Rattle.std.proofs.Common.{◌≡◌, ◌^◌, ◌<◌, ℕ, Bool, true, false, List, [], ◌∷◌, length, Some, None, Ok, Err, Result, refl, ap, ap₂, nat_lt, lt-ltb, ltb-true}
use Rattle.std.specs.Prelude.{◌&&◌}
use Rattle.std.specs.List.{list_all}
use Rattle.std.specs.Char.{digit_value}
use Rattle.std.specs.Str.Parse.{AllDigits, IsNumeral, digits_value, without_leading_plus}
use Rattle.clap.specs.Walk.{Text}
use Rattle.clap.proofs.WalkLemmas.{both}
use Rattle.zed_words.specs.Commands.{number_of}

digits_pass : (ds : List ℕ) → AllDigits 10 ds → list_all (λ d. nat_lt (digit_value d) 10) ds ≡ true
digits_pass [] h = refl
digits_pass (d ∷ ds) h = ap₂ (λ a b. a && b) (lt-ltb _ _ h.0) (digits_pass ds h.1)

digits_from : (ds : List ℕ) → list_all (λ d. nat_lt (digit_value d) 10) ds ≡ true → AllDigits 10 ds
digits_from [] h = tt
digits_from (d ∷ ds) h = let two = both _ _ h in (ltb-true _ _ two.0, digits_from ds two.1)

-- the digits of a word are a number of so many bits
abbrev pub IsNumber : ℕ → Text → Type 0
IsNumber k text = IsNumeral 10 (without_leading_plus text) × (digits_value 10 (without_leading_plus text) < 2 ^ k)

pub number_read : (k : ℕ) (text : Text) (n : ℕ) → IsNumber k text → n ≡ digits_value 10 (without_leading_plus text)
    → Some n ≡ number_of k text
number_read k text n is value =
    let ds = without_leading_plus text in
    rw (lt-ltb 0 (length ds) is.0.0, digits_pass ds is.0.1, lt-ltb (digits_value 10 ds) (2 ^ k) is.1) (ap (λ m. Some m) value)

abbrev is_number : ℕ → List ℕ → Bool
is_number k ds = nat_lt 0 (length ds) && list_all (λ d. nat_lt (digit_value d) 10) ds && nat_lt (digits_value 10 ds) (2 ^ k)

pub no_number_read : (k : ℕ) (text : Text) → ¬ (IsNumber k text) → None ≡ number_of k text
no_number_read k text is_not = go (is_number k (without_leading_plus text)) refl
  where
    go : (b : Bool) → is_number k (without_leading_plus text) ≡ b → None ≡ number_of k text
    go false t = rw t refl
    go true t =
        let outer = both _ _ t in
        let inner = both _ _ outer.0 in
        absurd (is_not ((ltb-true _ _ inner.0, digits_from (without_leading_plus text) inner.1), ltb-true _ _ outer.1))
