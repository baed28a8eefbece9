-- What the getters of numbers read, by the rows.
use Rattle.std.proofs.Common.{◌≡◌, ◌∙◌, ◌^◌, ℕ, Bool, true, false, List, [], ◌∷◌, length, Option, Some, None, Result, Ok, Err, refl, ap, ap₂, nat_lt, lt-ltb, ltb-true}
use Rattle.std.specs.Prelude.{option_and_then, ◌&&◌}
use Rattle.std.specs.List.{list_all}
use Rattle.std.specs.Char.{digit_value}
use Rattle.std.specs.Str.Parse.{AllDigits, ExplainsUnsignedError, HasUnsignedDigitsIfOk, ParsesUnsigned, digits_value, without_leading_plus}
use Rattle.clap.specs.Matches.{ReadsOne, one_text}
use Rattle.clap.specs.Walk.{Text, one_of, rows_of}
use Rattle.clap.specs.Words.{found_of}
use Rattle.clap.specs.declared.parser.matches.ArgMatches.{ArgMatches}
use Rattle.clap.proofs.WalkLemmas.{both, one_text-rows}
use Rattle.zed_words.specs.Commands.{number_of}

digits_pass : (ds : List ℕ) → AllDigits 10 ds → list_all (λ d. nat_lt (digit_value d) 10) ds ≡ true
digits_pass [] h = refl
digits_pass (d ∷ ds) h = ap₂ (λ a b. a && b) (lt-ltb _ _ h.0) (digits_pass ds h.1)

digits_from : (ds : List ℕ) → list_all (λ d. nat_lt (digit_value d) 10) ds ≡ true → AllDigits 10 ds
digits_from [] h = tt
digits_from (d ∷ ds) h = let two = both _ _ h in (ltb-true _ _ two.0, digits_from ds two.1)

abbrev is_number : ℕ → List ℕ → Bool
is_number k ds = nat_lt 0 (length ds) && list_all (λ d. nat_lt (digit_value d) 10) ds && nat_lt (digits_value 10 ds) (2 ^ k)

-- what `parse` reads is the number
number_parsed : {E : Type 0} (k : ℕ) (text : Text) (r : Option ℕ) (G : List ℕ → Result ℕ E → Type 0)
    → ((u : List ℕ) (x : Result ℕ E) → G u x → ParsesUnsigned k 10 u x) → ReadsOne G text r → r ≡ number_of k text
number_parsed k text (Some n) G only g =
    let h = only text (Ok n) g in
    let ds = without_leading_plus text in
    rw (lt-ltb 0 (length ds) h.0.0.0, digits_pass ds h.0.0.1, lt-ltb (digits_value 10 ds) (2 ^ k) h.0.1) (ap (λ m. Some m) h.1)
number_parsed k text None G only g = go (is_number k (without_leading_plus text)) refl
  where
    go : (b : Bool) → is_number k (without_leading_plus text) ≡ b → None ≡ number_of k text
    go false t = rw t refl
    go true t =
        let outer = both _ _ t in
        let inner = both _ _ outer.0 in
        absurd (only text (Err g.0) g.1 ((ltb-true _ _ inner.0, digits_from (without_leading_plus text) inner.1), ltb-true _ _ outer.1))

read_by : {E : Type 0} (k : ℕ) (o : Option Text) (r : Option ℕ) (G : List ℕ → Result ℕ E → Type 0)
    → ((u : List ℕ) (x : Result ℕ E) → G u x → ParsesUnsigned k 10 u x)
    → (o ≡ None → r ≡ None) → ((t : List ℕ) → o ≡ Some t → ReadsOne G t r)
    → r ≡ option_and_then (number_of k) o
read_by k None r G only none value = none refl
read_by k (Some t) r G only none value = number_parsed k t r G only (value t refl)

-- what is read of a number's word, by the rows
pub number_read : (k : ℕ) (m : ArgMatches) (id : Text) (r : Option ℕ) → (one_text (found_of m) id ≡ None → r ≡ None)
    → ((t : List ℕ) → one_text (found_of m) id ≡ Some t
    → ReadsOne (λ bs x. ParsesUnsigned k 10 bs x × ExplainsUnsignedError 10 bs x × HasUnsignedDigitsIfOk bs x) t r)
    → r ≡ option_and_then (number_of k) (one_of id (rows_of (found_of m)))
number_read k m id r none value =
    read_by k (one_text (found_of m) id) r (λ bs x. ParsesUnsigned k 10 bs x × ExplainsUnsignedError 10 bs x × HasUnsignedDigitsIfOk bs x) (λ u x g. g.0) none value
    ∙ ap (option_and_then (number_of k)) (one_text-rows (found_of m) id)
