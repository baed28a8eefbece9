-- Words that are numbers, as `clap` takes them.
use Rattle.std.proofs.Common.{◌≡◌, ◌≤◌, ◌<◌, ◌^◌, ◌==◌, ℕ, arith, Bool, true, false, cond, [], ◌∷◌, Some, None, refl, ap, subst, lt-ltb, ltb-true, le-leb}
use Rattle.std.specs.Prelude.{not, pos, unwrap_or}
use Rattle.std.proofs.lemmas.Bool.{eqb-true, false_from_ne_true}
use Rattle.std.specs.Str.Parse.{digits_value, starts_with_minus, without_leading_plus}
use Rattle.clap.specs.Values.{read_as}
use Rattle.clap.specs.ValueTests.{accepts, is_numeral}
use Rattle.clap.specs.Walk.{Text}
use Rattle.clap.specs.declared.builder.value_parser.Reading.TheVariants as reading
use Rattle.clap.specs.declared.builder.value_parser.ValueParser.TheVariants as vp
use Rattle.clap.proofs.WalkLemmas.{both}
use Rattle.zed_words.specs.Commands.{is_plain, number_of}
use Rattle.zed_words.proofs.PlainWords.{no_hyphen}

some_when : (b : Bool) (v n : ℕ) → cond b (Some v) None ≡ Some n → b ≡ true
some_when true v n is = refl
some_when false v n is = absurd (cc)

-- the digits of a number, and its size
number_is : (k : ℕ) (text : Text) (n : ℕ) → number_of k text ≡ Some n
    → (is_numeral (without_leading_plus text) ≡ true) × (digits_value 10 (without_leading_plus text) < 2 ^ k)
number_is k text n is =
    let all = both _ _ (some_when _ (digits_value 10 (without_leading_plus text)) n is) in
    (all.0, ltb-true (digits_value 10 (without_leading_plus text)) (2 ^ k) all.1)

-- a hyphen is no digit
pub number_plain : (k : ℕ) (text : Text) (n : ℕ) → number_of k text ≡ Some n → is_plain text ≡ true
number_plain k [] n is = refl
number_plain k (byte ∷ bytes) n is = ap not (false_from_ne_true (byte == 45) (λ e.
    let hyphen : byte ≡ 45 = eqb-true byte 45 e in
    let numeral : is_numeral (without_leading_plus (45 ∷ bytes)) ≡ true =
    subst (λ b. is_numeral (without_leading_plus (b ∷ bytes)) ≡ true) hyphen (number_is k (byte ∷ bytes) n is).0 in
    no_digit (both _ _ numeral).1))
  where
    no_digit : false ≡ true → ⊥
    no_digit bad = cc

-- the number of a world
pub world_accepted : (text : Text) (n : ℕ) → number_of 64 text ≡ Some n → accepts false (vp.Unsigned 0 18446744073709551615) text ≡ true
world_accepted text n is =
    let v = digits_value 10 (without_leading_plus text) in
    let number = number_is 64 text n is in
    let small : v < 2 ^ 64 = number.1 in
    let least : 0 ≤ v = omega arith in
    let most : v ≤ 18446744073709551615 = omega (arith, small) in
    rw (number.0, lt-ltb v (2 ^ 64) small, le-leb 0 v least, le-leb v 18446744073709551615 most) refl

no_minus : (text : Text) → is_plain text ≡ true → starts_with_minus text ≡ false
no_minus [] plain = refl
no_minus (byte ∷ bytes) plain = go (byte == 45) plain
  where
    go : (b : Bool) → not b ≡ true → b ≡ false
    go true h = absurd (cc)
    go false h = refl

-- the number of a board or of a replica
pub number_accepted : (text : Text) (n : ℕ) → is_plain text ≡ true → number_of 16 text ≡ Some n
    → accepts false (vp.Signed (pos 0) (pos 65535)) text ≡ true
number_accepted text n plain is =
    let v = digits_value 10 (without_leading_plus text) in
    let number = number_is 16 text n is in
    let small : v < 2 ^ 16 = number.1 in
    let large : v < 2 ^ 63 = omega (arith, small) in
    let least : 0 ≤ v = omega arith in
    let most : v ≤ 65535 = omega (arith, small) in
    rw (no_minus text plain, number.0, lt-ltb v (2 ^ 63) large, le-leb 0 v least, le-leb v 65535 most) refl

-- it has no minus that would be left out
pub number_as_written : (text : Text) → is_plain text ≡ true → read_as reading.WithoutMinus text ≡ text
number_as_written text plain = ap (λ o. unwrap_or o text) (no_hyphen text plain)
