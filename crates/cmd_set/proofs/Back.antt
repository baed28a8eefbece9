-- Values are read from their words.
use Rattle.std.proofs.Common.{◌≡◌, ◌∙◌, ℕ, zero, suc, ℤ, pos, negsuc, ◌+◌, ◌-◌, ◌*◌, ◌/◌, ◌%◌, ◌<◌, ◌≤◌, ◌==◌, Bool, true, false, cond, List, [], ◌∷◌, ◌++◌, map, length, get_or, Some, refl, ap, arith, nat_le, nat_lt, append_assoc}
use Rattle.std.specs.Prelude.{◌&&◌, FitsSigned, option_map}
use Rattle.std.specs.Int.{w16}
use Rattle.std.specs.Fmt.{digit_glyph}
use Rattle.std.specs.Int.Digits.{digits_of as digits_from, number_from_digits, AllBelowBase}
use Rattle.std.specs.List.{list_all}
use Rattle.std.specs.Str.Parse.{digits_value}
use Rattle.std.specs.Char.{digit_value, is_ascii_digit}
use Rattle.std.proofs.lemmas.Bool.{le-leb}
use Rattle.std.proofs.lemmas.Bool.Decides.{nat_tests}
use Rattle.std.proofs.lemmas.Int.Digits.{all_below_base_digits_of, digits_value_is, first_digits_of, number_digits_of}
use Rattle.std.proofs.lemmas.Str.{digit_value_digit}
use Rattle.zed_types.specs.declared.names.Name.{Name}
use Rattle.zed_op.specs.Sizes.{IsName}
use Rattle.zed_log.specs.Fields.{colour, hex, integer, name, number, stamp}
use Rattle.std.specs.Str.{chars}
use Rattle.std.proofs.lemmas.Str.{chars-encodes}
use Rattle.zed_plaintext.specs.Characters.{text_point}
use Rattle.zed_plaintext.specs.Text.{text_of}
use Rattle.zed_plaintext.proofs.Again.{all_known, are_scalars, bytes_same, encoded}
use Rattle.cmd_set.specs.Printed.{AreBytes}
use Rattle.zed_set_words.specs.Strings.{string_of}
use Rattle.zed_set_words.specs.Values.{Word, colour_of, has_idle_zero, hex_of, integer_of, name_of, number_of}
use Rattle.zed_set_words.proofs.Cuts.{Free, cut_at}

-- ---- digits

digit_is : (d : ℕ) → d < 10 → is_ascii_digit (48 + d) ≡ true
digit_is d lt = grind (arith, nat_tests)

pub digits_are : (ds : List ℕ) → AllBelowBase 10 ds → list_all is_ascii_digit (map (λ d. 48 + d) ds) ≡ true
digits_are [] h = refl
digits_are (d ∷ ds) h = rw (digit_is d h.0, digits_are ds h.1) refl

value_is : (d : ℕ) → d < 10 → digit_value (48 + d) ≡ d
value_is d lt = let is = digit_value_digit (48 + d) (omega arith, omega arith) in omega arith

values_are : (ds : List ℕ) → AllBelowBase 10 ds → map digit_value (map (λ d. 48 + d) ds) ≡ ds
values_are [] h = refl
values_are (d ∷ ds) h =
    ap (λ (c : ℕ). c ∷ map digit_value (map (λ d. 48 + d) ds)) (value_is d h.0) ∙ ap (λ (l : List ℕ). d ∷ l) (values_are ds h.1)

-- no 0 stands in front
not_idle : (ds : List ℕ) → 0 < get_or ds 0 0 → has_idle_zero (map (λ d. 48 + d) ds) ≡ false
not_idle [] h = refl
not_idle (d ∷ []) h = refl
not_idle (d ∷ e ∷ ds) h = let some : 0 < d = h in grind (arith, nat_tests)

some_digit : (ds : List ℕ) → 0 < get_or ds 0 0 → nat_le 1 (length (map (λ d. 48 + d) ds)) ≡ true
some_digit [] h = absurd (let no : 0 < 0 = h in omega arith)
some_digit (d ∷ ds) h = le-leb 1 (length (map (λ d. 48 + d) (d ∷ ds))) (omega arith)

-- ---- numbers

pub number_digits : (n : ℕ) → list_all is_ascii_digit (number n) ≡ true
unfolding number
number_digits zero = refl
number_digits (suc n) = digits_are (digits_from 10 (suc n)) (all_below_base_digits_of 10 (suc n) (omega arith))

number_value : (n : ℕ) → digits_value 10 (number n) ≡ n
unfolding number
number_value zero = refl
number_value (suc n) =
    digits_value_is 10 (map (λ d. 48 + d) (digits_from 10 (suc n)))
    ∙ ap (number_from_digits 10) (values_are (digits_from 10 (suc n)) (all_below_base_digits_of 10 (suc n) (omega arith)))
    ∙ number_digits_of 10 (suc n) (omega arith)

number_not_idle : (n : ℕ) → has_idle_zero (number n) ≡ false
unfolding number
number_not_idle zero = refl
number_not_idle (suc n) = not_idle (digits_from 10 (suc n)) (first_digits_of 10 (suc n) (omega arith) (omega arith))

pub number_some : (n : ℕ) → nat_le 1 (length (number n)) ≡ true
unfolding number
number_some zero = refl
number_some (suc n) = some_digit (digits_from 10 (suc n)) (first_digits_of 10 (suc n) (omega arith) (omega arith))

-- a number is read from its digits
pub number_back : (most n : ℕ) → n ≤ most → number_of most (number n) ≡ Some n
unfolding number_of
number_back most n le = rw (number_not_idle n, number_some n, number_digits n, number_value n, le-leb n most le) refl

-- ---- numbers with a sign

and_left : (a b : Bool) → (a && b) ≡ true → a ≡ true
and_left true b h = refl
and_left false b h = absurd cc

not_minus : (c : ℕ) → is_ascii_digit c ≡ true → (c == 45) ≡ false
not_minus c h = grind (arith, nat_tests)

unsigned : (w : Word) → nat_le 1 (length w) ≡ true → list_all is_ascii_digit w ≡ true → integer_of w ≡ option_map pos (number_of 32767 w)
unfolding integer_of
unsigned [] some digits = absurd (let no : false ≡ true = some in cc)
unsigned (c ∷ cs) some digits = rw (not_minus c (and_left _ _ digits)) refl

pub integer_back : (z : ℤ) → FitsSigned w16 z → integer_of (integer z) ≡ Some z
unfolding integer integer_of
integer_back (pos n) fits = unsigned (number n) (number_some n) (number_digits n) ∙ ap (option_map pos) (number_back 32767 n (omega arith))
integer_back (negsuc n) fits = rw (number_back 32768 (suc n) (omega arith)) refl

-- ---- names

and_right : (a b : Bool) → (a && b) ≡ true → b ≡ true
and_right true b h = h
and_right false b h = absurd cc

pub free_digits : (c : ℕ) → ((x : ℕ) → is_ascii_digit x ≡ true → (x == c) ≡ false) → (w : Word) → list_all is_ascii_digit w ≡ true
    → Free c w
free_digits c other [] h = tt
free_digits c other (x ∷ xs) h = (other x (and_left _ _ h), free_digits c other xs (and_right _ _ h))

no_dot : (x : ℕ) → is_ascii_digit x ≡ true → (x == 46) ≡ false
no_dot x h = grind (arith, nat_tests)

no_colon : (x : ℕ) → is_ascii_digit x ≡ true → (x == 58) ≡ false
no_colon x h = grind (arith, nat_tests)

name_parts : (n : Name) → name n ≡ number n.stamp.time ++ 46 ∷ (number n.stamp.replica ++ 58 ∷ number n.index)
unfolding name stamp
name_parts n = append_assoc (number n.stamp.time) (46 ∷ number n.stamp.replica) (58 ∷ number n.index)

abbrev made : ℕ → ℕ → ℕ → Name
made t r i = record { stamp = record { time = t; replica = r }; index = i }

pub name_back : (n : Name) → IsName n → name_of (name n) ≡ Some n
unfolding name_of
name_back n fits =
    rw (
      name_parts n,
      cut_at 46 (number n.stamp.time) (number n.stamp.replica ++ 58 ∷ number n.index) (free_digits 46 no_dot (number n.stamp.time) (number_digits n.stamp.time)),
      cut_at 58 (number n.stamp.replica) (number n.index) (free_digits 58 no_colon (number n.stamp.replica) (number_digits n.stamp.replica)),
      number_back 281474976710655 n.stamp.time (omega (arith, fits.0.0)),
      number_back 65535 n.stamp.replica (omega (arith, fits.0.1)),
      number_back 4294967295 n.index (omega (arith, fits.1)),
    ) refl

-- ---- colours

hex_back : (n : ℕ) → n < 16 → hex_of (digit_glyph false n) ≡ Some n
hex_back n lt = go (nat_lt n 10) refl
  where
    go : (b : Bool) → nat_lt n 10 ≡ b → hex_of (cond b (48 + n) (87 + n)) ≡ Some n
    go true small =
        let low : nat_le 48 (48 + n) ≡ true = grind (arith, nat_tests) in
        let high : nat_le (48 + n) 57 ≡ true = grind (arith, nat_tests) in
        let less : 48 + n - 48 ≡ n = omega arith in
        rw (low, high, less) refl
    go false large =
        let over : nat_le (87 + n) 57 ≡ false = grind (arith, nat_tests) in
        let under : nat_le 48 (87 + n) ≡ true = grind (arith, nat_tests) in
        let low : nat_le 97 (87 + n) ≡ true = grind (arith, nat_tests) in
        let high : nat_le (87 + n) 102 ≡ true = grind (arith, nat_tests) in
        let less : 87 + n - 87 ≡ n = omega arith in
        rw (under, over, low, high, less) refl

pub colour_back : (n : ℕ) → n < 256 → colour_of (colour n) ≡ Some n
unfolding hex
colour_back n lt =
    let all : (n / 16) * 16 + n % 16 ≡ n = omega arith in
    rw (hex_back (n / 16) (omega arith), hex_back (n % 16) (omega arith), all) refl

-- ---- strings

string_chars : (s : List ℕ) → AreBytes s → chars (text_of s) ≡ map text_point s
string_chars s bytes = ap chars (encoded s) ∙ chars-encodes (map text_point s) (are_scalars s bytes)

length-points : (s : List ℕ) → length (map text_point s) ≡ length s
length-points [] = refl
length-points (b ∷ bs) = ap (λ n. suc n) (length-points bs)

pub string_back : (most : ℕ) (s : List ℕ) → AreBytes s → nat_le (length s) most ≡ true → string_of most (text_of s) ≡ Some s
string_back most s bytes short = rw (string_chars s bytes, all_known s bytes, length-points s, short, bytes_same s bytes) refl
