-- An element is read from its word and its number.
use Rattle.std.proofs.Common.{◌≡◌, ◌∙◌, ℕ, zero, suc, ◌<◌, ◌==◌, Bool, true, false, not, [], ◌∷◌, ◌++◌, map, Some, None, refl, sym, ap, arith, append_assoc, cond, length, length-append}
use Rattle.std.specs.Prelude.{◌&&◌}
use Rattle.std.specs.List.{list_all}
use Rattle.std.specs.Str.{bytes_eq}
use Rattle.std.specs.Char.{is_ascii_digit, to_ascii_lowercase}
use Rattle.std.proofs.lemmas.Bool.Decides.{nat_tests}
use Rattle.zed_types.specs.Elements.{Row, row, rows}
use Rattle.zed_types.specs.declared.kind.Look.TheVariants.{Character}
use Rattle.zed_types.specs.declared.kind.Push.TheVariants.{Not}
use Rattle.zed_log.specs.Fields.{element, element_word, number}
use Rattle.zed_log.proofs.Elements.{at_row}
use Rattle.zed_plaintext.specs.Digits.{digits_of}
use Rattle.zed_set_words.specs.Values.{Word, element_below, element_of, has_idle_zero, is_word_of, number_of, worded_of}
use Rattle.cmd_set.proofs.Back.{free_digits, number_back, number_digits}
use Rattle.zed_set_words.proofs.Cuts.{Free, cut_at}
use Rattle.zed_set_words.proofs.Tests.{eq_of}

-- not `(`
abbrev is_letter : ℕ → Bool
is_letter c = not (c == 40)

and_left : (a b : Bool) → (a && b) ≡ true → a ≡ true
and_left true b h = refl
and_left false b h = absurd cc

and_right : (a b : Bool) → (a && b) ≡ true → b ≡ true
and_right true b h = h
and_right false b h = absurd cc

not_true : (a : Bool) → not a ≡ true → a ≡ false
not_true true h = absurd cc
not_true false h = refl

free_letters : (w : Word) → list_all is_letter w ≡ true → Free 40 w
free_letters [] h = tt
free_letters (c ∷ cs) h = (not_true (c == 40) (and_left _ _ h), free_letters cs (and_right _ _ h))

abbrev has_letters : Row → Bool
has_letters r = list_all is_letter (map to_ascii_lowercase r.word)

-- no word of an element has `(`
letters : (n : ℕ) → list_all is_letter (element_word n) ≡ true
letters n = at_row has_letters rows n (row [] (Character 63) false Not false) refl refl

-- and in small letters it stays what it is
abbrev is_small : Row → Bool
is_small r = bytes_eq (map to_ascii_lowercase (map to_ascii_lowercase r.word)) (map to_ascii_lowercase r.word)

small : (n : ℕ) → is_word_of (element_word n) n ≡ true
unfolding is_word_of
small n = at_row is_small rows n (row [] (Character 63) false Not false) refl refl

-- with its number it has
abbrev with_number : ℕ → Word
with_number n = element_word n ++ 40 ∷ (number n ++ 41 ∷ [])

parts : (n : ℕ) → element n ≡ with_number n
unfolding element
parts n = append_assoc (element_word n) (40 ∷ number n) (41 ∷ [])

not_letters : (w x : Word) → list_all is_letter (map to_ascii_lowercase (w ++ 40 ∷ x)) ≡ false
not_letters [] x = refl
not_letters (c ∷ cs) x = go (is_letter (to_ascii_lowercase c)) (not_letters cs x)
  where
    go : (b : Bool) → list_all is_letter (map to_ascii_lowercase (cs ++ 40 ∷ x)) ≡ false
        → (b && list_all is_letter (map to_ascii_lowercase (cs ++ 40 ∷ x))) ≡ false
    go true rest = rest
    go false rest = refl

other_word : (w x : Word) (n : ℕ) → is_word_of (w ++ 40 ∷ x) n ≡ false
unfolding is_word_of
other_word w x n = go (is_word_of (w ++ 40 ∷ x) n) refl
  where
    go : (b : Bool) → is_word_of (w ++ 40 ∷ x) n ≡ b → b ≡ false
    go false is = refl
    go true is = absurd (
        let same : map to_ascii_lowercase (w ++ 40 ∷ x) ≡ element_word n = eq_of _ _ is in
        let no : false ≡ true = sym (not_letters w x) ∙ ap (list_all is_letter) same ∙ letters n in
        cc)

none_below : (n : ℕ) (w x : Word) → element_below n (w ++ 40 ∷ x) ≡ None
none_below zero w x = refl
none_below (suc n) w x = rw (other_word w x n) (none_below n w x)

some_length : (w x : Word) → (length (w ++ 40 ∷ x) == 0) ≡ false
some_length w x = let is = length-append w (40 ∷ x) in grind (arith, nat_tests)

not_worded : (w x : Word) → worded_of (w ++ 40 ∷ x) ≡ None
unfolding worded_of
not_worded w x = rw (some_length w x) (none_below 54 w x)

not_digits : (w x : Word) → list_all is_ascii_digit (w ++ 40 ∷ x) ≡ false
not_digits [] x = refl
not_digits (c ∷ cs) x = go (is_ascii_digit c) (not_digits cs x)
  where
    go : (b : Bool) → list_all is_ascii_digit (cs ++ 40 ∷ x) ≡ false → (b && list_all is_ascii_digit (cs ++ 40 ∷ x)) ≡ false
    go true rest = rest
    go false rest = refl

no_digits : (most : ℕ) (some fits : Bool) (v : ℕ) → cond ((some && false) && fits) (Some v) None ≡ None
no_digits most true fits v = refl
no_digits most false fits v = refl

no_number : (most : ℕ) (w : Word) → list_all is_ascii_digit w ≡ false → number_of most w ≡ None
unfolding number_of
no_number most w none = go (has_idle_zero w)
  where
    go : (b : Bool) → cond b None (digits_of most w) ≡ None
    go true = refl
    go false = rw none (no_digits most _ _ _)

no_closing : (x : ℕ) → is_ascii_digit x ≡ true → (x == 41) ≡ false
no_closing x h = grind (arith, nat_tests)

pub element_back : (n : ℕ) → n < 256 → element_of (element n) ≡ Some n
unfolding element_of
element_back n lt =
    rw (
      parts n,
      no_number 255 (element_word n ++ 40 ∷ (number n ++ 41 ∷ [])) (not_digits (element_word n) (number n ++ 41 ∷ [])),
      not_worded (element_word n) (number n ++ 41 ∷ []),
      cut_at 40 (element_word n) (number n ++ 41 ∷ []) (free_letters (element_word n) (letters n)),
      cut_at 41 (number n) [] (free_digits 41 no_closing (number n) (number_digits n)),
      number_back 255 n (omega arith),
      small n,
    ) refl
