-- Texts that lack a byte.
use Rattle.std.proofs.Common.{◌≡◌, ℕ, zero, suc, ◌+◌, ◌<◌, Bool, true, false, ◌&&◌, not, List, [], ◌∷◌, ◌++◌, map, refl, arith}
use Rattle.std.specs.Prelude.{◌==◌, slice_index_or}
use Rattle.std.specs.Char.{encode_utf8}
use Rattle.std.specs.List.{list_all}
use Rattle.std.specs.Int.Digits.{digits_of, AllBelowBase}
use Rattle.std.proofs.lemmas.Int.Digits.{all_below_base_digits_of}
use Rattle.std.proofs.lemmas.Bool.Decides.{nat_tests}
use Rattle.zed_look.specs.declared.look.Spot.{Spot}
use Rattle.zed_plaintext.specs.CodePage.{code_points, code_point}
use Rattle.zed_look.specs.Glyphs.{glyph}
use Rattle.zed_look.specs.Parts.{number}
use Rattle.zed_look.specs.Plain.{characters_of}

-- the byte b is not in a text
abbrev pub Lacks : ℕ → List ℕ → Type 0
Lacks b [] = Unit {0}
Lacks b (c ∷ text) = ((c == b) ≡ false) × Lacks b text

pub lacks-append : (b : ℕ) (xs ys : List ℕ) → Lacks b xs → Lacks b ys → Lacks b (xs ++ ys)
lacks-append b [] ys h k = k
lacks-append b (c ∷ xs) ys h k = (h.0, lacks-append b xs ys h.1 k)

-- ---- digits

digit_is_less : (d : ℕ) → d < 10 → ((48 + d) == 109) ≡ false
digit_is_less d lt = grind (arith, nat_tests)

digits_lack : (ds : List ℕ) → AllBelowBase 10 ds → Lacks 109 (map (λ d. 48 + d) ds)
digits_lack [] h = tt
digits_lack (d ∷ ds) h = (digit_is_less d h.0, digits_lack ds h.1)

pub number_lacks : (n : ℕ) → Lacks 109 (number n)
unfolding number
number_lacks zero = (refl, tt)
number_lacks (suc n) = digits_lack (digits_of 10 (suc n)) (all_below_base_digits_of 10 (suc n) (omega arith))

-- ---- characters

abbrev lacks : ℕ → List ℕ → Bool
lacks b [] = true
lacks b (c ∷ text) = not (c == b) && lacks b text

and_left : (p q : Bool) → (p && q) ≡ true → p ≡ true
and_left true q h = refl
and_left false q h = absurd (cc)

and_right : (p q : Bool) → (p && q) ≡ true → q ≡ true
and_right true q h = h
and_right false q h = absurd (cc)

not_true : (p : Bool) → not p ≡ true → p ≡ false
not_true true h = absurd (cc)
not_true false h = refl

lacks_of : (b : ℕ) (text : List ℕ) → lacks b text ≡ true → Lacks b text
lacks_of b [] h = tt
lacks_of b (c ∷ text) h =
    (not_true (c == b) (and_left (not (c == b)) (lacks b text) h), lacks_of b text (and_right (not (c == b)) (lacks b text) h))

each_of : (p : ℕ → Bool) (xs : List ℕ) (n d : ℕ) → list_all p xs ≡ true → p d ≡ true → p (slice_index_or xs n d) ≡ true
each_of p [] n d h k = k
each_of p (x ∷ xs) zero d h k = and_left (p x) (list_all p xs) h
each_of p (x ∷ xs) (suc n) d h k = each_of p xs n d (and_right (p x) (list_all p xs) h) k

all_lack_escape : list_all (λ x. lacks 27 (encode_utf8 x)) code_points ≡ true
unfolding encode_utf8
all_lack_escape = refl

all_lack_feed : list_all (λ x. lacks 10 (encode_utf8 x)) code_points ≡ true
unfolding encode_utf8
all_lack_feed = refl

blank_lacks_escape : lacks 27 (encode_utf8 32) ≡ true
unfolding encode_utf8
blank_lacks_escape = refl

blank_lacks_feed : lacks 10 (encode_utf8 32) ≡ true
unfolding encode_utf8
blank_lacks_feed = refl

pub glyph_lacks_escape : (c : ℕ) → Lacks 27 (glyph c)
unfolding glyph code_point
glyph_lacks_escape c = lacks_of 27 (glyph c) (each_of (λ x. lacks 27 (encode_utf8 x)) code_points c 32 all_lack_escape blank_lacks_escape)

pub glyph_lacks_feed : (c : ℕ) → Lacks 10 (glyph c)
unfolding glyph code_point
glyph_lacks_feed c = lacks_of 10 (glyph c) (each_of (λ x. lacks 10 (encode_utf8 x)) code_points c 32 all_lack_feed blank_lacks_feed)

pub row_lacks_feed : (row : List Spot) → Lacks 10 (characters_of row)
row_lacks_feed [] = tt
row_lacks_feed (s ∷ row) = lacks-append 10 (glyph s.character) (characters_of row) (glyph_lacks_feed s.character) (row_lacks_feed row)
