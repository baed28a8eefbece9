-- What is printed of a program is read as that program.
use Rattle.std.proofs.Common.{◌≡◌, ◌∙◌, ◌+◌, ◌<◌, ℕ, zero, suc, Bool, true, false, ◌&&◌, not, List, [], ◌∷◌, ◌++◌, map, length, ap, ap₂, arith, Option, Some, None, Result, Ok, refl, subst, sym}
use Rattle.std.specs.Prelude.{◌==◌}
use Rattle.std.specs.Char.{encode_utf8}
use Rattle.std.specs.List.{AllByRecursion, filter_map, flat_map, list_all, range_with_len}
use Rattle.std.specs.Str.{IsUtf8, chars}
use Rattle.std.specs.Str.Lossy.{utf8_lossy}
use Rattle.std.proofs.Math.Utf8.{scalar, scalars, encodes}
use Rattle.std.proofs.lemmas.Str.{chars-encodes, utf8_lossy-IsUtf8}
use Rattle.zed_plaintext.specs.CodePage.{code_point}
use Rattle.zed_plaintext.specs.declared.error.BadText.{BadText}
use Rattle.zed_plaintext.specs.Characters.{byte_of, first_of, is_known, text_point}
use Rattle.zed_plaintext.specs.Reading.{fed_behind, program_in, spelled, unmarked}
use Rattle.zed_plaintext.specs.Text.{text_of}
use Rattle.zed_plaintext.proofs.Lists.{and_first, and_second}

-- ---- each byte

abbrev is_just : Option ℕ → ℕ → Bool
is_just None b = false
is_just (Some c) b = c == b

-- the character of a byte is one, no carriage return and no mark of the order of bytes, and tells the byte
abbrev is_fine : ℕ → Bool
is_fine b = scalar (text_point b) && (not (text_point b == 13) && (not (text_point b == 65279) && is_just (byte_of (text_point b)) b))

all_fine : list_all is_fine (range_with_len 0 256) ≡ true
unfolding byte_of first_of code_point
all_fine = refl

each_at : (p : ℕ → Bool) (n a k : ℕ) → list_all p (range_with_len a n) ≡ true → k < n → p (a + k) ≡ true
each_at p zero a k all lt = absurd (omega (arith, lt))
each_at p (suc n) a zero all lt =
    let e : a ≡ a + 0 = omega arith in
    subst (λ m. p m ≡ true) e (and_first (p a) (list_all p (range_with_len (a + 1) n)) all)
each_at p (suc n) a (suc k) all lt =
    let e : (a + 1) + k ≡ a + suc k = omega arith in
    subst (λ m. p m ≡ true) e (each_at p n (a + 1) k (and_second (p a) (list_all p (range_with_len (a + 1) n)) all) (omega (arith, lt)))

fine : (b : ℕ) → b < 256 → is_fine b ≡ true
fine b lt = let e : 0 + b ≡ b = omega arith in subst (λ m. is_fine m ≡ true) e (each_at is_fine 256 0 b all_fine lt)

not_so : (p : Bool) → not p ≡ true → p ≡ false
not_so true h = absurd (cc)
not_so false h = refl

just_is : (o : Option ℕ) (b : ℕ) → is_just o b ≡ true → o ≡ Some b
just_is None b h = absurd (cc)
just_is (Some c) b h = let e : c ≡ b = grind (arith, h) in ap (λ n. Some n) e

fine_scalar : (b : ℕ) → b < 256 → scalar (text_point b) ≡ true
fine_scalar b lt = and_first (scalar (text_point b)) (not (text_point b == 13) && (not (text_point b == 65279) && is_just (byte_of (text_point b)) b)) (fine b lt)

fine_rest : (b : ℕ) → b < 256 → (not (text_point b == 13) && (not (text_point b == 65279) && is_just (byte_of (text_point b)) b)) ≡ true
fine_rest b lt = and_second (scalar (text_point b)) (not (text_point b == 13) && (not (text_point b == 65279) && is_just (byte_of (text_point b)) b)) (fine b lt)

fine_return : (b : ℕ) → b < 256 → (text_point b == 13) ≡ false
fine_return b lt = not_so (text_point b == 13) (and_first (not (text_point b == 13)) (not (text_point b == 65279) && is_just (byte_of (text_point b)) b) (fine_rest b lt))

fine_last : (b : ℕ) → b < 256 → (not (text_point b == 65279) && is_just (byte_of (text_point b)) b) ≡ true
fine_last b lt = and_second (not (text_point b == 13)) (not (text_point b == 65279) && is_just (byte_of (text_point b)) b) (fine_rest b lt)

fine_mark : (b : ℕ) → b < 256 → (text_point b == 65279) ≡ false
fine_mark b lt =
    not_so (text_point b == 65279) (and_first (not (text_point b == 65279)) (is_just (byte_of (text_point b)) b) (fine_last b lt))

fine_byte : (b : ℕ) → b < 256 → byte_of (text_point b) ≡ Some b
fine_byte b lt =
    just_is (byte_of (text_point b)) b (and_second (not (text_point b == 65279)) (is_just (byte_of (text_point b)) b) (fine_last b lt))

-- ---- all bytes of a program

abbrev AreBytes : List ℕ → Type 0
AreBytes p = AllByRecursion (λ b. b < 256) p

points : List ℕ → List ℕ
points p = map text_point p

pub encoded : (p : List ℕ) → text_of p ≡ encodes (map text_point p)
encoded [] = refl
encoded (b ∷ p) = ap (λ t. encode_utf8 (text_point b) ++ t) (encoded p)

pub are_scalars : (p : List ℕ) → AreBytes p → scalars (map text_point p) ≡ true
are_scalars [] h = refl
are_scalars (b ∷ p) h = rw (fine_scalar b h.0, are_scalars p h.1) refl

unmarked_same : (p : List ℕ) → AreBytes p → unmarked (map text_point p) ≡ map text_point p
unmarked_same [] h = refl
unmarked_same (b ∷ p) h = rw (fine_mark b h.0) refl

fed_same : (before : ℕ) (p : List ℕ) → (before == 13) ≡ false → AreBytes p → fed_behind before (map text_point p) ≡ map text_point p
fed_same before [] other h = refl
fed_same before (b ∷ p) other h =
    rw (other, fine_return b h.0) (ap (λ cs. text_point b ∷ cs) (fed_same (text_point b) p (fine_return b h.0) h.1))

pub all_known : (p : List ℕ) → AreBytes p → list_all is_known (map text_point p) ≡ true
all_known [] h = refl
all_known (b ∷ p) h = rw (fine_byte b h.0, all_known p h.1) refl

pub bytes_same : (p : List ℕ) → AreBytes p → filter_map byte_of (map text_point p) ≡ p
bytes_same [] h = refl
bytes_same (b ∷ p) h = rw (fine_byte b h.0) (ap (λ q. b ∷ q) (bytes_same p h.1))

spelled_again : (p : List ℕ) → AreBytes p → spelled (map text_point p) ≡ Ok p
unfolding spelled
spelled_again p h = rw (all_known p h, bytes_same p h) refl

chars_again : (p : List ℕ) → AreBytes p → chars (utf8_lossy (text_of p)) ≡ map text_point p
chars_again p h =
    let cs = map text_point p in
    let fine = are_scalars p h in
    let is : IsUtf8 (text_of p) = (cs, (fine, sym (encoded p))) in
    ap chars (utf8_lossy-IsUtf8 (text_of p) is ∙ encoded p) ∙ chars-encodes cs fine

pub again : (p : List ℕ) → AllByRecursion (λ b. b < 256) p → program_in (text_of p) ≡ Ok p
unfolding program_in
again p h =
    let none : (0 == 13) ≡ false = refl in
    rw (chars_again p h, unmarked_same p h, fed_same 0 p none h) (spelled_again p h)

-- no text is of no program
pub empty : (text : List ℕ) → length text ≡ 0 → program_in text ≡ Ok []
empty [] is = again [] tt
empty (b ∷ text) is = absurd (omega (arith, is))
