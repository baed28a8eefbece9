-- Numbers as bytes: a number that is read is spelled so, and a number that is spelled is read again.
use Rattle.std.proofs.Common.{◌≡◌, ℕ, zero, suc, ◌+◌, ◌*◌, ◌/◌, ◌%◌, ◌^◌, ◌<◌, ◌≤◌, List, [], ◌∷◌, ◌++◌, length, get_or, take, drop, refl, sym, ap, ◌∙◌, arith}
use Rattle.std.proofs.Math.Nat.{div-div-eq-div-mul, div-one, pow-succ'}
use Rattle.std.proofs.lemmas.List.{get_or-drop}
use Rattle.std.specs.Int.{byte_at, bytes_low_first}
use Rattle.byteorder.specs.Endian.{little_number, little_from}
use Rattle.byteorder.specs.Numbers.{length-bytes_low_first, little_from-cons, little_from-lt, little_number-reads_back}
use Rattle.zed_editfile.specs.Spelling.{number}

abbrev pub IsBytes : List ℕ → Type 0
IsBytes bytes = (i : ℕ) → get_or bytes i 0 < 256

pub IsBytes-drop : (n : ℕ) (bytes : List ℕ) → IsBytes bytes → IsBytes (drop n bytes)
IsBytes-drop n bytes h i = rw get_or-drop (h (n + i))

pub IsBytes-rest : (b : ℕ) (bytes : List ℕ) → IsBytes (b ∷ bytes) → IsBytes bytes
IsBytes-rest b bytes h i = h (suc i)

pub IsBytes-behind : (front bytes : List ℕ) → IsBytes (front ++ bytes) → IsBytes bytes
IsBytes-behind [] bytes h = h
IsBytes-behind (b ∷ front) bytes h = IsBytes-behind front bytes (IsBytes-rest b (front ++ bytes) h)

pub IsBytes-front : (front bytes : List ℕ) → IsBytes (front ++ bytes) → IsBytes front
IsBytes-front [] bytes h i = omega arith
IsBytes-front (b ∷ front) bytes h zero = h 0
IsBytes-front (b ∷ front) bytes h (suc i) = IsBytes-front front bytes (IsBytes-rest b (front ++ bytes) h) i

pub length_number : (n x : ℕ) → length (number n x) ≡ n
unfolding number
length_number n x = length-bytes_low_first 0 n x

byte_at-pow : (k x : ℕ) → byte_at k x ≡ x / 256 ^ k % 256
byte_at-pow zero x = ap (λ (y : ℕ). y % 256) (sym (div-one x))
byte_at-pow (suc k) x = refl

next_byte : (i b m : ℕ) → b < 256 → byte_at (suc i) (b + 256 * m) ≡ byte_at i m
next_byte i b m lt =
    let low : (b + 256 * m) / 256 ≡ m = omega arith in
    let split : (b + 256 * m) / 256 ^ suc i ≡ m / 256 ^ i =
    ap (λ (p : ℕ). (b + 256 * m) / p) (pow-succ' 256 i) ∙ sym (div-div-eq-div-mul (b + 256 * m) 256 (256 ^ i))
    ∙ ap (λ (y : ℕ). y / 256 ^ i) low in
    ap (λ (y : ℕ). y % 256) split ∙ sym (byte_at-pow i m)

-- the bytes above the lowest
next_bytes : (i k b m : ℕ) → b < 256 → bytes_low_first (suc i) k (b + 256 * m) ≡ bytes_low_first i k m
next_bytes i zero b m lt = refl
next_bytes i (suc k) b m lt = rw (next_byte i b m lt, next_bytes (suc i) k b m lt) refl

bytes_again : (n : ℕ) (bytes : List ℕ) → IsBytes bytes → n ≤ length bytes → bytes_low_first 0 n (little_from 0 n bytes) ≡ take n bytes
bytes_again zero bytes h le = refl
bytes_again (suc n) [] h le = absurd (omega arith)
bytes_again (suc n) (b ∷ bytes) h le =
    let lt : b < 256 = h 0 in
    let m : ℕ = little_from 0 n bytes in
    let whole : little_from 0 (suc n) (b ∷ bytes) ≡ b + 256 * m = ap (λ (r : ℕ). b + 256 * r) (little_from-cons 0 n b bytes) in
    let low : (b + 256 * m) % 256 ≡ b = omega arith in
    ap (bytes_low_first 0 (suc n)) whole ∙ rw (low, next_bytes 0 n b m lt) (ap (λ (t : List ℕ). b ∷ t) (bytes_again n bytes (IsBytes-rest b bytes h) (omega arith)))

-- a number that is read is spelled so
pub number_is : (n : ℕ) (bytes : List ℕ) → IsBytes bytes → n ≤ length bytes → number n (little_number n bytes) ≡ take n bytes
unfolding number
number_is n bytes h le = bytes_again n bytes h le

pub number_below : (n : ℕ) (bytes : List ℕ) → IsBytes bytes → little_number n bytes < 256 ^ n
number_below n bytes h = little_from-lt 0 n bytes h

-- a number that is spelled is read again
pub number_back : (n x : ℕ) (rest : List ℕ) → x < 256 ^ n → little_number n (number n x ++ rest) ≡ x
unfolding number
number_back n x rest lt = little_number-reads_back n x rest lt
