-- Characters of a word, one by one.
use Rattle.std.proofs.Common.{◌≡◌, ◌≢◌, ◌∙◌, ℕ, zero, suc, ◌+◌, ◌-◌, ◌<◌, ◌≤◌, Bool, true, false, List, [], ◌∷◌, ◌++◌, length, length-append, append_assoc, append-nil, drop, get_or, Some, None, refl, sym, ap, arith, nat_le}
use Rattle.std.specs.Prelude.{◌&&◌}
use Rattle.std.specs.List.{filter_map, list_all}
use Rattle.std.proofs.lemmas.Bool.{le-leb}
use Rattle.std.proofs.lemmas.Bool.Decides.{nat_tests}
use Rattle.std.proofs.lemmas.List.{at_drop_all, at_drop_more}
use Rattle.zed_plaintext.specs.Characters.{byte_of, is_known}
use Rattle.zed_set_words.specs.Strings.{are_bytes}

-- where a character stands in a list
abbrev pub IsAt : List ℕ → ℕ → ℕ → Type 0
IsAt cs n c = (n < length cs) × (c ≡ get_or cs n c)

-- ---- their bytes

abbrev bytes : List ℕ → List ℕ
bytes cs = filter_map byte_of cs

some_byte : (cs : List ℕ) (n c b : ℕ) → IsAt cs n c → byte_of c ≡ Some b → bytes (drop n cs) ≡ b ∷ bytes (drop (n + 1) cs)
some_byte cs n c b at is =
    let here : byte_of (get_or cs n c) ≡ Some b = ap byte_of (sym at.1) ∙ is in
    let head : bytes (get_or cs n c ∷ drop (n + 1) cs) ≡ b ∷ bytes (drop (n + 1) cs) = rw here refl in
    at_drop_more bytes cs n c at.0 ∙ head

-- a byte more
pub byte_more : (cs : List ℕ) (n c b : ℕ) (made : List ℕ) → IsAt cs n c → byte_of c ≡ Some b
    → (made ++ b ∷ []) ++ bytes (drop (n + 1) cs) ≡ made ++ bytes (drop n cs)
byte_more cs n c b made at is =
    append_assoc made (b ∷ []) (bytes (drop (n + 1) cs)) ∙ ap (λ l. made ++ l) (sym (some_byte cs n c b at is))

-- or none
pub byte_none : (cs : List ℕ) (n c : ℕ) (made : List ℕ) → IsAt cs n c → byte_of c ≡ None
    → made ++ bytes (drop (n + 1) cs) ≡ made ++ bytes (drop n cs)
byte_none cs n c made at is =
    let here : byte_of (get_or cs n c) ≡ None = ap byte_of (sym at.1) ∙ is in
    let head : bytes (get_or cs n c ∷ drop (n + 1) cs) ≡ bytes (drop (n + 1) cs) = rw here refl in
    ap (λ l. made ++ l) (sym (at_drop_more bytes cs n c at.0 ∙ head))

-- with a byte there are some
pub byte_there : (cs : List ℕ) (n c b : ℕ) (made all : List ℕ) → IsAt cs n c → byte_of c ≡ Some b → made ++ bytes (drop n cs) ≡ all
    → 0 < length all
byte_there cs n c b made all at is whole =
    let more : made ++ b ∷ bytes (drop (n + 1) cs) ≡ all = ap (λ l. made ++ l) (sym (some_byte cs n c b at is)) ∙ whole in
    let long = length-append made (b ∷ bytes (drop (n + 1) cs)) in
    let same : length (made ++ b ∷ bytes (drop (n + 1) cs)) ≡ length all = ap length more in
    omega arith

-- all are there
pub bytes_end : (cs : List ℕ) (n : ℕ) (made all : List ℕ) → length cs ≤ n → made ++ bytes (drop n cs) ≡ all → made ≡ all
bytes_end cs n made all le whole = sym (append-nil made) ∙ ap (λ l. made ++ l) (sym (at_drop_all bytes cs n le)) ∙ whole

-- ---- whether they are bytes, and few enough

and_false : (b : Bool) → (b && false) ≡ false
and_false true = refl
and_false false = refl

-- there is room for one that is a byte
pub fit_more : (cs : List ℕ) (n c left : ℕ) → IsAt cs n c → is_known c ≡ true → left ≢ 0
    → are_bytes (left - 1) (drop (n + 1) cs) ≡ are_bytes left (drop n cs)
fit_more cs n c zero at known room = absurd (room refl)
fit_more cs n c (suc left) at known room =
    let here : is_known (get_or cs n c) ≡ true = ap is_known (sym at.1) ∙ known in
    let less : suc left - 1 ≡ left = omega arith in
    let same : nat_le (length (drop (n + 1) cs)) left ≡ nat_le (suc (length (drop (n + 1) cs))) (suc left) = grind (arith, nat_tests) in
    let head : are_bytes (suc left) (get_or cs n c ∷ drop (n + 1) cs) ≡ (list_all is_known (drop (n + 1) cs) && nat_le (suc (length (drop (n + 1) cs))) (suc left)) = rw here refl in
    ap (λ m. are_bytes m (drop (n + 1) cs)) less ∙ ap (λ t. list_all is_known (drop (n + 1) cs) && t) same ∙ sym head
    ∙ sym (at_drop_more (are_bytes (suc left)) cs n c at.0)

-- one that is none
pub fit_none : (cs : List ℕ) (n c left : ℕ) → IsAt cs n c → is_known c ≡ false → are_bytes left (drop n cs) ≡ false
fit_none cs n c left at unknown =
    let here : is_known (get_or cs n c) ≡ false = ap is_known (sym at.1) ∙ unknown in
    let head : are_bytes left (get_or cs n c ∷ drop (n + 1) cs) ≡ false = rw here refl in
    at_drop_more (are_bytes left) cs n c at.0 ∙ head

-- no room
pub fit_full : (cs : List ℕ) (n c : ℕ) → IsAt cs n c → are_bytes 0 (drop n cs) ≡ false
fit_full cs n c at =
    let none : nat_le (suc (length (drop (n + 1) cs))) 0 ≡ false = grind (arith, nat_tests) in
    at_drop_more (are_bytes 0) cs n c at.0 ∙ ap (λ t. list_all is_known (get_or cs n c ∷ drop (n + 1) cs) && t) none
    ∙ and_false (list_all is_known (get_or cs n c ∷ drop (n + 1) cs))

-- all are some
pub fit_end : (cs : List ℕ) (n left : ℕ) → length cs ≤ n → are_bytes left (drop n cs) ≡ true
fit_end cs n left le = let room : nat_le 0 left ≡ true = le-leb 0 left (omega arith) in at_drop_all (are_bytes left) cs n le ∙ room
