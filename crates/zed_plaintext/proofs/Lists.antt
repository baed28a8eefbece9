-- Characters up to one of them.
use Rattle.std.proofs.Common.{◌≡◌, ◌∙◌, ◌+◌, ◌-◌, ◌<◌, ◌≤◌, ℕ, zero, suc, Bool, true, false, ◌&&◌, List, [], ◌∷◌, ◌++◌, length, take, get_or, ap, arith, Option, Some, None, Err, is_some, not, refl, sym, cond}
use Rattle.std.specs.Prelude.{◌==◌, take_while}
use Rattle.std.specs.List.{filter_map, find, list_all, prefix_len, range_with_len, suffix_len}
use Rattle.std.proofs.lemmas.Bool.{eq-eqb, eqb-true}
use Rattle.std.proofs.lemmas.List.{take_more}
use Rattle.std.proofs.lemmas.List.Elements.{filter_map-append}
use Rattle.std.proofs.lemmas.List.Folds.{list_all_at, list_all_more}
use Rattle.std.proofs.lemmas.List.Sums.{suffix_len-take_no, suffix_len-take_yes}
use Rattle.zed_plaintext.specs.declared.error.BadText.{BadText}
use Rattle.zed_plaintext.specs.Characters.{byte_of, first_of, is_known, text_point}
use Rattle.zed_plaintext.specs.Place.{place_behind}
use Rattle.zed_plaintext.specs.Reading.{spelled}

pub and_first : (p q : Bool) → (p && q) ≡ true → p ≡ true
and_first true q h = refl
and_first false q h = absurd (cc)

pub and_second : (p q : Bool) → (p && q) ≡ true → q ≡ true
and_second true q h = h
and_second false q h = absurd (cc)

-- those that pass in front of the first that doesn't
prefix_is : (p : ℕ → Bool) (cs : List ℕ) (i d : ℕ) → i < length cs → list_all p (take i cs) ≡ true → p (get_or cs i d) ≡ false
    → prefix_len p cs ≡ i
prefix_is p [] i d lt all fails = absurd (omega (arith, lt))
prefix_is p (c ∷ cs) zero d lt all fails = rw fails refl
prefix_is p (c ∷ cs) (suc i) d lt all fails =
    let here = and_first (p c) (list_all p (take i cs)) all in
    let more = prefix_is p cs i d (omega (arith, lt)) (and_second (p c) (list_all p (take i cs)) all) fails in
    rw here (omega (arith, more))

-- the first character that fails program has
pub spelled_not : (cs : List ℕ) (i d : ℕ) → i < length cs → list_all is_known (take i cs) ≡ true → is_known (get_or cs i d) ≡ false
    → spelled cs ≡ Err (place_behind (take i cs))
unfolding spelled
spelled_not cs i d lt all fails =
    let stops = prefix_is is_known cs i d lt all fails in
    rw (list_all_at is_known cs i d lt fails, stops) refl

-- the byte of one character more
pub one_more : (cs : List ℕ) (i d b : ℕ) → i < length cs → byte_of (get_or cs i d) ≡ Some b
    → filter_map byte_of (take (i + 1) cs) ≡ filter_map byte_of (take i cs) ++ b ∷ []
one_more cs i d b lt is =
    ap (λ xs. filter_map byte_of xs) (take_more cs i d lt) ∙ filter_map-append byte_of (take i cs) (get_or cs i d ∷ [])
    ∙ rw is refl

pub all_more : (cs : List ℕ) (i d b : ℕ) → i < length cs → byte_of (get_or cs i d) ≡ Some b → list_all is_known (take i cs) ≡ true
    → list_all is_known (take (i + 1) cs) ≡ true
all_more cs i d b lt is all = list_all_more is_known cs i d lt ∙ rw (all, is) refl

-- one character more behind the last end of a line
pub longer : (cs : List ℕ) (i d : ℕ) → i < length cs → (get_or cs i d == 10) ≡ false
    → suffix_len (λ c. not (c == 10)) (take (i + 1) cs) ≡ 1 + suffix_len (λ c. not (c == 10)) (take i cs)
longer cs i d lt is =
    let e : (i + 1) - 1 ≡ i = omega arith in
    let at : not (get_or cs ((i + 1) - 1) d == 10) ≡ true = rw (e, is) refl in
    suffix_len-take_yes (λ c. not (c == 10)) cs (i + 1) d (omega arith) (omega (arith, lt)) at ∙ rw e refl

-- or an end of a line
pub ended : (cs : List ℕ) (i d : ℕ) → i < length cs → (get_or cs i d == 10) ≡ true → suffix_len (λ c. not (c == 10)) (take (i + 1) cs) ≡ 0
ended cs i d lt is =
    let e : (i + 1) - 1 ≡ i = omega arith in
    let at : not (get_or cs ((i + 1) - 1) d == 10) ≡ false = rw (e, is) refl in
    suffix_len-take_no (λ c. not (c == 10)) cs (i + 1) d (omega arith) (omega (arith, lt)) at

-- ---- a byte that is sought

rest_is : (n : ℕ) → n < 256 → 256 - n ≡ suc (256 - (n + 1))
rest_is n lt = omega (arith, lt)

other_is : (m c : ℕ) → (m ≡ c → ⊥) → (m == c) ≡ false
other_is m c other = go (m == c) refl
  where
    go : (t : Bool) → (m == c) ≡ t → (m == c) ≡ false
    go true is = absurd (other (eqb-true m c is))
    go false is = is

pub found : (c n ch : ℕ) → n < 256 → ch ≡ text_point n → ch ≡ c → first_of c n (256 - n) ≡ Some n
unfolding first_of
found c n ch lt at same =
    let is : (text_point n == c) ≡ true = eq-eqb (text_point n) c (sym at ∙ same) in
    let here : find (λ b. text_point b == c) (range_with_len n (suc (256 - (n + 1)))) ≡ Some n = rw is refl in
    ap (λ m. find (λ b. text_point b == c) (range_with_len n m)) (rest_is n lt) ∙ here

pub not_found : (c n ch : ℕ) → n < 256 → ch ≡ text_point n → (ch ≡ c → ⊥) → first_of c n (256 - n) ≡ first_of c (n + 1) (256 - (n + 1))
unfolding first_of
not_found c n ch lt at other =
    let is : (text_point n == c) ≡ false = other_is (text_point n) c (λ same. other (at ∙ same)) in
    let more : find (λ b. text_point b == c) (range_with_len n (suc (256 - (n + 1)))) ≡ find (λ b. text_point b == c) (range_with_len (n + 1) (256 - (n + 1))) = rw is refl in
    ap (λ m. find (λ b. text_point b == c) (range_with_len n m)) (rest_is n lt) ∙ more

pub exhausted : (c n : ℕ) → 256 ≤ n → first_of c n (256 - n) ≡ None
unfolding first_of
exhausted c n le =
    let none : 256 - n ≡ 0 = omega (arith, le) in
    ap (λ m. find (λ b. text_point b == c) (range_with_len n m)) none

-- ---- a character that no program has

pub spelled_bad : (cs : List ℕ) (i c : ℕ) (front : List ℕ) (place : BadText) → i < length cs → c ≡ get_or cs i c → byte_of c ≡ None
    → list_all is_known (take i cs) ≡ true
    → front ≡ take i cs → place ≡ place_behind front → spelled cs ≡ Err place
spelled_bad cs i c front place lt at none all is here =
    let fails : is_known (get_or cs i c) ≡ false = ap is_known (sym at) ∙ ap is_some none in
    spelled_not cs i c lt all fails ∙ ap (λ f. Err (place_behind f)) (sym is) ∙ ap (λ p. Err p) (sym here)
