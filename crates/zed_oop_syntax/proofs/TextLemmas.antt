-- Runs of bytes.
use Rattle.std.proofs.lemmas.List.{drop_all}
use Rattle.std.proofs.lemmas.Slice.Eq.{bytes_eq-Decides}
use borrow.Author.Tests.{ltb-true, ltb-false}
use Rattle.std.proofs.lemmas.List.Sums.{prefix_len-le-length}
use Rattle.std.specs.Char.{is_ascii_digit}
use Rattle.std.specs.Str.{bytes_eq}
use Rattle.zed_oop_syntax.specs.declared.text.Class.TheVariants.{Space, Word}
use Rattle.std.proofs.Common.{Option, Some, None, slice_get, ◌≡◌, ℕ, suc, min, nat_lt, [], ◌∷◌, ◌-◌, ◌*◌, ◌+◌, ◌<◌, ◌≤◌, Bool, true, false, List, length, drop, get_or, cond, arith, add-one, length-drop, max, refl}
use Rattle.std.proofs.Math.Seq.{drop-cons}
use Rattle.zed_oop_syntax.specs.declared.text.Class.{Class}
use Rattle.zed_oop_syntax.specs.Text.{end_by_first, is_of, number, run_end, with_digit, word_at, word_end, word_start}

-- bytes that are found to be equal
pub same_bytes : (w x : List ℕ) → bytes_eq w x ≡ true → w ≡ x
same_bytes w x e = (bytes_eq-Decides w x).0 e

-- a run that isn't at its end yet
pub run_more : (c : Class) (p : List ℕ) (i : ℕ) → i < length p → is_of c (get_or p i 0) ≡ true → run_end c p (i + 1) ≡ run_end c p i
unfolding run_end
run_more c p i h e = rw (add-one, drop-cons p i 0, e) (omega arith)

-- a run ends at another byte
pub run_stops : (c : Class) (p : List ℕ) (i : ℕ) → i < length p → is_of c (get_or p i 0) ≡ false → run_end c p i ≡ i
unfolding run_end
run_stops c p i h e = rw (drop-cons p i 0, e) (omega arith)

-- digits make no number less
pub number_grows : (n : ℕ) (ds : List ℕ) → n ≤ number n ds
number_grows n [] = omega arith
number_grows n (d ∷ ds) = let h = number_grows (n * 10 + (d - 48)) ds in omega arith

-- a digit more, where the number is cut to 32,767 in the end
pub number_more : (n : ℕ) (ds : List ℕ) (i : ℕ) → i < length ds
    → min (number (with_digit n (get_or ds i 0)) (drop (i + 1) ds)) 32767 ≡ min (number n (drop i ds)) 32767
number_more n ds i h =
    rw (add-one, drop-cons ds i 0)
    (by_size (nat_lt 3276 n) refl)
  where
    by_size : (b : Bool) → nat_lt 3276 n ≡ b
        → min (number (cond b 32767 (n * 10 + (get_or ds i 0 - 48))) (drop (suc i) ds)) 32767
        ≡ min (number (n * 10 + (get_or ds i 0 - 48)) (drop (suc i) ds)) 32767
    by_size false e = refl
    by_size true e =
        let a = number_grows 32767 (drop (suc i) ds) in
        let b = number_grows (n * 10 + (get_or ds i 0 - 48)) (drop (suc i) ds) in
        let c : 3276 < n = ltb-true 3276 n e in
        omega arith

-- at the end there is no run
pub run_at_end : (c : Class) (p : List ℕ) (i : ℕ) → length p ≤ i → run_end c p i ≡ i
unfolding run_end
run_at_end c p i h = let e : drop i p ≡ [] = drop_all i p h in rw e (omega arith)

-- no more bytes are in a run than are left
run_end_bounded : (c : Class) (p : List ℕ) (at : ℕ) → at ≤ length p → run_end c p at ≤ length p
unfolding run_end
run_end_bounded c p at h = let m = prefix_len-le-length (is_of c) (drop at p) in let e = length-drop at p in omega arith

pub run_end_after : (c : Class) (p : List ℕ) (at : ℕ) → at ≤ run_end c p at
unfolding run_end
run_end_after c p at = omega arith

-- a run ends within the program, or where it began
pub run_end_within : (c : Class) (p : List ℕ) (at : ℕ) → run_end c p at ≤ max at (length p)
run_end_within c p at = by_place (nat_lt at (length p)) refl
  where
    by_place : (b : Bool) → nat_lt at (length p) ≡ b → run_end c p at ≤ max at (length p)
    by_place true e = let l = ltb-true at (length p) e in let r = run_end_bounded c p at (omega arith) in omega arith
    by_place false e = let l = ltb-false at (length p) e in let r = run_at_end c p at l in omega arith

end_of_word_within : (p : List ℕ) (from : ℕ) (first : Option ℕ) → end_by_first p from first ≤ max from (length p)
end_of_word_within p from None = omega arith
end_of_word_within p from (Some b) = by_digit (is_ascii_digit b)
  where
    by_digit : (d : Bool) → cond d from (run_end Word p from) ≤ max from (length p)
    by_digit true = omega arith
    by_digit false = run_end_within Word p from

-- a word ends within the program, or where it was sought
pub word_end_within : (p : List ℕ) (at : ℕ) → word_end p at ≤ max at (length p)
unfolding word_end
word_end_within p at =
    let a = run_end_within Space p at in
    let b = end_of_word_within p (word_start p at) (slice_get p (word_start p at)) in
    omega arith

end_of_word_after : (p : List ℕ) (from : ℕ) (first : Option ℕ) → from ≤ end_by_first p from first
end_of_word_after p from None = omega arith
end_of_word_after p from (Some b) = by_digit (is_ascii_digit b)
  where
    by_digit : (d : Bool) → from ≤ cond d from (run_end Word p from)
    by_digit true = omega arith
    by_digit false = run_end_after Word p from

-- a word doesn't end before the place where it was sought
pub word_end_after : (p : List ℕ) (at : ℕ) → at ≤ word_end p at
unfolding word_end
word_end_after p at =
    let a = run_end_after Space p at in
    let b = end_of_word_after p (word_start p at) (slice_get p (word_start p at)) in
    omega arith

-- a word that doesn't lead on is empty
pub empty_word : (p : List ℕ) (at : ℕ) → word_end p at ≤ at → word_at p at ≡ []
unfolding word_at word_end
empty_word p at h =
    let a = run_end_after Space p at in
    let b = end_of_word_after p (word_start p at) (slice_get p (word_start p at)) in
    let none : end_by_first p (word_start p at) (slice_get p (word_start p at)) - word_start p at ≡ 0 = omega arith in
    rw none refl
