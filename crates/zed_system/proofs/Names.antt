-- Names of new files, and paths that are cut at their last slash.
use Rattle.std.proofs.Common.{◌≡◌, ◌∙◌, ◌<◌, ◌^◌, ◌+◌, ◌++◌, ◌∷◌, [], ◌&&◌, ℕ, Bool, true, false, Err, List, Ok, Result, Some, ap, arith, drop, inl, inr, refl, subst, sym, take}
use Rattle.std.specs.Prelude.{IfOk}
use Rattle.std.proofs.lemmas.Fmt.{digits_decimal}
use Rattle.std.proofs.lemmas.List.{take-append-drop}
use Rattle.std.proofs.lemmas.List.Folds.{list_all-append}
use Rattle.std.proofs.lemmas.Str.{encode_ascii}
use Rattle.std.proofs.lemmas.Str.Parse.{numerals_by_value, tells_all_ascii_digits}
use Rattle.std.proofs.lemmas.Str.Pattern.{NoCharPasses-char}
use Rattle.std.proofs.Math.Dec.{eqb}
use Rattle.std.proofs.Math.Seq.{take-add}
use Rattle.std.specs.Char.{is_ascii_digit}
use Rattle.std.specs.Fmt.{decimal}
use Rattle.std.specs.List.{list_all}
use Rattle.std.specs.Str.{NoCharPasses, all_ascii_digits}
use Rattle.std.specs.Str.Pattern.{RFindsChar}
use Rattle.zed_system.specs.Names.{IsNewIn, IsSplit, is_new_name, is_numeral, new_name}

-- ---- a path and its last slash

pub no_slash : (s : List ℕ) → NoCharPasses (λ d. eqb d 47) s → IsSplit s [] s
no_slash s none = record {
  whole = refl;
  ends = inl refl;
  last = λ i lt. NoCharPasses-char 47 s i none (omega arith) lt;
}

pub last_slash : (s : List ℕ) (i j : ℕ) → RFindsChar 47 s (Some (i, j)) → IsSplit s (take (i + 1) s) (drop (i + 1) s)
last_slash s i j (none, at) =
    let behind : j ≡ i + 1 = at.ends in
    let slash : take 1 (drop i s) ≡ 47 ∷ [] = ap (λ (xs : List ℕ). take 1 xs) (at.split ∙ ap (λ (e : List ℕ). e ++ drop j s) (encode_ascii 47 (omega arith))) in
    record {
      whole = sym (take-append-drop (i + 1) s);
      ends = inr (take i s, take-add i 1 s ∙ ap (λ xs. take i s ++ xs) slash);
      last = λ k lt. NoCharPasses-char 47 (drop (i + 1) s) k (subst (λ n. NoCharPasses (λ d. eqb d 47) (drop n s)) behind none) (omega arith) lt;
    }

-- ---- names of numbers

digits_numeral : (ds : List ℕ) → all_ascii_digits ds ≡ true → list_all is_numeral ds ≡ true
digits_numeral [] is = refl
digits_numeral (d ∷ ds) is = go (is_ascii_digit d) refl is (λ rest. digits_numeral ds rest)
  where
    go : (b : Bool) → is_ascii_digit d ≡ b → (b && all_ascii_digits ds) ≡ true → (all_ascii_digits ds ≡ true → list_all is_numeral ds ≡ true)
        → list_all is_numeral (d ∷ ds) ≡ true
    go true digit rest more = rw digit (more rest)
    go false digit rest more = absurd (cc)

number_numeral : (n : ℕ) → n < 2 ^ 64 → list_all is_numeral (decimal n) ≡ true
number_numeral n lt =
    digits_numeral (decimal n) (digits_decimal (numerals_by_value (λ ds. all_ascii_digits ds ≡ true) tells_all_ascii_digits) n lt)

both_numeral : (xs ys : List ℕ) → list_all is_numeral xs ≡ true → list_all is_numeral ys ≡ true → list_all is_numeral (xs ++ ys) ≡ true
both_numeral xs ys one other = list_all-append is_numeral xs ys ∙ rw (one, other) refl

-- a name of three numbers is one that new files have
pub is_new : (p s r : ℕ) → p < 2 ^ 64 → s < 2 ^ 64 → r < 2 ^ 64 → is_new_name (new_name p s r) ≡ true
is_new p s r a b c =
    both_numeral (decimal p ++ 45 ∷ decimal s) (45 ∷ decimal r) (both_numeral (decimal p) (45 ∷ decimal s) (number_numeral p a) (number_numeral s b))
    (number_numeral r c)

-- so a path with such a name is one of a new file
pub new_path : {X E : Type 0} (view : X → List ℕ) (folder : List ℕ) (p s r : ℕ) (made : Result X E) → p < 2 ^ 64 → s < 2 ^ 64 → r < 2 ^ 64
    → IfOk made (λ path. view path ≡ folder ++ new_name p s r)
    → IfOk made (λ path. IsNewIn folder (view path))
new_path view folder p s r (Ok path) a b c is = (new_name p s r, is_new p s r a b c, is)
new_path view folder p s r (Err e) a b c is = tt
