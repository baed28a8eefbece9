-- A size, read digit by digit.
use Rattle.std.proofs.Common.{◌≡◌, ◌∙◌, ◌==◌, ℕ, arith, true, false, cond, List, [], ◌∷◌, ◌++◌, None, Some, ap, refl}
use Rattle.std.specs.List.{list_all}
use Rattle.std.proofs.lemmas.Bool.Decides.{nat_tests}
use Rattle.std.proofs.lemmas.Bool.{and_parts}
use Rattle.zed_terminal.specs.declared.input.Input.{Input}
use Rattle.zed_terminal.specs.declared.input.Input.TheVariants.{Resized}
use Rattle.zed_terminal.specs.declared.typing.Reading.TheVariants.{Between, Escape, Rows, Columns}
use Rattle.zed_terminal.specs.declared.typing.Stroke.{Stroke}
use Rattle.zed_terminal.specs.SizeLaws.{SizesAreTold, number_of}
use Rattle.zed_terminal.specs.Typing.{completes, inputs_in, is_digit, longer, on, sized, typed, with_input}

no_escape : (b : ℕ) → is_digit b ≡ true → (b == 27) ≡ false
no_escape b is = grind (arith, nat_tests)

no_end : (b : ℕ) → is_digit b ≡ true → (b == 59) ≡ false
no_end b is = grind (arith, nat_tests)

rows_more : (n b : ℕ) → is_digit b ≡ true → typed (Rows n) b ≡ on (Rows (longer n b))
rows_more n b is =
    let digit = cond (is_digit b) (on (Rows (longer n b))) (completes None) in
    ap (λ t. cond t (on Escape) (cond (b == 59) (on (Columns n 0)) digit)) (no_escape b is)
    ∙ ap (λ t. cond t (on (Columns n 0)) digit) (no_end b is)
    ∙ ap (λ t. cond t (on (Rows (longer n b))) (completes None)) is

columns_more : (n m b : ℕ) → is_digit b ≡ true → typed (Columns n m) b ≡ on (Columns n (longer m b))
columns_more n m b is =
    let other = cond (b == 116) (completes (Some (Resized (sized n m)))) (completes None) in
    ap (λ t. cond t (on Escape) (cond (is_digit b) (on (Columns n (longer m b))) other)) (no_escape b is)
    ∙ ap (λ t. cond t (on (Columns n (longer m b))) other) is

-- what comes behind a byte
abbrev pub behind : List ℕ → Stroke → List Input
behind bytes s = with_input s.input (inputs_in s.reading bytes)

rows_read : (n : ℕ) (digits tail : List ℕ) → list_all is_digit digits ≡ true
    → inputs_in (Rows n) (digits ++ (59 ∷ tail)) ≡ inputs_in (Columns (number_of n digits) 0) tail
rows_read n [] tail is = refl
rows_read n (b ∷ digits) tail is =
    let p = and_parts (is_digit b) (list_all is_digit digits) is in
    ap (behind (digits ++ (59 ∷ tail))) (rows_more n b p.0) ∙ rows_read (longer n b) digits tail p.1

columns_read : (n m : ℕ) (digits bytes : List ℕ) → list_all is_digit digits ≡ true
    → inputs_in (Columns n m) (digits ++ (116 ∷ bytes)) ≡ Resized (sized n (number_of m digits)) ∷ inputs_in Between bytes
columns_read n m [] bytes is = refl
columns_read n m (b ∷ digits) bytes is =
    let p = and_parts (is_digit b) (list_all is_digit digits) is in
    ap (behind (digits ++ (116 ∷ bytes))) (columns_more n m b p.0) ∙ columns_read n (longer m b) digits bytes p.1

pub sizes_are_told : SizesAreTold
sizes_are_told rows columns bytes all_rows all_columns =
    rows_read 0 rows (columns ++ (116 ∷ bytes)) all_rows ∙ columns_read (number_of 0 rows) 0 columns bytes all_columns
