-- An element is read from its number, which stands behind its word.
use Rattle.std.proofs.Common.{◌≡◌, ℕ, zero, suc, Bool, true, false, not, List, [], ◌∷◌, ◌++◌, map, get_or, drop, refl, sym, ap, ◌∙◌, append_assoc, eqb, ◌&&◌}
use Rattle.std.specs.Char.{to_ascii_lowercase}
use Rattle.std.specs.List.{list_all}
use Rattle.zed_types.specs.Elements.{Row, row, rows}
use Rattle.zed_types.specs.declared.kind.Look.TheVariants.{Character}
use Rattle.zed_types.specs.declared.kind.Push.TheVariants.{Not}
use Rattle.zed_log.specs.Fields.{number, element_word, element}
use Rattle.zed_log.proofs.Codes.{IsCode}
use Rattle.zed_log.proofs.Numerals.{Each, split, number_code}

-- not the bracket before the number
abbrev is_letter : ℕ → Bool
is_letter c = not (eqb c 40)

left : (a b : Bool) → (a && b) ≡ true → a ≡ true
left true b h = refl
left false b h = absurd cc

right : (a b : Bool) → (a && b) ≡ true → b ≡ true
right true b h = h
right false b h = absurd cc

each_of : (p : ℕ → Bool) (l : List ℕ) → list_all p l ≡ true → Each p l
each_of p [] h = tt
each_of p (c ∷ cs) h = (left (p c) (list_all p cs) h, each_of p cs (right (p c) (list_all p cs) h))

-- whether the word of a row has letters alone
abbrev has_letters : Row → Bool
has_letters r = list_all is_letter (map to_ascii_lowercase r.word)

-- what holds of each row and of the one that stands for all others
pub at_row : (P : Row → Bool) (rs : List Row) (n : ℕ) (d : Row) → list_all P rs ≡ true → P d ≡ true → P (get_or rs n d) ≡ true
at_row P [] n d h k = k
at_row P (r ∷ rs) zero d h k = left (P r) (list_all P rs) h
at_row P (r ∷ rs) (suc n) d h k = at_row P rs n d (right (P r) (list_all P rs) h) k

letters : (n : ℕ) → Each is_letter (element_word n)
letters n =
    each_of is_letter (element_word n) (at_row has_letters rows n (row [] (Character 63) false Not false) refl refl)

whole : (n : ℕ) (x : List ℕ) → element n ++ x ≡ element_word n ++ (40 ∷ (number n ++ 41 ∷ x))
unfolding element
whole n x =
    append_assoc (element_word n ++ 40 ∷ number n) (41 ∷ []) x ∙ append_assoc (element_word n) (40 ∷ number n) (41 ∷ x)

pub element_code : IsCode element
unfolding element
element_code m n x y p q h =
    let e = sym (whole m x) ∙ h ∙ whole n y in
    let r = split is_letter (element_word m) (element_word n) (40 ∷ (number m ++ 41 ∷ x)) (40 ∷ (number n ++ 41 ∷ y)) (letters m) (letters n) refl refl e in
    let s = number_code m n (41 ∷ x) (41 ∷ y) refl refl (ap (drop 1) r.1) in
    (s.0, ap (drop 1) s.1)
