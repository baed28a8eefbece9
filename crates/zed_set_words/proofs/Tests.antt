-- Words that are found to be equal, and words that are lent.
use Rattle.std.proofs.Common.{◌≡◌, ℕ, Bool, true, false, List, [], ◌∷◌, length, map, refl, sym}
use Rattle.std.specs.Prelude.{◌↔◌, IsTrue}
use Rattle.std.specs.Char.{to_ascii_lowercase}
use Rattle.std.specs.Borrow.{Bor}
use Rattle.std.specs.Str.{bytes_eq}
use Rattle.std.proofs.lemmas.Slice.Eq.{bytes_eq-Decides}
use Rattle.zed_set_words.specs.Readers.{words_of}

pub eq_of : (v w : List ℕ) → bytes_eq v w ≡ true → v ≡ w
eq_of v w h = (bytes_eq-Decides v w).0 h

-- as many as were lent
pub lent_length : (ws : List (Bor (List ℕ))) → length (words_of ws) ≡ length ws
lent_length [] = refl
lent_length (w ∷ ws) = rw (lent_length ws) refl

abbrev in_small : List ℕ → List ℕ
in_small w = map to_ascii_lowercase w

-- what `eq_ignore_ascii_case` tells
pub small_is : (a b : List ℕ) (r : Bool) → (IsTrue r ↔ in_small a ≡ in_small b) → r ≡ bytes_eq (in_small a) (in_small b)
small_is a b true h = sym ((bytes_eq-Decides (in_small a) (in_small b)).1 (h.0 refl))
small_is a b false h = go (bytes_eq (in_small a) (in_small b)) refl
  where
    go : (e : Bool) → bytes_eq (in_small a) (in_small b) ≡ e → false ≡ e
    go false is = refl
    go true is = h.1 ((bytes_eq-Decides (in_small a) (in_small b)).0 is)
