-- Words and numbers of texts.
use Rattle.std.specs.Prelude.{ℕ, zero, suc, ◌+◌, List, [], ◌∷◌, ◌++◌, map}
use Rattle.std.specs.Int.Digits.{digits_of}

-- a text with a line feed (10) at its end
unfoldable pub ended : List ℕ → List ℕ
ended text = text ++ 10 ∷ []

-- a number in decimal digits
unfoldable pub number : ℕ → List ℕ
number zero = 48 ∷ []
number (suc n) = map (λ d. 48 + d) (digits_of 10 (suc n))
