-- Texts as they are passed.
use Rattle.std.specs.Prelude.{ℕ, List, Option, map, option_map}
use Rattle.std.specs.Borrow.{Bor}

-- the bytes of several texts
abbrev pub texts_of : List (Bor (List ℕ)) → List (List ℕ)
texts_of = map (λ s. s.now)

-- the bytes of a text, where there is one
abbrev pub text_in : Option (Bor (List ℕ)) → Option (List ℕ)
text_in = option_map (λ s. s.now)
