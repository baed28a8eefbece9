-- What the law on escaping promises.
use Rattle.std.specs.Prelude.{◌≡◌, ℕ, ◌<◌, ◌==◌, ◌||◌, ◌&&◌, not, Bool, true, false, List, [], ◌∷◌}
use Rattle.std.specs.List.{list_all}
use Rattle.cmd_page.specs.Escaping.{escape}

-- whether a byte of a page is none of `<` (60), `>` (62), `"` (34), `'` (39) and `&` (38)
abbrev pub is_harmless : ℕ → Bool
is_harmless c = not (c == 60 || c == 62 || c == 34 || c == 39 || c == 38)

-- whether a text is harmless up to a `;` (59) at its end
abbrev pub ends_entity : List ℕ → Bool
ends_entity [] = false
ends_entity (c ∷ []) = c == 59
ends_entity (c ∷ (d ∷ cs)) = is_harmless c && ends_entity (d ∷ cs)

-- whether a text is `&`, and harmless from there up to a `;` at its end
abbrev pub is_entity : List ℕ → Bool
is_entity [] = false
is_entity (c ∷ cs) = c == 38 && ends_entity cs

-- what is written for a byte is harmless, or one entity
abbrev pub is_contained : ℕ → Bool
is_contained b = list_all is_harmless (escape b) || is_entity (escape b)

-- so is each byte of a name or a program
abbrev pub IsContained : Type 0
IsContained = (b : ℕ) → b < 256 → is_contained b ≡ true
