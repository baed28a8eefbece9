-- What the version says.
use Rattle.std.specs.Prelude.{ℕ, List, [], ◌∷◌, ◌++◌, codes}

-- the number of the release, and the kit that its functions are proved with, a line each, which ends with a line feed (10)
abbrev pub version_text : List ℕ
version_text = codes "zztool 4" ++ 10 ∷ codes "proved with rattle-kit-13f logic dac8208d650f15bf" ++ 10 ∷ []
