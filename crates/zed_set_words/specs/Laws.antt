-- Which word is told of where words wish nothing.
use Rattle.std.specs.Prelude.{◌≡◌, ℕ, List, [], ◌∷◌, ◌++◌, length, Result, Err}
use Rattle.zed_set_words.specs.declared.bad.BadWord.{BadWord}
use Rattle.zed_set_words.specs.Rows.{wish_of}
use Rattle.zed_set_words.specs.Values.{Word}

-- no words behind a wrong word mend it: whatever they are, the same is told; where no word is left, one is missing
abbrev pub IsNotMended : List Word → List Word → BadWord → Type 0
IsNotMended front [] b = Unit {0}
IsNotMended front (wrong ∷ rest) b = (others : List Word) → wish_of (front ++ wrong ∷ others) ≡ Err b

-- the word that is told of stands behind as many words as are told, and isn't mended
abbrev pub WrongWordIsTold : Type 0
WrongWordIsTold =
    (words : List Word) (b : BadWord) → wish_of words ≡ Err b
    → (front : List Word) × (back : List Word) × (words ≡ front ++ back) × (length front ≡ b.at) × IsNotMended front back b
