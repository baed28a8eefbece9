-- What plain words ask for. A word is plain where it doesn't begin with a hyphen, as `is_plain` says: those of numbers are so by themselves.
use Rattle.std.specs.Prelude.{◌≡◌, ◌≤◌, ◌++◌, IfSome, ℕ, List, [], ◌∷◌, Option, Some, None, codes, length, true}
use Rattle.std.specs.List.{list_all}
use Rattle.clap.specs.Walk.{Text}
use Rattle.zed_words.specs.declared.profile.Profile.{Profile}
use Rattle.zed_words.specs.declared.profile.Profile.TheVariants.{Usual, Big}
use Rattle.zed_words.specs.Commands.{Save, Check, New, Edit, Merge, Show, Play, command_of, is_plain, number_of}

-- words behind the option that a profile asks for, if it asks for one
abbrev pub with_option : Profile → List Text → List Text
with_option Usual words = words
with_option Big words = codes "--big" ∷ words

-- an option and its word, if there is one
abbrev pub option_words : Text → Option Text → List Text
option_words option None = []
option_words option (Some word) = option ∷ word ∷ []

-- `save OUT FILES...`, where no word begins with a hyphen, asks to save: in the usual profile, or behind `--big` in the large one
abbrev pub PlainWordsSave : Type 0
PlainWordsSave =
    (profile : Profile) (out file : Text) (files : List Text)
    → list_all is_plain (out ∷ file ∷ files) ≡ true
    → length (file ∷ files) ≤ 18446744073709551615
    → command_of (codes "save" ∷ with_option profile (out ∷ file ∷ files)) ≡ Some (Save profile out (file ∷ files))

-- `check FILES...` asks to check the world of these files, in either profile
abbrev pub PlainWordsCheck : Type 0
PlainWordsCheck =
    (profile : Profile) (file : Text) (files : List Text)
    → list_all is_plain (file ∷ files) ≡ true
    → length (file ∷ files) ≤ 18446744073709551615
    → command_of (codes "check" ∷ with_option profile (file ∷ files)) ≡ Some (Check profile (file ∷ files))

-- `new OUT WORLD` asks for a new world of this number, and so it does with `--from FILE`, `--name TEXT` or both behind it
abbrev pub PlainWordsNew : Type 0
PlainWordsNew =
    (out number : Text) (from name : Option Text) (world : ℕ)
    → number_of 64 number ≡ Some world
    → is_plain out ≡ true
    → IfSome from (λ file. is_plain file ≡ true)
    → IfSome name (λ text. is_plain text ≡ true)
    → command_of (codes "new" ∷ out ∷ number ∷ option_words (codes "--from") from ++ option_words (codes "--name") name)
    ≡ Some (New out world from name)

-- `edit FILE REPLICA WORDS...` asks for the action of these words, by the author with the replica of this number
abbrev pub PlainWordsEdit : Type 0
PlainWordsEdit =
    (file number word : Text) (words : List Text) (replica : ℕ)
    → number_of 16 number ≡ Some replica
    → list_all is_plain (file ∷ word ∷ words) ≡ true
    → length (word ∷ words) ≤ 18446744073709551615
    → command_of (codes "edit" ∷ file ∷ number ∷ word ∷ words) ≡ Some (Edit file replica (word ∷ words))

-- `merge OUT WORLD FILES...` asks to join these files to one of the world of this number
abbrev pub PlainWordsMerge : Type 0
PlainWordsMerge =
    (out number file : Text) (files : List Text) (world : ℕ)
    → number_of 64 number ≡ Some world
    → list_all is_plain (out ∷ file ∷ files) ≡ true
    → length (file ∷ files) ≤ 18446744073709551615
    → command_of (codes "merge" ∷ out ∷ number ∷ file ∷ files) ≡ Some (Merge out world (file ∷ files))

-- `show BOARD FILES...` asks to show the board of this number, in either profile
abbrev pub PlainWordsShow : Type 0
PlainWordsShow =
    (profile : Profile) (number file : Text) (files : List Text) (board : ℕ)
    → number_of 16 number ≡ Some board
    → list_all is_plain (file ∷ files) ≡ true
    → length (file ∷ files) ≤ 18446744073709551615
    → command_of (codes "show" ∷ with_option profile (number ∷ file ∷ files)) ≡ Some (Show profile board (file ∷ files))

-- `play BOARD WORDS FILES...` asks to play the board of this number by the words of chance of a file, in either profile
abbrev pub PlainWordsPlay : Type 0
PlainWordsPlay =
    (profile : Profile) (number chance file : Text) (files : List Text) (board : ℕ)
    → number_of 16 number ≡ Some board
    → list_all is_plain (chance ∷ file ∷ files) ≡ true
    → length (file ∷ files) ≤ 18446744073709551615
    → command_of (codes "play" ∷ with_option profile (number ∷ chance ∷ file ∷ files)) ≡ Some (Play profile board chance (file ∷ files))
