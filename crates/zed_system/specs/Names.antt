-- The names of new files, and of those that are kept.
use Rattle.std.specs.Prelude.{◌≡◌, ◌≢◌, ◌<◌, ◌⊎◌, ◌++◌, ◌∷◌, [], ℕ, Bool, true, false, List, Option, codes, length, drop, get_or, if◌then◌else◌, nat_eq, nat_lt, ◌&&◌, ◌||◌}
use Rattle.std.specs.Char.{is_ascii_digit}
use Rattle.std.specs.Fmt.{decimal}
use Rattle.std.specs.List.{list_all, starts_with}

-- How the name of a new file begins.
abbrev pub beginning : List ℕ
beginning = codes ".zzted-new-"

-- A decimal digit or a hyphen.
abbrev pub is_numeral : ℕ → Bool
is_numeral b = is_ascii_digit b || nat_eq b 45

-- A name that new files have: after their beginning nothing but numbers, with hyphens between them.
abbrev pub is_new_name : List ℕ → Bool
is_new_name name = starts_with nat_eq name beginning && list_all is_numeral (drop (length beginning) name)

-- The name of the new file of a process and a time: two numbers of that, with hyphens (45) between them.
abbrev pub new_name : ℕ → ℕ → ℕ → List ℕ
new_name process seconds rest = beginning ++ decimal process ++ 45 ∷ decimal seconds ++ 45 ∷ decimal rest

-- A path of a new file in a folder.
abbrev pub IsNewIn : List ℕ → List ℕ → Type 0
IsNewIn folder path = (name : List ℕ) × (is_new_name name ≡ true) × (path ≡ folder ++ name)

-- No byte of a name is a slash.
abbrev pub HasNoSlash : List ℕ → Type 0
HasNoSlash name = (i : ℕ) → i < length name → get_or name i 0 ≢ 47

-- A path is a folder, up to the last slash or empty, and a name in it.
pub record IsSplit (path folder name : List ℕ) : Type 0 where
  pub whole : path ≡ folder ++ name
  pub ends : (folder ≡ []) ⊎ ((front : List ℕ) × (folder ≡ front ++ 47 ∷ []))
  pub last : HasNoSlash name

-- A folder as it stands in front of the name of a new file: an empty one is the folder that the program runs in.
abbrev pub in_front : List ℕ → List ℕ
in_front [] = codes "./"
in_front (b ∷ bs) = b ∷ bs

-- The paths of a file that is written, of its folder, of the new file beside it, and of a second new file for a copy of it.
pub record Found : Type 0 where
  pub path : List ℕ
  pub folder : List ℕ
  pub fresh : List ℕ
  pub spare : List ℕ

-- The new files stand in the file's folder, under names that new files have, and the file's own name is none of these.
pub record IsPlace (f : Found) : Type 0 where
  pub front : List ℕ
  pub name : List ℕ
  pub split : IsSplit f.path front name
  pub folder : f.folder ≡ in_front front
  pub own : is_new_name name ≡ false
  pub fresh : IsNewIn f.folder f.fresh
  pub spare : f.spare ≡ f.fresh ++ codes "-0"

-- A file by the name that is asked for, and its place, if that was found.
pub record Named : Type 0 where
  pub name : List ℕ
  pub found : Option Found

-- The path of the first kept file, and of the one that was chosen.
pub record Kept : Type 0 where
  pub first : List ℕ
  pub chosen : List ℕ

-- The path of a kept file by that of the first one: from the second one on a number follows.
abbrev pub kept_path : List ℕ → ℕ → List ℕ
kept_path first n = if nat_lt 1 n then first ++ decimal n else first

-- The chosen path is that of one of the kept files, of which the first one is this.
abbrev pub IsChosen : List ℕ → Kept → Type 0
IsChosen first k = (k.first ≡ first) × ((n : ℕ) × (k.chosen ≡ kept_path first n))
