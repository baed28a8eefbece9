-- Flags: ten words of at most 20 bytes; an empty one is free.
use Rattle.std.specs.Prelude.{ℕ, Bool, ◌==◌, if◌then◌else◌, List, [], length, take, map, slice_set, position, Option, Some, None}
use Rattle.std.specs.List.{list_any}
use Rattle.std.specs.Str.{bytes_eq}
use Rattle.zed_scene.specs.Scene.{Scene}

-- whether a flag has this word
abbrev pub has_flag : List (List ℕ) → List ℕ → Bool
has_flag flags w = list_any (λ f. bytes_eq f w) flags

-- a word as far as a flag holds it: its first 20 bytes
abbrev pub cut : List ℕ → List ℕ
cut w = take 20 w

-- whether a flag is empty
abbrev pub is_free : List ℕ → Bool
is_free f = length f == 0

-- the flags with a word put into the one of this number; as they are where none is free
abbrev pub in_free : List ℕ → List (List ℕ) → Option ℕ → List (List ℕ)
in_free w flags None = flags
in_free w flags (Some i) = slice_set flags i w

-- a word is put into the first empty flag if none has it
unfoldable pub flagged : List ℕ → List (List ℕ) → List (List ℕ)
flagged w flags = if has_flag flags w then flags else in_free w flags (position is_free flags)

-- the flags that have a word are emptied
unfoldable pub unflagged : List ℕ → List (List ℕ) → List (List ℕ)
unflagged w flags = map (λ f. if bytes_eq f w then [] else f) flags

-- a board in play with these flags
abbrev pub with_flags : List (List ℕ) → Scene → Scene
with_flags flags s = record s { flags = flags }
