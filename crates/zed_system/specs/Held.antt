-- What the folder of a file that is to be written holds.
use Rattle.std.specs.Prelude.{◌≡◌, ◌⊎◌, ℕ, Bool, true, false, if◌then◌else◌, List, [], ◌∷◌, ◌++◌, nat_eq, Option, Some, None, IsSome, option_map}
use Rattle.std.specs.Cmp.Lexicographic.{pointwise}
use Rattle.std.specs.List.{list_any}
use Rattle.zed_system.specs.declared.folder.Old.{Old}
use Rattle.zed_system.specs.declared.folder.Old.TheVariants.{Dropped, Kept}

-- What stands in the file's place, the new file beside it, the old files that are kept beside it, each under a name of its own, and
-- whether the first two are on the disk as they are.
pub record Held : Type 0 where
  pub place : Option (List ℕ)
  pub beside : Option (List ℕ)
  pub kept : List (List ℕ)
  pub synced : Bool
  pub settled : Bool

-- What stands in the place.
abbrev pub place_of : Held → Option (List ℕ)
place_of h = h.place

-- What stands in the place, and what is kept beside it: all that authors see.
abbrev pub seen_of : Held → Option (List ℕ) × List (List ℕ)
seen_of h = (h.place, h.kept)

-- The new file.
abbrev pub beside_of : Held → Option (List ℕ)
beside_of h = h.beside

-- A new file with these bytes, of which some may not be on the disk.
abbrev pub with_beside : List ℕ → Held → Held
with_beside bytes h = record h { beside = Some bytes; synced = false }

-- An empty new file.
abbrev pub with_empty : Held → Held
with_empty h = with_beside [] h

-- The new file, if there is one, has these bytes too, after its own.
abbrev pub with_more : List ℕ → Held → Held
with_more bytes h = record h { beside = option_map (λ was. was ++ bytes) h.beside; synced = false }

-- The new file is on the disk.
abbrev pub with_synced : Held → Held
with_synced h = record h { synced = true }

-- There is a new file, and all of it is on the disk.
abbrev pub IsWhole : Held → Type 0
IsWhole h = IsSome h.beside × (h.synced ≡ true)

-- No new file.
abbrev pub none_beside : Held → Held
none_beside h = record h { beside = None; synced = false }

-- What was kept before, and one more file; the same bytes are kept once.
unfoldable pub kept_with : Option (List ℕ) → List (List ℕ) → List (List ℕ)
kept_with None kept = kept
kept_with (Some bytes) kept = if list_any (pointwise nat_eq bytes) kept then kept else kept ++ bytes ∷ []

-- What stands in the place is kept beside it too.
abbrev pub with_kept : Held → Held
with_kept h = record h { kept = kept_with h.place h.kept }

-- What a write keeps: what was kept before, and the old file too, if that is asked for.
abbrev pub kept_by : Old → Held → Held
kept_by Dropped h = h
kept_by Kept h = with_kept h

-- Where a write is refused the place is as it was, and so is what is kept; but if the old file was to be kept, it may be already.
abbrev pub IsUnwritten : Old → Held → Held → Type 0
IsUnwritten Dropped h i = (i.place ≡ h.place) × (i.kept ≡ h.kept)
IsUnwritten Kept h i = (i.place ≡ h.place) × ((i.kept ≡ h.kept) ⊎ (i.kept ≡ kept_with h.place h.kept))

-- A folder that tells what it holds still does, and holds what is so related to that.
abbrev pub StillTells : (Held → Held → Type 0) → Option Held → Option Held → Type 0
StillTells R None new = new ≡ None
StillTells R (Some h) new = (i : Held) × R h i × (new ≡ Some i)

-- The new file stands in the place.
abbrev pub with_place : Held → Held
with_place h = record h { place = h.beside; beside = None; synced = false; settled = false }

-- What stands in the place is on the disk.
abbrev pub with_settled : Held → Held
with_settled h = record h { settled = true }

-- A file with these bytes stands in the place, and nothing beside it.
abbrev pub renamed_by : List ℕ → Held → Held
renamed_by bytes h = record h { place = Some bytes; beside = None; synced = false; settled = false }

-- And it is on the disk.
abbrev pub replaced_by : List ℕ → Held → Held
replaced_by bytes h = with_settled (renamed_by bytes h)
