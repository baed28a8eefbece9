-- What the laws on world files promise.
use Rattle.std.specs.Prelude.{◌≡◌, ◌↔◌, ◌≤◌, ◌+◌, ◌*◌, ℕ, true, List, ◌++◌, length, Ok}
use Rattle.std.specs.List.{AllByRecursion}
use Rattle.zed_types.specs.Limits.{largest_body}
use Rattle.zed_world.specs.Contents.{Contents}
use Rattle.zed_world.specs.Reading.{world_at}
use Rattle.zed_world.specs.FileText.{IsFileText}
use Rattle.zed_world.specs.Writing.{world_text}
use Rattle.zed_world.specs.Normal.{HasNormalParts, HasShortBody}
use Rattle.zed_world.specs.Canonical.{IsCanonical, is_canonical}

-- what is read fits its fields
abbrev pub ReadIsNormal : Type 0
ReadIsNormal = (bytes : List ℕ) (w : Contents) → world_at bytes ≡ Ok w → HasNormalParts w

-- where a world is read, the file spells it by the places of its fields
abbrev pub ReadByPlace : Type 0
ReadByPlace = (bytes : List ℕ) (w : Contents) → world_at bytes ≡ Ok w → IsFileText w bytes

-- where the file spells a world by the places of its fields, that world is read
abbrev pub FoundByPlace : Type 0
FoundByPlace = (bytes : List ℕ) (w : Contents) → IsFileText w bytes → world_at bytes ≡ Ok w

-- what is written of a world with short bodies is read again, whatever follows it
abbrev pub WrittenIsRead : Type 0
WrittenIsRead =
    (w : Contents) (rest : List ℕ) → HasNormalParts w → AllByRecursion HasShortBody w.boards → world_at (world_text w ++ rest) ≡ Ok w

-- what is written of a world with short bodies is canonical
abbrev pub WrittenIsCanonical : Type 0
WrittenIsCanonical = (w : Contents) → HasNormalParts w → AllByRecursion HasShortBody w.boards → IsCanonical (world_text w)

-- a canonical file has 512 bytes and at most 101 boards, each of two bytes and at most 32,767
abbrev pub CanonicalIsShort : Type 0
CanonicalIsShort = (bytes : List ℕ) → IsCanonical bytes → length bytes ≤ 512 + 101 * (2 + largest_body)

-- the test finds just the canonical files
abbrev pub CanonicalIsTested : Type 0
CanonicalIsTested = (bytes : List ℕ) → (is_canonical bytes ≡ true) ↔ IsCanonical bytes
