-- What a host holds, and how its calls change that.
use Rattle.std.specs.Prelude.{◌≡◌, ◌⊎◌, ℕ, List, [], ◌∷◌, ◌++◌, Option, Some, None}
use Rattle.std.specs.Ordering.{nat_cmp}
use Rattle.std.specs.Cmp.Lexicographic.{slice_cmp}
use Rattle.std.specs.FinMap as map

-- files by name, and what was written to the standard output and the standard error
pub record HostContents : Type 0 where
  pub files : map.FinMap (slice_cmp nat_cmp) (List ℕ)
  pub printed : List ℕ
  pub complained : List ℕ

-- the bytes of the file of a name, if there is one
abbrev pub file_in : HostContents → List ℕ → Option (List ℕ)
file_in t name = map.get t.files name

-- a file is there, in place of an earlier one of its name
abbrev pub with_file : List ℕ → List ℕ → HostContents → HostContents
with_file name bytes t = record t { files = map.insert t.files name bytes }

-- bytes were printed
abbrev pub with_printed : List ℕ → HostContents → HostContents
with_printed bytes t = record t { printed = t.printed ++ bytes }

-- bytes were written to the standard error
abbrev pub with_complaint : List ℕ → HostContents → HostContents
with_complaint bytes t = record t { complained = t.complained ++ bytes }

-- a file as it was read: as the host holds it, or none where the read failed
abbrev pub IsRead : Type 0 → HostContents → List ℕ → Option (List ℕ) → Type 0
IsRead failed t name read = (read ≡ file_in t name) ⊎ (failed × (read ≡ None))

-- files as they were read, one after the other
abbrev pub AreRead : Type 0 → HostContents → List (List ℕ) → List (Option (List ℕ)) → Type 0
AreRead failed t [] reads = reads ≡ []
AreRead failed t (name ∷ names) reads =
    (read : Option (List ℕ)) × (rest : List (Option (List ℕ)))
    × IsRead failed t name read × AreRead failed t names rest × (reads ≡ read ∷ rest)

-- a text begins with this part of it
abbrev pub IsFront : List ℕ → List ℕ → Type 0
IsFront part whole = (rest : List ℕ) × (whole ≡ part ++ rest)

-- a write of a file failed: all is as it was, or the file is a front of what it was to be
abbrev pub HalfWritten : List ℕ → List ℕ → HostContents → HostContents → Type 0
HalfWritten name bytes t u = (u ≡ t) ⊎ ((part : List ℕ) × IsFront part bytes × (u ≡ with_file name part t))

-- a print failed: all is as it was, or a front of the bytes was printed
abbrev pub HalfPrinted : List ℕ → HostContents → HostContents → Type 0
HalfPrinted bytes t u = (u ≡ t) ⊎ ((part : List ℕ) × IsFront part bytes × (u ≡ with_printed part t))

-- the same on the standard error
abbrev pub HalfComplained : List ℕ → HostContents → HostContents → Type 0
HalfComplained bytes t u = (u ≡ t) ⊎ ((part : List ℕ) × IsFront part bytes × (u ≡ with_complaint part t))

-- the host still tells what it holds, which is so related to what it held
abbrev pub StillTells : (HostContents → Type 0) → Option HostContents → Type 0
StillTells R new = (u : HostContents) × R u × (new ≡ Some u)
