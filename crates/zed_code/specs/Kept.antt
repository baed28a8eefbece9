-- What has of the runs of a text and their store.
use Rattle.std.specs.Prelude.{◌≡◌, ◌≤◌, ◌<◌, ℕ, ◌+◌, ◌^◌, Bool, true, false, if◌then◌else◌, nat_lt, min, List, [], ◌∷◌, length, take, slice_get, Option, Some}
use Rattle.std.specs.List.{AllByRecursion, list_any}
use Rattle.zed_types.specs.declared.stamp.Stamp.{Stamp}
use Rattle.zed_types.specs.declared.names.ElemId.{ElemId}
use Rattle.zed_types.specs.Stamp.{same_stamp}
use Rattle.zed_code.specs.declared.run.Run.{Run}
use Rattle.zed_code.specs.Runs.{lasts}
use Rattle.zed_code.specs.Blocks.{joined, NoneEmpty}
use Rattle.zed_code.specs.Visits.{greatest}
use Rattle.zed_code.specs.declared.search.Found.{Found}
use Rattle.zed_code.specs.Found.{IsFound}

-- a run has a byte, and its bytes are in the store
pub record IsRun (store : List ℕ) (r : Run) : Type 0 where
  pub some : 0 < r.len
  pub within : r.start + r.len ≤ length store
  pub numbered : r.first + r.len < 2 ^ 32

-- the numbers of a run have room
pub record IsSound (r : Run) : Type 0 where
  pub some : 0 < r.len
  pub numbered : r.first + r.len < 2 ^ 32
  pub stored : r.start + r.len < 2 ^ 64

-- of two runs of one insertion the first has the bytes of lower numbers
abbrev pub InOrder : Run → Run → Type 0
InOrder r q = same_stamp r.stamp q.stamp ≡ true → r.first + r.len ≤ q.first

-- so any two of the runs, the one that stands first being the first
abbrev pub AllInOrder : List Run → Type 0
AllInOrder [] = Unit {0}
AllInOrder (r ∷ rs) = AllByRecursion (InOrder r) rs × AllInOrder rs

-- how many bytes runs have
abbrev pub total : List Run → ℕ
total [] = 0
total (r ∷ rs) = r.len + total rs

-- no run is of the edit `s`
abbrev pub NoneOf : Stamp → List Run → Type 0
NoneOf s rs = AllByRecursion (λ r. same_stamp r.stamp s ≡ false) rs

-- no run has bytes of the edit `s` from n on
abbrev pub NoneFrom : Stamp → ℕ → List Run → Type 0
NoneFrom s n rs = AllByRecursion (λ r. lasts s n r ≡ false) rs

-- whether some run is of the edit `s`
abbrev pub some_of : Stamp → List Run → Bool
some_of s rs = list_any (λ r. same_stamp r.stamp s) rs

-- what is kept of runs and the store of their bytes: each run is one of it, those of one insertion are in order, and
-- together they have as many bytes as the store
pub record AreKept (store : List ℕ) (rs : List Run) : Type 0 where
  pub each : AllByRecursion (IsRun store) rs
  pub ordered : AllInOrder rs
  pub all : total rs ≡ length store

-- a hint, which is kept under the name of a byte: its insertion is there, and before the place of a block stands no run
-- that has the byte or later ones of it
pub record IsHint (places : List ℕ) (ls : List (List Run)) (hint : ElemId × ℕ) : Type 0 where
  pub within : hint.1 < length places
  pub some : some_of hint.0.name.stamp (joined ls) ≡ true
  pub none : (p : ℕ) → slice_get places hint.1 ≡ Some p
      → NoneFrom hint.0.name.stamp hint.0.name.index (joined (take p ls))

-- a hint is one of some
abbrev pub IsOne : List (ElemId × ℕ) → ElemId × ℕ → Type 0
IsOne hints hint = (i : ℕ) × (slice_get hints i ≡ Some hint)

-- so all hints
abbrev pub AreHints : List (ElemId × ℕ) → List ℕ → List (List Run) → Type 0
AreHints hints places ls = (hint : ElemId × ℕ) → IsOne hints hint → IsHint places ls hint

-- the place of a block once another was put behind block b
abbrev pub moved : ℕ → ℕ → ℕ
moved b p = if nat_lt b p then min (p + 1) greatest else p

-- what is kept of a text: its runs and their store, blocks that have runs, hints that hold, and a byte that was found
pub record IsWhole (store : List ℕ) (ls : List (List Run)) (es : List (ElemId × ℕ)) (places : List ℕ) (last : Option Found) : Type 0 where
  pub kept : AreKept store (joined ls)
  pub full : NoneEmpty ls
  pub hints : AreHints es places ls
  pub found : IsFound last ls
