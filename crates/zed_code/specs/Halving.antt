-- What stays as it was where a block is halved.
use Rattle.std.specs.Prelude.{◌≡◌, ◌≤◌, ◌<◌, ℕ, ◌+◌, ◌-◌, if◌then◌else◌, nat_lt, List, length, slice_get, Some, ◌⊎◌}
use Rattle.zed_types.specs.declared.names.ElemId.{ElemId}
use Rattle.zed_code.specs.declared.run.Run.{Run}
use Rattle.zed_code.specs.declared.block.Spot.{Spot}
use Rattle.zed_code.specs.Blocks.{joined, before_spot, IsIn, NoneEmpty}
use Rattle.zed_code.specs.Kept.{AreHints, IsOne}

-- the runs are the same, no list is empty if none was, and hints hold
pub record IsSameText (old new : List (List Run)) (olds news : List ℕ) : Type 0 where
  pub runs : joined new ≡ joined old
  pub full : NoneEmpty old → NoneEmpty new
  pub hints : (hs : List (ElemId × ℕ)) → AreHints hs olds old → AreHints hs news new

-- a place is behind as many runs as another was, and if one run stood there it still does
pub record IsMoved (old new : List (List Run)) (from to : Spot) : Type 0 where
  pub place : before_spot to new ≡ before_spot from old
  pub within : (n : ℕ) → n ≤ 1 → IsIn from n old → IsIn to n new

-- where a place of a list is once n of its runs are left in it, and the others follow in one of their own
abbrev pub spot_behind : ℕ → Spot → Spot
spot_behind n at = if nat_lt at.place n then at else record { block = at.block + 1; place = at.place - n }

-- the number of a block whose place is none behind b
pub record IsNumber (places : List ℕ) (b i : ℕ) : Type 0 where
  pub within : i < length places
  pub place : (p : ℕ) → slice_get places i ≡ Some p → p ≤ b

-- no hint is new but one of this name, whose number is of a block that stands not behind b
abbrev pub AddsHint : List ℕ → ℕ → ElemId → List (ElemId × ℕ) → List (ElemId × ℕ) → Type 0
AddsHint places b id old new = (hint : ElemId × ℕ) → IsOne new hint
    → IsOne old hint ⊎ ((hint.0 ≡ id) × IsNumber places b hint.1)

-- no hint is new but one of this name and number
abbrev pub SetsHint : ElemId → ℕ → List (ElemId × ℕ) → List (ElemId × ℕ) → Type 0
SetsHint id n old new = (hint : ElemId × ℕ) → IsOne new hint → IsOne old hint ⊎ ((hint.0 ≡ id) × (hint.1 ≡ n))
