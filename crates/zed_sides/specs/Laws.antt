-- What holds of two sets of edits and their union.
use Rattle.std.specs.Prelude.{◌≡◌, ◌⊎◌, true, not, ◌&&◌, List, [], ◌++◌, filter, Option, Some, None, is_some}
use Rattle.std.specs.List.{list_any}
use Rattle.zed_types.specs.declared.stamp.Stamp.{Stamp}
use Rattle.zed_types.specs.declared.written.Written.{Written}
use Rattle.zed_types.specs.Register.{keep_later}
use Rattle.zed_types.specs.Stamp.{before, same_stamp}
use Rattle.zed_op.specs.declared.op.Edit.{Edit}
use Rattle.zed_op.specs.Set.{Agrees, AllFit, IsRising, union}
use Rattle.zed_op.specs.Sizes.{HaveSizes}
use Rattle.zed_edit.specs.Replay.{held}
use Rattle.zed_laws.specs.Winners.{Register}
use Rattle.zed_sides.specs.Sides.{IsOverridden, Write, common, latest, own, shown}

-- the later of two writes, if there are any
abbrev pub later_of : {V : Type 0} → Option (Written V) → Option (Written V) → Option (Written V)
later_of o None = o
later_of o (Some w) = keep_later o w

-- the latest write of the union is the later one of those of its sides
abbrev pub UnionHasTheLater : {V : Type 0} → Register V → Type 0
UnionHasTheLater r =
    (es fs : List Edit)
    → IsRising es
    → IsRising fs
    → Agrees (es ++ fs)
    → latest r (union es fs) ≡ later_of (latest r es) (latest r fs)

-- two sets that agree, of which no edit waits for what isn't made, nor of what both have, nor of their union
pub record AreSides (es fs : List Edit) : Type 0 where
  pub rising : IsRising es
  pub other_rising : IsRising fs
  pub agree : Agrees (es ++ fs)
  pub sizes : HaveSizes es
  pub other_sizes : HaveSizes fs
  pub done : held es ≡ []
  pub other_done : held fs ≡ []
  pub common_done : held (common es fs) ≡ []
  pub union_done : held (union es fs) ≡ []

-- a register of the union shows what the one side shows, or what the other one shows
abbrev pub UnionShowsASide : {V : Type 0} → Register V → Type 0
UnionShowsASide r =
    (es fs : List Edit)
    → AreSides es fs
    → (shown r (union es fs) ≡ shown r es) ⊎ (shown r (union es fs) ≡ shown r fs)

-- what is overridden was written on both sides since they parted
abbrev pub OverriddenByBoth : {V : Type 0} → Register V → Type 0
OverriddenByBoth r =
    (es fs : List Edit) → AreSides es fs → IsOverridden r es fs → Write r (own es fs) × Write r (own fs es)

-- edits without that of a stamp
abbrev pub but : Stamp → List Edit → List Edit
but s es = filter (λ e. not (same_stamp e.stamp s)) es

-- an edit behind a stamp writes the register
abbrev pub IsWrittenLater : {V : Type 0} → Register V → Stamp → List Edit → Type 0
IsWrittenLater r s es = list_any (λ f. before s f.stamp && is_some (r.writes f)) es ≡ true

-- an edit behind which the register is written again can be left out: the latest write stays the same
abbrev pub LaterHides : {V : Type 0} → Register V → Type 0
LaterHides r = (s : Stamp) (es : List Edit) → IsRising es → IsWrittenLater r s es → latest r (but s es) ≡ latest r es

-- what a set has in common with another one is a set of edits that fit, as that set is
abbrev pub CommonIsASet : Type 0
CommonIsASet = (es fs : List Edit) → IsRising es → AllFit es → IsRising (common es fs) × AllFit (common es fs)
