-- Two sides, what both have, and their union, as documents and as what these show.
use Rattle.std.specs.Prelude.{◌≡◌, ◌⊎◌, Bool, false, List}
use Rattle.std.specs.List.{list_any}
use Rattle.zed_types.specs.declared.stamp.Stamp.{Stamp}
use Rattle.zed_types.specs.Stamp.{same_stamp}
use Rattle.zed_op.specs.declared.op.Edit.{Edit}
use Rattle.zed_op.specs.Set.{union}
use Rattle.zed_edit.specs.Replay.{replay}
use Rattle.zed_history.specs.Clash.{IsLeastClash}
use Rattle.zed_document.specs.declared.error.DocumentError.{DocumentError}
use Rattle.zed_document.specs.declared.error.DocumentError.TheVariants.{Clash, Memory}
use Rattle.zed_document.specs.Replica.{Replica}
use Rattle.zed_sides.specs.Sides.{common}
use Rattle.zed_join.specs.declared.sides.Sides.{Sides}
use Rattle.zed_join.specs.declared.sides.Views.{Views}

-- whether an edit of this stamp is among these
abbrev pub has_stamp : List Edit → Stamp → Bool
has_stamp es s = list_any (λ f. same_stamp f.stamp s) es

-- a document that has these edits, and isn't stale
abbrev pub Has : List Edit → Replica → Type 0
Has es d = (d.edits ≡ es) × (d.is_stale ≡ false)

-- two sets clash, the least stamp for which they have different edits is told; or memory is lacking
abbrev pub ClashOrMemory : List Edit → List Edit → DocumentError → Type 0
ClashOrMemory es fs e = (e ≡ Memory) ⊎ ((s : Stamp) × IsLeastClash es fs s × (e ≡ Clash s))

-- documents of two sets, of what both have, and of their union
pub record AreSides (es fs : List Edit) (s : Sides) : Type 0 where
  pub base : Has (common es fs) s.base
  pub mine : Has es s.mine.now
  pub theirs : Has fs s.theirs.now
  pub union : Has (union es fs) s.union

-- what documents show
pub record ShowSides (s : Sides) (w : Views) : Type 0 where
  pub base : w.base ≡ replay s.base.edits
  pub mine : w.mine ≡ replay s.mine.now.edits
  pub theirs : w.theirs ≡ replay s.theirs.now.edits
  pub union : w.union ≡ replay s.union.edits
