-- How many edits only one of two sets has.
use Rattle.std.specs.Prelude.{◌≡◌, ℕ, ◌&&◌, not, List, count_by, length}
use Rattle.zed_op.specs.declared.op.Edit.{Edit}
use Rattle.zed_document.specs.Held.{held_stamps, is_among}
use Rattle.zed_sides.specs.Sides.{knows, own}
use Rattle.zed_join.specs.declared.tally.Tally.{Tally}

-- how many of the edits of the first set that the second doesn't have are held
abbrev pub held_own : List Edit → List Edit → ℕ
held_own es fs = count_by (λ e. not (knows fs e) && is_among (held_stamps es) e.stamp) es

-- these are counted
pub record IsTallied (es fs : List Edit) (t : Tally) : Type 0 where
  pub edits : t.edits ≡ length (own es fs)
  pub held : t.held ≡ held_own es fs
