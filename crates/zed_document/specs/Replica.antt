-- What contracts see of a document.
use Rattle.std.specs.Prelude.{ℕ, Bool, List}
use Rattle.zed_op.specs.declared.op.Edit.{Edit}
use Rattle.zed_document.specs.Counts.{Counts}

-- The number of its world, its edits in rising stamp order, whether want of memory has left it stale, and how often runs of each text were looked at; of a stale document none. All else that it shows is the replay of its edits.
pub record Replica : Type 0 where
  pub world : ℕ
  pub edits : List Edit
  pub is_stale : Bool
  pub counts : Counts
