-- How a document keeps what it shows.
use Rattle.std.specs.Prelude.{◌≡◌, Bool, true, false, List}
use Rattle.zed_types.specs.declared.stamp.Stamp.{Stamp}
use Rattle.zed_op.specs.declared.op.Edit.{Edit}
use Rattle.zed_op.specs.Set.{AllFit, IsRising}
use Rattle.zed_op.specs.Sizes.{HaveSizes}
use Rattle.zed_delivery.specs.declared.body.Body.{Body}
use Rattle.zed_delivery.specs.Shows.{BodyShows}
use Rattle.zed_delivery.specs.Taking.{IsEmpty}
use Rattle.zed_document.specs.Held.{held_stamps}

-- the log is a set of edits that fit and have the sizes of their fields, in rising stamp order; the stamps kept are those held, in a stale document too; and the body shows the edits, but for a stale one, whose body is empty
pub record IsKept (edits : List Edit) (stamps : List Stamp) (is_stale : Bool) (body : Body) : Type 0 where
  pub fit : AllFit edits
  pub sizes : HaveSizes edits
  pub rising : IsRising edits
  pub held : stamps ≡ held_stamps edits
  pub shown : is_stale ≡ false → BodyShows edits body
  pub emptied : is_stale ≡ true → IsEmpty body
