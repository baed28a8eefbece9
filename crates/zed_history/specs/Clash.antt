-- Where two sets of edits clash, and what the one has that the other hasn't.
use Rattle.std.specs.Prelude.{◌≡◌, ◌≢◌, false, List, filter, Contains}
use Rattle.std.specs.Option.{is_none}
use Rattle.zed_types.specs.declared.stamp.Stamp.{Stamp}
use Rattle.zed_types.specs.Stamp.{before}
use Rattle.zed_op.specs.declared.op.Edit.{Edit}
use Rattle.zed_history.specs.Finding.{edit_with}

-- two sets have different edits with this stamp
abbrev pub ClashesAt : List Edit → List Edit → Stamp → Type 0
ClashesAt es fs s = (e : Edit) × (f : Edit) × Contains es e × Contains fs f × (e.stamp ≡ s) × (f.stamp ≡ s) × (e ≢ f)

-- two sets agree: no two different edits of them have one stamp
abbrev pub Agree : List Edit → List Edit → Type 0
Agree es fs = (e f : Edit) → Contains es e → Contains fs f → e.stamp ≡ f.stamp → e ≡ f

-- the least stamp at which two sets clash
pub record IsLeastClash (es fs : List Edit) (s : Stamp) : Type 0 where
  pub clashes : ClashesAt es fs s
  pub least : (t : Stamp) → ClashesAt es fs t → before t s ≡ false

-- the edits of a set of whose stamps another has none
abbrev pub new_to : List Edit → List Edit → List Edit
new_to es fs = filter (λ f. is_none (edit_with f.stamp es)) fs
