-- An edit that fits has the sizes of its fields.
use Rattle.std.proofs.Common.{◌≡◌, true, refl}
use Rattle.std.proofs.lemmas.Bool.{and_parts}
use Rattle.zed_types.specs.declared.stamp.Stamp.{Stamp}
use Rattle.zed_types.proofs.Facts.{or_right}
use Rattle.zed_op.specs.declared.op.Op.{Op}
use Rattle.zed_op.specs.declared.op.Op.TheVariants.{Genesis}
use Rattle.zed_op.specs.declared.op.Edit.{Edit}
use Rattle.zed_op.specs.Names.{names_of}
use Rattle.zed_op.specs.Fit.{is_stamp, is_own_stamp, is_in_range, Fits}
use Rattle.zed_op.specs.Sizes.{AreStamped, IsStamp, IsOp, HasSizes}
use Rattle.zed_op.specs.Verdict.{FitIsEachPart}

pub own_stamp : (op : Op) (s : Stamp) → is_own_stamp op s ≡ true → is_stamp s ≡ true
own_stamp (Genesis bytes) s h = rw h refl
own_stamp _ s h = or_right _ _ h

-- by the facts on real edits: the stamp and the op have their sizes
pub has_sizes : FitIsEachPart → (e : Edit) → (is_stamp e.stamp ≡ true → IsStamp e.stamp)
    → (AreStamped (names_of e.op) → is_in_range e.op ≡ true → IsOp e.op) → Fits e
    → HasSizes e
has_sizes law e stamp op fits =
    let p = (law e).0 fits in
    let stamps = and_parts _ _ p.0 in
    (stamp (own_stamp e.op e.stamp stamps.0), op stamps.1 p.1)
