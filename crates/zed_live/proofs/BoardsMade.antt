-- The boards that an edit makes of an empty document.
use Rattle.std.proofs.Common.{◌≡◌, List, ℕ, Result, Ok, Err, refl, ap}
use Rattle.zed_types.specs.declared.stamp.Stamp.{Stamp}
use Rattle.zed_world.specs.Contents.{Contents}
use Rattle.zed_world.specs.Reading.{world_at}
use Rattle.zed_world.specs.declared.error.WorldError.{WorldError}
use Rattle.zed_op.specs.declared.op.Op.TheVariants.{Genesis, BoardAdd}
use Rattle.zed_op.specs.declared.op.Edit.{Edit}
use Rattle.zed_edit.specs.Document.{empty_document}
use Rattle.zed_edit.specs.Replay.{made_by, open_world}
use Rattle.zed_laws.specs.Winners.{opened_from}
use Rattle.zed_live.specs.Boards.{Boards, add_all, all_as_made, boards_after}

opened : (s : Stamp) (r : Result Contents WorldError) → (open_world s r empty_document).boards ≡ opened_from s r
opened s (Ok w) = refl
opened s (Err e) = refl

pub genesis-adds : (e : Edit) (bytes : List ℕ) (ys : Boards) → e.op ≡ Genesis bytes
    → add_all (all_as_made e.stamp (made_by e).boards) ys ≡ boards_after e.stamp e.op ys
genesis-adds e bytes ys is = rw is (ap (λ bs. add_all (all_as_made e.stamp bs) ys) (opened e.stamp (world_at bytes)))

pub board-adds : (e : Edit) (name : List ℕ) (ys : Boards) → e.op ≡ BoardAdd name
    → add_all (all_as_made e.stamp (made_by e).boards) ys ≡ boards_after e.stamp e.op ys
board-adds e name ys is = rw is refl
