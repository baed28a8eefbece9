-- Late insertions and deletions that can be done at their places.
use Rattle.zed_laws.specs.Laws.{insertion, deletion, LateInsertion, LateDeletion}
use Rattle.zed_op.proofs.FitParts.{fit_is_each_part}
use Rattle.zed_laws.proofs.TakenAlone.{late_edit_holds_none}
use Rattle.zed_laws.proofs.LateInsertion.{insertion_among_done}
use Rattle.zed_laws.proofs.LateDeletion.{deletion_among_done}

pub late_insertion : LateInsertion
late_insertion s t a bytes low high r f h c =
    let k = (fit_is_each_part (insertion s t a bytes)).0 f.0 in
    insertion_among_done s t a bytes low high r h (late_edit_holds_none (insertion s t a bytes) low high r f h c) k.2

pub late_deletion : LateDeletion
late_deletion s t x low high r f h c =
    let k = (fit_is_each_part (deletion s t x)).0 f.0 in
    deletion_among_done s t x low high r h (late_edit_holds_none (deletion s t x) low high r f h c) k.2
