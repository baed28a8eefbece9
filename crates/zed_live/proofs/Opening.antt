-- A Genesis that fits makes a world, whose header is written.
use Rattle.std.proofs.Common.{◌≡◌, true, List, ℕ, Result, Ok, Err, refl}
use Rattle.zed_world.specs.Contents.{Contents}
use Rattle.zed_world.specs.Canonical.{is_rewritten, is_canonical}
use Rattle.zed_world.specs.Reading.{world_at}
use Rattle.zed_world.specs.declared.error.WorldError.{WorldError}
use Rattle.zed_op.specs.declared.op.Op.TheVariants.{Genesis}
use Rattle.zed_op.specs.declared.op.Edit.{Edit}
use Rattle.zed_op.specs.Fit.{Fits}
use Rattle.zed_op.proofs.FitParts.{fit_is_each_part}
use Rattle.zed_edit.specs.Document.{empty_document}
use Rattle.zed_edit.specs.Replay.{made_by, open_world}
use Rattle.zed_live.specs.declared.header.LiveHeader.{LiveHeader}
use Rattle.zed_live.specs.Header.{write_all, open_header, header_after}

rewritten : (bytes : List ℕ) → is_canonical bytes ≡ true → is_rewritten bytes (world_at bytes) ≡ true
unfolding is_canonical
rewritten bytes e = e

pub genesis-opens : (e : Edit) (bytes : List ℕ) (h : LiveHeader) → e.op ≡ Genesis bytes → Fits e
    → write_all e.stamp (made_by e).header h ≡ header_after e.stamp e.op h
genesis-opens e bytes h is fits = rw is (go (world_at bytes) refl good)
  where
    good : is_rewritten bytes (world_at bytes) ≡ true
    good = rewritten bytes (let g = ((fit_is_each_part e).0 fits).3 in rw is at g)

    go : (r : Result Contents WorldError) → world_at bytes ≡ r → is_rewritten bytes r ≡ true
        → write_all e.stamp (open_world e.stamp r empty_document).header h ≡ open_header e.stamp r h
    go (Ok w) k g = refl
    go (Err x) k g = absurd (cc)
