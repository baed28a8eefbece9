-- A Genesis that fits puts a world into a document.
use Rattle.std.proofs.Common.{◌≡◌, ◌∙◌, true, List, ℕ, ap, refl}
use Rattle.zed_op.specs.declared.op.Op.{Op}
use Rattle.zed_op.specs.declared.op.Op.TheVariants.{Genesis}
use Rattle.zed_op.specs.declared.op.Edit.{Edit}
use Rattle.zed_op.specs.Fit.{Fits}
use Rattle.zed_op.specs.Verdict.{is_genesis}
use Rattle.zed_edit.specs.Replay.{made_by}
use Rattle.zed_live.specs.declared.header.LiveHeader.{LiveHeader}
use Rattle.zed_live.specs.declared.document.LiveDocument.{LiveDocument}
use Rattle.zed_live.specs.Boards.{Boards}
use Rattle.zed_live.specs.Document.{document_after, with_world}
use Rattle.zed_live.proofs.BoardsMade.{genesis-adds}
use Rattle.zed_live.proofs.Opening.{genesis-opens}

abbrev pub make : LiveHeader → Boards → LiveDocument
make h bs = record { header = h; boards = bs }

world-puts_in : (e : Edit) (bytes : List ℕ) (d : LiveDocument) → e.op ≡ Genesis bytes → Fits e
    → with_world e.stamp (made_by e) d ≡ document_after e d
world-puts_in e bytes d is fits =
    let path : make (with_world e.stamp (made_by e) d).header (with_world e.stamp (made_by e) d).boards ≡ make (document_after e d).header (document_after e d).boards =
    ap (λ h. make h (with_world e.stamp (made_by e) d).boards) (genesis-opens e bytes d.header is fits)
    ∙ ap (λ bs. make (document_after e d).header bs) (genesis-adds e bytes d.boards is) in
    path

pub genesis-puts_in : (e : Edit) (d : LiveDocument) → is_genesis e.op ≡ true → Fits e
    → with_world e.stamp (made_by e) d ≡ document_after e d
genesis-puts_in e d is fits = go e.op refl is
  where
    go : (op : Op) → e.op ≡ op → is_genesis op ≡ true → with_world e.stamp (made_by e) d ≡ document_after e d
    go (Genesis bytes) k h = world-puts_in e bytes d k fits
    go _ k h = absurd (let bad = h in cc)
