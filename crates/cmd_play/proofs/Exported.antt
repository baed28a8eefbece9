-- The exported world.
use Rattle.std.proofs.Common.{◌≡◌, ℕ, false, Option, Some, None, Ok, ap, sym}
use Rattle.zed_world.specs.Contents.{Contents}
use Rattle.zed_edit.specs.Replay.{replay}
use Rattle.zed_document.specs.Replica.{Replica}
use Rattle.zed_export.specs.declared.error.ExportError.{ExportError}
use Rattle.zed_export.specs.Limits.{Answers, exported, refusal_of, unless_over, unless_stale}
use Rattle.zed_export.specs.World.{world_of}

is_over_none : (o : Option ExportError) (v w : Contents) → Answers {X = Contents} (λ x. x) (unless_over o v) (Ok w) → unless_over o v ≡ Ok w
is_over_none None v w is = ap (λ x. Ok x) (sym is)
is_over_none (Some e) v w is = absurd (cc)

-- a world that was exported is that of the edits of its document
pub exported_so : (limit : ℕ) (d : Replica) (w : Contents) → d.is_stale ≡ false
    → Answers {X = Contents} (λ x. x) (unless_stale d (exported limit)) (Ok w)
    → exported limit (replay d.edits) ≡ Ok w
exported_so limit d w sound is = is_over_none (refusal_of limit (replay d.edits)) (world_of (replay d.edits)) w (rw sound at is)
