-- The exported world.
use Rattle.zed_export.specs.declared.error.ExportError.{ExportError}
use Rattle.zed_export.specs.declared.error.ExportError.TheVariants.{Memory}
use Rattle.std.proofs.Common.{◌≡◌, ◌∙◌, ℕ, false, List, Option, Some, None, Result, Ok, Err, ap, refl, sym, inl, inr}
use mathlib.Core.Logic.{◌⊎◌}
use Rattle.zed_driver.specs.declared.command.Stop.{Stop}
use Rattle.zed_driver.specs.declared.command.Stop.TheVariants as stop
use Rattle.zed_refusal.specs.declared.reason.Reason.{Reason}
use Rattle.zed_refusal.specs.Stops.{export_stop}
use Rattle.cmd_log.specs.Listed.{unless_over}
use Rattle.zed_world.specs.Contents.{Contents}
use Rattle.zed_edit.specs.Replay.{replay}
use Rattle.zed_document.specs.Replica.{Replica}
use Rattle.zed_export.specs.Limits.{Answers, exported, refusal_of, unless_over as over, unless_stale}
use Rattle.zed_export.specs.World.{world_of}

is_world : (o : Option ExportError) (v w : Contents) → Answers {X = Contents} (λ x. x) (over o v) (Ok w) → (w ≡ v) × (o ≡ None)
is_world None v w is = (is, refl)
is_world (Some e) v w is = absurd (cc)

-- a world that was exported is that of the document, which goes over no limit
pub exported_so : (limit : ℕ) (d : Replica) (w : Contents) → d.is_stale ≡ false
    → Answers {X = Contents} (λ x. x) (unless_stale d (exported limit)) (Ok w)
    → (w ≡ world_of (replay d.edits)) × (refusal_of limit (replay d.edits) ≡ None)
exported_so limit d w sound is = is_world (refusal_of limit (replay d.edits)) (world_of (replay d.edits)) w (rw sound at is)

is_refused : (o : Option ExportError) (v : Contents) (e : ExportError) → Answers {X = Contents} (λ x. x) (over o v) (Err e)
    → (e ≡ Memory) ⊎ (o ≡ Some e)
is_refused None v e is = inl is
is_refused (Some x) v e is = inr (let same : e ≡ x = cc in ap (λ y. Some y) (sym same))

-- one that wasn't, lacked memory, or goes over this limit
pub refused_so : (limit : ℕ) (d : Replica) (e : ExportError) → d.is_stale ≡ false
    → Answers {X = Contents} (λ x. x) (unless_stale d (exported limit)) (Err e)
    → (e ≡ Memory) ⊎ (refusal_of limit (replay d.edits) ≡ Some e)
refused_so limit d e sound is = is_refused (refusal_of limit (replay d.edits)) (world_of (replay d.edits)) e (rw sound at is)

-- where no limit is gone over, this is told
pub none_over : (told : Result (List ℕ) (Stop Reason)) (o : Option ExportError) → o ≡ None → unless_over o told ≡ told
none_over told None is = refl
none_over told (Some e) is = absurd (cc)

some_over : (told : Result (List ℕ) (Stop Reason)) (o : Option ExportError) (e : ExportError) → o ≡ Some e → unless_over o told ≡ Err (export_stop e)
some_over told None e is = absurd (cc)
some_over told (Some x) e is = let same : x ≡ e = cc in ap (λ y. Err (export_stop y)) same

-- and in its place why a world wasn't exported
pub stopped_over : (told : Result (List ℕ) (Stop Reason)) (limit : ℕ) (d : Replica) (e : ExportError) (s : Stop Reason) → d.is_stale ≡ false
    → Answers {X = Contents} (λ x. x) (unless_stale d (exported limit)) (Err e) → s ≡ export_stop e
    → (s ≡ stop.Memory) ⊎ (unless_over (refusal_of limit (replay d.edits)) told ≡ Err s)
stopped_over told limit d e s sound is same = elim (refused_so limit d e sound is) [
  | inl lacks ↦ inl (same ∙ ap export_stop lacks)
  | inr over ↦ inr (some_over told (refusal_of limit (replay d.edits)) e over ∙ ap (λ z. Err z) (sym same))
]
