-- The exported world.
use Rattle.std.proofs.Common.{◌≡◌, ◌∙◌, false, Option, Some, None, Ok, Err, ap, refl, sym, inl, inr}
use Rattle.std.specs.Prelude.{◌⊎◌}
use Rattle.zed_world.specs.Contents.{Contents}
use Rattle.zed_edit.specs.Replay.{replay}
use Rattle.zed_document.specs.Replica.{Replica}
use Rattle.zed_export.specs.declared.error.ExportError.{ExportError}
use Rattle.zed_export.specs.declared.error.ExportError.TheVariants as export
use Rattle.zed_export.specs.Limits.{Answers, exported, refusal_of, unless_over, unless_stale}
use Rattle.zed_export.specs.World.{world_of}
use Rattle.zed_refusal.specs.Stops.{export_stop}
use Rattle.zed_driver.specs.declared.command.Stop.TheVariants.{Memory}
use Rattle.cmd_take.specs.Opening.{export_told}
use Rattle.cmd_take.specs.Stops.{DrawingStop, drawing_stop}
use Rattle.cmd_undo.specs.Undoing.{IsShown}

is_world : (o : Option ExportError) (v w : Contents) → Answers {X = Contents} (λ x. x) (unless_over o v) (Ok w) → (w ≡ v) × (o ≡ None)
is_world None v w is = (is, refl)
is_world (Some e) v w is = absurd (cc)

exported_so : (d : Replica) (w : Contents) → d.is_stale ≡ false → Answers {X = Contents} (λ x. x) (unless_stale d (exported 32767)) (Ok w)
    → (w ≡ world_of (replay d.edits)) × (refusal_of 32767 (replay d.edits) ≡ None)
exported_so d w sound is = is_world (refusal_of 32767 (replay d.edits)) (world_of (replay d.edits)) w (rw sound at is)

is_refused : (o : Option ExportError) (v : Contents) (e : ExportError) → Answers {X = Contents} (λ x. x) (unless_over o v) (Err e)
    → (e ≡ export.Memory) ⊎ (o ≡ Some e)
is_refused None v e is = inl is
is_refused (Some x) v e is = inr (let same : e ≡ x = cc in ap (λ y. Some y) (sym same))

refused_so : (d : Replica) (e : ExportError) → d.is_stale ≡ false → Answers {X = Contents} (λ x. x) (unless_stale d (exported 32767)) (Err e)
    → (e ≡ export.Memory) ⊎ (refusal_of 32767 (replay d.edits) ≡ Some e)
refused_so d e sound is = is_refused (refusal_of 32767 (replay d.edits)) (world_of (replay d.edits)) e (rw sound at is)

-- a world that was exported is the one that is shown
pub shown : (d : Replica) (w : Contents) → d.is_stale ≡ false → Answers {X = Contents} (λ x. x) (unless_stale d (exported 32767)) (Ok w)
    → IsShown d.edits (Ok w)
shown d w sound is =
    let so = exported_so d w sound is in
    let whole : exported 32767 (replay d.edits) ≡ Ok (world_of (replay d.edits)) = ap (λ o. unless_over o (world_of (replay d.edits))) so.1 in
    ap (λ v. Ok v) so.0 ∙ sym (ap export_told whole)

-- one that was refused isn't
pub not_shown : (d : Replica) (e : ExportError) (told : DrawingStop) → d.is_stale ≡ false
    → Answers {X = Contents} (λ x. x) (unless_stale d (exported 32767)) (Err e)
    → told ≡ drawing_stop (export_stop e)
    → (told ≡ Memory) ⊎ IsShown d.edits (Err told)
not_shown d e told sound why is = elim (refused_so d e sound why) [
  | inl lack ↦ inl (is ∙ ap (λ x. drawing_stop (export_stop x)) lack)
  | inr over ↦ inr (
      let none : exported 32767 (replay d.edits) ≡ Err e = ap (λ o. unless_over o (world_of (replay d.edits))) over in
      ap (λ x. Err x) is ∙ sym (ap export_told none))
]
