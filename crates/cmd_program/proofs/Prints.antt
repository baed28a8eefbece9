-- What is printed of the world of a document.
use Rattle.std.specs.Global.{Vec}
use Rattle.std.proofs.Common.{◌≡◌, ◌∙◌, ℕ, false, Result, Ok, Err, ap, subst, sym}
use Rattle.std.specs.Prelude.{◌⊎◌, MatchResult, slice_get}
use Rattle.zed_world.specs.Contents.{Contents}
use Rattle.zed_edit.specs.Replay.{replay}
use Rattle.zed_document.specs.Replica.{Replica}
use Rattle.zed_export.specs.declared.error.ExportError.{ExportError}
use Rattle.zed_export.specs.Limits.{Answers, exported, refusal_of, unless_stale}
use Rattle.zed_export.specs.World.{world_of}
use Rattle.zed_driver.specs.declared.command.Stop.{Stop}
use Rattle.zed_driver.specs.declared.command.Stop.TheVariants.{Memory}
use Rattle.zed_refusal.specs.declared.reason.Reason.{Reason}
use Rattle.zed_refusal.specs.Stops.{export_stop}
use Rattle.cmd_log.proofs.Exported.{exported_so, none_over, stopped_over}
use Rattle.cmd_program.specs.Printed.{printed, text_on}

-- a world that was exported tells it
pub prints_so : (d : Replica) (w : Contents) (board stat : ℕ) (result : Result (Vec ℕ) (Stop Reason)) → d.is_stale ≡ false
    → Answers {X = Contents} (λ x. x) (unless_stale d (exported 32767)) (Ok w)
    → MatchResult result (λ text. text_on (slice_get w.boards board) stat ≡ Ok text.items) (λ e. (e ≡ Memory) ⊎ (text_on (slice_get w.boards board) stat ≡ Err e))
    → MatchResult result (λ text. printed board stat d.edits ≡ Ok text.items) (λ e. (e ≡ Memory) ⊎ (printed board stat d.edits ≡ Err e))
prints_so d w board stat result sound is told =
    let both = exported_so 32767 d w sound is in
    let whole = text_on (slice_get (world_of (replay d.edits)).boards board) stat in
    let same : text_on (slice_get w.boards board) stat ≡ printed board stat d.edits =
    ap (λ v. text_on (slice_get v.boards board) stat) both.0 ∙ sym (none_over whole (refusal_of 32767 (replay d.edits)) both.1) in
    subst (λ r. MatchResult result (λ text. r ≡ Ok text.items) (λ e. (e ≡ Memory) ⊎ (r ≡ Err e))) same told

-- one that wasn't stops it
pub prints_not : (d : Replica) (board stat : ℕ) (e : ExportError) (told : Stop Reason) → d.is_stale ≡ false
    → Answers {X = Contents} (λ x. x) (unless_stale d (exported 32767)) (Err e)
    → told ≡ export_stop e
    → (told ≡ Memory) ⊎ (printed board stat d.edits ≡ Err told)
prints_not d board stat e told sound is same =
    stopped_over (text_on (slice_get (world_of (replay d.edits)).boards board) stat) 32767 d e told sound is same
