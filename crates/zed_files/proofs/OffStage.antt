-- Refusals that are neither of a screen nor of a source of keys.
use Rattle.zed_action.specs.declared.error.ActionError.TheVariants as action
use Rattle.zed_document.specs.declared.error.DocumentError.TheVariants as document
use Rattle.zed_editfile.specs.declared.error.EditFileError.TheVariants as file
use Rattle.zed_export.specs.declared.error.ExportError.TheVariants as export
use Rattle.zed_link.specs.declared.error.LinkError.TheVariants as link
use Rattle.zed_world.specs.declared.error.WorldError.TheVariants as world
use Rattle.zed_action.specs.declared.error.ActionError.{ActionError}
use Rattle.zed_document.specs.declared.error.DocumentError.{DocumentError}
use Rattle.zed_editfile.specs.declared.error.EditFileError.{EditFileError}
use Rattle.zed_export.specs.declared.error.ExportError.{ExportError}
use Rattle.zed_link.specs.declared.error.LinkError.{LinkError}
use Rattle.zed_world.specs.declared.error.WorldError.{WorldError}
use Rattle.zed_files.specs.declared.refusal.Refusal.{Refusal}
use Rattle.zed_files.specs.declared.refusal.Refusal.TheVariants.{File, Memory}
use Rattle.std.proofs.Common.{◌≡◌, ℕ, Bool, false, Option, Some, None, Result, Ok, Err, refl, subst, sym, inl, inr}
use Rattle.std.specs.Prelude.{IfErr, IfSome, IsErrAnd}
use mathlib.Core.Logic.{◌⊎◌}
use Rattle.zed_host.specs.Counting.{Counts}
use Rattle.zed_files.specs.Files.{end_of}
use Rattle.zed_files.specs.Refusals.{IsOffStage, export_refusal, file_refusal, is_key_fault, is_screen_fault, link_refusal}

-- a refusal that is one of these
pub is_off : (e f : Refusal) → e ≡ f → IsOffStage f → IsOffStage e
is_off e f is off = subst IsOffStage (sym is) off

pub memory_off : (e : Refusal) → e ≡ Memory → IsOffStage e
memory_off e is = is_off e Memory is (refl, refl)

pub end_off : (asked : Option ℕ) → IfSome (end_of asked) IsOffStage
end_off None = (refl, refl)
end_off (Some world) = tt

pub file_off : (e : EditFileError) → IsOffStage (file_refusal e)
file_off file.Memory = (refl, refl)
file_off file.Magic = (refl, refl)
file_off file.NewVersion = (refl, refl)
file_off file.OtherWorld = (refl, refl)
file_off file.RecordLength = (refl, refl)
file_off (file.BadEdit a) = (refl, refl)
file_off file.CutShort = (refl, refl)

pub export_off : (e : ExportError) → IsOffStage (export_refusal e)
export_off export.Memory = (refl, refl)
export_off export.Stale = (refl, refl)
export_off export.NoWorld = (refl, refl)
export_off (export.BoardsOver a) = (refl, refl)
export_off (export.StatsOver a b) = (refl, refl)
export_off (export.BoardOver a b) = (refl, refl)

pub link_off : (e : LinkError) → IsOffStage (link_refusal e)
link_off link.Memory = (refl, refl)
link_off link.Magic = (refl, refl)
link_off link.NewVersion = (refl, refl)
link_off link.OtherWorld = (refl, refl)
link_off link.RecordLength = (refl, refl)
link_off (link.BadEdit a) = (refl, refl)
link_off link.CutShort = (refl, refl)
link_off (link.Clash a) = (refl, refl)
link_off link.Stale = (refl, refl)
link_off link.LinkFault = (refl, refl)
link_off link.TooManyTurns = (refl, refl)

-- a file that was not read
pub unread_off : (e : Refusal) → (e ≡ Memory) ⊎ (e ≡ File) → IsOffStage e
unread_off e why = elim why [ inl memory ↦ memory_off e memory | inr lost ↦ is_off e File lost (refl, refl) ]

-- what `?` hands on
pub off_on : {X : Type 0} (answer : Result X Refusal) (e : Refusal) → IsErrAnd answer (λ told. told ≡ e) → IsOffStage e
    → IfErr answer IsOffStage
off_on (Ok x) e told off = absurd told
off_on (Err x) e told off = is_off x e told off

-- the answer of a write
pub written_off : {X : Type 0} (answer : Result X Refusal) → IfErr answer (λ e. e ≡ File) → IfErr answer IsOffStage
written_off (Ok x) err = tt
written_off (Err e) err = is_off e File err (refl, refl)

-- ---- the counts of failed calls

-- an answer that tells of no failed call, where there was none
pub uncounted : (told : Bool) (old new : ℕ) → told ≡ false → new ≡ old → Counts told old new
uncounted told old new off same = subst (λ b. Counts b old new) (sym off) same

-- no call of a screen failed, and the refusal is of none
pub screen_uncounted : {X : Type 0} (answer : Result X Refusal) (old new : ℕ) → IfErr answer IsOffStage → new ≡ old
    → Counts (is_screen_fault answer) old new
screen_uncounted (Ok x) old new off same = same
screen_uncounted (Err e) old new off same = uncounted _ old new off.0 same

-- the same of a source of keys
pub keys_uncounted : {X : Type 0} (answer : Result X Refusal) (old new : ℕ) → IfErr answer IsOffStage → new ≡ old
    → Counts (is_key_fault answer) old new
keys_uncounted (Ok x) old new off same = same
keys_uncounted (Err e) old new off same = uncounted _ old new off.1 same
