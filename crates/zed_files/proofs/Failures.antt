-- `File` is answered only where a call of the host failed.
use Rattle.zed_action.specs.declared.error.ActionError.TheVariants as action
use Rattle.zed_document.specs.declared.error.DocumentError.TheVariants as document
use Rattle.zed_editfile.specs.declared.error.EditFileError.TheVariants as file
use Rattle.zed_session.specs.declared.error.SessionError.TheVariants as session
use Rattle.zed_world.specs.declared.error.WorldError.TheVariants as world
use Rattle.zed_action.specs.declared.error.ActionError.{ActionError}
use Rattle.zed_document.specs.declared.error.DocumentError.{DocumentError}
use Rattle.zed_editfile.specs.declared.error.EditFileError.{EditFileError}
use Rattle.zed_session.specs.declared.error.SessionError.{SessionError}
use Rattle.zed_world.specs.declared.error.WorldError.{WorldError}
use Rattle.zed_files.specs.declared.refusal.Refusal.{Refusal}
use Rattle.zed_files.specs.declared.refusal.Refusal.TheVariants.{File, Memory}
use Rattle.std.proofs.Common.{◌≡◌, ◌∙◌, ℕ, arith, Result, Ok, Err, MatchResult, is_err, refl, sym, inl, inr}
use Rattle.std.specs.Prelude.{IsErrAnd}
use mathlib.Core.Logic.{◌⊎◌}
use Rattle.zed_host.specs.Counting.{Counts, Rose}
use Rattle.zed_host.proofs.Counts.{rose_later}
use Rattle.zed_files.specs.Faults.{NoneForgotten, TellsFailures}
use Rattle.zed_files.specs.Refusals.{file_refusal, session_refusal}

pub memory_is_other : (e : Refusal) → e ≡ Memory → e ≡ File → ⊥
memory_is_other e memory is = cc

pub file_is_other : (e : EditFileError) → file_refusal e ≡ File → ⊥
file_is_other file.Memory is = cc
file_is_other file.Magic is = cc
file_is_other file.NewVersion is = cc
file_is_other file.OtherWorld is = cc
file_is_other file.RecordLength is = cc
file_is_other (file.BadEdit a) is = cc
file_is_other file.CutShort is = cc

pub session_is_other : (e : SessionError) → session_refusal e ≡ File → ⊥
session_is_other session.Memory is = cc
session_is_other session.Magic is = cc
session_is_other session.NewVersion is = cc
session_is_other session.OtherWorld is = cc
session_is_other session.RecordLength is = cc
session_is_other (session.BadEdit a) is = cc
session_is_other session.CutShort is = cc
session_is_other (session.Clash a) is = cc
session_is_other session.Stale is = cc
session_is_other session.NoWorld is = cc
session_is_other (session.BoardsOver a) is = cc
session_is_other (session.StatsOver a b) is = cc
session_is_other (session.BoardOver a b) is = cc
session_is_other session.NoBoard is = cc
session_is_other session.NoWords is = cc
session_is_other session.Over is = cc
session_is_other session.LinkFault is = cc
session_is_other session.ScreenFault is = cc
session_is_other session.KeyFault is = cc
session_is_other session.TooManyTurns is = cc
session_is_other session.NoLink is = cc

-- a refusal of memory, or of what isn't `File`
pub is_other : (P : Type 0) (e : Refusal) → (e ≡ Memory) ⊎ P → (P → e ≡ File → ⊥) → e ≡ File → ⊥
is_other P e why other is = elim why [ inl memory ↦ memory_is_other e memory is | inr p ↦ other p is ]

-- ---- no failed call is forgotten

pub none_yet : {H : Type 0} (faults failed : H → ℕ) (host : H) → NoneForgotten faults failed host host
none_yet faults failed host = (omega arith, omega arith)

-- calls that didn't fail
pub unfailed : {H : Type 0} (faults failed : H → ℕ) (old new : H) → faults new ≡ faults old → failed new ≡ failed old
    → NoneForgotten faults failed old new
unfailed faults failed old new calm uncounted = (omega (arith, calm), omega (arith, uncounted))

-- none of some calls, nor of those after them
pub none_later : {H : Type 0} (faults failed : H → ℕ) (old middle new : H) → NoneForgotten faults failed old middle
    → NoneForgotten faults failed middle new
    → NoneForgotten faults failed old new
none_later faults failed old middle new (f, n) (g, m) = (omega (arith, f, g), omega (arith, n, m))

-- what `?` hands on of a call, before which nothing was done
pub handed_on : {H X : Type 0} (faults failed : H → ℕ) (answer : Result X Refusal) (e : Refusal) (old new : H)
    → IsErrAnd answer (λ told. told ≡ e)
    → NoneForgotten faults failed old new × (e ≡ File → Rose (failed old) (failed new)) → TellsFailures faults failed answer old new
handed_on faults failed (Ok x) e old new told tells = absurd told
handed_on faults failed (Err x) e old new told tells = (tells.0, λ is. tells.1 (sym told ∙ is))

-- or after some calls
pub handed_later : {H X : Type 0} (faults failed : H → ℕ) (answer : Result X Refusal) (e : Refusal) (old middle new : H)
    → IsErrAnd answer (λ told. told ≡ e)
    → NoneForgotten faults failed old middle → NoneForgotten faults failed middle new × (e ≡ File → Rose (failed middle) (failed new))
    → TellsFailures faults failed answer old new
handed_later faults failed answer e old middle new told before tells =
    handed_on faults failed answer e old new told
    (none_later faults failed old middle new before tells.0, λ is. rose_later (failed old) (failed middle) (failed new) before.1 (tells.1 is))

-- what it hands on that isn't of the host
pub other_on : {H X : Type 0} (faults failed : H → ℕ) (answer : Result X Refusal) (e : Refusal) (old new : H)
    → IsErrAnd answer (λ told. told ≡ e) → (e ≡ File → ⊥)
    → NoneForgotten faults failed old new → TellsFailures faults failed answer old new
other_on faults failed answer e old new told other none = handed_on faults failed answer e old new told (none, λ is. absurd (other is))

pub memory_on : {H X : Type 0} (faults failed : H → ℕ) (answer : Result X Refusal) (old new : H) → IsErrAnd answer (λ told. told ≡ Memory)
    → NoneForgotten faults failed old new → TellsFailures faults failed answer old new
memory_on faults failed answer old new told none = other_on faults failed answer Memory old new told (memory_is_other Memory refl) none

-- another answer than that of the host, after some calls
pub other_tells : {H X : Type 0} (faults failed : H → ℕ) (P : X → Type 0) (Q : Refusal → Type 0) (answer : Result X Refusal) (old new : H)
    → NoneForgotten faults failed old new → MatchResult answer P (λ e. (e ≡ Memory) ⊎ Q e) → ((e : Refusal) → Q e → e ≡ File → ⊥)
    → TellsFailures faults failed answer old new
other_tells faults failed P Q (Ok x) old new none match other = (none, tt)
other_tells faults failed P Q (Err e) old new none match other = (none, λ is. absurd (is_other (Q e) e match (other e) is))

-- the answer of a write, after some calls
pub write_tells : {H X : Type 0} (faults failed : H → ℕ) (answer : Result X Refusal) (old middle new : H)
    → NoneForgotten faults failed old middle
    → Counts (is_err answer) (faults middle) (faults new) → Counts (is_err answer) (failed middle) (failed new)
    → TellsFailures faults failed answer old new
write_tells faults failed (Ok x) old middle new (f, n) fault count = ((omega (arith, f, fault), omega (arith, n, count)), tt)
write_tells faults failed (Err e) old middle new (f, n) fault count = (
  (let more = fault.0 in omega (arith, f, more), let more = count.0 in omega (arith, n, more)),
  λ is. rose_later (failed old) (failed middle) (failed new) n count,
)
