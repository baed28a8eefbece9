-- Which refusals are of a screen or of a source of keys.
use Rattle.zed_export.specs.declared.error.ExportError.{ExportError}
use Rattle.zed_op.specs.declared.op.Edit.{Edit}
use Rattle.zed_session.specs.declared.error.SessionError.{SessionError}
use Rattle.zed_session.specs.declared.error.SessionError.TheVariants as session
use Rattle.zed_session.specs.declared.playing.Playing.{Playing}
use Rattle.zed_screen.specs.declared.frame.Frame.{Frame}
use Rattle.zed_session.specs.Boards.{Answers, OfBoard as InSession, ShowsBoard, Starts}
use Rattle.zed_session.specs.Refusals as told
use Rattle.zed_world.specs.declared.board.BoardData.{BoardData}
use Rattle.zed_world.specs.declared.header.Header.{Header}
use Rattle.zed_world.specs.Contents.{Contents}
use Rattle.zed_files.specs.declared.refusal.Refusal.{Refusal}
use Rattle.std.proofs.Common.{◌≡◌, ◌∙◌, ℕ, List, false, Option, Some, None, Result, Ok, Err, ap, refl, subst, sym, inl, inr}
use Rattle.std.specs.Prelude.{IsErrAnd, slice_get}
use Rattle.zed_edit.specs.Replay.{replay}
use Rattle.zed_export.specs.Limits.{refusal_of}
use Rattle.zed_host.specs.Counting.{Counts}
use Rattle.zed_files.specs.Refusals.{IsOffStage, export_refusal, is_key_fault, is_of_keys, is_of_screen, is_screen_fault, session_refusal}
use Rattle.zed_files.proofs.OffStage.{export_off, is_off}

-- a command tells a fault of a screen or of a source of keys where a session does
session_tells : (X : Type 0) (e : SessionError)
    → (told.is_screen_fault {X = X} (Err e) ≡ is_of_screen (session_refusal e))
    × (told.is_key_fault {X = X} (Err e) ≡ is_of_keys (session_refusal e))
session_tells X session.Memory = (refl, refl)
session_tells X session.Magic = (refl, refl)
session_tells X session.NewVersion = (refl, refl)
session_tells X session.OtherWorld = (refl, refl)
session_tells X session.RecordLength = (refl, refl)
session_tells X (session.BadEdit a) = (refl, refl)
session_tells X session.CutShort = (refl, refl)
session_tells X (session.Clash a) = (refl, refl)
session_tells X session.Stale = (refl, refl)
session_tells X session.NoWorld = (refl, refl)
session_tells X (session.BoardsOver a) = (refl, refl)
session_tells X (session.StatsOver a b) = (refl, refl)
session_tells X (session.BoardOver a b) = (refl, refl)
session_tells X session.NoBoard = (refl, refl)
session_tells X session.NoWords = (refl, refl)
session_tells X session.Over = (refl, refl)
session_tells X session.LinkFault = (refl, refl)
session_tells X session.ScreenFault = (refl, refl)
session_tells X session.KeyFault = (refl, refl)
session_tells X session.TooManyTurns = (refl, refl)
session_tells X session.NoLink = (refl, refl)

-- what `?` hands on of a session tells of the screen as that does, and the calls before it didn't fail
pub screen_on : {X : Type 0} (Y : Type 0) (answer : Result X Refusal) (e : SessionError) (old middle new : ℕ)
    → IsErrAnd answer (λ x. x ≡ session_refusal e)
    → middle ≡ old → Counts (told.is_screen_fault {X = Y} (Err e)) middle new → Counts (is_screen_fault answer) old new
screen_on Y (Ok x) e old middle new is before counts = absurd is
screen_on Y (Err x) e old middle new is before counts =
    let same : told.is_screen_fault {X = Y} (Err e) ≡ is_of_screen x = (session_tells Y e).0 ∙ ap is_of_screen (sym is) in
    subst (λ n. Counts (is_of_screen x) n new) before (subst (λ b. Counts b middle new) same counts)

-- and of the source of keys
pub keys_on : {X : Type 0} (Y : Type 0) (answer : Result X Refusal) (e : SessionError) (old middle new : ℕ)
    → IsErrAnd answer (λ x. x ≡ session_refusal e)
    → middle ≡ old → Counts (told.is_key_fault {X = Y} (Err e)) middle new → Counts (is_key_fault answer) old new
keys_on Y (Ok x) e old middle new is before counts = absurd is
keys_on Y (Err x) e old middle new is before counts =
    let same : told.is_key_fault {X = Y} (Err e) ≡ is_of_keys x = (session_tells Y e).1 ∙ ap is_of_keys (sym is) in
    subst (λ n. Counts (is_of_keys x) n new) before (subst (λ b. Counts b middle new) same counts)

-- what `?` hands on of a command tells of both as that does
pub screen_told : {X : Type 0} (answer : Result X Refusal) (e : Refusal) (old new : ℕ) → IsErrAnd answer (λ x. x ≡ e)
    → Counts (is_of_screen e) old new → Counts (is_screen_fault answer) old new
screen_told (Ok x) e old new is counts = absurd is
screen_told (Err x) e old new is counts = subst (λ r. Counts (is_of_screen r) old new) (sym is) counts

pub keys_told : {X : Type 0} (answer : Result X Refusal) (e : Refusal) (old new : ℕ) → IsErrAnd answer (λ x. x ≡ e)
    → Counts (is_of_keys e) old new → Counts (is_key_fault answer) old new
keys_told (Ok x) e old new is counts = absurd is
keys_told (Err x) e old new is counts = subst (λ r. Counts (is_of_keys r) old new) (sym is) counts

unbegun_board : (header : Header) (board : Option BoardData) (new : Playing) (e : SessionError)
    → InSession {X = Unit {0}} header board (Starts new) (Err e)
    → IsOffStage (session_refusal e)
unbegun_board header (Some board) new e is =
    is_off (session_refusal e) (session_refusal session.Memory) (ap session_refusal is) (refl, refl)
unbegun_board header None new e is = is_off (session_refusal e) (session_refusal session.NoBoard) (let same : e ≡ session.NoBoard = cc in ap session_refusal same) (refl, refl)

-- a playtest that didn't begin
pub unbegun_off : (world : Result Contents ExportError) (n : ℕ) (new : Playing) (e : SessionError)
    → Answers {X = Unit {0}} world n (Starts new) (Err e)
    → IsOffStage (session_refusal e)
unbegun_off (Ok w) n new e is = unbegun_board w.header (slice_get w.boards n) new e is
unbegun_off (Err x) n new e is =
    is_off (session_refusal e) (session_refusal (told.export_refusal x)) (let same : e ≡ told.export_refusal x = cc in ap session_refusal same) (export_off x)

-- a refusal that is one of these
not_of_keys : (e f : SessionError) → e ≡ f → is_of_keys (session_refusal f) ≡ false → is_of_keys (session_refusal e) ≡ false
not_of_keys e f is off = subst (λ x. is_of_keys (session_refusal x) ≡ false) (sym is) off

unshown_board : (header : Header) (board : Option BoardData) (old new : Option (Option Frame)) (e : SessionError)
    → InSession {X = Unit {0}} header board (ShowsBoard old new) (Err e) → is_of_keys (session_refusal e) ≡ false
unshown_board header (Some board) old new e is = elim is [
  | inl lack ↦ not_of_keys e session.Memory lack refl
  | inr fault ↦ not_of_keys e session.ScreenFault fault refl
]
unshown_board header None old new e is = not_of_keys e session.NoBoard (cc) refl

-- a board that wasn't shown
pub unshown_off : (world : Result Contents ExportError) (n : ℕ) (old new : Option (Option Frame)) (e : SessionError)
    → Answers {X = Unit {0}} world n (ShowsBoard old new) (Err e)
    → is_of_keys (session_refusal e) ≡ false
unshown_off (Ok w) n old new e is = unshown_board w.header (slice_get w.boards n) old new e is
unshown_off (Err x) n old new e is = not_of_keys e (told.export_refusal x) (cc) (export_off x).1

-- what `?` hands on isn't of a source of keys
pub keys_off_on : {X : Type 0} (answer : Result X Refusal) (e : Refusal) → IsErrAnd answer (λ x. x ≡ e) → is_of_keys e ≡ false
    → is_key_fault answer ≡ false
keys_off_on (Ok x) e is off = absurd is
keys_off_on (Err x) e is off = ap is_of_keys is ∙ off
