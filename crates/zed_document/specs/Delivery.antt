-- What a delivery answers.
use Rattle.std.specs.Prelude.{◌≡◌, ◌≢◌, ◌⊎◌, ℕ, Bool, true, false, List, [], ◌∷◌, ◌++◌, Option, Some, None, Result, Ok, Err, Contains, IfSome, IsOkAnd, IsSomeAnd, MatchBool, slice_get, take}
use Rattle.zed_types.specs.declared.stamp.Stamp.{Stamp}
use Rattle.zed_op.specs.declared.cause.Cause.{Cause}
use Rattle.zed_op.specs.declared.op.Edit.{Edit}
use Rattle.zed_op.specs.Fit.{Fits, fault}
use Rattle.zed_op.specs.Verdict.{HangsOnItsWorld}
use Rattle.zed_op.specs.Set.{Agrees, AllFit, with_edit, set_of}
use Rattle.zed_history.specs.Finding.{edit_with}
use Rattle.zed_document.specs.declared.delivered.Delivered.{Delivered}
use Rattle.zed_document.specs.declared.delivered.State.{State}
use Rattle.zed_document.specs.declared.delivered.State.TheVariants.{Taken, Held, Known}
use Rattle.zed_document.specs.declared.error.DocumentError.{DocumentError}
use Rattle.zed_document.specs.declared.error.DocumentError.TheVariants.{Stale, BadEdit, Clash}
use Rattle.zed_document.specs.Held.{held_stamps, is_among, woken}
use Rattle.zed_document.specs.Replica.{Replica}

-- what a new edit comes to
abbrev pub state_of : Bool → State
state_of true = Held
state_of false = Taken

-- what a delivery tells
abbrev pub Tells : State → ℕ → Delivered → Type 0
Tells state woken d = (d.state ≡ state) × (d.woken ≡ woken)

-- a new edit is held or taken by the replay of the new set
abbrev pub TellsNew : List Edit → List Edit → Edit → Delivered → Type 0
TellsNew old new e d = Tells (state_of (is_among (held_stamps new) e.stamp)) (woken old new) d

-- an edit whose stamp is there is known where it is the same, and else it clashes
abbrev pub AnswersAt : Option Edit → List Edit → Edit → Result Delivered DocumentError → Type 0
AnswersAt None es e r = IsOkAnd r (λ d. TellsNew es (with_edit e es) e d)
AnswersAt (Some f) es e r = ((f ≡ e) × IsOkAnd r (λ d. Tells Known 0 d)) ⊎ ((f ≢ e) × (r ≡ Err (Clash e.stamp)))

-- an edit with a fault is refused for it; else it counts which edit has its stamp, if any
abbrev pub AnswersFit : Option Cause → List Edit → Edit → Result Delivered DocumentError → Type 0
AnswersFit (Some c) es e r = r ≡ Err (BadEdit c)
AnswersFit None es e r = AnswersAt (edit_with e.stamp es) es e r

-- what a delivery answers, want of memory aside: Stale, then the fault of the edit, then Clash, else what became of it
abbrev pub Answers : Replica → Edit → Result Delivered DocumentError → Type 0
Answers d e r = MatchBool d.is_stale (r ≡ Err Stale) (AnswersFit (fault e) d.edits e r)

-- a delivery takes memory for the check of a world, and else for an edit that fits and whose stamp is new
abbrev pub MayTakeMemoryFor : Replica → Edit → Type 0
MayTakeMemoryFor d e = (d.is_stale ≡ false) × (HangsOnItsWorld e ⊎ (Fits e × (edit_with e.stamp d.edits ≡ None)))

-- a document with one more edit, its counts aside
abbrev pub after_edit : Edit → Replica → Replica
after_edit e d = record d { edits = with_edit e d.edits }

-- deliveries one after the other, up to the first that is refused: what is answered, and the edits that they leave
abbrev pub DeliversEach : Replica → List Edit → Result (Unit {0}) DocumentError → List Edit → Type 0
DeliversEach d [] r left = (r ≡ Ok tt) × (left ≡ d.edits)
DeliversEach d (e ∷ es) r left =
    ((told : Delivered) × Answers d e (Ok told) × DeliversEach (after_edit e d) es r left)
    ⊎ ((refusal : DocumentError) × Answers d e (Err refusal) × (r ≡ Err refusal) × (left ≡ d.edits))

-- what they answer, of no edit too: Stale on a stale document, which stays as it is
abbrev pub AnswersEach : Replica → List Edit → Result (Unit {0}) DocumentError → List Edit → Type 0
AnswersEach d es r left = MatchBool d.is_stale ((r ≡ Err Stale) × (left ≡ d.edits)) (DeliversEach d es r left)

-- want of memory ended deliveries: those of a front were accepted, and the edit behind it is new to what they left
abbrev pub DeliversFront : Replica → List Edit → List Edit → Type 0
DeliversFront d es left =
    (n : ℕ) × DeliversEach d (take n es) (Ok tt) left × IsSomeAnd (slice_get es n) (λ e. edit_with e.stamp left ≡ None)

-- a set has no other edit of the stamp of this one
abbrev pub IsFree : List Edit → Edit → Type 0
IsFree es e = IfSome (edit_with e.stamp es) (λ f. f ≡ e)

-- of edits that come one after the other one is new, before any that clashes
abbrev pub HasNew : List Edit → List Edit → Type 0
HasNew es [] = ⊥
HasNew es (e ∷ rest) = (edit_with e.stamp es ≡ None) ⊎ (IsFree es e × HasNew (with_edit e es) rest)

-- Ok, or the clash
abbrev pub unless_clash : Option Stamp → Result (Unit {0}) DocumentError
unless_clash None = Ok tt
unless_clash (Some s) = Err (Clash s)

-- another edit of the list has the stamp of this one
abbrev pub ClashesWith : List Edit → Edit → Type 0
ClashesWith es f = (e : Edit) × Contains es e × (e.stamp ≡ f.stamp) × (e ≢ f)

-- of the edits of a list, the first that clashes with one before it has this stamp
pub record IsFirstClash (es : List Edit) (s : Stamp) : Type 0 where
  pub before : List Edit
  pub edit : Edit
  pub after : List Edit
  pub whole : es ≡ before ++ edit ∷ after
  pub agrees : Agrees before
  pub clashes : ClashesWith before edit
  pub stamp : edit.stamp ≡ s

-- deliveries to a document without edits come to the set of all edits, or to the first clash of two
abbrev pub DeliveriesComeToSets : Type 0
DeliveriesComeToSets =
    (d : Replica) (es : List Edit) (r : Result (Unit {0}) DocumentError) (left : List Edit)
    → d.is_stale ≡ false
    → d.edits ≡ []
    → AllFit es
    → DeliversEach d es r left
    → ((r ≡ Ok tt) × Agrees es × (left ≡ set_of es)) ⊎ ((s : Stamp) × IsFirstClash es s × (r ≡ Err (Clash s)))
