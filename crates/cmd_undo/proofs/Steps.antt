-- The steps of undoing.
use Rattle.std.proofs.Common.{◌≡◌, ◌∙◌, ℕ, Bool, false, List, Option, Some, None, Result, Ok, Err, ap, refl, subst, sym, inl, inr}
use Rattle.std.specs.Prelude.{◌⊎◌, MatchOption, MatchResult}
use Rattle.zed_types.specs.declared.stamp.Stamp.{Stamp}
use Rattle.zed_op.specs.declared.op.Edit.{Edit}
use Rattle.zed_world.specs.Contents.{Contents}
use Rattle.zed_document.specs.Replica.{Replica}
use Rattle.zed_driver.specs.declared.command.Stop.TheVariants.{Memory}
use Rattle.zed_driver.specs.Effects.{Effect}
use Rattle.zed_files.specs.Opened.{FileEdits}
use Rattle.zed_take.specs.declared.error.TakeError.{TakeError}
use Rattle.zed_take.specs.declared.error.TakeError.TheVariants as taking
use Rattle.cmd_take.specs.Steps.{Gives}
use Rattle.cmd_take.specs.Stops.{DrawingStop, take_stop}
use Rattle.cmd_take.specs.Taking.{IsTaken}
use Rattle.cmd_take.proofs.Drawing.{Lacks, taken_not}
use Rattle.cmd_take.proofs.Steps.{step_refused}
use Rattle.zed_undo.specs.declared.error.ChoiceError.{ChoiceError}
use Rattle.zed_undo.specs.declared.error.ChoiceError.TheVariants as choosing
use Rattle.zed_undo.specs.Choosing.{Wanted, chosen_of, first_missing}
use Rattle.zed_undo.specs.Leaving.{left_by}
use Rattle.cmd_undo.specs.declared.manner.Manner.{Manner}
use Rattle.cmd_undo.specs.declared.manner.Trial.{Trial}
use Rattle.cmd_undo.specs.Declining.{declined, missing_text, needed_text}
use Rattle.cmd_undo.specs.Undoing.{IsGiven, IsShown, IsTakenBack, Takes, Undoes, UndoesChosen, UndoesThese, choice_stop, choice_told, stopping}

-- ---- the edits that are taken

-- none were found
pub none_taken : (d : Replica) (w : Contents) (replica : ℕ) (te : TakeError) (e : DrawingStop) → d.is_stale ≡ false
    → (te ≡ taking.Memory) ⊎ Lacks d d w te → e ≡ take_stop te
    → (e ≡ Memory) ⊎ IsTaken d.edits d.edits w replica (Err e)
none_taken d w replica te e sound why is = elim why [
  | inl lack ↦ inl (is ∙ ap take_stop lack)
  | inr lacks ↦ inr (taken_not d d w replica te e sound sound lacks is)
]

-- ---- the world that is left

-- it can't be exported
pub back_not_shown : (trial : Trial) (file : List ℕ) (replica : ℕ) (marks : List Bool) (f : FileEdits) (es : List Edit) (e : DrawingStop)
    → es ≡ left_by marks f.1 → (e ≡ Memory) ⊎ IsShown es (Err e)
    → (e ≡ Memory) ⊎ IsTakenBack trial file replica marks f (Err e)
unfolding IsTakenBack
back_not_shown trial file replica marks f es e same why =
    step_refused (IsShown (left_by marks f.1)) (λ w. Takes trial file replica f w) e (subst (λ xs. (e ≡ Memory) ⊎ IsShown xs (Err e)) same why)

-- no edits lead to it
pub back_not_taken : (trial : Trial) (file : List ℕ) (replica : ℕ) (marks : List Bool) (f : FileEdits) (es : List Edit) (w : Contents) (e : DrawingStop)
    → es ≡ left_by marks f.1 → IsShown es (Ok w) → (e ≡ Memory) ⊎ IsTaken f.1 f.1 w replica (Err e)
    → (e ≡ Memory) ⊎ IsTakenBack trial file replica marks f (Err e)
unfolding IsTakenBack
back_not_taken trial file replica marks f es w e same shown why = elim why [
  | inl lack ↦ inl lack
  | inr is ↦ inr (Ok w, subst (λ xs. IsShown xs (Ok w)) same shown, (Err e, is, refl))
]

-- FILE gets edits that lead to it
pub back_given : (trial : Trial) (file : List ℕ) (replica : ℕ) (marks : List Bool) (f : FileEdits) (es : List Edit) (w : Contents) (new : List Edit) (x : Effect)
    → es ≡ left_by marks f.1 → IsShown es (Ok w) → IsTaken f.1 f.1 w replica (Ok new) → IsGiven trial file f new x
    → IsTakenBack trial file replica marks f (Ok x)
unfolding IsTakenBack
back_given trial file replica marks f es w new x same shown taken given =
    (Ok w, subst (λ xs. IsShown xs (Ok w)) same shown, (Ok new, taken, (x, given, refl)))

-- ---- edits of others

abbrev Chooses : List ℕ → Manner → ℕ → List Bool → FileEdits → Result Effect DrawingStop → Option Edit → Type 0
Chooses file manner replica marks f r o = MatchOption o (IsTakenBack manner.trial file replica marks f r) (λ e. r ≡ Ok (declined (needed_text e)))

-- one stops it
pub undoes_stopped : (file : List ℕ) (manner : Manner) (replica : ℕ) (marks : List Bool) (f : FileEdits) (es : List Edit) (e : Edit) (x : Effect)
    → es ≡ left_by marks f.1 → Some e ≡ stopping manner.others replica f.1 es → x ≡ declined (needed_text e)
    → Undoes file manner replica marks f (Ok x)
unfolding Undoes
undoes_stopped file manner replica marks f es e x same is declines =
    subst (λ o. Chooses file manner replica marks f (Ok x) o) (is ∙ ap (stopping manner.others replica f.1) same) (ap (λ y. Ok y) declines)

-- and nothing is undone
pub undoes_declined : (file : List ℕ) (manner : Manner) (replica : ℕ) (marks : List Bool) (f : FileEdits) (es : List Edit) (e : Edit) (r : Result Effect DrawingStop)
    → es ≡ left_by marks f.1 → Some e ≡ stopping manner.others replica f.1 es → MatchResult r (λ x. x ≡ declined (needed_text e)) (λ x. x ≡ Memory)
    → Gives (λ x. x) (Undoes file manner replica marks f) r
undoes_declined file manner replica marks f es e (Ok x) same is declines = undoes_stopped file manner replica marks f es e x same is declines
undoes_declined file manner replica marks f es e (Err x) same is lacks = inl lacks

-- none does
pub undoes_on : (file : List ℕ) (manner : Manner) (replica : ℕ) (marks : List Bool) (f : FileEdits) (es : List Edit) (r : Result Effect DrawingStop)
    → es ≡ left_by marks f.1 → None ≡ stopping manner.others replica f.1 es → Gives (λ x. x) (IsTakenBack manner.trial file replica marks f) r
    → Gives (λ x. x) (Undoes file manner replica marks f) r
unfolding Undoes
undoes_on file manner replica marks f es (Ok x) same is gives =
    subst (λ o. Chooses file manner replica marks f (Ok x) o) (is ∙ ap (stopping manner.others replica f.1) same) gives
undoes_on file manner replica marks f es (Err e) same is gives = elim gives [
  | inl lack ↦ inl lack
  | inr back ↦ inr (subst (λ o. Chooses file manner replica marks f (Err e) o) (is ∙ ap (stopping manner.others replica f.1) same) back)
]

-- ---- what is chosen

pub choice_so : (es : List Edit) (c : Wanted) (marks : List Bool) → chosen_of es c ≡ Ok marks → Ok marks ≡ choice_told (chosen_of es c)
choice_so es c marks is = sym (ap choice_told is)

pub choice_not : (es : List Edit) (c : Wanted) (e : ChoiceError) (told : DrawingStop) → (e ≡ choosing.Memory) ⊎ (chosen_of es c ≡ Err e)
    → told ≡ choice_stop e
    → (told ≡ Memory) ⊎ (Err told ≡ choice_told (chosen_of es c))
choice_not es c e told why is = elim why [
  | inl lack ↦ inl (is ∙ ap choice_stop lack)
  | inr refused ↦ inr (ap (λ x. Err x) is ∙ sym (ap choice_told refused))
]

abbrev IsChoice : List Edit → Wanted → Result (List Bool) DrawingStop → Type 0
IsChoice es c m = m ≡ choice_told (chosen_of es c)

pub chosen_not : (file : List ℕ) (manner : Manner) (replica : ℕ) (c : Wanted) (f : FileEdits) (e : DrawingStop)
    → (e ≡ Memory) ⊎ IsChoice f.1 c (Err e) → (e ≡ Memory) ⊎ UndoesChosen file manner replica c f (Err e)
unfolding UndoesChosen
chosen_not file manner replica c f e why =
    step_refused (IsChoice f.1 c) (λ marks. UndoesThese file manner replica c.stamps f marks) e why

abbrev Finds : List ℕ → Manner → ℕ → List Bool → FileEdits → Result Effect DrawingStop → Option Stamp → Type 0
Finds file manner replica marks f r o = MatchOption o (Undoes file manner replica marks f r) (λ s. r ≡ Ok (declined (missing_text s)))

-- one of its stamps is that of no edit
pub chosen_missing : (file : List ℕ) (manner : Manner) (replica : ℕ) (c : Wanted) (f : FileEdits) (marks : List Bool) (s : Stamp) (x : Effect)
    → IsChoice f.1 c (Ok marks) → Some s ≡ first_missing f.1 c.stamps → x ≡ declined (missing_text s)
    → UndoesChosen file manner replica c f (Ok x)
unfolding UndoesChosen
chosen_missing file manner replica c f marks s x chosen is declines =
    (Ok marks, chosen, subst (λ o. Finds file manner replica marks f (Ok x) o) is (ap (λ y. Ok y) declines))

-- and nothing is undone
pub chosen_declined : (file : List ℕ) (manner : Manner) (replica : ℕ) (c : Wanted) (f : FileEdits) (marks : List Bool) (s : Stamp) (r : Result Effect DrawingStop)
    → IsChoice f.1 c (Ok marks) → Some s ≡ first_missing f.1 c.stamps → MatchResult r (λ x. x ≡ declined (missing_text s)) (λ x. x ≡ Memory)
    → Gives (λ x. x) (UndoesChosen file manner replica c f) r
chosen_declined file manner replica c f marks s (Ok x) chosen is declines = chosen_missing file manner replica c f marks s x chosen is declines
chosen_declined file manner replica c f marks s (Err x) chosen is lacks = inl lacks

-- none is
pub chosen_on : (file : List ℕ) (manner : Manner) (replica : ℕ) (c : Wanted) (f : FileEdits) (marks : List Bool) (r : Result Effect DrawingStop)
    → IsChoice f.1 c (Ok marks) → None ≡ first_missing f.1 c.stamps → Gives (λ x. x) (Undoes file manner replica marks f) r
    → Gives (λ x. x) (UndoesChosen file manner replica c f) r
unfolding UndoesChosen
chosen_on file manner replica c f marks (Ok x) chosen is undoes =
    (Ok marks, chosen, subst (λ o. Finds file manner replica marks f (Ok x) o) is undoes)
chosen_on file manner replica c f marks (Err e) chosen is undoes = elim undoes [
  | inl lack ↦ inl lack
  | inr says ↦ inr (Ok marks, chosen, subst (λ o. Finds file manner replica marks f (Err e) o) is says)
]
