-- What the calls of a document leave.
use Rattle.std.proofs.Common.{◌≡◌, ◌∙◌, ℕ, Bool, true, false, List, ◌++◌, Option, Some, None, Result, Ok, Err, refl, ap, subst}
use Rattle.std.specs.Prelude.{MatchBool, length}
use mathlib.Core.Logic.{◌⊎◌, inl, inr}
use Rattle.zed_types.specs.declared.names.StatId.{StatId}
use Rattle.zed_types.specs.declared.names.TextId.{TextId}
use Rattle.zed_op.specs.declared.cause.Cause.{Cause}
use Rattle.zed_op.specs.declared.op.Op.{Op}
use Rattle.zed_op.specs.declared.op.Edit.{Edit}
use Rattle.zed_op.specs.Fit.{fault}
use Rattle.zed_edit.specs.Replay.{replay, can}
use Rattle.zed_edit.specs.Document.{text}
use Rattle.zed_document.specs.declared.error.DocumentError.{DocumentError}
use Rattle.zed_document.specs.declared.error.DocumentError.TheVariants as document
use Rattle.zed_history.specs.Clock.{is_spent}
use Rattle.zed_history.specs.Finding.{edit_with}
use Rattle.zed_document.specs.Authoring.{AnswersAuthor, AnswersDeletion, AnswersMade, AnswersToDo, authored, is_part, is_spent_for, stretches_of}
use Rattle.zed_document.specs.Reading.{has_text}
use Rattle.zed_document.specs.Counts.{Counts}
use Rattle.zed_document.specs.Replica.{Replica}
use Rattle.zed_op.specs.declared.op.Op.TheVariants as op
use Rattle.zed_types.specs.declared.stat_field.StatSetting.TheVariants as stat_setting
use Rattle.std.specs.Global.{Vec}
use Rattle.std.specs.Prelude.{IsOkAnd}
use Rattle.zed_document.specs.Authoring.{deletions_of}
use Rattle.zed_action.specs.declared.error.ActionError.{ActionError}
use Rattle.zed_action.specs.Deeds.{Authors, Deletes, Inserts, Starts, next_text, with_edits}
use Rattle.zed_action.specs.Refusals.{memory, refusal_of}

abbrev Answer : Type 0
Answer = Result Edit DocumentError

abbrev done : Edit → Answer
done e = Ok e

ok_only : (e f : Edit) → done e ≡ done f → e ≡ f
ok_only e f same = cc

abbrev refused : DocumentError → Answer
refused c = Err c

not_refused : {X : Type 0} (e : Edit) (c : DocumentError) → done e ≡ refused c → X
not_refused e c same = let bad : done e ≡ refused c = same in cc

made_is : (o : Option Edit) (f e : Edit) → AnswersMade o f (Ok e) → e ≡ f
made_is None f e h = ok_only e f h
made_is (Some g) f e h = elim h [ inl there ↦ ok_only e f there.1 | inr clash ↦ not_refused e _ clash.1 ]

to_do_is : (c : Option Cause) (es : List Edit) (f e : Edit) → AnswersToDo c es f (Ok e) → e ≡ f
to_do_is (Some c) es f e h = not_refused e _ h
to_do_is None es f e h = go (can (replay es) f) h
  where
    go : (b : Bool) → MatchBool b (AnswersMade (edit_with f.stamp es) f (Ok e)) (Ok e ≡ Err document.NoSuch) → e ≡ f
    go true h = made_is (edit_with f.stamp es) f e h
    go false h = not_refused e _ h

-- what was authored is the edit
pub author_is : (d : Replica) (replica : ℕ) (o : Op) (e : Edit) → AnswersAuthor d replica o (Ok e) → e ≡ authored d.edits replica o
author_is d replica o e h = go d.is_stale (is_spent_for d.edits o) h
  where
    go : (b s : Bool)
        → MatchBool b (Ok e ≡ Err document.Stale) (MatchBool s (Ok e ≡ Err document.ClockSpent) (AnswersToDo (fault (authored d.edits replica o)) d.edits (authored d.edits replica o) (Ok e)))
        → e ≡ authored d.edits replica o
    go true s h = not_refused e _ h
    go false true h = not_refused e _ h
    go false false h = to_do_is (fault (authored d.edits replica o)) d.edits (authored d.edits replica o) e h

-- what was authored had a time left
pub author_left : (d : Replica) (replica : ℕ) (o : Op) (e : Edit) → AnswersAuthor d replica o (Ok e) → is_spent_for d.edits o ≡ false
author_left d replica o e h = go d.is_stale (is_spent_for d.edits o) refl h
  where
    go : (b s : Bool) → is_spent_for d.edits o ≡ s
        → MatchBool b (Ok e ≡ Err document.Stale) (MatchBool s (Ok e ≡ Err document.ClockSpent) (AnswersToDo (fault (authored d.edits replica o)) d.edits (authored d.edits replica o) (Ok e)))
        → is_spent_for d.edits o ≡ false
    go true s is h = not_refused e _ h
    go false true is h = not_refused e _ h
    go false false is h = is

-- a refusal for memory is one of the document's
pub memory_is : (e : DocumentError) → refusal_of e ≡ memory → e ≡ document.Memory
memory_is e same = cc

match_both : (b : Bool) {A B C D : Type 0} → (A → C) → (B → D) → MatchBool b A B → MatchBool b C D
match_both true f g h = f h
match_both false f g h = g h

-- an answer to a deletion, told in another way
pub deletion_told : (d : Replica) (t : TextId) (from to : ℕ) {X Y : Type 0} (P : Result X DocumentError → Type 0) (Q : Result Y DocumentError → Type 0) (r : Result X DocumentError) (s : Result Y DocumentError)
    → (P r → Q s) → ((e : DocumentError) → r ≡ Err e → s ≡ Err e) → AnswersDeletion d t from to P r → AnswersDeletion d t from to Q s
deletion_told d t from to P Q r s done refused h =
    match_both d.is_stale (refused document.Stale)
    (match_both (has_text d t)
    (match_both (is_part from to (length (text (replay d.edits) t)))
    (match_both (is_spent d.edits (length (stretches_of d.edits t from to))) (refused document.ClockSpent) done)
    (refused document.OutOfRange))
    (refused document.NoSuch)) h

-- a call that was done had memory
pub was_done : {X : Type 0} (x : X) (c : DocumentError) (P : Type 0) → (Ok x ≡ Err c) ⊎ P → P
was_done x c P h = elim h [ inl refused ↦ not_there refused | inr p ↦ p ]
  where
    not_there : Ok x ≡ Err c → P
    not_there same = let bad : Ok x ≡ Err c = same in cc

abbrev Deletion : Type 0
Deletion = Result (Vec Edit) DocumentError

abbrev deletion_refused : DocumentError → Deletion
deletion_refused e = Err e

abbrev HasDeletions : Replica → ℕ → TextId → ℕ → ℕ → Deletion → Type 0
HasDeletions d replica t from to r = IsOkAnd r (λ v. v.items ≡ deletions_of d.edits replica t from to)

-- bytes were deleted
pub deleted : (d : Replica) (replica : ℕ) (t : TextId) (from to : ℕ) (v : Vec Edit) (new : List Edit)
    → new ≡ d.edits ++ deletions_of d.edits replica t from to
    → AnswersDeletion d t from to (λ r. IsOkAnd r (λ v. v.items ≡ deletions_of d.edits replica t from to)) (Ok v)
    → Deletes d replica t from to (Ok new)
deleted d replica t from to v new made h = (
  Ok (deletions_of d.edits replica t from to),
  deletion_told d t from to (HasDeletions d replica t from to) (λ a. a ≡ Ok (deletions_of d.edits replica t from to)) (Ok v) (Ok (deletions_of d.edits replica t from to)) (λ _. refl) (λ e same. let bad : Ok v ≡ deletion_refused e = same in cc) h,
  ap (λ es. Ok es) made,
)

err_only : (e f : DocumentError) → deletion_refused e ≡ deletion_refused f → e ≡ f
err_only e f same = cc

-- or not
pub not_deleted : (d : Replica) (replica : ℕ) (t : TextId) (from to : ℕ) (e : DocumentError) (result : ActionError) → result ≡ refusal_of e
    → (deletion_refused e ≡ Err document.Memory)
    ⊎ AnswersDeletion d t from to (λ r. IsOkAnd r (λ v. v.items ≡ deletions_of d.edits replica t from to)) (deletion_refused e)
    → (result ≡ memory) ⊎ Deletes d replica t from to (Err result)
not_deleted d replica t from to e result is why =
    elim why [
      | inl why ↦ inl (is ∙ ap refusal_of (err_only e document.Memory why))
      | inr h ↦ inr (
        Err e,
        deletion_told d t from to (HasDeletions d replica t from to) (λ a. a ≡ Ok (deletions_of d.edits replica t from to)) (deletion_refused e) (Err e) (λ none. absurd none) (λ f same. ap (λ x. Err x) (err_only e f same)) h,
        ap (λ x. Err x) is,
      )
    ]

-- documents are told apart by what their calls see of them
abbrev seen : ℕ → List Edit → Bool → Counts → Replica
seen w es b c = record { world = w; edits = es; is_stale = b; counts = c }

inserts_same : (d o : Replica) (replica : ℕ) (t : TextId) (p : ℕ) (bytes : List ℕ) (made : Result (List Edit) ActionError)
    → d.edits ≡ o.edits → d.is_stale ≡ o.is_stale → Inserts d replica t p bytes made → Inserts o replica t p bytes made
inserts_same d o replica t p bytes made edits stale h =
    let first : Inserts (seen o.world d.edits o.is_stale o.counts) replica t p bytes made =
    subst (λ b. Inserts (seen o.world d.edits b o.counts) replica t p bytes made) stale h in
    subst (λ es. Inserts (seen o.world es o.is_stale o.counts) replica t p bytes made) edits first

authors_same : (d o : Replica) (replica : ℕ) (op : Op) (made : Result (List Edit) ActionError)
    → d.edits ≡ o.edits → d.is_stale ≡ o.is_stale → Authors d replica op made → Authors o replica op made
authors_same d o replica op made edits stale h =
    let first : Authors (seen o.world d.edits o.is_stale o.counts) replica op made =
    subst (λ b. Authors (seen o.world d.edits b o.counts) replica op made) stale h in
    subst (λ es. Authors (seen o.world es o.is_stale o.counts) replica op made) edits first

-- the second of three edits was refused
pub second_refused : (d d1 : Replica) (replica : ℕ) (s : StatId) (t : TextId) (bytes : List ℕ) (e : ActionError)
    → Authors d replica op.TextAdd (Ok d1.edits) → d1.is_stale ≡ d.is_stale → t ≡ next_text d replica
    → (e ≡ memory) ⊎ Inserts d1 replica t 0 bytes (Err e) → (e ≡ memory) ⊎ Starts d replica s bytes (Err e)
second_refused d d1 replica s t bytes e first stale is why =
    elim why [
      | inl why ↦ inl why
      | inr second ↦ inr (inl (d1.edits, first, inr (e, rw is at (inserts_same d1 (with_edits d1.edits d) replica t 0 bytes (Err e) refl stale second), refl)))
    ]

-- two were made, and then the third or its refusal
third_told : (d d1 d2 : Replica) (replica : ℕ) (s : StatId) (t : TextId) (bytes : List ℕ) (made : Result (List Edit) ActionError)
    → Authors d replica op.TextAdd (Ok d1.edits) → d1.is_stale ≡ d.is_stale → t ≡ next_text d replica
    → Inserts d1 replica t 0 bytes (Ok d2.edits) → d2.is_stale ≡ d.is_stale
    → Authors d2 replica (op.SetStat s (stat_setting.Text (Some t))) made → Starts d replica s bytes made
third_told d d1 d2 replica s t bytes made first stale is second stale2 third =
    inl (
      d1.edits,
      first,
      inl (
        d2.edits,
        rw is at (inserts_same d1 (with_edits d1.edits d) replica t 0 bytes (Ok d2.edits) refl stale second),
        rw is at (authors_same d2 (with_edits d2.edits d) replica (op.SetStat s (stat_setting.Text (Some t))) made refl stale2 third),
      ),
    )

pub third_done : (d d1 d2 : Replica) (replica : ℕ) (s : StatId) (t : TextId) (bytes : List ℕ) (new : List Edit)
    → Authors d replica op.TextAdd (Ok d1.edits) → d1.is_stale ≡ d.is_stale → t ≡ next_text d replica
    → Inserts d1 replica t 0 bytes (Ok d2.edits) → d2.is_stale ≡ d.is_stale
    → Authors d2 replica (op.SetStat s (stat_setting.Text (Some t))) (Ok new) → Starts d replica s bytes (Ok new)
third_done d d1 d2 replica s t bytes new first stale is second stale2 third =
    third_told d d1 d2 replica s t bytes (Ok new) first stale is second stale2 third

pub third_refused : (d d1 d2 : Replica) (replica : ℕ) (s : StatId) (t : TextId) (bytes : List ℕ) (e : ActionError)
    → Authors d replica op.TextAdd (Ok d1.edits) → d1.is_stale ≡ d.is_stale → t ≡ next_text d replica
    → Inserts d1 replica t 0 bytes (Ok d2.edits) → d2.is_stale ≡ d.is_stale
    → (e ≡ memory) ⊎ Authors d2 replica (op.SetStat s (stat_setting.Text (Some t))) (Err e)
    → (e ≡ memory) ⊎ Starts d replica s bytes (Err e)
third_refused d d1 d2 replica s t bytes e first stale is second stale2 why =
    elim why [ inl why ↦ inl why | inr third ↦ inr (third_told d d1 d2 replica s t bytes (Err e) first stale is second stale2 third) ]
