-- How undoing ends: its status is 0 or 1, and a file that can't be had is told only where one was lacking.
use Rattle.std.proofs.Common.{◌≡◌, ℕ, Bool, true, List, [], ◌∷◌, Option, Some, None, Result, Ok, Err, ap, refl, subst, sym, inl, inr}
use Rattle.std.specs.Prelude.{◌⊎◌, MatchOption}
use Rattle.zed_types.specs.declared.stamp.Stamp.{Stamp}
use Rattle.zed_op.specs.declared.op.Edit.{Edit}
use Rattle.zed_world.specs.Contents.{Contents}
use Rattle.zed_edit.specs.Replay.{replay}
use Rattle.zed_editfile.specs.declared.error.EditFileError.{EditFileError}
use Rattle.zed_editfile.specs.declared.error.EditFileError.TheVariants as file
use Rattle.zed_export.specs.declared.error.ExportError.{ExportError}
use Rattle.zed_export.specs.declared.error.ExportError.TheVariants as export
use Rattle.zed_export.specs.Limits.{exported}
use Rattle.zed_take.specs.declared.error.TakeError.{TakeError}
use Rattle.zed_take.specs.declared.error.TakeError.TheVariants as taking
use Rattle.zed_driver.specs.declared.command.Stop.{Stop}
use Rattle.zed_driver.specs.declared.command.Stop.TheVariants as stop
use Rattle.zed_driver.specs.declared.command.Stop.TheVariants.{File, Memory}
use Rattle.zed_driver.specs.declared.input.Input.{Input}
use Rattle.zed_driver.specs.declared.input.Input.TheVariants.{Bytes, Missing, Failed}
use Rattle.zed_driver.specs.Driven.{some_lacks}
use Rattle.zed_driver.specs.Effects.{Effect}
use Rattle.zed_driver.specs.Reading.{Answer, files_of}
use Rattle.zed_refusal.specs.declared.reason.Reason.{Reason}
use Rattle.zed_refusal.specs.Stops.{export_stop, file_stop}
use Rattle.zed_files.specs.Opened.{FileEdits}
use Rattle.zed_files.specs.Rewrites.{Opens, OpensAt, opened_at}
use Rattle.cmd_take.specs.Files.{OpensAs}
use Rattle.cmd_take.specs.Opening.{export_told}
use Rattle.cmd_take.specs.Steps.{Authored, Coming, Does, Ends, GoesOn, Reads, Steps, Then}
use Rattle.cmd_take.specs.Stops.{DrawingStop, drawing_stop, drawing_told, no_author, take_stop}
use Rattle.cmd_take.specs.Taking.{IsTaken}
use Rattle.zed_undo.specs.declared.error.ChoiceError.{ChoiceError}
use Rattle.zed_undo.specs.declared.error.ChoiceError.TheVariants as choosing
use Rattle.zed_undo.specs.Choosing.{Wanted, chosen_of, first_missing}
use Rattle.zed_undo.specs.Leaving.{left_by}
use Rattle.cmd_undo.specs.declared.manner.Manner.{Manner}
use Rattle.cmd_undo.specs.declared.manner.Trial.{Trial}
use Rattle.cmd_undo.specs.Declining.{declined, missing_text, needed_text}
use Rattle.cmd_undo.specs.Undoing.{Chosen, GivesFile, IsShown, IsTakenBack, OldUndoes, Pulled, Takes, Wish, WishUndoes, UndoComes, Undoes, UndoesChosen, UndoesThese, between, choice_stop, choice_told, stopping}

abbrev did : Effect → Result Effect DrawingStop
did x = Ok x

abbrev stopped : {X E : Type 0} → Stop E → Result X (Stop E)
stopped e = Err e

same_did : (x y : Effect) → did x ≡ did y → x ≡ y
same_did x y is = cc

same_stop : {X E : Type 0} (e f : Stop E) → stopped {X = X} e ≡ stopped {X = X} f → e ≡ f
same_stop e f is = cc

-- there is no such file
abbrev no_file : Result Effect DrawingStop
no_file = Err File

not_both : {P : Type 0} (x : Effect) (e : DrawingStop) → did x ≡ Err e → P
not_both x e is = absurd (cc)

-- ---- the status

abbrev IsStatus : ℕ → Type 0
IsStatus n = (n ≡ 0) ⊎ (n ≡ 1)

-- what comes to an effect comes to one with such a status
abbrev HasStatus : (Result Effect DrawingStop → Type 0) → Type 0
HasStatus Says = (x : Effect) → Says (Ok x) → IsStatus x.status

abbrev HaveStatus : Coming → Type 0
HaveStatus Comes = (files : List Input) → HasStatus (Comes files)

status_as : (x y : Effect) → IsStatus y.status → did x ≡ did y → IsStatus x.status
status_as x y is same = subst (λ (z : Effect). IsStatus z.status) (sym (same_did x y same)) is

then_status : {X : Type 0} (Next : X → Result Effect DrawingStop → Type 0) (m : Result X DrawingStop) → ((y : X) → HasStatus (Next y)) → HasStatus (Then m Next)
then_status Next (Ok y) next x is = next y x is
then_status Next (Err e) next x is = not_both x e is

steps_status : {X : Type 0} (First : Result X DrawingStop → Type 0) (Next : X → Result Effect DrawingStop → Type 0) → ((y : X) → HasStatus (Next y))
    → HasStatus (Steps First Next)
steps_status First Next next x is = then_status Next is.0 next x is.2

goes_status : {X : Type 0} (Next : X → Coming) (m : Result X DrawingStop) → ((y : X) → HaveStatus (Next y)) → HaveStatus (GoesOn m Next)
goes_status Next (Ok y) next files x is = next y files x is
goes_status Next (Err e) next files x is = not_both x e is.1

reads_status : {X : Type 0} (Made : Input → Result X DrawingStop → Type 0) (Next : X → Coming) → ((y : X) → HaveStatus (Next y)) → HaveStatus (Reads Made Next)
reads_status Made Next next [] x is = absurd is
reads_status Made Next next (i ∷ files) x is = goes_status Next is.0 next files x is.2

ends_status : (Last : Result Effect DrawingStop → Type 0) → HasStatus Last → HaveStatus (Ends Last)
ends_status Last last files x is = last x is.1

author_status : (replica : ℕ) (Comes : Coming) → HaveStatus Comes → HaveStatus (Authored replica Comes)
author_status replica Comes comes files x is = elim is [
  | inl none ↦ not_both x no_author none.2
  | inr author ↦ elim author.1 [
    | inl lack ↦ not_both x Memory lack.0
    | inr go ↦ comes files x go
  ]
]

back_status : (trial : Trial) (file : List ℕ) (replica : ℕ) (marks : List Bool) (f : FileEdits) → HasStatus (IsTakenBack trial file replica marks f)
unfolding IsTakenBack
back_status trial file replica marks f =
    steps_status (IsShown (left_by marks f.1)) (λ w. Takes trial file replica f w)
    (λ w. steps_status (IsTaken f.1 f.1 w replica) (λ new. GivesFile trial file f new) (λ new x is. status_as x is.0 (inl is.1.3) is.2))

undoes_status : (file : List ℕ) (manner : Manner) (replica : ℕ) (marks : List Bool) (f : FileEdits) → HasStatus (Undoes file manner replica marks f)
unfolding Undoes
undoes_status file manner replica marks f x is = go (stopping manner.others replica f.1 (left_by marks f.1)) is
  where
    go : (o : Option Edit) → MatchOption o (IsTakenBack manner.trial file replica marks f (Ok x)) (λ e. did x ≡ Ok (declined (needed_text e))) → IsStatus x.status
    go None is = back_status manner.trial file replica marks f x is
    go (Some e) is = status_as x (declined (needed_text e)) (inr refl) is

these_status : (file : List ℕ) (manner : Manner) (replica : ℕ) (ss : List Stamp) (f : FileEdits) (marks : List Bool) → HasStatus (UndoesThese file manner replica ss f marks)
these_status file manner replica ss f marks x is = go (first_missing f.1 ss) is
  where
    go : (o : Option Stamp) → MatchOption o (Undoes file manner replica marks f (Ok x)) (λ s. did x ≡ Ok (declined (missing_text s))) → IsStatus x.status
    go None is = undoes_status file manner replica marks f x is
    go (Some s) is = status_as x (declined (missing_text s)) (inr refl) is

chosen_status : (file : List ℕ) (manner : Manner) (replica : ℕ) (c : Wanted) (f : FileEdits) → HasStatus (UndoesChosen file manner replica c f)
unfolding UndoesChosen
chosen_status file manner replica c f =
    steps_status (λ m. m ≡ choice_told (chosen_of f.1 c)) (λ marks. UndoesThese file manner replica c.stamps f marks)
    (λ marks. these_status file manner replica c.stamps f marks)

old_status : (file : List ℕ) (manner : Manner) (replica : ℕ) (f n : FileEdits) → HaveStatus (OldUndoes file manner replica f n)
old_status file manner replica f n =
    reads_status (OpensAs (Some f.0)) (λ o. Ends (Undoes file manner replica (between n o f.1) f))
    (λ o. ends_status (Undoes file manner replica (between n o f.1) f) (undoes_status file manner replica (between n o f.1) f))

wish_status : (file : List ℕ) (manner : Manner) (replica : ℕ) (wish : Wish) (f : FileEdits) → HaveStatus (WishUndoes file manner replica wish f)
wish_status file manner replica (Chosen c) f = ends_status (UndoesChosen file manner replica c f) (chosen_status file manner replica c f)
wish_status file manner replica (Pulled new old) f =
    reads_status (OpensAs (Some f.0)) (OldUndoes file manner replica f) (old_status file manner replica f)

-- it is 0, or 1 where nothing was undone for what others need or for a stamp of nothing
pub undo_status : (file : List ℕ) (manner : Manner) (replica : ℕ) (wish : Wish) (files : List Input) (x : Effect)
    → UndoComes file manner replica wish files (Ok x) → (x.status ≡ 0) ⊎ (x.status ≡ 1)
undo_status file manner replica wish =
    author_status replica (Reads (OpensAs None) (WishUndoes file manner replica wish))
    (reads_status (OpensAs None) (WishUndoes file manner replica wish) (wish_status file manner replica wish))

-- ---- a file that can't be had

-- it doesn't come to that
abbrev Never : {X : Type 0} → (Result X DrawingStop → Type 0) → Type 0
Never Says = Says (Err File) → ⊥

abbrev Lack : Coming → Type 0
Lack Comes = (rs : List Answer) → Comes (files_of rs) (Err File) → some_lacks rs ≡ true

drawing_is : (e : Stop Reason) → drawing_stop e ≡ stop.File → e ≡ stop.File
drawing_is stop.Memory is = absurd (cc)
drawing_is stop.File is = refl
drawing_is (stop.Refused e) is = absurd (cc)

file_tells : (e : EditFileError) → file_stop e ≡ stop.File → ⊥
file_tells file.Memory is = cc
file_tells file.Magic is = cc
file_tells file.NewVersion is = cc
file_tells file.OtherWorld is = cc
file_tells file.RecordLength is = cc
file_tells (file.BadEdit a) is = cc
file_tells file.CutShort is = cc

export_tells : (e : ExportError) → export_stop e ≡ stop.File → ⊥
export_tells export.Memory is = cc
export_tells export.Stale is = cc
export_tells export.NoWorld is = cc
export_tells (export.BoardsOver a) is = cc
export_tells (export.StatsOver a b) is = cc
export_tells (export.BoardOver a b) is = cc

take_tells : (e : TakeError) → take_stop e ≡ stop.File → ⊥
take_tells taking.Memory is = cc
take_tells (taking.Base e) is = export_tells e (drawing_is (export_stop e) is)
take_tells (taking.WorldOver b n) is = cc
take_tells taking.ClockSpent is = cc
take_tells taking.NotTaken is = cc

choice_tells : (e : ChoiceError) → choice_stop e ≡ stop.File → ⊥
choice_tells choosing.Memory is = cc
choice_tells choosing.NoBoard is = cc
choice_tells choosing.OutOfRange is = cc

-- an edit file that is there
end_never : (end : Result ℕ EditFileError) (es : List Edit) → stopped File ≡ opened_at end es → ⊥
end_never (Ok world) es is = cc
end_never (Err e) es is = file_tells e (sym (same_stop File (file_stop e) is))

opens_never : (asked : Option ℕ) (bytes : List ℕ) → Opens asked bytes (stopped File) → ⊥
opens_never asked bytes is = go is.1 is.3
  where
    go : (end : Result ℕ EditFileError) → OpensAt is.0 end (stopped File) → ⊥
    go end at = elim at [
      | inl clash ↦ (let no = clash.2 in cc)
      | inr all ↦ end_never end is.0 all.1
    ]

told_never : {X : Type 0} (m : Result X (Stop Reason)) → stopped File ≡ drawing_told m → m ≡ Err File
told_never (Ok x) is = absurd (cc)
told_never (Err e) is = ap (λ e. Err e) (drawing_is e (sym (same_stop File (drawing_stop e) is)))

opened_never : (asked : Option ℕ) (bytes : List ℕ) → Never (OpensAs asked (Bytes bytes))
opened_never asked bytes is = opens_never asked bytes (subst (λ m. Opens asked bytes m) (told_never is.0 is.2) is.1)

-- steps
then_never : {X Y : Type 0} (First : Result X DrawingStop → Type 0) (Next : X → Result Y DrawingStop → Type 0) (m : Result X DrawingStop) → Never First
    → ((x : X) → Never (Next x)) → First m → Then m Next (Err File) → ⊥
then_never First Next (Ok x) first next is rest = next x rest
then_never First Next (Err e) first next is rest = first (subst (λ e. First (Err e)) (sym (same_stop File e rest)) is)

steps_never : {X Y : Type 0} (First : Result X DrawingStop → Type 0) (Next : X → Result Y DrawingStop → Type 0) → Never First → ((x : X) → Never (Next x))
    → Never (Steps First Next)
steps_never First Next first next is = then_never First Next is.0 first next is.1 is.2

goes_lacks : {X : Type 0} (First : Result X DrawingStop → Type 0) (Next : X → Coming) (m : Result X DrawingStop) (rs : List Answer) → Never First
    → ((x : X) → Lack (Next x)) → First m → GoesOn m Next (files_of rs) (Err File) → some_lacks rs ≡ true
goes_lacks First Next (Ok x) rs first next is rest = next x rs rest
goes_lacks First Next (Err e) rs first next is rest = absurd (first (subst (λ e. First (Err e)) (sym (same_stop File e rest.1)) is))

reads_lacks : {X : Type 0} (Made : Input → Result X DrawingStop → Type 0) (Next : X → Coming) → ((bytes : List ℕ) → Never (Made (Bytes bytes)))
    → ((x : X) → Lack (Next x)) → Lack (Reads Made Next)
reads_lacks Made Next never next [] is = absurd is
reads_lacks Made Next never next (r ∷ rs) is = go r.file is
  where
    go : (i : Input) → Does (Made i) Next (files_of rs) (Err File) → some_lacks (record { name = r.name; file = i } ∷ rs) ≡ true
    go (Bytes bytes) does = goes_lacks (Made (Bytes bytes)) Next does.0 rs (never bytes) next does.1 does.2
    go Missing does = refl
    go Failed does = refl

ends_lacks : (Last : Result Effect DrawingStop → Type 0) → Never Last → Lack (Ends Last)
ends_lacks Last never rs is = absurd (never is.1)

author_lacks : (replica : ℕ) (Comes : Coming) → Lack Comes → Lack (Authored replica Comes)
author_lacks replica Comes lacks rs is = elim is [
  | inl none ↦ absurd (let no = same_stop File no_author none.2 in cc)
  | inr author ↦ elim author.1 [
    | inl lack ↦ absurd (let no = same_stop File Memory lack.0 in cc)
    | inr go ↦ lacks rs go
  ]
]

-- what is done with FILE
export_never : {X : Type 0} (m : Result X ExportError) → stopped File ≡ export_told m → ⊥
export_never (Ok x) is = cc
export_never (Err e) is = export_tells e (drawing_is (export_stop e) (sym (same_stop File (drawing_stop (export_stop e)) is)))

taken_never : (es : List Edit) (w : Contents) (replica : ℕ) → Never (IsTaken es es w replica)
unfolding IsTaken
taken_never es w replica is = elim is [
  | inl new ↦ (let no = new.2 in cc)
  | inr none ↦ take_tells none.0 (sym (same_stop File _ none.2))
]

gives_never : (trial : Trial) (file : List ℕ) (f : FileEdits) (new : List Edit) → Never (GivesFile trial file f new)
gives_never trial file f new is = let no = is.2 in cc

back_never : (trial : Trial) (file : List ℕ) (replica : ℕ) (marks : List Bool) (f : FileEdits) → Never (IsTakenBack trial file replica marks f)
unfolding IsTakenBack
back_never trial file replica marks f =
    steps_never (IsShown (left_by marks f.1)) (λ w. Takes trial file replica f w) (export_never (exported 32767 (replay (left_by marks f.1))))
    (λ w. steps_never (IsTaken f.1 f.1 w replica) (λ new. GivesFile trial file f new) (taken_never f.1 w replica) (gives_never trial file f))

undoes_never : (file : List ℕ) (manner : Manner) (replica : ℕ) (marks : List Bool) (f : FileEdits) → Never (Undoes file manner replica marks f)
unfolding Undoes
undoes_never file manner replica marks f is = go (stopping manner.others replica f.1 (left_by marks f.1)) is
  where
    go : (o : Option Edit) → MatchOption o (IsTakenBack manner.trial file replica marks f no_file) (λ e. no_file ≡ Ok (declined (needed_text e))) → ⊥
    go None is = back_never manner.trial file replica marks f is
    go (Some e) is = cc

these_never : (file : List ℕ) (manner : Manner) (replica : ℕ) (ss : List Stamp) (f : FileEdits) (marks : List Bool) → Never (UndoesThese file manner replica ss f marks)
these_never file manner replica ss f marks is = go (first_missing f.1 ss) is
  where
    go : (o : Option Stamp) → MatchOption o (Undoes file manner replica marks f no_file) (λ s. no_file ≡ Ok (declined (missing_text s))) → ⊥
    go None is = undoes_never file manner replica marks f is
    go (Some s) is = cc

choice_never : (m : Result (List Bool) ChoiceError) → stopped File ≡ choice_told m → ⊥
choice_never (Ok marks) is = cc
choice_never (Err e) is = choice_tells e (sym (same_stop File (choice_stop e) is))

chosen_never : (file : List ℕ) (manner : Manner) (replica : ℕ) (c : Wanted) (f : FileEdits) → Never (UndoesChosen file manner replica c f)
unfolding UndoesChosen
chosen_never file manner replica c f =
    steps_never (λ m. m ≡ choice_told (chosen_of f.1 c)) (λ marks. UndoesThese file manner replica c.stamps f marks) (choice_never (chosen_of f.1 c))
    (λ marks. these_never file manner replica c.stamps f marks)

old_lacks : (file : List ℕ) (manner : Manner) (replica : ℕ) (f n : FileEdits) → Lack (OldUndoes file manner replica f n)
old_lacks file manner replica f n =
    reads_lacks (OpensAs (Some f.0)) (λ o. Ends (Undoes file manner replica (between n o f.1) f)) (opened_never (Some f.0))
    (λ o. ends_lacks (Undoes file manner replica (between n o f.1) f) (undoes_never file manner replica (between n o f.1) f))

wish_lacks : (file : List ℕ) (manner : Manner) (replica : ℕ) (wish : Wish) (f : FileEdits) → Lack (WishUndoes file manner replica wish f)
wish_lacks file manner replica (Chosen c) f = ends_lacks (UndoesChosen file manner replica c f) (chosen_never file manner replica c f)
wish_lacks file manner replica (Pulled new old) f =
    reads_lacks (OpensAs (Some f.0)) (OldUndoes file manner replica f) (opened_never (Some f.0)) (old_lacks file manner replica f)

pub undo_lacks : (file : List ℕ) (manner : Manner) (replica : ℕ) (wish : Wish) (rs : List Answer)
    → UndoComes file manner replica wish (files_of rs) (Err File)
    → some_lacks rs ≡ true
undo_lacks file manner replica wish =
    author_lacks replica (Reads (OpensAs None) (WishUndoes file manner replica wish))
    (reads_lacks (OpensAs None) (WishUndoes file manner replica wish) (opened_never None) (wish_lacks file manner replica wish))
