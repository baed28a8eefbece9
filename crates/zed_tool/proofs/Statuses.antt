-- The status of a command that was carried out: 0, or 1 where `lint` or `compare` finds something, or `undo` undoes nothing and says why.
use Rattle.zed_types.specs.declared.stamp.Stamp.{Stamp}
use Rattle.std.proofs.Common.{◌≡◌, ◌∙◌, ℕ, Bool, true, false, nat_lt, List, [], ◌∷◌, Option, Some, None, Result, Ok, Err, ap, refl, subst, sym, inl, inr}
use Rattle.std.specs.Prelude.{⊤, ◌⊎◌, MatchBool, if◌then◌else◌}
use Rattle.std.specs.Str.{bytes_eq}
use Rattle.zed_op.specs.declared.op.Edit.{Edit}
use Rattle.zed_world.specs.Contents.{Contents}
use Rattle.zed_edit.specs.Replay.{replay}
use Rattle.zed_host.specs.Calls.{Call}
use Rattle.zed_log.specs.ListLaws.{lines_in}
use Rattle.zed_driver.specs.declared.command.Stop.{Stop}
use Rattle.zed_driver.specs.declared.command.Stop.TheVariants.{Memory}
use Rattle.zed_driver.specs.declared.input.Input.{Input}
use Rattle.zed_driver.specs.Driven.{AsksIn, Coming}
use Rattle.zed_driver.specs.Effects.{Effect, prints}
use Rattle.zed_driver.specs.Reading.{files_of}
use Rattle.zed_refusal.specs.declared.reason.Reason.{Reason}
use Rattle.zed_refusal.specs.Stops.{stop_as}
use Rattle.zed_files.specs.declared.refusal.Refusal.{Refusal}
use Rattle.zed_files.specs.Opened.{FileEdits}
use Rattle.zed_files.specs.Rewrites.{IsRewritten, rewritten}
use Rattle.zed_files.specs.Tells.{FilesCome, printed_as, told_of}
use Rattle.cmd_compare.proofs.Ends.{compare_status}
use Rattle.cmd_page.specs.Told.{pages, told_of as told_of_page}
use Rattle.cmd_undo.proofs.Ends.{undo_status}
use Rattle.cmd_log.specs.declared.linting.Strictness.{Strictness}
use Rattle.cmd_log.specs.declared.linting.Strictness.TheVariants.{Lenient, Strict}
use Rattle.cmd_log.specs.Linted.{lint_of, lints, printed_with, status_of}
use Rattle.cmd_log.specs.Listed.{list_of, lists}
use Rattle.cmd_log.specs.Logged.{log_of, logs}
use Rattle.cmd_program.specs.Every.{every_of, prints_every}
use Rattle.cmd_program.specs.Printed.{printed, prints_program}
use Rattle.cmd_program.specs.Setting.{FileSets, IsChanged, IsSpelled, ProgramComes, Sets}
use Rattle.cmd_set.specs.declared.reason.SetReason.{SetReason}
use Rattle.cmd_set.specs.declared.reason.SetReason.TheVariants.{Common}
use Rattle.cmd_set.specs.Setting.{DoesWish, SetComes}
use Rattle.cmd_show.specs.Pictured.{shown_of, shows}
use Rattle.cmd_take.specs.declared.opening.Forcing.{Forcing}
use Rattle.cmd_take.specs.declared.opening.Forcing.TheVariants.{Careful, Forced}
use Rattle.cmd_take.specs.Base.{BaseOf, BaseReads, base_word, beside, edits_of_base, presence_of}
use Rattle.cmd_take.specs.Files.{OfFile, OpensAs, ReadsAs}
use Rattle.cmd_take.specs.Note.{noting, told, with_told}
use Rattle.cmd_take.specs.Opening.{FoundReads, IsExported, IsSame, IsWritten, OpenComes, Replaces, Shown, TriedWorld, WritesOver, up_to}
use Rattle.cmd_take.specs.Steps as steps
use Rattle.cmd_take.specs.Steps.{Authored, Does, Ends, GoesOn, OrLacks, Reads, Steps, Then}
use Rattle.cmd_take.specs.Stops.{DrawingStop}
use Rattle.cmd_take.specs.Taking.{BaseTakes, Draws, FileTakes, Given, IsJoined, IsTaken, TakeComes, Takes, WorldTakes, drawn, given}
use Rattle.zed_set_words.specs.Rows.{wish_of}
use Rattle.zed_tool_words.specs.Commands.{Command, Open, Take, Log, Lists, Show, Page, Play, Lint, Compare, Undo, UndoPull, Set, ProgramOf, Programs, SetProgram}
use Rattle.zed_tool.specs.Answers.{Answer, handed, told_as}
use Rattle.zed_tool.specs.Commands.{AsksCourse, chosen_as, compare_strictness_of, course_of, filter_of, forcing_of, form_of, length_of, listing_of, manner_of, pulled_as, strictness_of}
use Rattle.zed_tool.specs.Driving.{AsksDriven, Driving, to_compare, to_open, to_set, to_set_program, to_take, to_tell, to_undo}

abbrev IsStatus : ℕ → Type 0
IsStatus n = (n ≡ 0) ⊎ (n ≡ 1)

abbrev did : {E : Type 0} → Effect → Result Effect (Stop E)
did x = Ok x

same_did : {E : Type 0} (x y : Effect) → did {E = E} x ≡ did {E = E} y → x ≡ y
same_did x y is = cc

not_both : {E P : Type 0} (x : Effect) (e : Stop E) → did x ≡ Err e → P
not_both x e is = absurd (cc)

-- the effects of a command have status 0
abbrev Zero : {E : Type 0} → Coming E → Type 0
Zero Comes = (files : List Input) (x : Effect) → Comes files (Ok x) → x.status ≡ 0

zero_as : {E : Type 0} (x y : Effect) → y.status ≡ 0 → did {E = E} x ≡ did {E = E} y → x.status ≡ 0
zero_as x y zero is = ap (λ (z : Effect). z.status) (same_did x y is) ∙ zero

-- ---- what is told of a set of edits

told_status : (tells : List Edit → Result Effect (Stop Reason)) (names : List (List ℕ)) (files : List Input) (x : Effect)
    → ((es : List Edit) → did x ≡ tells es → IsStatus x.status) → FilesCome tells names files (Ok x) → IsStatus x.status
told_status tells names files x tell is = elim is [
  | inl made ↦ go made.0 made.2
  | inr lack ↦ not_both x Memory lack.0
]
  where
    go : (set : Result (List Edit) (Stop Reason)) → did x ≡ told_of tells set → IsStatus x.status
    go (Ok es) same = tell es same
    go (Err e) same = not_both x e same

printed_status : (m : Result (List ℕ) (Stop Reason)) (x : Effect) → did x ≡ printed_as m → IsStatus x.status
printed_status (Ok text) x is = inl (zero_as x (prints text 0) refl is)
printed_status (Err e) x is = not_both x e is

found_status : (strictness : Strictness) (n : ℕ) → IsStatus (status_of strictness n)
found_status Lenient n = inl refl
found_status Strict n = go (nat_lt 0 n)
  where
    go : (b : Bool) → IsStatus (if b then 1 else 0)
    go true = inr refl
    go false = inl refl

linted_status : (strictness : Strictness) (m : Result (List ℕ) (Stop Reason)) (x : Effect) → did x ≡ printed_with strictness m → IsStatus x.status
linted_status strictness (Ok text) x is =
    let n = status_of strictness (lines_in text) in
    subst IsStatus (sym (ap (λ (z : Effect). z.status) (same_did x (prints text n) is))) (found_status strictness (lines_in text))
linted_status strictness (Err e) x is = not_both x e is

-- ---- `set`

rewritten_zero : (file : List ℕ) (world : ℕ) (made : Result (List Edit) (Stop SetReason)) (x : Effect) → did x ≡ rewritten file world made → x.status ≡ 0
rewritten_zero file world (Ok es) x is = zero_as x _ refl is
rewritten_zero file world (Err e) x is = not_both x e is

set_zero : (file : List ℕ) (replica : ℕ) (words : List (List ℕ)) → Zero (SetComes file replica words)
set_zero file replica words [] x is = not_both x _ is.2
set_zero file replica words (i ∷ []) x is = elim is.1 [
  | inl made ↦ go made.0 made.2
  | inr lack ↦ not_both x Memory lack.0
]
  where
    go : (opened : Result FileEdits (Stop Reason)) → IsRewritten (DoesWish replica (wish_of words)) Common file opened (Ok x) → x.status ≡ 0
    go (Ok f) done = rewritten_zero file f.0 done.0 x done.2
    go (Err e) same = not_both x (stop_as Common e) same
set_zero file replica words (i ∷ j ∷ files) x is = absurd is

-- ---- commands that draw

goes_zero : {X : Type 0} (Next : X → steps.Coming) (m : Result X DrawingStop) (files : List Input) (x : Effect) → ((y : X) → Zero (Next y))
    → GoesOn m Next files (Ok x) → x.status ≡ 0
goes_zero Next (Ok y) files x next is = next y files x is
goes_zero Next (Err e) files x next is = not_both x e is.1

does_zero : {X : Type 0} (First : Result X DrawingStop → Type 0) (Next : X → steps.Coming) → ((y : X) → Zero (Next y)) → Zero (Does First Next)
does_zero First Next next files x is = goes_zero Next is.0 files x next is.2

reads_zero : {X : Type 0} (Made : Input → Result X DrawingStop → Type 0) (Next : X → steps.Coming) → ((y : X) → Zero (Next y)) → Zero (Reads Made Next)
reads_zero Made Next next [] x is = absurd is
reads_zero Made Next next (i ∷ files) x is = does_zero (Made i) Next next files x is

ends_zero : (Last : Result Effect DrawingStop → Type 0) → ((x : Effect) → Last (Ok x) → x.status ≡ 0) → Zero (Ends Last)
ends_zero Last last files x is = last x is.1

or_zero : (Comes : steps.Coming) → Zero Comes → Zero (OrLacks Comes)
or_zero Comes zero files x is = elim is [
  | inl lack ↦ not_both x Memory lack.0
  | inr comes ↦ zero files x comes
]

author_zero : (replica : ℕ) (Comes : steps.Coming) → Zero Comes → Zero (Authored replica Comes)
author_zero replica Comes zero files x is = elim is [
  | inl none ↦ not_both x _ none.2
  | inr author ↦ or_zero Comes zero files x author.1
]

steps_zero : {X : Type 0} (First : Result X DrawingStop → Type 0) (Next : X → Result Effect DrawingStop → Type 0) (x : Effect)
    → ((y : X) → Next y (Ok x) → x.status ≡ 0) → Steps First Next (Ok x) → x.status ≡ 0
steps_zero {X} First Next x next is = go is.0 is.2
  where
    go : (m : Result X DrawingStop) → Then m Next (Ok x) → x.status ≡ 0
    go (Ok y) rest = next y rest
    go (Err e) rest = not_both x e rest

base_zero : (word : Option (List ℕ)) (base file : List ℕ) (number : ℕ) (Next : Option (List Edit) → steps.Coming) → ((b : Option (List Edit)) → Zero (Next b))
    → Zero (BaseReads (presence_of word) base file number Next)
base_zero word base file number Next next files x is = go (bytes_eq base file) is
  where
    go : (b : Bool) → MatchBool b (Next None files (Ok x)) (Reads (BaseOf (presence_of word) number) Next files (Ok x)) → x.status ≡ 0
    go true is = next None files x is
    go false is = reads_zero (BaseOf (presence_of word) number) Next next files x is

draws_zero : (base file : List ℕ) (replica : ℕ) (g : Given) (x : Effect) → Draws base file replica g (Ok x) → x.status ≡ 0
unfolding Draws
draws_zero base file replica g x is =
    steps_zero (IsJoined g.edits g.base) _ x
    (λ all rest. steps_zero (IsTaken all (edits_of_base g.base g.edits) g.shown replica) _ x (λ new same. zero_as x _ refl same) rest) is

-- a note changes no status
noting_zero : (text : List ℕ) (x : Effect) → x.status ≡ 0 → (noting text x).status ≡ 0
noting_zero [] x zero = zero
noting_zero (c ∷ cs) x zero = zero

noted_zero : (m : Result (List ℕ) DrawingStop) (x y : Effect) → y.status ≡ 0 → did x ≡ with_told m y → x.status ≡ 0
noted_zero (Ok text) x y zero is = zero_as x (noting text y) (noting_zero text y zero) is
noted_zero (Err e) x y zero is = not_both x e is

takes_zero : (base file : List ℕ) (replica : ℕ) (forcing : Forcing) (g : Given) (x : Effect) → Takes base file replica forcing g (Ok x) → x.status ≡ 0
unfolding Takes
takes_zero base file replica forcing g x is =
    steps_zero (IsJoined g.edits g.base) _ x
    (λ all rest. steps_zero (IsTaken all (edits_of_base g.base g.edits) g.shown replica) _ x
    (λ new same. noted_zero (told forcing (replay (edits_of_base g.base g.edits)) new) x (drawn base file g all new) refl same) rest) is

take_zero : (base : Option (List ℕ)) (forcing : Forcing) (file : List ℕ) (replica : ℕ) (world : List ℕ) → Zero (TakeComes base forcing file replica world)
take_zero base forcing file replica world =
    let presence = presence_of base in
    let name = base_word base world in
    author_zero replica (FileTakes presence name file replica forcing)
    (reads_zero (OpensAs None) (BaseTakes presence name file replica forcing)
    (λ f. base_zero base name file f.0 (WorldTakes name file replica forcing f)
    (λ b. reads_zero ReadsAs (λ w. Ends (Takes name file replica forcing (given f b w)))
    (λ w. ends_zero (Takes name file replica forcing (given f b w)) (takes_zero name file replica forcing (given f b w))))))

over_zero : (world : List ℕ) (f : FileEdits) (bytes : List ℕ) (w : Contents) (b : Option (List Edit)) (x : Effect) → WritesOver world f bytes w b (Ok x)
    → x.status ≡ 0
over_zero world f bytes w b x is = steps_zero (IsSame w _) (λ _. IsWritten world f bytes) x (λ y same. zero_as x _ refl same) is

found_zero : (f : FileEdits) (shown : List Edit) (file world bytes : List ℕ) (w : Option Contents) → Zero (FoundReads f shown file world bytes w)
found_zero f shown file world bytes None files x is = zero_as x _ refl is.1
found_zero f shown file world bytes (Some w) files x is = elim is [
  | inl same ↦ zero_as x _ refl same.1.1
  | inr other ↦ base_zero None (beside world) file f.0 (λ b. Ends (WritesOver world f bytes w b))
      (λ b. ends_zero (WritesOver world f bytes w b) (over_zero world f bytes w b)) files x other.1
]

replaces_zero : (forcing : Forcing) (f : FileEdits) (shown : List Edit) (file world bytes : List ℕ) → Zero (Replaces forcing f shown file world bytes)
replaces_zero Careful f shown file world bytes files x is =
    reads_zero TriedWorld (FoundReads f shown file world bytes) (found_zero f shown file world bytes) files x is
replaces_zero Forced f shown file world bytes files x is = zero_as x _ refl is.1

open_zero : (until : Option Stamp) (forcing : Forcing) (file world : List ℕ) → Zero (OpenComes until forcing file world)
open_zero until forcing file world =
    or_zero (Reads (OpensAs None) (Shown until forcing file world))
    (reads_zero (OpensAs None) (Shown until forcing file world)
    (λ f. does_zero (IsExported (up_to until f.1)) (Replaces forcing f (up_to until f.1) file world) (replaces_zero forcing f (up_to until f.1) file world)))

sets_zero : (file : List ℕ) (replica board stat : ℕ) (program : List ℕ) (f : FileEdits) (x : Effect) → Sets file replica board stat program f (Ok x)
    → x.status ≡ 0
unfolding Sets
sets_zero file replica board stat program f x is =
    steps_zero (IsChanged f.1 board stat program) (λ w. Draws file file replica (given f None w)) x (λ w draws. draws_zero file file replica (given f None w) x draws) is

program_zero : (file : List ℕ) (replica board stat : ℕ) → Zero (ProgramComes file replica board stat)
program_zero file replica board stat =
    author_zero replica (Reads (OfFile IsSpelled) (FileSets file replica board stat))
    (reads_zero (OfFile IsSpelled) (FileSets file replica board stat)
    (λ program. reads_zero (OpensAs None) (λ f. Ends (Sets file replica board stat program f))
    (λ f. ends_zero (Sets file replica board stat program f) (sets_zero file replica board stat program f))))

-- ---- each command

abbrev answered : ℕ → Answer
answered status = Ok status

status_is : (m n : ℕ) → answered m ≡ answered n → m ≡ n
status_is m n is = cc

driven_status : {H : Type 0} (called : H → Call → H → Type 0) (d : Driving) (status : ℕ) (old new : H)
    → ((files : List Input) (x : Effect) → d.comes files (Ok x) → IsStatus x.status) → AsksDriven called d (Ok status) old new → IsStatus status
driven_status called d status old new each asks = go asks.0 asks.1.2 asks.2
  where
    go : (r : Result ℕ (Stop d.refusal)) → AsksIn d.wants d.comes r asks.1.0 → answered status ≡ handed d.failure r → IsStatus status
    go (Ok own) (rs, x, failed, asked, comes, is, rest) same = subst IsStatus (sym (status_is status own same ∙ is)) (each (files_of rs) x comes)
    go (Err e) asked same = absurd (cc)

zero_status : {H : Type 0} (called : H → Call → H → Type 0) (d : Driving) (status : ℕ) (old new : H) → Zero d.comes
    → AsksDriven called d (Ok status) old new → IsStatus status
zero_status called d status old new zero asks = driven_status called d status old new (λ files x comes. inl (zero files x comes)) asks

played_status : (r : Result ⊤ Refusal) (status : ℕ) → answered status ≡ told_as r → IsStatus status
played_status (Ok u) status same = inl (status_is status 0 same)
played_status (Err e) status same = absurd (cc)

tell_status : {H : Type 0} (called : H → Call → H → Type 0) (tells : List Edit → Result Effect (Stop Reason)) (files : List (List ℕ)) (status : ℕ) (old new : H)
    → ((es : List Edit) (x : Effect) → did x ≡ tells es → IsStatus x.status) → AsksDriven called (to_tell tells files) (Ok status) old new
    → IsStatus status
tell_status called tells files status old new each asks =
    driven_status called (to_tell tells files) status old new (λ read x is. told_status tells files read x (λ es same. each es x same) is) asks

pub command_status : {H : Type 0} (called : H → Call → H → Type 0) (command : Command) (status : ℕ) (old new : H)
    → AsksCourse called (course_of command) (Ok status) old new
    → (status ≡ 0) ⊎ (status ≡ 1)
command_status called (Open until forcing file world) status old new asks =
    zero_status called (to_open until (forcing_of forcing) file world) status old new (open_zero until (forcing_of forcing) file world) asks
command_status called (Take base forcing file replica world) status old new asks =
    zero_status called (to_take base (forcing_of forcing) file replica world) status old new (take_zero base (forcing_of forcing) file replica world) asks
command_status called (Log length filter files) status old new asks =
    let l = length_of length in
    let f = filter_of filter in
    tell_status called (logs l f) files status old new (λ es x same. printed_status (log_of l f es) x same) asks
command_status called (Lists listing files) status old new asks =
    tell_status called (lists (listing_of listing)) files status old new (λ es x same. printed_status (list_of (listing_of listing) es) x same) asks
command_status called (Show form board files) status old new asks =
    tell_status called (shows (form_of form) board) files status old new (λ es x same. printed_status (shown_of (form_of form) board es) x same) asks
command_status called (Page files) status old new asks =
    tell_status called pages files status old new (λ es x same. printed_status (told_of_page es) x same) asks
command_status called (Play going rows words keys board files) status old new asks = played_status asks.0 status asks.2
command_status called (Lint strictness files) status old new asks =
    tell_status called (lints (strictness_of strictness)) files status old new (λ es x same. linted_status (strictness_of strictness) (lint_of es) x same) asks
command_status called (Compare strictness mine theirs) status old new asks =
    driven_status called (to_compare (compare_strictness_of strictness) mine theirs) status old new (compare_status (compare_strictness_of strictness)) asks
command_status called (Undo trial others file replica chosen) status old new asks =
    let m = manner_of trial others in
    driven_status called (to_undo file replica m (chosen_as chosen)) status old new (undo_status file m replica (chosen_as chosen)) asks
command_status called (UndoPull trial others file replica newer older) status old new asks =
    let m = manner_of trial others in
    driven_status called (to_undo file replica m (pulled_as newer older)) status old new (undo_status file m replica (pulled_as newer older)) asks
command_status called (Set file replica words) status old new asks =
    zero_status called (to_set file replica words) status old new (set_zero file replica words) asks
command_status called (ProgramOf board stat files) status old new asks =
    tell_status called (prints_program board stat) files status old new (λ es x same. printed_status (printed board stat es) x same) asks
command_status called (Programs files) status old new asks =
    tell_status called prints_every files status old new (λ es x same. printed_status (every_of es) x same) asks
command_status called (SetProgram file replica board stat text) status old new asks =
    zero_status called (to_set_program file replica board stat text) status old new (program_zero file replica board stat) asks
