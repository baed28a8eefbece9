-- Commands that draw tell of a file that can't be had only if they were given one.
use Rattle.zed_types.specs.declared.stamp.Stamp.{Stamp}
use Rattle.std.proofs.Common.{◌≡◌, ◌∙◌, ℕ, Bool, true, false, List, [], ◌∷◌, Option, Some, None, Result, Ok, Err, ap, refl, subst, sym, inl, inr}
use Rattle.std.specs.Prelude.{⊤, ◌⊎◌, MatchBool, if◌then◌else◌, length}
use Rattle.std.specs.Str.{bytes_eq}
use Rattle.zed_op.specs.declared.op.Edit.{Edit}
use Rattle.zed_world.specs.Contents.{Contents}
use Rattle.zed_world.specs.Reading.{world_at}
use Rattle.zed_world.specs.declared.error.WorldError.{WorldError}
use Rattle.zed_edit.specs.declared.plain.Plain.{Plain}
use Rattle.zed_edit.specs.Replay.{replay}
use Rattle.zed_export.specs.declared.error.ExportError.{ExportError}
use Rattle.zed_export.specs.Limits.{exported, saved}
use Rattle.zed_plaintext.specs.declared.error.BadText.{BadText as Place}
use Rattle.zed_plaintext.specs.Reading.{program_in}
use Rattle.cmd_program.specs.declared.error.ReprogramError.{ReprogramError}
use Rattle.cmd_program.specs.declared.error.ReprogramError.TheVariants as reprogram
use Rattle.zed_driver.specs.declared.command.Stop.{Stop}
use Rattle.zed_driver.specs.declared.command.Stop.TheVariants.{Memory, File, Refused}
use Rattle.zed_driver.specs.declared.input.Input.{Input}
use Rattle.zed_driver.specs.declared.input.Input.TheVariants.{Bytes, Missing, Failed}
use Rattle.zed_driver.specs.Driven.{some_lacks}
use Rattle.zed_driver.specs.Effects.{Effect}
use Rattle.zed_driver.specs.Reading.{Answer, files_of}
use Rattle.zed_refusal.specs.declared.reason.Reason.{Reason}
use Rattle.zed_refusal.specs.Stops.{export_stop, world_stop}
use Rattle.zed_files.specs.Opened.{FileEdits}
use Rattle.zed_files.specs.Rewrites.{Opens}
use Rattle.cmd_take.specs.declared.opening.Forcing.{Forcing}
use Rattle.cmd_take.specs.declared.opening.Forcing.TheVariants.{Careful, Forced}
use Rattle.cmd_take.specs.declared.reason.DrawingReason.{DrawingReason}
use Rattle.cmd_take.specs.declared.reason.DrawingReason.TheVariants.{TakesAway}
use Rattle.cmd_take.specs.Base.{BaseOf, BaseReads, HasEdits, HeldBase, base_word, beside, edits_of_base, presence_of}
use Rattle.cmd_take.specs.Changes.{are_too_many, removals, world_boards}
use Rattle.cmd_take.specs.Files.{IsOpened, IsWorld, OfFile, OpensAs, ReadsAs, world_told}
use Rattle.cmd_take.specs.Note.{note, told, with_told}
use Rattle.cmd_take.specs.Opening.{FoundReads, IsExported, IsSame, IsWritten, OpenComes, Replaces, Shown, TriedWorld, WritesOver, export_told, up_to}
use Rattle.cmd_take.specs.Steps.{Authored, Coming, Does, Ends, GoesOn, OrLacks, Reads, Steps, Then}
use Rattle.cmd_take.specs.Stops.{DrawingStop, drawing_stop, drawing_told, no_author}
use Rattle.cmd_take.specs.Taking.{BaseTakes, Draws, FileTakes, Given, IsJoined, IsTaken, TakeComes, Takes, WorldTakes, drawn, given}
use Rattle.cmd_program.specs.Setting.{FileSets, IsChanged, IsShown, IsSpelled, ProgramComes, Reprograms, Sets, reprogram_stop, reprogram_told, text_told}
use Rattle.zed_tool.proofs.Driven.{TellsLacks}
use Rattle.zed_tool.proofs.Lacking.{opens_not, same_stop}
use Rattle.zed_tool.proofs.Stops.{drawing_is, export_tells, take_tells, world_tells}

-- it doesn't come to a file that can't be had
abbrev Never : {X : Type 0} → (Result X DrawingStop → Type 0) → Type 0
Never Says = Says (Err File) → ⊥

abbrev stopped : {X : Type 0} → DrawingStop → Result X DrawingStop
stopped e = Err e

-- ---- steps

then_never : {X Y : Type 0} (First : Result X DrawingStop → Type 0) (Next : X → Result Y DrawingStop → Type 0) (m : Result X DrawingStop) → Never First
    → ((x : X) → Never (Next x)) → First m → Then m Next (Err File) → ⊥
then_never First Next (Ok x) first next is rest = next x rest
then_never First Next (Err e) first next is rest = first (subst (λ e. First (Err e)) (sym (same_stop File e rest)) is)

steps_never : {X Y : Type 0} (First : Result X DrawingStop → Type 0) (Next : X → Result Y DrawingStop → Type 0) → Never First → ((x : X) → Never (Next x))
    → Never (Steps First Next)
steps_never First Next first next is = then_never First Next is.0 first next is.1 is.2

goes_lacks : {X : Type 0} (First : Result X DrawingStop → Type 0) (Next : X → Coming) (m : Result X DrawingStop) (rs : List Answer) → Never First
    → ((x : X) → TellsLacks (Next x)) → First m → GoesOn m Next (files_of rs) (Err File) → some_lacks rs ≡ true
goes_lacks First Next (Ok x) rs first next is rest = next x rs rest
goes_lacks First Next (Err e) rs first next is rest = absurd (first (subst (λ e. First (Err e)) (sym (same_stop File e rest.1)) is))

does_lacks : {X : Type 0} (First : Result X DrawingStop → Type 0) (Next : X → Coming) → Never First → ((x : X) → TellsLacks (Next x))
    → TellsLacks (Does First Next)
does_lacks First Next first next rs is = goes_lacks First Next is.0 rs first next is.1 is.2

reads_lacks : {X : Type 0} (Made : Input → Result X DrawingStop → Type 0) (Next : X → Coming) → ((bytes : List ℕ) → Never (Made (Bytes bytes)))
    → ((x : X) → TellsLacks (Next x)) → TellsLacks (Reads Made Next)
reads_lacks Made Next never next [] is = absurd is
reads_lacks Made Next never next (r ∷ rs) is = go r.file is
  where
    go : (i : Input) → Does (Made i) Next (files_of rs) (Err File) → some_lacks (record { name = r.name; file = i } ∷ rs) ≡ true
    go (Bytes bytes) does = does_lacks (Made (Bytes bytes)) Next (never bytes) next rs does
    go Missing does = refl
    go Failed does = refl

ends_lacks : (Last : Result Effect DrawingStop → Type 0) → Never Last → TellsLacks (Ends Last)
ends_lacks Last never rs is = absurd (never is.1)

or_lacks : (Comes : Coming) → TellsLacks Comes → TellsLacks (OrLacks Comes)
or_lacks Comes lacks rs is = elim is [
  | inl lack ↦ absurd (let no = same_stop File Memory lack.0 in cc)
  | inr comes ↦ lacks rs comes
]

author_lacks : (replica : ℕ) (Comes : Coming) → TellsLacks Comes → TellsLacks (Authored replica Comes)
author_lacks replica Comes lacks rs is = elim is [
  | inl none ↦ absurd (let no = same_stop File no_author none.2 in cc)
  | inr author ↦ or_lacks Comes lacks rs author.1
]

-- ---- files

drawn_never : {X : Type 0} (m : Result X (Stop Reason)) → stopped File ≡ drawing_told m → m ≡ Err File
drawn_never (Ok x) is = absurd (cc)
drawn_never (Err e) is = ap (λ e. Err e) (drawing_is e (sym (same_stop File (drawing_stop e) is)))

opened_never : (asked : Option ℕ) (bytes : List ℕ) → Never (OpensAs asked (Bytes bytes))
opened_never asked bytes is = opens_not asked bytes (subst (λ m. Opens asked bytes m) (drawn_never is.0 is.2) is.1)

world_never : (bytes : List ℕ) → Never (IsWorld bytes)
world_never bytes is = go (world_at bytes) is
  where
    go : (m : Result Contents WorldError) → stopped File ≡ world_told m → ⊥
    go (Ok w) same = cc
    go (Err e) same = world_tells e (drawing_is (world_stop e) (sym (same_stop File (drawing_stop (world_stop e)) same)))

export_never : {X : Type 0} (m : Result X ExportError) → stopped File ≡ export_told m → ⊥
export_never (Ok x) is = cc
export_never (Err e) is = export_tells e (drawing_is (export_stop e) (sym (same_stop File (drawing_stop (export_stop e)) is)))

has_edits_never : (f : FileEdits) → Never (HasEdits f)
has_edits_never f is = cc

held_never : (number : ℕ) (bytes : List ℕ) → Never (HeldBase number (Bytes bytes))
held_never number bytes = steps_never (OpensAs (Some number) (Bytes bytes)) HasEdits (opened_never (Some number) bytes) has_edits_never

base_never : (word : Option (List ℕ)) (number : ℕ) (bytes : List ℕ) → Never (BaseOf (presence_of word) number (Bytes bytes))
base_never (Some name) number bytes = held_never number bytes
base_never None number bytes = held_never number bytes

base_lacks : (word : Option (List ℕ)) (base file : List ℕ) (number : ℕ) (Next : Option (List Edit) → Coming) → ((b : Option (List Edit)) → TellsLacks (Next b))
    → TellsLacks (BaseReads (presence_of word) base file number Next)
base_lacks word base file number Next next rs is = go (bytes_eq base file) is
  where
    go : (b : Bool) → MatchBool b (Next None (files_of rs) (Err File)) (Reads (BaseOf (presence_of word) number) Next (files_of rs) (Err File)) → some_lacks rs ≡ true
    go true is = next None rs is
    go false is = reads_lacks (BaseOf (presence_of word) number) Next (base_never word number) next rs is

-- ---- what is drawn

joined_never : (own : List Edit) (base : Option (List Edit)) → Never (IsJoined own base)
unfolding IsJoined
joined_never own None is = cc
joined_never own (Some base) is = elim is [
  | inl both ↦ (let no = both.1 in cc)
  | inr clash ↦ (let no = clash.2 in cc)
]

taken_never : (all base : List Edit) (w : Contents) (replica : ℕ) → Never (IsTaken all base w replica)
unfolding IsTaken
taken_never all base w replica is = elim is [
  | inl new ↦ (let no = new.2 in cc)
  | inr none ↦ take_tells none.0 (sym (same_stop File _ none.2))
]

is_ok_never : (x : Effect) → Never (λ r. r ≡ Ok x)
is_ok_never x is = cc

draws_never : (base file : List ℕ) (replica : ℕ) (g : Given) → Never (Draws base file replica g)
unfolding Draws
draws_never base file replica g is =
    steps_never (IsJoined g.edits g.base) _ (joined_never g.edits g.base)
    (λ all. steps_never (IsTaken all (edits_of_base g.base g.edits) g.shown replica) _ (taken_never all (edits_of_base g.base g.edits) g.shown replica)
    (λ new. is_ok_never _)) is

-- ---- `take`

told_never : (forcing : Forcing) (p : Plain) (new : List Edit) (x : Effect) → Never (λ r. r ≡ with_told (told forcing p new) x)
told_never forcing p new x is = go (are_too_many forcing (length (world_boards p)) (removals new)) is
  where
    go : (b : Bool) → stopped File ≡ with_told (if b then Err (Refused (TakesAway (removals new))) else Ok (note p new)) x → ⊥
    go true same = cc
    go false same = cc

takes_never : (base file : List ℕ) (replica : ℕ) (forcing : Forcing) (g : Given) → Never (Takes base file replica forcing g)
unfolding Takes
takes_never base file replica forcing g is =
    steps_never (IsJoined g.edits g.base) _ (joined_never g.edits g.base)
    (λ all. steps_never (IsTaken all (edits_of_base g.base g.edits) g.shown replica) _ (taken_never all (edits_of_base g.base g.edits) g.shown replica)
    (λ new. told_never forcing (replay (edits_of_base g.base g.edits)) new (drawn base file g all new))) is

world_lacks : (base file : List ℕ) (replica : ℕ) (forcing : Forcing) (f : FileEdits) (b : Option (List Edit)) → TellsLacks (WorldTakes base file replica forcing f b)
world_lacks base file replica forcing f b =
    reads_lacks ReadsAs (λ w. Ends (Takes base file replica forcing (given f b w))) world_never
    (λ w. ends_lacks (Takes base file replica forcing (given f b w)) (takes_never base file replica forcing (given f b w)))

pub take_lacks : (base : Option (List ℕ)) (forcing : Forcing) (file : List ℕ) (replica : ℕ) (world : List ℕ) → TellsLacks (TakeComes base forcing file replica world)
take_lacks base forcing file replica world =
    let presence = presence_of base in
    let name = base_word base world in
    author_lacks replica (FileTakes presence name file replica forcing)
    (reads_lacks (OpensAs None) (BaseTakes presence name file replica forcing) (opened_never None)
    (λ f. base_lacks base name file f.0 (WorldTakes name file replica forcing f) (world_lacks name file replica forcing f)))

-- ---- `open`

same_never : (w : Contents) (m : Result Contents ExportError) → Never (IsSame w m)
same_never w (Ok v) is = elim is [
  | inl same ↦ (let no = same.1 in cc)
  | inr other ↦ (let no = other.1 in cc)
]
same_never w (Err e) is = export_never {X = Contents} (Err e) (ap (λ e. Err e) (same_stop File (drawing_stop (export_stop e)) is))

over_never : (world : List ℕ) (f : FileEdits) (bytes : List ℕ) (w : Contents) (b : Option (List Edit)) → Never (WritesOver world f bytes w b)
over_never world f bytes w b =
    steps_never (IsSame w (exported 32767 (replay (edits_of_base b f.1)))) (λ _. IsWritten world f bytes) (same_never w (exported 32767 (replay (edits_of_base b f.1))))
    (λ x. is_ok_never _)

found_lacks : (f : FileEdits) (shown : List Edit) (file world bytes : List ℕ) (w : Option Contents) → TellsLacks (FoundReads f shown file world bytes w)
found_lacks f shown file world bytes None rs is = ends_lacks (IsWritten world f bytes) (is_ok_never _) rs is
found_lacks f shown file world bytes (Some w) rs is = elim is [
  | inl same ↦ ends_lacks (IsWritten world f bytes) (is_ok_never _) rs same.1
  | inr other ↦ base_lacks None (beside world) file f.0 (λ b. Ends (WritesOver world f bytes w b))
      (λ b. ends_lacks (WritesOver world f bytes w b) (over_never world f bytes w b)) rs other.1
]

tried_never : (bytes : List ℕ) → Never (TriedWorld (Bytes bytes))
tried_never bytes = steps_never (IsWorld bytes) (λ w r. r ≡ Ok (Some w)) (world_never bytes) (λ w is. cc)

replaces_lacks : (forcing : Forcing) (f : FileEdits) (shown : List Edit) (file world bytes : List ℕ) → TellsLacks (Replaces forcing f shown file world bytes)
replaces_lacks Careful f shown file world bytes =
    reads_lacks TriedWorld (FoundReads f shown file world bytes) tried_never (found_lacks f shown file world bytes)
replaces_lacks Forced f shown file world bytes = ends_lacks (IsWritten world f bytes) (is_ok_never _)

pub open_lacks : (until : Option Stamp) (forcing : Forcing) (file world : List ℕ) → TellsLacks (OpenComes until forcing file world)
open_lacks until forcing file world =
    or_lacks (Reads (OpensAs None) (Shown until forcing file world))
    (reads_lacks (OpensAs None) (Shown until forcing file world) (opened_never None)
    (λ f. does_lacks (IsExported (up_to until f.1)) (Replaces forcing f (up_to until f.1) file world) (export_never (saved 32767 (replay (up_to until f.1))))
    (replaces_lacks forcing f (up_to until f.1) file world)))

-- ---- `program`, where it sets one

spelled_never : (text : List ℕ) → Never (IsSpelled text)
spelled_never text is = go (program_in text) is
  where
    go : (m : Result (List ℕ) Place) → stopped File ≡ text_told m → ⊥
    go (Ok program) same = cc
    go (Err bad) same = cc

reprogram_tells : (e : ReprogramError) → reprogram_stop e ≡ File → ⊥
reprogram_tells reprogram.Memory is = cc
reprogram_tells reprogram.NoBoard is = cc
reprogram_tells reprogram.NoSuch is = cc
reprogram_tells (reprogram.BoardOver b n) is = cc

reprogrammed_never : (m : Result Contents ReprogramError) → stopped File ≡ reprogram_told m → ⊥
reprogrammed_never (Ok w) is = cc
reprogrammed_never (Err e) is = reprogram_tells e (sym (same_stop File (reprogram_stop e) is))

changed_never : (es : List Edit) (board stat : ℕ) (program : List ℕ) → Never (IsChanged es board stat program)
changed_never es board stat program =
    steps_never (IsShown es) (λ w. Reprograms w board stat program) (export_never (exported 32767 (replay es))) (λ w is. reprogrammed_never is.0 is.2)

sets_never : (file : List ℕ) (replica board stat : ℕ) (program : List ℕ) (f : FileEdits) → Never (Sets file replica board stat program f)
unfolding Sets
sets_never file replica board stat program f is =
    steps_never (IsChanged f.1 board stat program) (λ w. Draws file file replica (given f None w)) (changed_never f.1 board stat program)
    (λ w. draws_never file file replica (given f None w)) is

pub program_lacks : (file : List ℕ) (replica board stat : ℕ) → TellsLacks (ProgramComes file replica board stat)
program_lacks file replica board stat =
    author_lacks replica (Reads (OfFile IsSpelled) (FileSets file replica board stat))
    (reads_lacks (OfFile IsSpelled) (FileSets file replica board stat) spelled_never
    (λ program. reads_lacks (OpensAs None) (λ f. Ends (Sets file replica board stat program f)) (opened_never None)
    (λ f. ends_lacks (Sets file replica board stat program f) (sets_never file replica board stat program f))))
