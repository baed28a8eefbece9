-- What the commands that the driver carries out come to: effects without notes, with status 0, and `File` only for a file.
use Rattle.std.proofs.Common.{◌≡◌, ◌∙◌, ◌++◌, ℕ, Bool, true, false, List, [], ◌∷◌, Option, Some, None, Result, Ok, Err, ap, length, refl, subst, sym, inl, inr}
use Rattle.std.specs.Prelude.{◌⊎◌}
use Rattle.zed_types.specs.declared.stamp.Stamp.{Stamp}
use Rattle.zed_op.specs.declared.op.Edit.{Edit}
use Rattle.zed_world.specs.declared.error.WorldError.{WorldError}
use Rattle.zed_editfile.specs.declared.error.EditFileError.{EditFileError}
use Rattle.zed_export.specs.declared.error.ExportError.{ExportError}
use Rattle.zed_action.specs.Deeds.{Made}
use Rattle.zed_driver.specs.declared.command.Stop.{Stop}
use Rattle.zed_driver.specs.declared.command.Stop.TheVariants.{Memory, File, Refused}
use Rattle.zed_driver.specs.declared.input.Input.{Input}
use Rattle.zed_driver.specs.declared.input.Input.TheVariants.{Bytes, Missing, Failed}
use Rattle.zed_driver.specs.Driven.{some_lacks}
use Rattle.zed_driver.specs.Effects.{Effect, prints, writes}
use Rattle.zed_driver.specs.Reading.{Answer, files_of}
use Rattle.zed_refusal.specs.declared.reason.Reason.{Reason}
use Rattle.zed_refusal.specs.declared.reason.Reason.TheVariants.{Clash}
use Rattle.zed_refusal.specs.Stops.{action_stop, export_stop, file_stop, stop_as, world_stop}
use Rattle.zed_edit.specs.Replay.{replay}
use Rattle.zed_export.specs.Limits.{saved}
use Rattle.zed_files.specs.Gathers.{Gathers, GathersTo, first_stop, set_or}
use Rattle.zed_files.specs.Opened.{FileEdits}
use Rattle.zed_files.specs.Rewrites.{IsRewritten, OpensAt, OpensFile, RewritesCome, opened_at, rewritten}
use Rattle.zed_files.specs.Tells.{FilesCome, told_of}
use Rattle.cmd_save.specs.Made.{checks, file_of, prints_report, refused_as as exported_as, report_on, reported, saves, writes_world}
use Rattle.cmd_edit.specs.Edited.{IsActed, left_by, no_author}
use Rattle.cmd_edit.specs.Fresh.{IsFirstWorld, NewComes, first_file, refused_as, taken_from, writes_genesis}
use Rattle.zed_editfile.specs.Spelling.{file_text}
use Rattle.zed_files.specs.Lines.{bytes_line, edits_line}
use Rattle.zed_program.specs.Ends.{IsPlain}
use Rattle.zed_program.proofs.Stops.{action_tells, export_tells, file_tells, world_tells}
use Rattle.zed_program.proofs.Under.{ArePlain, TellsLacks}

abbrev Outcome : Type 0
Outcome = Result Effect (Stop Reason)

abbrev done : Effect → Outcome
done x = Ok x

abbrev told : Stop Reason → Outcome
told e = Err e

same_effect : (x y : Effect) → done x ≡ done y → x ≡ y
same_effect x y is = cc

same_stop : (e f : Stop Reason) → told e ≡ told f → e ≡ f
same_stop e f is = cc

not_both : {X : Type 0} (x : Effect) (e : Stop Reason) → done x ≡ told e → X
not_both x e is = absurd (cc)

plain_as : (x y : Effect) → IsPlain y → done x ≡ done y → IsPlain x
plain_as x y plain is = subst IsPlain (sym (same_effect x y is)) plain

-- ---- what is told of a set of edits

pub files_plain : (tells : List Edit → Outcome) (names : List (List ℕ)) → ((es : List Edit) (x : Effect) → done x ≡ tells es → IsPlain x)
    → ArePlain (FilesCome tells names)
files_plain tells names plain files x is = elim is [
  | inl made ↦ go made.0 made.2
  | inr lack ↦ not_both x Memory lack.0
]
  where
    go : (set : Result (List Edit) (Stop Reason)) → done x ≡ told_of tells set → IsPlain x
    go (Ok es) same = plain es x same
    go (Err e) same = not_both x e same

-- a file that is told to be missing or unreadable was so
gathers_lack : (asked : Option ℕ) (rs : List Answer) (es : List Edit) (world : Option ℕ) (refusal : Option (Stop Reason))
    → refusal ≡ Some File → Gathers asked (files_of rs) es world refusal → some_lacks rs ≡ true
gathers_lack asked [] es world refusal is all = absurd (let no = all.2 in cc)
gathers_lack asked (r ∷ rs) es world refusal is all = go r.file all (λ n more gathers. gathers_lack (Some n) rs more world refusal is gathers)
  where
    go : (i : Input) → Gathers asked (i ∷ files_of rs) es world refusal
        → ((n : ℕ) (more : List Edit) → Gathers (Some n) (files_of rs) more world refusal → some_lacks rs ≡ true)
        → some_lacks (record { name = r.name; file = i } ∷ rs) ≡ true
    go (Bytes bytes) all again = elim all [
      | inl stop ↦ (
          let why : Some (file_stop stop.0) ≡ Some File = sym stop.2 ∙ is in
          let lost : file_stop stop.0 ≡ File = cc in
          absurd (file_tells stop.0 lost))
      | inr on ↦ again on.2 on.1 on.4
    ]
    go Missing all again = refl
    go Failed all again = refl

refused_first : (clash : Option Stamp) (refusal : Option (Stop Reason)) (world : Option ℕ) (es : List Edit) (set : Result (List Edit) (Stop Reason))
    → set ≡ Err File → set ≡ set_or (first_stop clash refusal world) es → refusal ≡ Some File
refused_first (Some c) refusal world es set is why = absurd (cc)
refused_first None (Some e) world es set is why = cc
refused_first None None None es set is why = absurd (cc)
refused_first None None (Some n) es set is why = absurd (cc)

pub files_lack : (tells : List Edit → Outcome) (names : List (List ℕ)) → ((es : List Edit) → told File ≡ tells es → ⊥) → TellsLacks (FilesCome tells names)
files_lack tells names never rs is = elim is [
  | inl made ↦ go made.0 made.1 made.2
  | inr lack ↦ absurd (let no = same_stop File Memory lack.0 in cc)
]
  where
    go : (set : Result (List Edit) (Stop Reason)) → GathersTo names (files_of rs) set → told File ≡ told_of tells set → some_lacks rs ≡ true
    go (Ok es) all same = absurd (never es same)
    go (Err e) (es, world, refusal, clash, gathers, whole, first, why) same =
        gathers_lack None rs es world refusal (refused_first clash refusal world es (Err e) (ap (λ e. Err e) (sym (same_stop File e same))) why) gathers

-- ---- `save` and `check`

pub saves_plain : (limit : ℕ) (out : List ℕ) (es : List Edit) (x : Effect) → done x ≡ saves limit out es → IsPlain x
saves_plain limit out es x is = go (file_of limit es) is
  where
    go : (m : Result (List ℕ) (Stop Reason)) → done x ≡ writes_world out m → IsPlain x
    go (Ok bytes) same = plain_as x (writes out bytes (bytes_line (length bytes))) (refl, refl) same
    go (Err e) same = not_both x e same

pub checks_plain : (limit : ℕ) (es : List Edit) (x : Effect) → done x ≡ checks limit es → IsPlain x
checks_plain limit es x is = go (report_on limit es) is
  where
    go : (m : Result (List ℕ) (Stop Reason)) → done x ≡ prints_report m → IsPlain x
    go (Ok text) same = plain_as x (prints text 0) (refl, refl) same
    go (Err e) same = not_both x e same

pub saves_none : (limit : ℕ) (out : List ℕ) (es : List Edit) → told File ≡ saves limit out es → ⊥
saves_none limit out es is = go (saved limit (replay es)) is
  where
    go : (made : Result (List ℕ) ExportError) → told File ≡ writes_world out (exported_as made) → ⊥
    go (Ok bytes) same = not_both _ File (sym same)
    go (Err e) same = export_tells e (sym (same_stop File (export_stop e) same))

pub checks_none : (limit : ℕ) (es : List Edit) → told File ≡ checks limit es → ⊥
checks_none limit es is = go (reported limit es) is
  where
    go : (made : Result (List ℕ) ExportError) → told File ≡ prints_report (exported_as made) → ⊥
    go (Ok text) same = not_both _ File (sym same)
    go (Err e) same = export_tells e (sym (same_stop File (export_stop e) same))

-- ---- `new`

pub new_plain : (out : List ℕ) (world : ℕ) (from name : Option (List ℕ)) → ArePlain (NewComes out world from name)
new_plain out world from name files x is = elim is.2 [
  | inl made ↦ go is.0 made
  | inr lack ↦ not_both x Memory lack.0
]
  where
    go : (m : Result (List ℕ) (Stop Reason)) → done x ≡ writes_genesis out world m → IsPlain x
    go (Ok bytes) same = plain_as x (writes out (first_file world bytes) (edits_line 1)) (refl, refl) same
    go (Err e) same = not_both x e same

abbrev made_none : Stop Reason → Result (List ℕ) (Stop Reason)
made_none e = Err e

no_world : (made : Result (List ℕ) WorldError) → made_none File ≡ refused_as made → ⊥
no_world (Ok bytes) same = cc
no_world (Err e) same = let lost : world_stop e ≡ File = cc in world_tells e lost

first_lacks : (from name : Option (List ℕ)) (rs : List Answer) → IsFirstWorld from name (files_of rs) (made_none File) → some_lacks rs ≡ true
first_lacks None name [] is = absurd (no_world _ is)
first_lacks None name (r ∷ rs) is = absurd is
first_lacks (Some file) name [] is = absurd is
first_lacks (Some file) name (r ∷ []) is = go r.file is
  where
    go : (i : Input) → made_none File ≡ taken_from i → some_lacks (record { name = r.name; file = i } ∷ []) ≡ true
    go (Bytes bytes) same = absurd (no_world _ same)
    go Missing same = refl
    go Failed same = refl
first_lacks (Some file) name (r ∷ s ∷ rs) is = absurd is

pub new_lacks : (out : List ℕ) (world : ℕ) (from name : Option (List ℕ)) → TellsLacks (NewComes out world from name)
new_lacks out world from name rs is = elim is.2 [
  | inl made ↦ go is.0 is.1 made
  | inr lack ↦ absurd (let no = same_stop File Memory lack.0 in cc)
]
  where
    go : (m : Result (List ℕ) (Stop Reason)) → IsFirstWorld from name (files_of rs) m → told File ≡ writes_genesis out world m → some_lacks rs ≡ true
    go (Ok bytes) first same = not_both _ File (sym same)
    go (Err e) first same =
        first_lacks from name rs (subst (λ e. IsFirstWorld from name (files_of rs) (made_none e)) (sym (same_stop File e same)) first)

-- ---- `edit`

abbrev Doing : Type 1
Doing = FileEdits → Result (List Edit) (Stop Reason) → Type 0

abbrev as_it_is : Reason → Reason
as_it_is reason = reason

rewritten_plain : (file : List ℕ) (world : ℕ) (x : Effect) (made : Result (List Edit) (Stop Reason)) → done x ≡ rewritten file world made → IsPlain x
rewritten_plain file world x (Ok es) same = plain_as x (writes file (file_text world es) (edits_line (length es))) (refl, refl) same
rewritten_plain file world x (Err e) same = not_both x e same

opened_plain : (Does : Doing) (file : List ℕ) (x : Effect) (opened : Result FileEdits (Stop Reason)) → IsRewritten Does as_it_is file opened (Ok x) → IsPlain x
opened_plain Does file x (Ok f) is = rewritten_plain file f.0 x is.0 is.2
opened_plain Does file x (Err e) is = not_both x (stop_as as_it_is e) is

pub edit_plain : (refusal : Option Reason) (MayTake : FileEdits → Type 0) (Does : Doing) (file : List ℕ) → ArePlain (RewritesCome refusal MayTake Does as_it_is file)
edit_plain refusal MayTake Does file [] x is = not_both x (Refused is.0) is.2
edit_plain refusal MayTake Does file (i ∷ []) x is = elim is.1 [
  | inl made ↦ opened_plain Does file x made.0 made.2
  | inr lack ↦ not_both x Memory lack.0
]
edit_plain refusal MayTake Does file (i ∷ j ∷ files) x is = absurd is

abbrev left_none : Stop Reason → Result (List Edit) (Stop Reason)
left_none e = Err e

no_edits : (made : Made) → left_none File ≡ left_by made → ⊥
no_edits (Ok es) same = cc
no_edits (Err e) same = let lost : action_stop e ≡ File = cc in action_tells e lost

rewritten_none : (file : List ℕ) (world : ℕ) (made : Result (List Edit) (Stop Reason)) → told File ≡ rewritten file world made → made ≡ Err File
rewritten_none file world (Ok es) same = not_both _ File (sym same)
rewritten_none file world (Err e) same = ap (λ e. Err e) (sym (same_stop File e same))

as_told : (e : Stop Reason) → stop_as as_it_is e ≡ File → e ≡ File
as_told Memory is = absurd (cc)
as_told File is = refl
as_told (Refused e) is = absurd (cc)

abbrev opened_none : Stop Reason → Result FileEdits (Stop Reason)
opened_none e = Err e

end_none : (end : Result ℕ EditFileError) (es : List Edit) → opened_none File ≡ opened_at end es → ⊥
end_none (Ok world) es same = cc
end_none (Err e) es same = let lost : file_stop e ≡ File = cc in file_tells e lost

opens_none : (es : List Edit) (end : Result ℕ EditFileError) → OpensAt es end (opened_none File) → ⊥
opens_none es end is = elim is [
  | inl clash ↦ (let no = clash.2 in cc)
  | inr all ↦ end_none end es all.1
]

file_lacks : (i : Input) (name : List ℕ) → OpensFile None i (opened_none File) → some_lacks (record { name = name; file = i } ∷ []) ≡ true
file_lacks (Bytes bytes) name is = absurd (opens_none is.0 is.1 is.3)
file_lacks Missing name is = refl
file_lacks Failed name is = refl

opened_lacks : (replica : ℕ) (words : List (List ℕ)) (file name : List ℕ) (i : Input) (opened : Result FileEdits (Stop Reason))
    → OpensFile None i opened → IsRewritten (IsActed replica words) as_it_is file opened (Err File) → some_lacks (record { name = name; file = i } ∷ []) ≡ true
opened_lacks replica words file name i (Ok f) opens is = absurd (acted is.1)
  where
    acted : IsActed replica words f is.0 → ⊥
    acted (d, has, (made, acts, same)) = no_edits made (sym (rewritten_none file f.0 is.0 is.2) ∙ same)
opened_lacks replica words file name i (Err e) opens is =
    let lost : e ≡ File = as_told e (sym (same_stop File (stop_as as_it_is e) is)) in
    file_lacks i name (subst (λ e. OpensFile None i (opened_none e)) lost opens)

pub edit_lacks : (refusal : Option Reason) (MayTake : FileEdits → Type 0) (replica : ℕ) (words : List (List ℕ)) (file : List ℕ)
    → TellsLacks (RewritesCome refusal MayTake (IsActed replica words) as_it_is file)
edit_lacks refusal MayTake replica words file [] is = absurd (let no = same_stop File (Refused is.0) is.2 in cc)
edit_lacks refusal MayTake replica words file (r ∷ []) is = elim is.1 [
  | inl made ↦ opened_lacks replica words file r.name r.file made.0 made.1 made.2
  | inr lack ↦ absurd (let no = same_stop File Memory lack.0 in cc)
]
edit_lacks refusal MayTake replica words file (r ∷ s ∷ rs) is = absurd is
