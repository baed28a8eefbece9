-- Commands tell of a file that can't be had only if they were given one: those that tell something of a set of edits, and `set`.
use Rattle.std.proofs.Common.{◌≡◌, ◌∙◌, ℕ, Bool, true, false, List, [], ◌∷◌, Option, Some, None, Result, Ok, Err, ap, refl, subst, sym, inl, inr}
use Rattle.std.specs.Prelude.{◌⊎◌, if◌then◌else◌, slice_get}
use Rattle.zed_types.specs.declared.stamp.Stamp.{Stamp}
use Rattle.zed_types.specs.Limits.{largest_body}
use Rattle.zed_op.specs.declared.op.Edit.{Edit}
use Rattle.zed_world.specs.Contents.{Contents}
use Rattle.zed_world.specs.declared.board.BoardData.{BoardData}
use Rattle.zed_world.specs.declared.stat.StatData.{StatData}
use Rattle.zed_edit.specs.Replay.{replay}
use Rattle.zed_editfile.specs.declared.error.EditFileError.{EditFileError}
use Rattle.zed_export.specs.declared.error.ExportError.{ExportError}
use Rattle.zed_export.specs.Limits.{exported, refusal_of}
use Rattle.zed_export.specs.World.{world_of}
use Rattle.zed_lint.specs.Lines.{lines_of}
use Rattle.zed_action.specs.Deeds.{Made}
use Rattle.zed_log.specs.declared.length.Length.{Length}
use Rattle.zed_look.specs.declared.form.Form.{Form}
use Rattle.zed_set_words.specs.declared.bad.BadWord.{BadWord as WrongWord}
use Rattle.zed_set_words.specs.declared.wishes.Wish.{Wish}
use Rattle.zed_set_words.specs.Rows.{wish_of}
use Rattle.zed_driver.specs.declared.command.Stop.{Stop}
use Rattle.zed_driver.specs.declared.command.Stop.TheVariants.{Memory, File, Refused}
use Rattle.zed_driver.specs.declared.input.Input.{Input}
use Rattle.zed_driver.specs.declared.input.Input.TheVariants.{Bytes, Missing, Failed}
use Rattle.zed_driver.specs.Driven.{some_lacks}
use Rattle.zed_driver.specs.Effects.{Effect}
use Rattle.zed_driver.specs.Reading.{Answer, files_of}
use Rattle.zed_refusal.specs.declared.reason.Reason.{Reason}
use Rattle.zed_refusal.specs.declared.reason.Reason.TheVariants.{NoBoard, OutOfRange}
use Rattle.zed_refusal.specs.Stops.{action_stop, export_stop, file_stop, stop_as}
use Rattle.zed_files.specs.Gathers.{Gathers, GathersTo, first_stop, set_or}
use Rattle.zed_files.specs.Opened.{FileEdits}
use Rattle.zed_files.specs.Rewrites.{IsRewritten, Opens, OpensAt, OpensFile, RewritesCome, opened_at, rewritten}
use Rattle.zed_files.specs.Tells.{FilesCome, printed_as, told_of}
use Rattle.zed_filter.specs.declared.error.FilterError.{FilterError}
use Rattle.zed_filter.specs.declared.error.FilterError.TheVariants as filtering
use Rattle.zed_filter.specs.declared.filter.Filter.{Filter}
use Rattle.zed_filter.specs.declared.sought.Sought.{Sought}
use Rattle.zed_filter.specs.Sought.{sought_of}
use Rattle.cmd_log.specs.declared.listing.Listing.{Listing}
use Rattle.cmd_log.specs.declared.listing.Listing.TheVariants.{Boards, Stats, Program}
use Rattle.cmd_log.specs.declared.linting.Strictness.{Strictness}
use Rattle.cmd_log.specs.Linted.{lint_of, lints, printed_with}
use Rattle.cmd_log.specs.Listed.{list_of, listed, lists, program_of, program_on, ranks_of, stats_of, unless_over}
use Rattle.cmd_log.specs.Logged.{filter_stop, log_of, log_with, logs}
use Rattle.cmd_page.specs.Told.{page_in, pages, told_of as told_of_page}
use Rattle.cmd_program.specs.Every.{every_of, every_text, prints_every}
use Rattle.cmd_program.specs.Printed.{printed, prints_program, text_of_stat, text_on}
use Rattle.cmd_show.specs.Pictured.{board_in, shown_of, shows, world_in}
use Rattle.cmd_set.specs.declared.reason.SetReason.{SetReason}
use Rattle.cmd_set.specs.declared.reason.SetReason.TheVariants.{Common}
use Rattle.cmd_set.specs.Setting.{DoesWish, SetComes, first_refusal, set_stop, wished}
use Rattle.zed_tool.proofs.Driven.{TellsLacks}
use Rattle.zed_tool.proofs.Stops.{action_tells, export_tells, file_tells}

-- an answer other than that a file can't be had
abbrev pub NotFile : {X E : Type 0} → Result X (Stop E) → Type 0
NotFile m = m ≡ Err File → ⊥

abbrev stopped : {X E : Type 0} → Stop E → Result X (Stop E)
stopped e = Err e

pub same_stop : {X E : Type 0} (e f : Stop E) → stopped {X = X} e ≡ stopped {X = X} f → e ≡ f
same_stop e f is = cc

refused_not : {X E : Type 0} (e : E) → NotFile (stopped {X = X} (Refused e))
refused_not e is = cc

exported_not : {X : Type 0} (e : ExportError) → NotFile (stopped {X = X} (export_stop e))
exported_not e is = export_tells e (same_stop (export_stop e) File is)

printed_not : (m : Result (List ℕ) (Stop Reason)) → NotFile m → NotFile (printed_as m)
printed_not (Ok text) never is = cc
printed_not (Err e) never is = never (ap (λ e. Err e) (same_stop e File is))

-- ---- `log`

filtered_not : {X : Type 0} (e : FilterError) → NotFile (stopped {X = X} (filter_stop e))
filtered_not filtering.NoBoard is = cc
filtered_not filtering.OutOfRange is = cc

log_not : (l : Length) (es : List Edit) (sought : Result Sought FilterError) → NotFile (log_with l es sought)
log_not l es (Err e) is = filtered_not e is
log_not l es (Ok sought) is = cc

pub logs_not : (l : Length) (f : Filter) (es : List Edit) → NotFile (logs l f es)
logs_not l f es = printed_not (log_of l f es) (log_not l es (sought_of (replay es) f))

-- ---- `list`

over_not : (o : Option ExportError) (told : Result (List ℕ) (Stop Reason)) → NotFile told → NotFile (unless_over o told)
over_not None told never is = never is
over_not (Some e) told never is = exported_not e is

stats_not : (b : Option BoardData) → NotFile (stats_of b)
stats_not None is = cc
stats_not (Some b) is = cc

program_not : (b : BoardData) (s : Option StatData) → NotFile (program_of b s)
program_not b None is = cc
program_not b (Some s) is = cc

program_on_not : (b : Option BoardData) (s : ℕ) → NotFile (program_on b s)
program_on_not None s is = cc
program_on_not (Some b) s is = program_not b (slice_get b.stats s) is

listed_not : (ranks : List ℕ) (w : Contents) (listing : Listing) → NotFile (listed ranks w listing)
listed_not ranks w Boards is = cc
listed_not ranks w (Stats b) is = stats_not (slice_get w.boards b) is
listed_not ranks w (Program b s) is = program_on_not (slice_get w.boards b) s is

pub lists_not : (listing : Listing) (es : List Edit) → NotFile (lists listing es)
lists_not listing es =
    let w = world_of (replay es) in
    let ranks = ranks_of (replay es) in
    printed_not (list_of listing es) (over_not (refusal_of 32767 (replay es)) (listed ranks w listing) (listed_not ranks w listing))

-- ---- `lint`

linted_not : (strictness : Strictness) (m : Result (List ℕ) (Stop Reason)) → NotFile m → NotFile (printed_with strictness m)
linted_not strictness (Ok text) never is = cc
linted_not strictness (Err e) never is = never (ap (λ e. Err e) (same_stop e File is))

found_not : (text : List ℕ) → NotFile {X = List ℕ} {E = Reason} (Ok text)
found_not text is = cc

pub lints_not : (strictness : Strictness) (es : List Edit) → NotFile (lints strictness es)
lints_not strictness es =
    let text = lines_of (world_of (replay es)) in
    linted_not strictness (lint_of es) (over_not (refusal_of 32767 (replay es)) (Ok text) (found_not text))

-- ---- `show`

board_in_not : (form : Form) (b : Option BoardData) → NotFile (board_in form b)
board_in_not form (Some b) is = cc
board_in_not form None is = cc

world_in_not : (form : Form) (n : ℕ) (m : Result Contents ExportError) → NotFile (world_in form n m)
world_in_not form n (Ok world) is = board_in_not form (slice_get world.boards n) is
world_in_not form n (Err e) is = exported_not e is

pub shows_not : (form : Form) (n : ℕ) (es : List Edit) → NotFile (shows form n es)
shows_not form n es = printed_not (shown_of form n es) (world_in_not form n (exported largest_body (replay es)))

-- ---- `page`

page_in_not : (m : Result Contents ExportError) → NotFile (page_in m)
page_in_not (Ok world) is = cc
page_in_not (Err e) is = exported_not e is

pub pages_not : (es : List Edit) → NotFile (pages es)
pages_not es = printed_not (told_of_page es) (page_in_not (exported largest_body (replay es)))

-- ---- `program`, where it prints one

stat_not : (b : BoardData) (s : Option StatData) → NotFile (text_of_stat b s)
stat_not b None is = cc
stat_not b (Some s) is = cc

text_on_not : (b : Option BoardData) (s : ℕ) → NotFile (text_on b s)
text_on_not None s is = cc
text_on_not (Some b) s is = stat_not b (slice_get b.stats s) is

pub prints_not : (board stat : ℕ) (es : List Edit) → NotFile (prints_program board stat es)
prints_not board stat es =
    let b = slice_get (world_of (replay es)).boards board in
    printed_not (printed board stat es) (over_not (refusal_of 32767 (replay es)) (text_on b stat) (text_on_not b stat))

-- ---- and where it prints all

pub every_not : (es : List Edit) → NotFile (prints_every es)
every_not es =
    let text = every_text (world_of (replay es)).boards in
    printed_not (every_of es) (over_not (refusal_of 32767 (replay es)) (Ok text) (found_not text))

-- ---- a file of a set that is told to be missing or unreadable was so

gathers_lack : (asked : Option ℕ) (rs : List Answer) (es : List Edit) (world : Option ℕ) (refusal : Option (Stop Reason))
    → refusal ≡ Some File → Gathers asked (files_of rs) es world refusal → some_lacks rs ≡ true
gathers_lack asked [] es world refusal is all = absurd (let no = all.2 in cc)
gathers_lack asked (r ∷ rs) es world refusal is all = go r.file all (λ n more gathers. gathers_lack (Some n) rs more world refusal is gathers)
  where
    go : (i : Input) → Gathers asked (i ∷ files_of rs) es world refusal
        → ((n : ℕ) (more : List Edit) → Gathers (Some n) (files_of rs) more world refusal → some_lacks rs ≡ true)
        → some_lacks (record { name = r.name; file = i } ∷ rs) ≡ true
    go (Bytes bytes) all again = elim all [
      | inl stop ↦ (
          let why : Some (file_stop stop.0) ≡ Some File = sym stop.2 ∙ is in
          let lost : file_stop stop.0 ≡ File = cc in
          absurd (file_tells stop.0 lost))
      | inr on ↦ again on.2 on.1 on.4
    ]
    go Missing all again = refl
    go Failed all again = refl

refused_first : (clash : Option Stamp) (refusal : Option (Stop Reason)) (world : Option ℕ) (es : List Edit) (set : Result (List Edit) (Stop Reason))
    → set ≡ Err File → set ≡ set_or (first_stop clash refusal world) es → refusal ≡ Some File
refused_first (Some c) refusal world es set is why = absurd (cc)
refused_first None (Some e) world es set is why = cc
refused_first None None None es set is why = absurd (cc)
refused_first None None (Some n) es set is why = absurd (cc)

pub files_lack : (tells : List Edit → Result Effect (Stop Reason)) (names : List (List ℕ)) → ((es : List Edit) → NotFile (tells es))
    → TellsLacks (FilesCome tells names)
files_lack tells names never rs is = elim is [
  | inl made ↦ go made.0 made.1 made.2
  | inr lack ↦ absurd (let no = same_stop File Memory lack.0 in cc)
]
  where
    go : (set : Result (List Edit) (Stop Reason)) → GathersTo names (files_of rs) set → stopped File ≡ told_of tells set → some_lacks rs ≡ true
    go (Ok es) all same = absurd (never es (sym same))
    go (Err e) (es, world, refusal, clash, gathers, whole, first, why) same =
        gathers_lack None rs es world refusal (refused_first clash refusal world es (Err e) (ap (λ e. Err e) (sym (same_stop File e same))) why) gathers

-- ---- `set`

end_not : (end : Result ℕ EditFileError) (es : List Edit) → NotFile (opened_at end es)
end_not (Ok world) es is = cc
end_not (Err e) es is = file_tells e (same_stop (file_stop e) File is)

opens_at_not : (es : List Edit) (end : Result ℕ EditFileError) → OpensAt es end (stopped File) → ⊥
opens_at_not es end is = elim is [
  | inl clash ↦ refused_not _ (sym clash.2)
  | inr all ↦ end_not end es (sym all.1)
]

-- bytes of an edit file are not told to be missing
pub opens_not : (asked : Option ℕ) (bytes : List ℕ) → Opens asked bytes (stopped File) → ⊥
opens_not asked bytes is = opens_at_not is.0 is.1 is.3

file_lacks : (name : List ℕ) (i : Input) → OpensFile None i (stopped File) → some_lacks (record { name = name; file = i } ∷ []) ≡ true
file_lacks name (Bytes bytes) is = absurd (opens_not None bytes is)
file_lacks name Missing is = refl
file_lacks name Failed is = refl

as_told : {E F : Type 0} (f : E → F) (e : Stop E) → stop_as f e ≡ File → e ≡ File
as_told f Memory is = absurd (cc)
as_told f File is = refl
as_told f (Refused e) is = absurd (cc)

wished_not : (made : Made) → NotFile (wished made)
wished_not (Ok es) is = cc
wished_not (Err e) is = action_tells e (as_told Common (action_stop e) (same_stop (set_stop e) File is))

wish_not : (replica : ℕ) (o : Result Wish WrongWord) (f : FileEdits) → DoesWish replica o f (stopped File) → ⊥
wish_not replica (Ok w) f is = let made = is.2 in wished_not made.0 (sym made.2)
wish_not replica (Err bad) f is = is

rewritten_not : (file : List ℕ) (world : ℕ) (made : Result (List Edit) (Stop SetReason)) → stopped File ≡ rewritten file world made → made ≡ Err File
rewritten_not file world (Ok es) same = absurd (cc)
rewritten_not file world (Err e) same = ap (λ e. Err e) (sym (same_stop File e same))

opened_lacks : (replica : ℕ) (o : Result Wish WrongWord) (file name : List ℕ) (i : Input) (opened : Result FileEdits (Stop Reason))
    → OpensFile None i opened → IsRewritten (DoesWish replica o) Common file opened (Err File) → some_lacks (record { name = name; file = i } ∷ []) ≡ true
opened_lacks replica o file name i (Ok f) opens is =
    absurd (wish_not replica o f (subst (λ m. DoesWish replica o f m) (rewritten_not file f.0 is.0 is.2) is.1))
opened_lacks replica o file name i (Err e) opens is =
    let lost : e ≡ File = as_told Common e (sym (same_stop File (stop_as Common e) is)) in
    file_lacks name i (subst (λ e. OpensFile None i (stopped e)) lost opens)

pub set_lacks : (file : List ℕ) (replica : ℕ) (words : List (List ℕ)) → TellsLacks (SetComes file replica words)
set_lacks file replica words [] is = absurd (refused_not is.0 (sym is.2))
set_lacks file replica words (r ∷ []) is = elim is.1 [
  | inl made ↦ opened_lacks replica (wish_of words) file r.name r.file made.0 made.1 made.2
  | inr lack ↦ absurd (let no = same_stop File Memory lack.0 in cc)
]
set_lacks file replica words (r ∷ s ∷ rs) is = absurd is
