-- What files that spell lists of edits come to.
use Rattle.zed_editfile.specs.declared.error.EditFileError.TheVariants as file
use Rattle.zed_types.specs.declared.stamp.Stamp.{Stamp}
use Rattle.zed_op.specs.declared.op.Edit.{Edit}
use Rattle.zed_editfile.specs.declared.error.EditFileError.{EditFileError}
use Rattle.zed_files.specs.declared.refusal.Refusal.{Refusal}
use Rattle.zed_files.specs.declared.refusal.Refusal.TheVariants.{Memory, NoWorld}
use Rattle.zed_words.specs.declared.profile.Profile.{Profile}
use Rattle.zed_words.specs.declared.profile.Profile.TheVariants.{Usual, Big}
use Rattle.zed_export.specs.declared.error.ExportError.{ExportError}
use Rattle.std.proofs.Common.{◌≡◌, ◌∙◌, ◌==◌, ◌<◌, ◌≤◌, ◌^◌, ℕ, Bool, true, false, List, [], ◌∷◌, ◌++◌, length, lit≤, Option, Some, None, Result, Ok, Err, refl, ap, ap₂, sym, subst, map, arith, inl, inr, ◌≢◌}
use Rattle.std.specs.Prelude.{◌⊎◌, not, Contains}
use Rattle.std.proofs.lemmas.List.Elements.{Contains-append_left, Contains-append_right}
use Rattle.std.proofs.lemmas.Bool.{ne_eqb}
use Rattle.zed_op.specs.Set.{Agrees, set_of}
use Rattle.zed_editfile.specs.Stream.{AreRecords, IsTextOf, Progress, Reads, ending, is_other}
use Rattle.zed_document.specs.Delivery.{IsFirstClash}
use Rattle.zed_files.specs.Collected.{Collects, IsCollected}
use Rattle.zed_files.specs.Files.{IsFile, IsStream, Stream, edits_then, end_by, joined, stream_after, AreTextsOf}
use Rattle.zed_program.specs.Outcome.{ComesTo, EndsCalmly, HasStatus}
use Rattle.zed_driver.specs.declared.command.Stop.{Stop}
use Rattle.zed_driver.specs.Effects.{Effect, after as left_by, writes}
use Rattle.zed_refusal.specs.declared.reason.Reason.{Reason}
use Rattle.zed_files.specs.Refusals.{refused_as, stop_refusal}
use Rattle.zed_files.specs.Tells.{told_of}
use Rattle.cmd_save.specs.Made.{file_of, refused_as as exported_as, saves, writes_world}
use Rattle.zed_host.specs.HostContents.{HostContents, file_in}
use Rattle.zed_program.specs.Devices.{Devices}
use Rattle.zed_files.proofs.Answered.{files_come}
use Rattle.zed_words.specs.Commands.{Save}
use Rattle.zed_words.specs.Laws.{with_option}
use Rattle.zed_program.specs.Limit.{limit_of}
use Rattle.zed_files.specs.Lines.{bytes_line}
use Rattle.zed_host.proofs.ReadFiles.{reads_are}
use Rattle.zed_program.specs.Saving.{AsksToSave, SavedReadsBack, SavesSet}
use Rattle.zed_world.specs.Reading.{world_at}
use Rattle.zed_edit.specs.Replay.{replay}
use Rattle.zed_op.specs.Sizes.{HaveSizes}
use Rattle.zed_link.proofs.Readings.{records_fit}
use Rattle.zed_export.specs.World.{world_of}
use Rattle.zed_export.specs.Limits.{saved}
use Rattle.zed_export.specs.Headline.{AreAuthored, AuthoredIsRead}

-- an option makes words longer
pub option_adds : (profile : Profile) (words : List (List ℕ)) → length words ≤ length (with_option profile words)
option_adds Usual words = omega arith
option_adds Big words = omega arith

-- the text of a list of edits, in either version, reads as that list, to its end
abbrev pub WrittenIsRead : Type 0
WrittenIsRead =
    (n : ℕ) (es found : List Edit) (bytes : List ℕ) (p : Progress) → n < 2 ^ 64 → AreRecords es → IsTextOf n es bytes → is_other p.asked n ≡ false → Reads bytes found p → p.fault ≢ Some file.Memory
    → (found ≡ es) × (ending p ≡ None) × (p.world ≡ Some n)

file_is : WrittenIsRead → (asked : Option ℕ) (n : ℕ) (es found : List Edit) (bytes : List ℕ) (end : Result ℕ EditFileError) → n < 2 ^ 64
    → AreRecords es → IsTextOf n es bytes → is_other asked n ≡ false
    → IsFile asked bytes found end → (found ≡ es) × (end ≡ Ok n)
file_is law asked n es found bytes end small good text own file =
    let read = law n es found bytes file.progress small good text (ap (λ a. is_other a n) file.asks ∙ own) file.reads file.sound in
    (read.0, file.ends ∙ ap₂ end_by read.1 read.2)

pub records_left : (es fs : List Edit) → AreRecords (es ++ fs) → AreRecords es
records_left [] fs h = tt
records_left (e ∷ es) fs h = (h.0, records_left es fs h.1)

pub records_right : (es fs : List Edit) → AreRecords (es ++ fs) → AreRecords fs
records_right [] fs h = h
records_right (e ∷ es) fs h = records_right es fs h.1

same_world : (n : ℕ) → is_other (Some n) n ≡ false
same_world n = go (n == n) refl
  where
    go : (b : Bool) → (n == n) ≡ b → not b ≡ false
    go true t = refl
    go false t = let bad = ne_eqb n n in absurd (grind arith)

-- one file, and then the others
first_is : WrittenIsRead
    → (asked : Option ℕ) (n : ℕ) (es : List Edit) (bytes : List ℕ) (lists : List (List Edit)) (files : List (Option (List ℕ))) (s : Stream)
    → n < 2 ^ 64 → AreRecords es → IsTextOf n es bytes → is_other asked n ≡ false
    → ((rest : Stream) → IsStream (Some n) files rest → rest ≡ edits_then (joined lists) None)
    → IsStream asked (Some bytes ∷ files) s → s ≡ edits_then (joined (es ∷ lists)) None
first_is law asked n es bytes lists files s small good text own others reads =
    elim reads [
      | inl fault ↦ (let is = file_is law asked n es s.edits bytes (Err fault.0) small good text own fault.1 in let bad : Err fault.0 ≡ Ok n = is.1 in cc)
      | inr more ↦ (
          let is = file_is law asked n es more.0 bytes (Ok more.1) small good text own more.3 in
          let world : more.1 ≡ n = (let same : Ok more.1 ≡ Ok n = is.1 in cc) in
          let rest = others more.2 (subst (λ w. IsStream (Some w) files more.2) world more.4) in
          more.5 ∙ ap₂ stream_after is.0 rest)
    ]

others_are : WrittenIsRead → (n : ℕ) (lists : List (List Edit)) (files : List (Option (List ℕ))) (s : Stream) → n < 2 ^ 64
    → AreRecords (joined lists) → AreTextsOf n lists files
    → IsStream (Some n) files s → s ≡ edits_then (joined lists) None
others_are law n [] [] s small good texts reads = reads
others_are law n [] (f ∷ files) s small good texts reads = absurd texts
others_are law n (es ∷ lists) [] s small good texts reads = absurd texts
others_are law n (es ∷ lists) (None ∷ files) s small good texts reads = absurd texts.0
others_are law n (es ∷ lists) (Some bytes ∷ files) s small good texts reads =
    first_is law (Some n) n es bytes lists files s small (records_left es (joined lists) good) texts.0 (same_world n)
    (λ rest is. others_are law n lists files rest small (records_right es (joined lists) good) texts.1 is) reads

-- the files of one list of edits or more come to all their edits
pub texts_are : WrittenIsRead → (n : ℕ) (es : List Edit) (lists : List (List Edit)) (files : List (Option (List ℕ))) (s : Stream)
    → n < 2 ^ 64 → AreRecords (joined (es ∷ lists)) → AreTextsOf n (es ∷ lists) files
    → IsStream None files s → s ≡ edits_then (joined (es ∷ lists)) None
texts_are law n es lists [] s small good texts reads = absurd texts
texts_are law n es lists (None ∷ files) s small good texts reads = absurd texts.0
texts_are law n es lists (Some bytes ∷ files) s small good texts reads =
    first_is law None n es bytes lists files s small (records_left es (joined lists) good) texts.0 refl
    (λ rest is. others_are law n lists files rest small (records_right es (joined lists) good) texts.1 is) reads

-- no lists have no files
no_files : (n : ℕ) (files : List (Option (List ℕ))) → AreTextsOf n [] files → files ≡ []
no_files n [] texts = refl
no_files n (f ∷ files) texts = absurd texts

pub no_clash : (es : List Edit) (c : Stamp) → Agrees es → IsFirstClash es c → ⊥
no_clash es c agrees clash =
    let other = clash.clashes in
    let left : Contains es other.0 =
    subst (λ l. Contains l other.0) (sym clash.whole) (Contains-append_left clash.before (clash.edit ∷ clash.after) other.0 other.1) in
    let here : Contains (clash.edit ∷ clash.after) clash.edit = (0, omega arith, refl) in
    let right : Contains es clash.edit = subst (λ l. Contains l clash.edit) (sym clash.whole) (Contains-append_right clash.before (clash.edit ∷ clash.after) clash.edit here) in
    other.3 (agrees other.0 clash.edit left right other.2)

-- and so to their set, where they agree
pub set_is : (s : Stream) (all : List Edit) (set : Result (List Edit) Refusal) → s ≡ edits_then all None → Agrees all → IsCollected s set
    → set ≡ Ok (set_of all)
set_is s all set is agrees collected =
    elim (subst (λ x. IsCollected x set) is collected) [
      | inl clash ↦ absurd (no_clash all clash.0 agrees clash.1)
      | inr whole ↦ whole.1
    ]

-- no file comes to no world, as no edit does
none_saved : (s : Stream) (set : Result (List Edit) Refusal) → s ≡ edits_then [] (Some NoWorld) → IsCollected s set → set ≡ Err NoWorld
none_saved s set is collected =
    elim (subst (λ x. IsCollected x set) is collected) [
      | inl clash ↦ absurd (no_clash [] clash.0 (λ e f m n same. absurd (let none = m.1 in omega arith)) clash.1)
      | inr whole ↦ whole.1
    ]

-- what comes of a set, with the refusal that is told
told_as : (tells : List Edit → Result Effect (Stop Reason)) (set : Result (List Edit) (Stop Reason)) (es : List Edit) → refused_as set ≡ Ok es
    → refused_as (told_of tells set) ≡ refused_as (tells es)
told_as tells (Ok fs) es is = let same : fs ≡ es = cc in ap (λ gs. refused_as (tells gs)) same
told_as tells (Err e) es is = absurd (cc)

none_told : (tells : List Edit → Result Effect (Stop Reason)) (set : Result (List Edit) (Stop Reason)) → refused_as set ≡ Err NoWorld
    → refused_as (told_of tells set) ≡ Err NoWorld
none_told tells (Ok fs) is = absurd (cc)
none_told tells (Err e) is = let same : stop_refusal e ≡ NoWorld = cc in ap (λ f. Err f) same

none_made : (limit : ℕ) (out : List ℕ) → refused_as (saves limit out (set_of [])) ≡ Err NoWorld
none_made limit out = refl

-- so the world file of their set is what `save` writes, or its first limit is told; or memory ran out
saved_set : (old new : Devices) → WrittenIsRead
    → (t : HostContents) (profile : Profile) (out : List ℕ) (names : List (List ℕ)) (n : ℕ) (lists : List (List Edit)) (r : Result Effect Refusal)
    → AreTextsOf n lists (map (file_in t) names) → n < 2 ^ 64 → AreRecords (joined lists) → Agrees (joined lists)
    → ComesTo ⊥ old new (Save profile out names) t r
    → (r ≡ refused_as (saves (limit_of profile) out (set_of (joined lists)))) ⊎ (r ≡ Err Memory)
saved_set old new law t profile out names n lists r texts small good agrees comes =
    elim (files_come ⊥ t (saves (limit_of profile) out) names comes.0 comes.1) [
      | inl set ↦ inl (comes.2 ∙ ap refused_as set.2 ∙ made lists texts good agrees set.0 set.1)
      | inr lack ↦ inr (comes.2 ∙ ap refused_as lack.0)
    ]
  where
    made : (lists : List (List Edit)) → AreTextsOf n lists (map (file_in t) names) → AreRecords (joined lists) → Agrees (joined lists)
        → (set : Result (List Edit) (Stop Reason)) → Collects ⊥ t names (refused_as set)
        → refused_as (told_of (saves (limit_of profile) out) set) ≡ refused_as (saves (limit_of profile) out (set_of (joined lists)))
    made [] texts good agrees set collects =
        let stream = collects.1 in
        let reads = reads_are t names stream.0 stream.1 ∙ no_files n (map (file_in t) names) texts in
        none_told (saves (limit_of profile) out) set
        (none_saved collects.0 (refused_as set) (subst (λ files. IsStream None files collects.0) reads stream.2) collects.2)
        ∙ sym (none_made (limit_of profile) out)
    made (es ∷ lists) texts good agrees set collects =
        let stream = collects.1 in
        let reads = reads_are t names stream.0 stream.1 in
        let read = texts_are law n es lists (map (file_in t) names) collects.0 small good texts (subst (λ files. IsStream None files collects.0) reads stream.2) in
        told_as (saves (limit_of profile) out) set (set_of (joined (es ∷ lists)))
        (set_is collects.0 (joined (es ∷ lists)) (refused_as set) read agrees collects.2)

-- and `run` ends so
pub run_of_texts : (before after : Devices) → WrittenIsRead
    → (words : List (List ℕ)) (t : HostContents) (profile : Profile) (out : List ℕ) (n : ℕ) (lists : List (List Edit)) (status : ℕ) (new : Option HostContents)
    → (asks : AsksToSave words t profile out n lists) → EndsCalmly before after (Save profile out asks.files) t status new
    → SavesSet profile out t (joined lists) status new
run_of_texts before after law words t profile out n lists status new asks ended =
    elim ended [
      | inl done ↦ elim (saved_set before after law t profile out asks.files n lists done.0 asks.spelled asks.is_number asks.records asks.agree done.1) [
        | inl is ↦ inl (subst (λ r. HasStatus r t status new) is done.2)
        | inr lack ↦ inr (subst (λ r. HasStatus r t status new) lack done.2)
      ]
      | inr memory ↦ inr memory
    ]

records_have_sizes : (es : List Edit) → AreRecords es → HaveSizes es
records_have_sizes [] h = tt
records_have_sizes (e ∷ es) h = (h.0.1, records_have_sizes es h.1)

-- a world file can spell a body of either limit
low : (profile : Profile) → limit_of profile ≤ 32767
low Usual = lit≤ tt
low Big = lit≤ tt

saved_at : (limit : ℕ) (es : List Edit) (bytes : List ℕ) → file_of limit es ≡ Ok bytes → saved limit (replay es) ≡ Ok bytes
saved_at limit es bytes is = go (saved limit (replay es)) is
  where
    go : (made : Result (List ℕ) ExportError) → exported_as made ≡ Ok bytes → made ≡ Ok bytes
    go (Ok text) e = let same : text ≡ bytes = cc in ap (λ x. Ok x) same
    go (Err refusal) e = absurd (cc)

-- where `run` ends well, the file is read as the exported world
pub reads_back : AuthoredIsRead
    → (words : List (List ℕ)) (t : HostContents) (profile : Profile) (out : List ℕ) (n : ℕ) (lists : List (List Edit)) (status : ℕ) (new : Option HostContents)
    → AsksToSave words t profile out n lists → SavesSet profile out t (joined lists) status new
    → SavedReadsBack out t (joined lists) status new
reads_back law words t profile out n lists status new asks saves well =
    elim saves [
      | inl done ↦ go (file_of (limit_of profile) (set_of es)) refl done
      | inr memory ↦ absurd (let bad = memory.0 in omega (arith, bad, well))
    ]
  where
    es : List Edit
    es = joined lists

    authored : AreAuthored es
    authored = record { fit = records_fit es asks.records; sizes = records_have_sizes es asks.records; agree = asks.agree }

    go : (f : Result (List ℕ) (Stop Reason)) → file_of (limit_of profile) (set_of es) ≡ f → HasStatus (refused_as (writes_world out f)) t status new
        → (bytes : List ℕ)
        × (new ≡ Some (left_by (writes out bytes (bytes_line (length bytes))) t))
        × (world_at bytes ≡ Ok (world_of (replay (set_of es))))
    go (Ok bytes) is done =
        (bytes, done.1, law (limit_of profile) es bytes authored (low profile) (saved_at (limit_of profile) (set_of es) bytes is))
    go (Err e) is done = absurd (let bad = done.0 in omega (arith, bad, well))

-- by the laws of edit files: bytes are read in one way, and the text of edits as those edits
pub written_is_read : ((bytes : List ℕ) (es fs : List Edit) (p q : Progress) → p.asked ≡ q.asked → p.fault ≢ Some file.Memory → q.fault ≢ Some file.Memory → Reads bytes es p → Reads bytes fs q → (es ≡ fs) × (p ≡ q))
    → ((asked : Option ℕ) (n : ℕ) (es : List Edit) (bytes : List ℕ) → n < 2 ^ 64 → is_other asked n ≡ false → AreRecords es → (text : IsTextOf n es bytes) → Reads bytes es (record { asked = asked; world = Some n; version = text.version; rest = []; fault = None }))
    → WrittenIsRead
written_is_read one whole n es found bytes p small good text own reads sound =
    let there = whole p.asked n es bytes small own good text in
    let same = one bytes found es p (record { asked = p.asked; world = Some n; version = text.version; rest = []; fault = None }) refl sound (λ bad. let no : None ≡ Some file.Memory = bad in cc) reads there in
    (same.0, ap ending same.1, ap (λ (q : Progress). q.world) same.1)
