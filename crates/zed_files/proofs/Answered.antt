-- What the two machines come to on a host that tells what it holds.
use Rattle.std.proofs.Common.{◌≡◌, ◌∙◌, ◌≤◌, ◌+◌, ℕ, suc, false, true, List, [], ◌∷◌, ◌++◌, Option, Some, None, Result, Err, ap, arith, drop, is_some, length, map, refl, subst, sym, inl, inr}
use Rattle.std.specs.Prelude.{◌⊎◌, slice_get}
use Rattle.std.proofs.lemmas.List.{drop_all, drop_more, length-append, length-map}
use Rattle.std.proofs.lemmas.Option.{get_or_from_slice_get, slice_get_within}
use Rattle.zed_types.specs.declared.stamp.Stamp.{Stamp}
use Rattle.zed_op.specs.declared.op.Edit.{Edit}
use Rattle.zed_editfile.specs.declared.error.EditFileError.{EditFileError}
use Rattle.zed_editfile.specs.declared.error.EditFileError.TheVariants as file
use Rattle.zed_host.specs.HostContents.{AreRead, HostContents, file_in}
use Rattle.zed_host.proofs.ReadFiles.{as_held}
use Rattle.zed_driver.specs.declared.command.Stop.{Stop}
use Rattle.zed_driver.specs.declared.command.Stop.TheVariants.{Memory}
use Rattle.zed_driver.specs.declared.input.Input.{Input}
use Rattle.zed_driver.specs.declared.input.Input.TheVariants.{Bytes, Missing, Failed}
use Rattle.zed_driver.specs.Driven.{AreHeld, ComesIn, some_fails}
use Rattle.zed_driver.specs.Effects.{Effect}
use Rattle.zed_driver.specs.Reading.{Answer, AsksEach, files_of}
use Rattle.zed_driver.specs.Reads.{IsHeld}
use Rattle.zed_refusal.specs.declared.reason.Reason.{Reason}
use Rattle.zed_refusal.specs.Stops.{file_stop}
use Rattle.zed_files.specs.declared.refusal.Refusal.{Refusal}
use Rattle.zed_files.specs.Collected.{Collects, FirstIsThere, IsCollected, set_unless}
use Rattle.zed_files.specs.Files.{IsStream, edits_then, end_of}
use Rattle.zed_files.specs.Gathers.{BeginsWithBytes, Gathers, IsClash, first_stop, set_or}
use Rattle.zed_files.specs.Refusals.{file_refusal, refused_as, stop_refusal}
use Rattle.zed_files.specs.Tells.{FilesCome, FilesWant, told_of}
use Rattle.zed_files.proofs.Tells.{lack_begins}

-- ---- the files of names

next_name : (names : List (List ℕ)) (k : ℕ) (name : List ℕ) → slice_get names k ≡ Some name → drop k names ≡ name ∷ drop (k + 1) names
next_name names k name at =
    drop_more names k name (slice_get_within names k name at) ∙ ap (λ x. x ∷ drop (k + 1) names) (get_or_from_slice_get names k name name at)

all_named : (names : List (List ℕ)) (k : ℕ) (refusal : Option (Stop Reason)) → refusal ≡ None → (is_some refusal ≡ true) ⊎ (length names ≤ k + 0)
    → drop k names ≡ []
all_named names k refusal none done = elim done [
  | inl some ↦ absurd (let no : false ≡ true = subst (λ r. is_some r ≡ true) none some in cc)
  | inr few ↦ (let less : length names ≤ k = omega (arith, few) in drop_all k names less)
]

longer : (before : List Input) (i : Input) (n k : ℕ) → n ≤ length before + suc k → n ≤ length (before ++ i ∷ []) + k
longer before i n k few = let is = length-append before (i ∷ []) in omega (arith, is, few)

-- ---- the refusal of a program for one of a machine

same_fault : (e : EditFileError) → stop_refusal (file_stop e) ≡ file_refusal e
same_fault file.Memory = refl
same_fault file.Magic = refl
same_fault file.NewVersion = refl
same_fault file.OtherWorld = refl
same_fault file.RecordLength = refl
same_fault (file.BadEdit c) = refl
same_fault file.CutShort = refl

-- how a stream ends
abbrev stream_end : Option (Stop Reason) → Option ℕ → Option Refusal
stream_end (Some e) world = Some (stop_refusal e)
stream_end None world = end_of world

faulty_end : (e : EditFileError) (refusal : Option (Stop Reason)) (world : Option ℕ) → refusal ≡ Some (file_stop e)
    → stream_end refusal world ≡ Some (file_refusal e)
faulty_end e refusal world is = ap (λ r. stream_end r world) is ∙ ap (λ r. Some r) (same_fault e)

-- ---- the stream of the files of all names

-- what the files of these names come to, in the words of a host
abbrev Streams : Type 0 → HostContents → Option ℕ → List (List ℕ) → List Edit → Option ℕ → Option (Stop Reason) → Type 0
Streams failed t asked names es world refusal =
    (reads : List (Option (List ℕ))) × AreRead failed t names reads × IsStream asked reads (edits_then es (stream_end refusal world))

-- one file, and what is told of those behind it
one_read : (failed : Type 0) (t : HostContents) (asked : Option ℕ) (name : List ℕ) (left : List (List ℕ)) (i : Input) (files : List Input) (es : List Edit) (world : Option ℕ) (refusal : Option (Stop Reason))
    → IsHeld t name i → (i ≡ Failed → failed) → Gathers asked (i ∷ files) es world refusal
    → ((n : ℕ) (more : List Edit) → Gathers (Some n) files more world refusal → Streams failed t (Some n) left more world refusal)
    → Streams failed t asked (name ∷ left) es world refusal
one_read failed t asked name left (Bytes bytes) files es world refusal here fault is rest = elim is [
  | inl bad ↦ (
    Some bytes ∷ map (file_in t) left,
    (Some bytes, map (file_in t) left, inl (sym here), as_held failed t left, refl),
    inl (bad.0, bad.1, faulty_end bad.0 refusal world bad.2),
  )
  | inr good ↦ (
      let behind = rest good.2 good.1 good.4 in (
        Some bytes ∷ behind.0,
        (Some bytes, behind.0, inl (sym here), behind.1, refl),
        inr (good.0, good.2, edits_then good.1 (stream_end refusal world), good.3, behind.2, ap (λ all. edits_then all (stream_end refusal world)) good.5),
      ))
]
one_read failed t asked name left Missing files es world refusal here fault is rest = (
  None ∷ map (file_in t) left,
  (None, map (file_in t) left, inl (sym here), as_held failed t left, refl),
  ap (λ all. edits_then all (stream_end refusal world)) is.0 ∙ ap (λ r. edits_then [] (stream_end r world)) is.1,
)
one_read failed t asked name left Failed files es world refusal here fault is rest = (
  None ∷ map (file_in t) left,
  (None, map (file_in t) left, inr (fault refl, refl), as_held failed t left, refl),
  ap (λ all. edits_then all (stream_end refusal world)) is.0 ∙ ap (λ r. edits_then [] (stream_end r world)) is.1,
)

none_read : (failed : Type 0) (t : HostContents) (asked : Option ℕ) (es : List Edit) (world : Option ℕ) (refusal : Option (Stop Reason))
    → Gathers asked [] es world refusal → Streams failed t asked [] es world refusal
none_read failed t asked es world refusal is = (
  [],
  refl,
  ap (λ all. edits_then all (stream_end refusal world)) is.0 ∙ ap (λ r. edits_then [] (stream_end r world)) is.2 ∙ ap (λ w. edits_then [] (end_of w)) is.1,
)

fails_first : (name : List ℕ) (i : Input) (rs : List Answer) → i ≡ Failed → some_fails (record { name = name; file = i } ∷ rs) ≡ true
fails_first name i rs is = subst (λ x. some_fails (record { name = name; file = x } ∷ rs) ≡ true) (sym is) refl

fails_later : (r : Answer) (rs : List Answer) → some_fails rs ≡ true → some_fails (r ∷ rs) ≡ true
fails_later r rs is = go r.file
  where
    go : (i : Input) → some_fails (record { name = r.name; file = i } ∷ rs) ≡ true
    go (Bytes bytes) = is
    go Missing = is
    go Failed = refl

streams : (failed : Type 0) (t : HostContents) (names : List (List ℕ)) (before : List Input) (asked : Option ℕ) (rs : List Answer) (es : List Edit) (world : Option ℕ) (refusal : Option (Stop Reason))
    → AsksEach (FilesWant names) before rs → AreHeld t rs → (some_fails rs ≡ true → failed)
    → Gathers asked (files_of rs) es world refusal → (is_some refusal ≡ true) ⊎ (length names ≤ length before + length rs)
    → Streams failed t asked (drop (length before) names) es world refusal
streams failed t names before asked [] es world refusal asks held fault is done =
    subst (λ left. Streams failed t asked left es world refusal) (sym (all_named names (length before) refusal is.2 done)) (none_read failed t asked es world refusal is)
streams failed t names before asked (r ∷ rs) es world refusal asks held fault is done =
    subst (λ left. Streams failed t asked left es world refusal) (sym (next_name names (length before) r.name asks.0.3))
    (one_read failed t asked r.name (drop (length before + 1) names) r.file (files_of rs) es world refusal held.0 (λ lost. fault (fails_first r.name r.file rs lost)) is
    (λ n more behind.
    let later : (is_some refusal ≡ true) ⊎ (length names ≤ length (before ++ r.file ∷ []) + length rs) = elim done [
      | inl some ↦ inl some
      | inr few ↦ inr (longer before r.file (length names) (length rs) few)
    ] in
    subst (λ k. Streams failed t (Some n) (drop k names) more world refusal) (length-append before (r.file ∷ []))
    (streams failed t names (before ++ r.file ∷ []) (Some n) rs more world refusal asks.1 held.1 (λ some. fault (fails_later r rs some)) behind later)))

-- ---- a set of edits

set_told : (refusal : Option (Stop Reason)) (world : Option ℕ) (es : List Edit)
    → refused_as (set_or (first_stop None refusal world) es) ≡ set_unless (stream_end refusal world) es
set_told (Some e) world es = refl
set_told None None es = refl
set_told None (Some n) es = refl

collected : (es : List Edit) (world : Option ℕ) (refusal : Option (Stop Reason)) (clash : Option Stamp) (set : Result (List Edit) (Stop Reason)) → IsClash es clash
    → set ≡ set_or (first_stop clash refusal world) es
    → IsCollected (edits_then es (stream_end refusal world)) (refused_as set)
collected es world refusal (Some c) set clashes is = inl (c, clashes, ap refused_as is)
collected es world refusal None set clashes is = inr (clashes, ap refused_as is ∙ set_told refusal world es)

first_there : (t : HostContents) (names : List (List ℕ)) (rs : List Answer) → AsksEach (FilesWant names) [] rs → AreHeld t rs → BeginsWithBytes (files_of rs)
    → FirstIsThere t names
first_there t names [] asks held begins = absurd begins
first_there t [] (r ∷ rs) asks held begins = absurd (let no : None ≡ Some r.name = asks.0.3 in cc)
first_there t (name ∷ names) (r ∷ rs) asks held begins = go r.file held.0 begins
  where
    same : name ≡ r.name
    same = let it : Some name ≡ Some r.name = asks.0.3 in cc

    go : (i : Input) → IsHeld t r.name i → BeginsWithBytes (i ∷ files_of rs) → is_some (file_in t name) ≡ true
    go (Bytes bytes) here b = subst (λ n. is_some (file_in t n) ≡ true) (sym same) (ap is_some here)
    go Missing here b = absurd b
    go Failed here b = absurd b

-- a command that reads edit files comes to what is told of the set of edits that they come to; or memory is lacking, which it may be where the first is there
pub files_come : (failed : Type 0) (t : HostContents) (tells : List Edit → Result Effect (Stop Reason)) (names : List (List ℕ)) (r : Result Effect (Stop Reason))
    → ComesIn failed t (FilesWant names) (FilesCome tells names) r
    → ((set : Result (List Edit) (Stop Reason)) × Collects failed t names (refused_as set) × (r ≡ told_of tells set)) ⊎ ((r ≡ Err Memory) × FirstIsThere t names)
files_come failed t tells names r is = elim is.2 [
  | inl told ↦ (
      let all = told.1 in
      let whole : (is_some all.2 ≡ true) ⊎ (length names ≤ 0 + length is.0) = elim all.5 [
        | inl some ↦ inl some
        | inr few ↦ inr (let same = length-map is.0 (λ (a : Answer). a.file) in omega (arith, same, few))
      ] in
      let reads = streams failed t names [] None is.0 all.0 all.1 all.2 is.1.0 is.1.1 is.1.2 all.4 whole in
      inl (
        told.0,
        (edits_then all.0 (stream_end all.2 all.1), (reads.0, reads.1, reads.2), collected all.0 all.1 all.2 all.3 told.0 all.6 all.7),
        told.2,
      ))
  | inr lack ↦ inr (lack.0, first_there t names is.0 is.1.0 is.1.1 (lack_begins names (files_of is.0) lack.1))
]

-- ---- one file
