-- A command that reads edit files, one after the other.
use Rattle.std.proofs.Common.{◌≡◌, ◌∙◌, ◌<◌, ◌+◌, ℕ, false, true, List, [], ◌∷◌, ◌++◌, Option, Some, None, Result, Ok, Err, MatchResult, ap, arith, is_some, length, refl, subst, sym, inl, inr}
use Rattle.std.specs.Prelude.{◌⊎◌, slice_get}
use Rattle.std.proofs.lemmas.List.{length-append}
use Rattle.std.proofs.lemmas.Option.{slice_get_within}
use Rattle.zed_types.specs.declared.stamp.Stamp.{Stamp}
use Rattle.zed_op.specs.declared.op.Edit.{Edit}
use Rattle.zed_op.specs.Set.{AllFit}
use Rattle.zed_link.specs.Feed.{FeedState}
use Rattle.zed_driver.specs.declared.command.Stop.{Stop}
use Rattle.zed_driver.specs.declared.command.Stop.TheVariants.{Memory}
use Rattle.zed_driver.specs.declared.input.Input.{Input}
use Rattle.zed_driver.specs.declared.input.Input.TheVariants.{Bytes}
use Rattle.zed_driver.specs.Effects.{Effect}
use Rattle.zed_refusal.specs.declared.reason.Reason.{Reason}
use Rattle.zed_files.specs.Collected.{CameInto, world_in}
use Rattle.zed_files.specs.Files.{WantsMemory}
use Rattle.zed_files.specs.Gathers.{BeginsWithBytes, Gathered, Gathers, GathersTo}
use Rattle.zed_files.specs.Tells.{FilesCome, FilesLack, left_of, next_of}
use Rattle.zed_files.proofs.Gathers.{begins_before, begins_set, one_more}
use Rattle.zed_files.proofs.Streams.{fit_append}

-- ---- one file more

-- none was refused where it asks for one more
pub none_refused : (names : List (List ℕ)) (count : ℕ) (refusal : Option (Stop Reason)) → is_some (next_of names count refusal) ≡ true → refusal ≡ None
none_refused names count (Some refusal) more = absurd (let no : false ≡ true = more in cc)
none_refused names count None more = refl

within : (names : List (List ℕ)) (count : ℕ) (name : Option (List ℕ)) → slice_get names count ≡ name → is_some name ≡ true → count < length names
within names count (Some name) at more = slice_get_within names count name at
within names count None at more = absurd (let no : false ≡ true = more in cc)

-- and fewer are left then
pub fewer_left : (names : List (List ℕ)) (count : ℕ) (refusal : Option (Stop Reason)) → is_some (next_of names count refusal) ≡ true
    → left_of names (count + 1) < left_of names count
fewer_left names count (Some refusal) more = absurd (let no : false ≡ true = more in cc)
fewer_left names count None more = let few = within names count (slice_get names count) refl more in omega (arith, few)

pub one_longer : (files : List Input) (i : Input) (count : ℕ) → count ≡ length files → count + 1 ≡ length (files ++ i ∷ [])
one_longer files i count is = ap (λ n. n + 1) is ∙ sym (length-append files (i ∷ []))

-- it was gathered
pub one_gathered : (files : List Input) (i : Input) (feed after : Option FeedState) (clash later : Option Stamp) (before refusal : Option (Stop Reason)) → before ≡ None
    → Gathered files feed clash before
    → ((es : List Edit) → AllFit es → CameInto es feed clash
    → (more : List Edit) × AllFit more × Gathers (world_in feed) (i ∷ []) more (world_in after) refusal × CameInto (es ++ more) after later)
    → Gathered (files ++ i ∷ []) after later refusal
one_gathered files i feed after clash later before refusal none has took =
    let k = took has.0 has.1 has.3 in (
      has.0 ++ k.0,
      fit_append has.0 k.0 has.1 k.1,
      one_more None (world_in feed) (world_in after) files i has.0 k.0 refusal (subst (λ r. Gathers None files has.0 (world_in feed) r) none has.2) k.2,
      k.3,
    )

-- or memory was lacking for it
pub lacked : (names : List (List ℕ)) (files : List Input) (i : Input) (bytes : List ℕ) (feed : Option FeedState) (clash : Option Stamp) (before : Option (Stop Reason))
    → i ≡ Bytes bytes → WantsMemory (world_in feed) bytes → before ≡ None → Gathered files feed clash before
    → FilesLack names (files ++ i ∷ [])
lacked names files i bytes feed clash before is wants none has =
    inl (files, bytes, has.0, world_in feed, ap (λ x. files ++ x ∷ []) is, subst (λ r. Gathers None files has.0 (world_in feed) r) none has.2, wants)

-- the first file is there then
pub lack_begins : (names : List (List ℕ)) (files : List Input) → FilesLack names files → BeginsWithBytes files
lack_begins names files lack = elim lack [
  | inl last ↦ subst (λ x. BeginsWithBytes x) (sym last.4) (begins_before None last.3 last.0 last.1 last.2 last.5)
  | inr all ↦ begins_set names files all.0 all.1
]

-- ---- at the end

-- what is told of the set of edits
pub told : (tells : List Edit → Result Effect (Stop Reason)) (names : List (List ℕ)) (files : List Input) (es : List Edit) (result : Result Effect (Stop Reason))
    → GathersTo names files (Ok es)
    → MatchResult result (λ x. tells es ≡ Ok x) (λ e. (e ≡ Memory) ⊎ (tells es ≡ Err e))
    → MatchResult result (λ x. FilesCome tells names files (Ok x)) (λ e. FilesCome tells names files (Err e))
told tells names files es (Ok x) all is = inl (Ok es, all, sym is)
told tells names files es (Err e) all is = elim is [
  | inl lack ↦ inr (ap (λ x. Err x) lack, inr (es, all))
  | inr other ↦ inl (Ok es, all, sym other)
]
