-- How a board that is played and kept ends.
use Rattle.zed_files.specs.declared.refusal.Refusal.{Refusal}
use Rattle.zed_files.specs.declared.refusal.Refusal.TheVariants.{File, Memory}
use Rattle.std.proofs.Common.{◌≡◌, ◌≤◌, ◌∙◌, ℕ, Bool, List, Option, Some, None, Result, Ok, Err, OnErr, OnOk, IfErr, ap, is_err, refl, subst, sym, inl, inr}
use Rattle.std.specs.Prelude.{⊤, ◌⊎◌, IsErrAnd}
use Rattle.zed_host.specs.Counting.{Counts, Rose}
use Rattle.zed_host.specs.HostContents.{HalfPrinted, HostContents, StillTells, with_printed}
use Rattle.zed_host.proofs.Counts.{rose_before, rose_later}
use Rattle.zed_files.specs.Refusals.{is_key_fault, is_of_keys, is_of_screen, is_screen_fault}
use Rattle.zed_files.specs.Faults.{NoneForgotten, TellsFailures}
use Rattle.zed_files.proofs.Endings.{collected_so}
use Rattle.zed_files.proofs.Failures.{none_later}
use Rattle.zed_terminal.specs.declared.moves.Move.{Move}
use Rattle.zed_terminal.specs.declared.input.Input.{Input}
use Rattle.zed_terminal.specs.Course.{Point}
use Rattle.zed_terminal.specs.Devices.{Chances}
use Rattle.zed_terminal.specs.Record.{spelled_all}
use Rattle.zed_terminal.specs.Stage.{Stage, stage}
use Rattle.cmd_play.specs.Ending.{EndsKept, EndsPlay, IsPlayed, Request, kept_after}
use Rattle.cmd_play.specs.Kept.{HalfKept, HalfRecorded, key_bytes, made_for, with_kept, with_record}
use Rattle.cmd_play.specs.Led.{Led}

-- ---- files that are written

-- the first of two
pub half_first : (P Q : HostContents → Type 0) (new : Option HostContents) → StillTells P new → StillTells (λ u. P u ⊎ Q u) new
half_first P Q new half = (half.0, inl half.1, half.2)

-- or the second
pub half_second : (P Q : HostContents → Type 0) (result : Result ⊤ Refusal) (new : Option HostContents) → OnErr result (StillTells Q new)
    → OnErr result (StillTells (λ u. P u ⊎ Q u) new)
half_second P Q (Ok u) new half = tt
half_second P Q (Err e) new half = (half.0, inr half.1, half.2)

-- bytes that are made only for a file that is named are kept as all of them
pub kept_as : (name : Option (List ℕ)) (made bytes : List ℕ) (t : HostContents) → made ≡ made_for name bytes
    → with_kept name made t ≡ with_kept name bytes t
kept_as None made bytes t is = refl
kept_as (Some name) made bytes t is = ap (λ b. with_kept (Some name) b t) is

half_as : (name : Option (List ℕ)) (made bytes : List ℕ) (t u : HostContents) → made ≡ made_for name bytes → HalfKept name made t u
    → HalfKept name bytes t u
half_as None made bytes t u is half = half
half_as (Some name) made bytes t u is half = subst (λ b. HalfKept (Some name) b t u) is half

-- what is kept of a playtest
pub recorded : (words keys : Option (List ℕ)) (p : Point) (rest : List Move) (wb kb : List ℕ) (t : HostContents) (result : Result ⊤ Refusal) (new : Option HostContents)
    → wb ≡ made_for words (spelled_all p.words) → kb ≡ made_for keys (key_bytes p rest)
    → OnOk result (new ≡ Some (with_kept keys kb (with_kept words wb t)))
    → OnOk result (new ≡ Some (with_record words keys p rest t))
recorded words keys p rest wb kb t (Ok u) new all_words all_keys kept =
    kept ∙ ap (λ s. Some s) (kept_as keys kb (key_bytes p rest) (with_kept words wb t) all_keys
    ∙ ap (with_kept keys (key_bytes p rest)) (kept_as words wb (spelled_all p.words) t all_words))
recorded words keys p rest wb kb t (Err e) new all_words all_keys kept = tt

pub recorded_half : (words keys : Option (List ℕ)) (p : Point) (rest : List Move) (wb kb : List ℕ) (t : HostContents) (result : Result ⊤ Refusal) (new : Option HostContents)
    → wb ≡ made_for words (spelled_all p.words) → kb ≡ made_for keys (key_bytes p rest)
    → OnErr result (StillTells (λ u. HalfKept words wb t u ⊎ HalfKept keys kb (with_kept words wb t) u) new)
    → IfErr result (λ e. e ≡ File → StillTells (HalfRecorded words keys p rest t) new)
recorded_half words keys p rest wb kb t (Ok u) new all_words all_keys half = tt
recorded_half words keys p rest wb kb t (Err e) new all_words all_keys half = λ file. (
  half.0,
  elim half.1 [
    | inl first ↦ inl (half_as words wb (spelled_all p.words) t half.0 all_words first)
    | inr second ↦ inr (subst (λ s. HalfKept keys (key_bytes p rest) s half.0) (kept_as words wb (spelled_all p.words) t all_words)
        (half_as keys kb (key_bytes p rest) (with_kept words wb t) half.0 all_keys second))
  ],
  half.2,
)

-- a step that never wants memory
pub no_memory : {X : Type 0} (P : Refusal → Type 0) (Q : Type 0) (answer : Result X Refusal) → IfErr answer (λ e. (e ≡ File) × P e)
    → IfErr answer (λ e. e ≡ Memory → Q)
no_memory P Q (Ok x) err = tt
no_memory P Q (Err e) err = λ memory. absurd (let no : Memory ≡ File = sym memory ∙ err.0 in cc)

-- ---- what is so where nothing failed is so where something did

pub played_so : (p q : Type 0) (t : HostContents) (r : Request) (l : Led) (x : Result Point Refusal) → (p → q) → IsPlayed p t r l x
    → IsPlayed q t r l x
played_so p q t r l x so is = (is.0, collected_so p q t r.files is.0 so is.1, is.2)

-- ---- a playtest that is kept

-- what is kept can't be read
pub lost_ends : (failed : Type 0) (t : HostContents) (q : Request) (l : Led) (e : Refusal) (new : Option HostContents) → l.behind ≡ l.before
    → new ≡ Some t
    → (e ≡ Memory) ⊎ ((e ≡ File) × failed) → EndsKept failed t q l (Err e) new
lost_ends failed t q l e new same at why =
    (t, inl (refl, elim why [ inl memory ↦ inl memory | inr file ↦ inr (inl (file.0, file.1, same)) ]), at)

-- the playtest is refused
pub unplayed_ends : {X : Type 0} (failed : Type 0) (t : HostContents) (q : Request) (l : Led) (e : Refusal) (new : Option HostContents)
    → new ≡ Some t
    → ((e ≡ Memory) × X) ⊎ IsPlayed failed t q l (Err e) → EndsKept failed t q l (Err e) new
unplayed_ends failed t q l e new at why = (t, inl (refl, elim why [ inl memory ↦ inl memory.0 | inr played ↦ inr (inr played) ]), at)

-- memory runs out behind it
pub memory_ends : (failed : Type 0) (t : HostContents) (q : Request) (l : Led) (e : Refusal) (new : Option HostContents) → new ≡ Some t
    → e ≡ Memory
    → EndsKept failed t q l (Err e) new
memory_ends failed t q l e new at memory = (t, inl (refl, inl memory), at)

-- it isn't kept
pub unkept_ends : (failed : Type 0) (t : HostContents) (q : Request) (l : Led) (p : Point) (e : Refusal) (middle new : Option HostContents)
    → middle ≡ Some t → IsPlayed failed t q l (Ok p)
    → ((e ≡ Memory) × (new ≡ middle)) ⊎ ((e ≡ File) × failed) → (e ≡ File → StillTells (HalfRecorded q.words q.keys p l.rest t) new)
    → EndsKept failed t q l (Err e) new
unkept_ends failed t q l p e middle new at played why half = elim why [
  | inl memory ↦ memory_ends failed t q l e new (memory.1 ∙ at) memory.0
  | inr file ↦ (let h = half file.0 in (h.0, inr (file.1, file.0, (p, played, h.1)), h.2))
]

-- ---- what is told of it

pub refused_ends : (failed : Type 0) (t : HostContents) (q : Request) (l : Led) (e : Refusal) (new : Option HostContents)
    → EndsKept failed t q l (Err e) new
    → EndsPlay failed t q l (Err e) new
refused_ends failed t q l e new ends = (ends.0, elim ends.1 [ inl before ↦ inl before | inr unkept ↦ inr (inl unkept) ], ends.2)

pub told_ends : (result : Result ⊤ Refusal) (old middle now : ℕ) (t : HostContents) (q : Request) (l : Led) (text : List ℕ) (mid new : Option HostContents)
    → old ≤ middle → middle ≤ now
    → EndsKept (Rose old middle) t q l (Ok text) mid
    → ((u : HostContents) → mid ≡ Some u → OnOk result (new ≡ Some (with_printed text u)))
    → ((u : HostContents) → mid ≡ Some u → OnErr result (StillTells (HalfPrinted text u) new))
    → IfErr result (λ e. e ≡ File) → Counts (is_err result) middle now → EndsPlay (Rose old now) t q l result new
told_ends (Ok u) old middle now t q l text mid new up more kept done half file count =
    let p = kept.0 in
    let there = kept_after q l p t in
    (p, played_so (Rose old middle) (Rose old now) t q l (Ok p) (rose_before old middle now more) kept.1, subst (λ s. new ≡ Some (with_printed s there)) kept.2 (done there kept.3))
told_ends (Err e) old middle now t q l text mid new up more kept done half file count =
    let p = kept.0 in
    let there = kept_after q l p t in
    let h = half there kept.3 in
    let played = played_so (Rose old middle) (Rose old now) t q l (Ok p) (rose_before old middle now more) kept.1 in
    (h.0, inr (inr (rose_later old middle now up count, file, (p, played, subst (λ s. HalfPrinted s there h.0) kept.2 h.1))), h.2)

-- what was drawn stays as it is where the terminal is left
pub left_stage : (drawn drawn_then : Option (List (List ℕ))) (foretold foretold_then : Option (List Bool)) (left : Option (List Input)) (chance : Chances)
    → drawn_then ≡ drawn → foretold_then ≡ foretold
    → stage drawn foretold left None chance ≡ stage drawn_then foretold_then left None chance
left_stage drawn drawn_then foretold foretold_then left chance same still =
    ap (λ d. stage d foretold left None chance) (sym same) ∙ ap (λ f. stage drawn_then f left None chance) (sym still)

-- so all that is said of where the devices were led
pub left_led : (P : Led → Type 0) (before : Stage) (rest : List Move) (drawn drawn_then : Option (List (List ℕ))) (foretold foretold_then : Option (List Bool)) (left : Option (List Input)) (chance : Chances)
    → drawn_then ≡ drawn → foretold_then ≡ foretold
    → P (record { before = before; rest = rest; behind = stage drawn foretold left None chance })
    → P (record { before = before; rest = rest; behind = stage drawn_then foretold_then left None chance })
left_led P before rest drawn drawn_then foretold foretold_then left chance same still is =
    subst (λ s. P (record { before = before; rest = rest; behind = s })) (left_stage drawn drawn_then foretold foretold_then left chance same still) is

-- ---- the failures of devices

-- what `?` hands on tells of the same
pub keys_on : {X : Type 0} (answer : Result X Refusal) (e : Refusal) (old new : ℕ) → IsErrAnd answer (λ told. told ≡ e)
    → Counts (is_of_keys e) old new
    → Counts (is_key_fault answer) old new
keys_on (Ok x) e old new told counts = absurd told
keys_on (Err x) e old new told counts = subst (λ f. Counts (is_of_keys f) old new) (sym told) counts

pub screen_on : {X : Type 0} (answer : Result X Refusal) (e : Refusal) (old new : ℕ) → IsErrAnd answer (λ told. told ≡ e)
    → Counts (is_of_screen e) old new
    → Counts (is_screen_fault answer) old new
screen_on (Ok x) e old new told counts = absurd told
screen_on (Err x) e old new told counts = subst (λ f. Counts (is_of_screen f) old new) (sym told) counts

-- a count that stays, and then counts
pub counts_later : (failing : Bool) (old middle new : ℕ) → middle ≡ old → Counts failing middle new → Counts failing old new
counts_later failing old middle new same counts = subst (λ n. Counts failing n new) same counts

-- ---- the failures of the host

-- what a later step tells
pub tells_later : {H X : Type 0} (faults failed : H → ℕ) (answer : Result X Refusal) (old mid new : H) → NoneForgotten faults failed old mid
    → TellsFailures faults failed answer mid new
    → TellsFailures faults failed answer old new
tells_later faults failed (Ok x) old mid new before tells = (none_later faults failed old mid new before tells.0, tt)
tells_later faults failed (Err e) old mid new before tells =
    (none_later faults failed old mid new before tells.0, λ is. rose_later (failed old) (failed mid) (failed new) before.1 (tells.1 is))

-- what it refuses
pub refuses_later : {X : Type 0} (P : Refusal → Type 0) (answer : Result X Refusal) (old mid new : ℕ) → old ≤ mid
    → IfErr answer (λ e. P e × Rose mid new)
    → IfErr answer (λ e. P e × Rose old new)
refuses_later P (Ok x) old mid new up err = tt
refuses_later P (Err e) old mid new up err = (err.0, rose_later old mid new up err.1)
