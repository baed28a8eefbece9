-- How a run ends where its host doesn't fail.
use Rattle.zed_files.specs.declared.refusal.Refusal.{Refusal}
use Rattle.zed_host.specs.declared.host.WriteError.{WriteError}
use Rattle.std.proofs.Common.{◌≡◌, ◌≤◌, ◌∙◌, ℕ, Bool, true, false, cond, nat_lt, List, [], ◌∷◌, arith, Option, Some, None, Result, Ok, Err, OnErr, OnOk, ap, is_err, refl, subst, sym, inl, inr}
use Rattle.std.specs.Prelude.{⊤, ◌⊎◌, IfSome, IsSome, option_and_then}
use Rattle.clap.specs.Faults.{fault_of}
use Rattle.clap.specs.Kinds.{IsAmong, Kinds}
use Rattle.clap.specs.Simple.{subcommand_of}
use Rattle.clap.specs.Walk.{Text}
use Rattle.clap.specs.declared.error.kind.ErrorKind.{ErrorKind}
use Rattle.clap.specs.declared.error.kind.ErrorKind.TheVariants as kind
use Rattle.zed_host.specs.Calls.{Call}
use Rattle.zed_host.specs.Counting.{Counts, NothingFailed, Rose}
use Rattle.zed_host.specs.HostContents.{HalfComplained, HostContents, StillTells, with_complaint}
use Rattle.zed_host.proofs.Counts.{no_rise}
use Rattle.zed_driver.specs.declared.command.Stop.{Stop}
use Rattle.zed_driver.specs.Driven.{EndsIn}
use Rattle.zed_driver.specs.Effects.{NotedIn, after, with_note}
use Rattle.zed_driver.specs.Hosts.{Hosts}
use Rattle.zed_driver.proofs.Ends.{ends_if}
use Rattle.cmd_play.specs.Ending.{EndsPlay, IsPlayed, Request, told_after}
use Rattle.cmd_play.specs.Led.{Led}
use Rattle.cmd_play.proofs.Kept.{played_so}
use Rattle.zed_tool_words.specs.Grammar.{tool_app}
use Rattle.zed_tool_words.specs.Version.{version_text}
use Rattle.zed_tool_words.specs.Commands.{AsksHelp, AsksVersion, Command, command_of, subcommand_asks, unless_refused}
use Rattle.zed_tool.specs.Answers.{Answer, Failure, Refused, failure_as, handed, memory, told_as}
use Rattle.zed_tool.specs.Calm.{ComesTo, Ending, EndsCalmly, Leaves, left_by, play_left}
use Rattle.zed_tool.specs.Commands.{AsksCourse, Course, Driven, EndsCourse, Played, course_of}
use Rattle.zed_tool.specs.Driving.{Driving}
use Rattle.zed_tool.specs.Lines.{line_of}
use Rattle.zed_tool.specs.Outcome.{Complained, IsComplained, IsLineOf, Prints as PrintsText, Runs, RunsAs, TellsAloud}
use Rattle.zed_tool.proofs.Statuses.{command_status}

-- a text was written to the standard error, or the host failed at it
pub complained : (result : Result ⊤ WriteError) (old new : ℕ) (text : List ℕ) (t : HostContents) (before after : Option HostContents)
    → before ≡ Some t
    → OnOk result (after ≡ Some (with_complaint text t)) → OnErr result (IfSome before (λ t. StillTells (HalfComplained text t) after))
    → Counts (is_err result) old new → IsComplained (Rose old new) text t after
complained (Ok u) old new text t before after at told half count = inl told
complained (Err e) old new text t before after at told half count = inr (count, rw at at half)

abbrev answered : ℕ → Answer
answered status = Ok status

abbrev failing : Failure → Answer
failing e = Err e

status_is : (m n : ℕ) → answered m ≡ answered n → m ≡ n
status_is m n h = cc

failure_is : (e f : Failure) → failing e ≡ failing f → e ≡ f
failure_is e f h = cc

abbrev finished : ℕ → HostContents → Ending
finished status t = Ok (status, t)

-- what a command that was carried out comes to
abbrev IsDone : (Ending → Type 0) → ℕ → Option HostContents → Type 0
IsDone Comes status left = (u : HostContents) × Comes (Ok (status, u)) × (left ≡ Some u)

-- and one that was not
abbrev IsStopped : HostContents → (Ending → Type 0) → Failure → Option HostContents → Type 0
IsStopped t Comes e left = (left ≡ Some t) × ((e ≡ memory) ⊎ Comes (Err e))

ended : (m n : ℕ) (t u : HostContents) → m ≡ n → t ≡ u → finished m t ≡ finished n u
ended m n t u same left = ap (λ k. finished k t) same ∙ ap (finished n) left

-- ---- a command that a driver carries out

-- a note is there whole
noted : (note : Option (List ℕ)) (t u : HostContents) → NotedIn ⊥ note t u → u ≡ with_note note t
noted None t u is = is
noted (Some text) t u is = elim is [ inl whole ↦ whole | inr failed ↦ absurd failed.0 ]

driven_done : (d : Driving) (moved : Led) (t : HostContents) (r : Result ℕ (Stop d.refusal)) (status : ℕ) (left : Option HostContents)
    → EndsIn ⊥ t d.wants d.comes r left → answered status ≡ handed d.failure r
    → IsDone (ComesTo ⊥ t moved (Driven d)) status left
driven_done d moved t (Ok own) status left is same =
    let x = is.0 in
    let there = is.3 in
    let whole : there.0 ≡ with_note x.note (after x t) = noted x.note (after x t) there.0 there.1 in
    let told : status ≡ x.status = status_is status own same ∙ is.2 in
    (there.0, (Ok x, is.1, ended status x.status there.0 (with_note x.note (after x t)) told whole), there.2)
driven_done d moved t (Err e) status left is same = absurd (cc)

driven_stopped : (d : Driving) (moved : Led) (t : HostContents) (r : Result ℕ (Stop d.refusal)) (e : Failure) (left : Option HostContents)
    → EndsIn ⊥ t d.wants d.comes r left → failing e ≡ handed d.failure r
    → IsStopped t (ComesTo ⊥ t moved (Driven d)) e left
driven_stopped d moved t (Ok status) e left is same = absurd (cc)
driven_stopped d moved t (Err stop) e left is same =
    let why : e ≡ failure_as d.failure stop = failure_is e (failure_as d.failure stop) same in
    elim is [
      | inl kept ↦ (
        kept.0,
        elim kept.1 [
          | inl lack ↦ inl (why ∙ ap (failure_as d.failure) lack.0)
          | inr comes ↦ inr (Err stop, comes, ap (λ x. Err x) why)
        ],
      )
      | inr broke ↦ absurd broke.0
    ]

-- ---- `play`

play_done : (p : Type 0) (t : HostContents) (q : Request) (moved : Led) (r : Result ⊤ Refusal) (status : ℕ) (left : Option HostContents)
    → (p → ⊥) → EndsPlay p t q moved r left
    → Ok status ≡ told_as r → IsDone (Leaves (play_left t q moved) (IsPlayed ⊥ t q moved)) status left
play_done p t q moved (Ok u) status left never is same =
    (told_after q moved is.0 t, (Ok is.0, played_so p ⊥ t q moved (Ok is.0) never is.1, ap (λ s. Ok (s, told_after q moved is.0 t)) (status_is status 0 same)), is.2)
play_done p t q moved (Err e) status left never is same = absurd (cc)

play_stopped : (p : Type 0) (t : HostContents) (q : Request) (moved : Led) (r : Result ⊤ Refusal) (e : Failure) (left : Option HostContents)
    → (p → ⊥) → EndsPlay p t q moved r left
    → Err e ≡ told_as r → IsStopped t (Leaves (play_left t q moved) (IsPlayed ⊥ t q moved)) e left
play_stopped p t q moved (Ok u) e left never is same = absurd (cc)
play_stopped p t q moved (Err f) e left never is same =
    let named : e ≡ Refused f = failure_is e (Refused f) same in
    elim is.1 [
      | inl before ↦ (
        is.2 ∙ ap (λ u. Some u) before.0,
        elim before.1 [
          | inl lacks ↦ inl (named ∙ ap (λ x. Refused x) lacks)
          | inr other ↦ elim other [
            | inl lost ↦ absurd (never lost.1)
            | inr played ↦ inr (Err f, played_so p ⊥ t q moved (Err f) never played, ap (λ x. Err x) named)
          ]
        ],
      )
      | inr failed ↦ elim failed [ inl unkept ↦ absurd (never unkept.0) | inr untold ↦ absurd (never untold.0) ]
    ]

-- ---- each command

done : (p : Type 0) (moved : Led) (course : Course) (t : HostContents) (status : ℕ) (left : Option HostContents) → (p → ⊥)
    → EndsCourse p moved t course (Ok status) left → IsDone (ComesTo ⊥ t moved course) status left
done p moved (Driven d) t status left never is =
    driven_done d moved t is.0 status left (ends_if t d.wants d.comes is.0 left never is.1) is.2
done p moved (Played q) t status left never is = play_done p t q moved is.0 status left never is.1 is.2

stopped : (p : Type 0) (moved : Led) (course : Course) (t : HostContents) (e : Failure) (left : Option HostContents) → (p → ⊥)
    → EndsCourse p moved t course (Err e) left → IsStopped t (ComesTo ⊥ t moved course) e left
stopped p moved (Driven d) t e left never is =
    driven_stopped d moved t is.0 e left (ends_if t d.wants d.comes is.0 left never is.1) is.2
stopped p moved (Played q) t e left never is = play_stopped p t q moved is.0 e left never is.1 is.2

told_calmly : {H : Type 0} (h : Hosts H) (text : List ℕ) (t : HostContents) (old new : H) → NothingFailed (h.faults old) (h.faults new)
    → h.contents old ≡ Some t → Complained h text old new
    → h.contents new ≡ Some (with_complaint text t)
told_calmly h text t old new calm at told = elim (told.told t at) [
  | inl is ↦ is
  | inr failed ↦ absurd (no_rise (h.faults old) (h.faults new) (h.faults new) (omega arith) calm failed.0)
]

-- the line of a failure, or that of want of memory
refused_calmly : (t : HostContents) (moved : Led) (command : Command) (e : Failure) (line : List ℕ) (status : ℕ) (new : Option HostContents)
    → status ≡ 1
    → IsLineOf e line → (e ≡ memory) ⊎ ComesTo ⊥ t moved (course_of command) (Err e) → new ≡ Some (with_complaint line t)
    → EndsCalmly t moved command status new
refused_calmly t moved command e line status new is tells why left = elim tells [
  | inr lacks ↦ inr (is, left ∙ ap (λ l. Some (with_complaint l t)) lacks.1)
  | inl own ↦ elim why [
    | inl lacks ↦ inr (is, left ∙ ap (λ l. Some (with_complaint l t)) (own ∙ ap line_of lacks))
    | inr comes ↦ inl (Err e, comes, (is, left ∙ ap (λ l. Some (with_complaint l t)) own))
  ]
]

as_calmly : {H : Type 0} (h : Hosts H) (moved : Led) (words : List Text) (command : Command) (t : HostContents) (status : ℕ) (old new : H)
    → h.contents old ≡ Some t → NothingFailed (h.faults old) (h.faults new) → RunsAs h moved words (Some command) status old new
    → EndsCalmly t moved command status (h.contents new)
as_calmly h moved words command t status old new at calm runs = elim runs [
  | inl carried ↦ (
      let ended = done _ moved (course_of command) t status (h.contents new) (no_rise (h.faults old) (h.faults new) (h.faults new) (omega arith) calm) (carried.ends t at) in
      inl (Ok (status, ended.0), ended.1, (refl, ended.2)))
  | inr refused ↦ (
      let rest = refused.1 in
      let e = rest.0 in
      let mid = rest.1 in
      let acted = rest.2 in
      let tells = rest.3 in
      let up : h.faults old ≤ h.faults mid = acted.failures.0 in
      let more : h.faults mid ≤ h.faults new = tells.2.failures.0 in
      let same = calm.0 in
      let low = calm.1 in
      let later : NothingFailed (h.faults mid) (h.faults new) = (omega arith, omega arith) in
      let before = stopped _ moved (course_of command) t e (h.contents mid) (no_rise (h.faults old) (h.faults mid) (h.faults new) more calm) (acted.ends t at) in
      refused_calmly t moved command e tells.0 status (h.contents new) refused.0 tells.1 before.1 (told_calmly h tells.0 t mid new later before.0 tells.2))
]

pub run_calmly : {H : Type 0} (h : Hosts H) (moved : Led) (words : List Text) (command : Command) (t : HostContents) (status : ℕ) (old new : H)
    → command_of words ≡ Some command
    → h.contents old ≡ Some t → NothingFailed (h.faults old) (h.faults new) → Runs h moved words status old new
    → EndsCalmly t moved command status (h.contents new)
run_calmly h moved words command t status old new asked at calm runs = elim runs [
  | inl ran ↦ as_calmly h moved words command t status old new at calm (subst (λ c. RunsAs h moved words c status old new) asked ran)
  | inr lacks ↦ inr (lacks.0, told_calmly h (line_of memory) t old new calm at lacks.1)
]

as_accepted : {H : Type 0} (h : Hosts H) (moved : Led) (words : List Text) (command : Option Command) (status : ℕ) (old new : H)
    → IsSome command → RunsAs h moved words command status old new
    → (status ≡ 0) ⊎ (status ≡ 1)
as_accepted h moved words None status old new some ran = absurd (cc)
as_accepted h moved words (Some command) status old new some ran = elim ran [
  | inl carried ↦ command_status h.called command status old new carried.asked
  | inr refused ↦ inr refused.0
]

pub run_accepted : {H : Type 0} (h : Hosts H) (moved : Led) (words : List Text) (status : ℕ) (old new : H) → IsSome (command_of words)
    → Runs h moved words status old new
    → (status ≡ 0) ⊎ (status ≡ 1)
run_accepted h moved words status old new some runs = elim runs [
  | inl ran ↦ as_accepted h moved words (command_of words) status old new some ran
  | inr lacks ↦ inr lacks.0
]

printed_status : {H : Type 0} (h : Hosts H) (text : List ℕ) (status : ℕ) (old new : H) → PrintsText h text status old new
    → (status ≡ 0) ⊎ (status ≡ 1)
printed_status h text status old new prints = elim prints [ inl printed ↦ inl printed.0 | inr failed ↦ inr failed.0 ]

no_command : (words : List Text) (k : ErrorKind) → fault_of tool_app words ≡ k ∷ [] → command_of words ≡ None
unfolding command_of
no_command words k is = ap (λ (ks : Kinds). unless_refused ks (option_and_then subcommand_asks (subcommand_of tool_app words))) is

pub run_helped : {H : Type 0} (h : Hosts H) (moved : Led) (words : List Text) (status : ℕ) (old new : H) → AsksHelp words
    → Runs h moved words status old new
    → (status ≡ 0) ⊎ (status ≡ 1)
run_helped h moved words status old new help runs = elim runs [
  | inl ran ↦ elim (subst (λ c. RunsAs h moved words c status old new) (no_command words kind.DisplayHelp help) ran) [
    | inl refused ↦ absurd (refused.1 help)
    | inr other ↦ elim other [
      | inl helped ↦ (let printed = helped.1 in printed_status h printed.0 status old new printed.1)
      | inr versioned ↦ printed_status h _ status old new versioned.1
    ]
  ]
  | inr lacks ↦ inr lacks.0
]

-- help is another answer than the version
no_help : (kinds : Kinds) → kinds ≡ kind.DisplayVersion ∷ [] → IsAmong kind.DisplayHelp kinds → ⊥
no_help kinds is among = elim (subst (λ ks. IsAmong kind.DisplayHelp ks) is among) [
  | inl same ↦ absurd (cc)
  | inr none ↦ none
]

pub run_versioned : {H : Type 0} (h : Hosts H) (moved : Led) (words : List Text) (status : ℕ) (old new : H) → AsksVersion words
    → Runs h moved words status old new
    → PrintsText h version_text status old new ⊎ ((status ≡ 1) × Complained h (line_of memory) old new)
run_versioned h moved words status old new version runs = elim runs [
  | inl ran ↦ elim (subst (λ c. RunsAs h moved words c status old new) (no_command words kind.DisplayVersion version) ran) [
    | inl refused ↦ absurd (refused.2 version)
    | inr other ↦ elim other [
      | inl helped ↦ absurd (no_help (fault_of tool_app words) version helped.0)
      | inr versioned ↦ inl versioned.1
    ]
  ]
  | inr lacks ↦ inr lacks
]

-- a status other than 0 and 1
not_refused : (status : ℕ) → (status ≡ 0) ⊎ (status ≡ 1) → status ≡ 2 → ⊥
not_refused status accepted two = elim accepted [
  | inl zero ↦ (let bad : 0 ≡ 2 = sym zero ∙ two in absurd (omega (arith, bad)))
  | inr one ↦ (let bad : 1 ≡ 2 = sym one ∙ two in absurd (omega (arith, bad)))
]

as_refused : {H : Type 0} (h : Hosts H) (moved : Led) (words : List Text) (command : Option Command) (status : ℕ) (old new : H) → status ≡ 2
    → RunsAs h moved words command status old new → TellsAloud h old new
as_refused h moved words (Some command) status old new two ran =
    absurd (not_refused status (as_accepted h moved words (Some command) status old new refl ran) two)
as_refused h moved words None status old new two ran = elim ran [
  | inl refused ↦ refused.3
  | inr other ↦ elim other [
    | inl helped ↦ (let printed = helped.1 in absurd (not_refused status (printed_status h printed.0 status old new printed.1) two))
    | inr versioned ↦ absurd (not_refused status (printed_status h _ status old new versioned.1) two)
  ]
]

-- status 2 comes with a text
pub run_refused : {H : Type 0} (h : Hosts H) (moved : Led) (words : List Text) (status : ℕ) (old new : H) → status ≡ 2
    → Runs h moved words status old new
    → TellsAloud h old new
run_refused h moved words status old new two runs = elim runs [
  | inl ran ↦ as_refused h moved words (command_of words) status old new two ran
  | inr lacks ↦ absurd (not_refused status (inr lacks.0) two)
]
