-- The calls of a run.
use Rattle.std.proofs.Common.{◌≤◌, ℕ, true, false, List, [], ◌∷◌, ◌++◌, Option, Some, None, Result, Ok, Err, arith, inl, inr}
use Rattle.clap.specs.Walk.{Text}
use Rattle.zed_host.specs.Calls.{Ask, Call, Complaining, Leads, Printing, Reading, call}
use Rattle.zed_host.specs.Counting.{NothingFailed}
use Rattle.zed_host.proofs.Calls.{CountsFailures, CountsNoFault, calm_calls, leads_one, leads_then}
use Rattle.zed_driver.specs.Hosts.{Hosts}
use Rattle.zed_files.specs.declared.refusal.Refusal.{Refusal}
use Rattle.cmd_play.specs.Asking.{AsksPlay, IsLost, Sought}
use Rattle.cmd_play.specs.Led.{Led}
use Rattle.zed_tool_words.specs.Commands.{Command, command_of}
use Rattle.zed_tool.specs.Answers.{Answer}
use Rattle.zed_tool.specs.Commands.{AsksCourse, Course, Driven, Played, course_of}
use Rattle.zed_tool.specs.Outcome.{Complained, Prints, Runs, RunsAs}

-- such calls lead from the one state of a host to the other
abbrev Made : {H : Type 0} → (H → Call → H → Type 0) → H → H → Type 0
Made called old new = (calls : List Call) × Leads called calls old new

then_made : {H : Type 0} (called : H → Call → H → Type 0) (old mid new : H) → Made called old mid → Made called mid new
    → Made called old new
then_made called old mid new first second = (first.0 ++ second.0, leads_then called first.0 second.0 old mid new first.1 second.1)

-- a file that is kept was asked for, or couldn't be had
sought_made : {H : Type 0} (called : H → Call → H → Type 0) (name : Option (List ℕ)) (old new : H) → Sought called name old new
    → Made called old new
sought_made called None old new is = ([], is)
sought_made called (Some name) old new is = (call (Reading name) is.0 ∷ [], leads_one called (call (Reading name) is.0) old new is.1)

lost_made : {H : Type 0} (called : H → Call → H → Type 0) (name : Option (List ℕ)) (e : Refusal) (old new : H)
    → IsLost called name e old new
    → Made called old new
lost_made called None e old new is = absurd is
lost_made called (Some name) e old new is = elim is [
  | inl memory ↦ (call (Reading name) false ∷ [], leads_one called (call (Reading name) false) old new memory.1)
  | inr file ↦ (call (Reading name) true ∷ [], leads_one called (call (Reading name) true) old new file.1)
]

play_made : {H : Type 0} (called : H → Call → H → Type 0) (words keys : Option (List ℕ)) (files : List (List ℕ)) (last : List Ask) (told : Option Refusal) (old new : H)
    → AsksPlay called words keys files last told old new → Made called old new
play_made called words keys files last told old new asks = elim asks [
  | inl lost ↦ lost_made called words lost.0 old new lost.2
  | inr first ↦ (
      let mid = first.0 in
      then_made called old mid new (sought_made called words old mid first.1)
      (elim first.2 [
        | inl lost ↦ lost_made called keys lost.0 mid new lost.2
        | inr second ↦ (
            let rest = second.2 in
            then_made called mid second.0 new (sought_made called keys mid second.0 second.1) (rest.0, rest.1))
      ]))
]

course_made : {H : Type 0} (called : H → Call → H → Type 0) (course : Course) (answer : Answer) (old new : H)
    → AsksCourse called course answer old new
    → Made called old new
course_made called (Driven d) answer old new handed = let asks = handed.1 in (asks.0, asks.1)
course_made called (Played q) answer old new handed = play_made called q.words q.keys q.files _ _ old new handed.1

told_made : {H : Type 0} (h : Hosts H) (text : List ℕ) (old new : H) → Complained h text old new → Made h.called old new
told_made h text old new told =
    let asked = told.asked in
    (call (Complaining text) asked.0 ∷ [], leads_one h.called (call (Complaining text) asked.0) old new asked.1)

prints_made : {H : Type 0} (h : Hosts H) (text : List ℕ) (status : ℕ) (old new : H) → Prints h text status old new → Made h.called old new
prints_made h text status old new prints = elim prints [
  | inl printed ↦ (call Printing false ∷ [], leads_one h.called (call Printing false) old new printed.1.asked)
  | inr failed ↦ (
      let rest = failed.1 in
      let tells = rest.2 in
      let first : Made h.called old rest.0 = (call Printing true ∷ [], leads_one h.called (call Printing true) old rest.0 rest.1.asked) in
      then_made h.called old rest.0 new first (told_made h tells.0 rest.0 new tells.2))
]

as_made : {H : Type 0} (h : Hosts H) (moved : Led) (words : List Text) (command : Option Command) (status : ℕ) (old new : H)
    → RunsAs h moved words command status old new
    → Made h.called old new
as_made h moved words (Some command) status old new runs = elim runs [
  | inl done ↦ course_made h.called (course_of command) (Ok status) old new done.asked
  | inr refused ↦ (
      let rest = refused.1 in
      let tells = rest.3 in
      then_made h.called old rest.1 new (course_made h.called (course_of command) (Err rest.0) old rest.1 rest.2.asked) (told_made h tells.0 rest.1 new tells.2))
]
as_made h moved words None status old new runs = elim runs [
  | inl refused ↦ (let told = refused.3 in told_made h told.0 old new told.1)
  | inr other ↦ elim other [
    | inl helped ↦ (let printed = helped.1 in prints_made h printed.0 status old new printed.1)
    | inr versioned ↦ prints_made h _ status old new versioned.1
  ]
]

run_made : {H : Type 0} (h : Hosts H) (moved : Led) (words : List Text) (status : ℕ) (old new : H) → Runs h moved words status old new
    → Made h.called old new
run_made h moved words status old new runs = elim runs [
  | inl ran ↦ as_made h moved words (command_of words) status old new ran
  | inr memory ↦ told_made h _ old new memory.1
]

-- where no failure was counted, no fault was
pub run_calm : {H : Type 0} (h : Hosts H) → CountsFailures h.called h.failed → CountsNoFault h.called h.faults
    → (moved : Led) (words : List Text) (status : ℕ) (old new : H) → Runs h moved words status old new
    → h.faults old ≤ h.failed old → NothingFailed (h.failed old) (h.failed new) → NothingFailed (h.faults old) (h.faults new)
run_calm h law none moved words status old new runs within calm =
    let made = run_made h moved words status old new runs in
    let low = calm.1 in
    (calm_calls h.called h.failed h.faults law none made.0 old new made.1 calm, omega arith)
