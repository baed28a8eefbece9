-- What a run asked of its host.
use Rattle.zed_files.specs.declared.refusal.Refusal.TheVariants.{Memory}
use Rattle.std.proofs.Common.{◌≡◌, ◌≤◌, ◌<◌, ℕ, List, [], ◌∷◌, ◌++◌, length, Option, Some, None, arith, refl, subst, sym, inl, inr}
use Rattle.std.specs.Prelude.{◌⊎◌}
use Rattle.zed_words.specs.declared.words.ParseError.{ParseError}
use Rattle.zed_words.specs.declared.words.ParseError.TheVariants as parse
use Rattle.zed_host.specs.Calls.{Call, Complaining, Leads, call}
use Rattle.zed_host.specs.Counting.{NothingFailed}
use Rattle.zed_host.proofs.Calls.{CountsFailures, CountsNoFault, calm_calls, leads_one, leads_then}
use Rattle.zed_files.specs.Lines.{line_of}
use Rattle.zed_files.specs.declared.refusal.Refusal.{Refusal}
use Rattle.zed_driver.specs.Hosts.{Hosts}
use Rattle.zed_program.specs.Asked.{AsksCommand, Complains, ComplainsOf, RunAsks, RunSteps}
use Rattle.zed_words.specs.Commands.{Command, IsRefusedAloud, Save, Check, New, Edit as EditFile, Merge, Show, Play}
use Rattle.zed_program.specs.Outcome.{SaysWhy}

-- memory was lacking for the words, whatever they asked for
pub memory_asks : {H : Type 0} (called : H → Call → H → Type 0) (command : Option Command) (old new : H)
    → ComplainsOf called (line_of Memory) old new
    → RunAsks called command 1 old new
memory_asks called None old new is = (line_of Memory, inr (refl, refl), is)
memory_asks called (Some command) old new is =
    inr (inr (refl, is))

-- words that ask for nothing, or for which memory was lacking
pub words_ask : {H : Type 0} (called : H → Call → H → Type 0) (command : Option Command) (error : ParseError) (status : ℕ) (text : List ℕ) (old new : H)
    → (error ≡ parse.Memory) ⊎ ((command ≡ None) × IsRefusedAloud error) → SaysWhy error status text → ComplainsOf called text old new
    → RunAsks called command status old new
words_ask called command parse.Memory status text old new why says is =
    subst (λ n. RunAsks called command n old new) (sym says.0) (memory_asks called command old new (subst (λ line. ComplainsOf called line old new) says.1 is))
words_ask called command (parse.Refused s) status text old new why says is = elim why [
  | inl memory ↦ absurd (cc)
  | inr none ↦
      let some : 0 < length text = subst (λ (x : List ℕ). 0 < length x) (sym says.1) none.1 in
      subst (λ c. RunAsks called c status old new) (sym none.0) (text, inl (says.0, some), is)
]

-- such words have no steps
pub words_steps : {H : Type 0} (h : Hosts H) (command : Option Command) (error : ParseError) (status : ℕ) (text : List ℕ) (old new : H)
    → (error ≡ parse.Memory) ⊎ ((command ≡ None) × IsRefusedAloud error) → SaysWhy error status text → ComplainsOf h.called text old new
    → RunSteps h command status old new
words_steps h None error status text old new why says is = tt
words_steps h (Some command) parse.Memory status text old new why says is =
    inr (inr (says.0, subst (λ line. ComplainsOf h.called line old new) says.1 is))
words_steps h (Some command) (parse.Refused s) status text old new why says is = elim why [
  | inl memory ↦ absurd (cc)
  | inr none ↦ absurd (let no : Some command ≡ None = none.0 in cc)
]

-- the calls of a command
command_calls : {H : Type 0} (called : H → Call → H → Type 0) (command : Command) (told : Option Refusal) (old new : H)
    → AsksCommand called command told old new
    → (calls : List Call) × Leads called calls old new
command_calls called (Save profile out files) told old new is = (is.1, is.2)
command_calls called (Check profile files) told old new is = (is.1, is.2)
command_calls called (New out world from name) told old new is = (is.1, is.2)
command_calls called (EditFile file replica words) told old new is = (is.1, is.2)
command_calls called (Merge out world files) told old new is = (is.0, is.1)
command_calls called (Show profile board files) told old new is = (is.0, is.1)
command_calls called (Play profile board chance files) told old new is = (is.0, is.1)

-- that of a line
line_calls : {H : Type 0} (called : H → Call → H → Type 0) (e : Refusal) (old new : H) → Complains called e old new
    → (calls : List Call) × Leads called calls old new
line_calls called e old new is =
    let last = call (Complaining (line_of e)) is.0 in (last ∷ [], leads_one called last old new is.1)

-- the calls of a run
run_calls : {H : Type 0} (called : H → Call → H → Type 0) (command : Option Command) (status : ℕ) (old new : H)
    → RunAsks called command status old new
    → (calls : List Call) × Leads called calls old new
run_calls called None status old new asks =
    (call (Complaining asks.0) asks.2.0 ∷ [], leads_one called (call (Complaining asks.0) asks.2.0) old new asks.2.1)
run_calls called (Some command) status old new asks = elim asks [
  | inl all ↦ command_calls called command None old new all.1
  | inr other ↦ elim other [
    | inl refused ↦ (
        let mid = refused.1.1 in
        let before = command_calls called command (Some refused.1.0) old mid refused.1.2 in
        let last = line_calls called refused.1.0 mid new refused.1.3 in
        (before.0 ++ last.0, leads_then called before.0 last.0 old mid new before.1 last.1))
    | inr words ↦ line_calls called Memory old new words.1
  ]
]

-- where no failure was counted, no fault was
pub run_calm : {H : Type 0} (called : H → Call → H → Type 0) (failed faults : H → ℕ) → CountsFailures called failed
    → CountsNoFault called faults
    → (command : Option Command) (status : ℕ) (old new : H) → RunAsks called command status old new
    → faults old ≤ failed old → NothingFailed (failed old) (failed new) → NothingFailed (faults old) (faults new)
run_calm called failed faults law none command status old new asks within calm =
    let calls = run_calls called command status old new asks in
    let low = calm.1 in
    (calm_calls called failed faults law none calls.0 old new calls.1 calm, omega arith)
