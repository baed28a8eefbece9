-- Which devices a run called.
use Rattle.zed_files.specs.declared.refusal.Refusal.{Refusal}
use Rattle.std.proofs.Common.{◌≡◌, Bool, true, false, ℕ, List, Option, Some, None, Result, Ok, Err, ap, refl, subst, sym, inl, inr}
use Rattle.std.specs.Prelude.{⊤, ◌⊎◌, IfErr, IsSome}
use Rattle.zed_words.specs.declared.words.ParseError.{ParseError}
use Rattle.zed_words.specs.declared.words.ParseError.TheVariants as parse
use Rattle.zed_session.specs.Devices.{Foretold}
use Rattle.zed_session.specs.Links.{LinkSeen}
use Rattle.zed_program.specs.Called.{CallsDevices, ShowsOnce, calls_links, calls_screen}
use Rattle.zed_program.specs.Outcome.{SaysWhy, status_of}
use Rattle.zed_words.specs.Commands.{Command, IsRefusedAloud, Save, Check, New, Edit as EditFile, Merge, Show, Play}
use Rattle.zed_host.specs.Calls.{Call}
use Rattle.cmd_show.specs.Shown.{CallsOnce, IsOfPlay, is_of_playing}

-- no device was called by words that need none
pub none_called : (command : Option Command) (status : ℕ) (links : List LinkSeen) (foretold : Option (List Bool)) (L S K : Type 0) → L → S
    → K
    → calls_links command ≡ false → calls_screen command ≡ false → CallsDevices command status links links foretold foretold L S K
none_called None status links foretold L S K l s k off dark =
    record { pulls = inl tt; links = λ _. l; shows = tt; screen = λ _. s; keys = λ _. k }
none_called (Some (Save profile out files)) status links foretold L S K l s k off dark =
    record { pulls = inl tt; links = λ _. l; shows = tt; screen = λ _. s; keys = λ _. k }
none_called (Some (Check profile files)) status links foretold L S K l s k off dark =
    record { pulls = inl tt; links = λ _. l; shows = tt; screen = λ _. s; keys = λ _. k }
none_called (Some (New out world from name)) status links foretold L S K l s k off dark =
    record { pulls = inl tt; links = λ _. l; shows = tt; screen = λ _. s; keys = λ _. k }
none_called (Some (EditFile file replica words)) status links foretold L S K l s k off dark =
    record { pulls = inl tt; links = λ _. l; shows = tt; screen = λ _. s; keys = λ _. k }
none_called (Some (Merge out world files)) status links foretold L S K l s k off dark = absurd (cc)
none_called (Some (Show profile board files)) status links foretold L S K l s k off dark = absurd (cc)
none_called (Some (Play profile board chance files)) status links foretold L S K l s k off dark = absurd (cc)

-- memory was lacking for the words
words_lack : (command : Option Command) (old new : Option (List Bool)) (kept : Type 0) → kept → ShowsOnce command 1 old new kept
words_lack None old new kept is = tt
words_lack (Some (Save profile out files)) old new kept is = tt
words_lack (Some (Check profile files)) old new kept is = tt
words_lack (Some (New out world from name)) old new kept is = tt
words_lack (Some (EditFile file replica words)) old new kept is = tt
words_lack (Some (Merge out world files)) old new kept is = tt
words_lack (Some (Show profile board files)) old new kept is = inr (refl, inr is)
words_lack (Some (Play profile board chance files)) old new kept is = tt

pub none_called_yet : (command : Option Command) (links : List LinkSeen) (foretold : Option (List Bool)) (L S K : Type 0) → L → S → K
    → CallsDevices command 1 links links foretold foretold L S K
none_called_yet command links foretold L S K l s k =
    record { pulls = inr (refl, l); links = λ _. l; shows = words_lack command foretold foretold S s; screen = λ _. s; keys = λ _. k }

-- the words asked for nothing, or memory was lacking for them
pub none_called_for : (command : Option Command) (error : ParseError) (status : ℕ) (text : List ℕ) (links : List LinkSeen) (foretold : Option (List Bool)) (L S K : Type 0)
    → L → S → K
    → (error ≡ parse.Memory) ⊎ ((command ≡ None) × IsRefusedAloud error) → SaysWhy error status text
    → CallsDevices command status links links foretold foretold L S K
none_called_for command parse.Memory status text links foretold L S K l s k why says =
    subst (λ n. CallsDevices command n links links foretold foretold L S K) (sym says.0) (none_called_yet command links foretold L S K l s k)
none_called_for command (parse.Refused t) status text links foretold L S K l s k why says = elim why [
  | inl memory ↦ absurd (cc)
  | inr none ↦ subst (λ c. CallsDevices c status links links foretold foretold L S K) (sym none.0) (none_called None status links foretold L S K l s k refl refl)
]

-- which status is answered then
pub status_for : (command : Option Command) (error : ParseError) (status : ℕ) (text : List ℕ)
    → (error ≡ parse.Memory) ⊎ ((command ≡ None) × IsRefusedAloud error) → SaysWhy error status text
    → (IsSome command → (status ≡ 0) ⊎ (status ≡ 1)) × (command ≡ None → (status ≡ 2) ⊎ (status ≡ 1))
status_for command parse.Memory status text why says = (λ some. inr says.0, λ none. inr says.0)
status_for command (parse.Refused t) status text why says = (
  λ some. elim why [ inl memory ↦ absurd (cc) | inr none ↦ absurd (let no = subst IsSome none.0 some in cc) ],
  λ none. inl says.0,
)

-- a board was shown once, or that failed, or the screen was not called
pub shown_once : (result : Result ⊤ Refusal) (old new : Option (List Bool)) (kept : Type 0) → CallsOnce result old new kept
    → ((status_of result ≡ 0) × Foretold false old new) ⊎ ((status_of result ≡ 1) × (Foretold true old new ⊎ kept))
shown_once (Ok u) old new kept once = inl (refl, once)
shown_once (Err e) old new kept why = inr (refl, elim why [ inl fault ↦ inl fault.1 | inr stays ↦ inr stays ])

-- neither screen nor keys were asked for anything
pub kept_idle : {H : Type 0} (called : H → Call → H → Type 0) (host : H) (result : Result ⊤ Refusal) (kept : Type 0) → kept
    → IfErr result (λ e. IsOfPlay called e host ⊎ kept)
kept_idle called host (Ok u) kept is = tt
kept_idle called host (Err e) kept is = inr is

-- nor was the screen, where a board wasn't shown, unless it failed
pub shown_idle : {H : Type 0} (called : H → Call → H → Type 0) (host : H) (result : Result ⊤ Refusal) (old new : Option (List Bool)) (S K : Type 0)
    → K → CallsOnce result old new S
    → IfErr result (λ e. IsOfPlay called e host ⊎ (S × K))
shown_idle called host (Ok u) old new S K k once = tt
shown_idle called host (Err e) old new S K k once = elim once [ inl fault ↦ inl (inl (ap is_of_playing fault.0)) | inr s ↦ inr (s, k) ]
