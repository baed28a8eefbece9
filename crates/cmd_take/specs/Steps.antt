-- The steps of a command, one after the other, and the files that it reads.
use Rattle.std.specs.Prelude.{◌≡◌, ◌≢◌, ◌⊎◌, ◌++◌, ℕ, List, [], ◌∷◌, Result, Ok, Err, MatchResult}
use Rattle.zed_driver.specs.declared.command.Stop.TheVariants.{Memory}
use Rattle.zed_driver.specs.declared.input.Input.{Input}
use Rattle.zed_driver.specs.Driven as driven
use Rattle.zed_driver.specs.Effects.{Effect}
use Rattle.zed_driver.specs.Reading.{Wanting}
use Rattle.zed_files.specs.Gathers.{BeginsWithBytes}
use Rattle.cmd_take.specs.declared.reason.DrawingReason.{DrawingReason}
use Rattle.cmd_take.specs.Stops.{DrawingStop, no_author}

-- ---- steps that read no file

-- what comes of a value, by what follows it; a refusal is handed on
abbrev pub Then : {X Y : Type 0} → Result X DrawingStop → (X → Result Y DrawingStop → Type 0) → Result Y DrawingStop → Type 0
Then (Ok x) Next r = Next x r
Then (Err e) Next r = r ≡ Err e

-- what comes of a first step, and of what follows it
abbrev pub Steps : {X Y : Type 0} → (Result X DrawingStop → Type 0) → (X → Result Y DrawingStop → Type 0) → Result Y DrawingStop → Type 0
Steps First Next r = (m : _) × First m × Then m Next r

-- a call answers a value that is seen so, or a refusal, as this says; or it wants memory
abbrev pub Gives : {X Y : Type 0} → (X → Y) → (Result Y DrawingStop → Type 0) → Result X DrawingStop → Type 0
Gives view Says result = MatchResult result (λ x. Says (Ok (view x))) (λ e. (e ≡ Memory) ⊎ Says (Err e))

-- ---- what a command comes to by the files that it reads

-- what a command comes to after files
abbrev pub Coming : Type 1
Coming = driven.Coming DrawingReason

-- a step went well, and what it gave leads on; or it was refused, and behind that no file is read
abbrev pub GoesOn : {X : Type 0} → Result X DrawingStop → (X → Coming) → List Input → Result Effect DrawingStop → Type 0
GoesOn (Ok x) Next files r = Next x files r
GoesOn (Err e) Next files r = (files ≡ []) × (r ≡ Err e)

-- a step that reads no file, and what it leads to
abbrev pub Does : {X : Type 0} → (Result X DrawingStop → Type 0) → (X → Coming) → List Input → Result Effect DrawingStop → Type 0
Does First Next files r = (m : _) × First m × GoesOn m Next files r

-- the next file is made into this, which leads on
abbrev pub Reads : {X : Type 0} → (Input → Result X DrawingStop → Type 0) → (X → Coming) → List Input → Result Effect DrawingStop → Type 0
Reads Made Next [] r = ⊥
Reads Made Next (i ∷ files) r = Does (Made i) Next files r

-- no more files are read, and it comes to this
abbrev pub Ends : (Result Effect DrawingStop → Type 0) → List Input → Result Effect DrawingStop → Type 0
Ends Last files r = (files ≡ []) × Last r

-- the next file is the one of this name, and what it is made into leads on
abbrev pub Asks : {X : Type 0} → List ℕ → (Input → Result X DrawingStop → Type 0) → (X → Wanting) → List Input → List ℕ → Type 0
Asks name Made Next [] wanted = wanted ≡ name
Asks name Made Next (i ∷ files) wanted = (x : _) × Made i (Ok x) × Next x files wanted

-- no more files are asked for
abbrev pub AsksNoMore : List Input → List ℕ → Type 0
AsksNoMore files wanted = ⊥

-- memory is lacking behind the first file, which is there; or it comes to this
abbrev pub OrLacks : Coming → List Input → Result Effect DrawingStop → Type 0
OrLacks Comes files r = ((r ≡ Err Memory) × BeginsWithBytes files) ⊎ Comes files r

-- what a command of an author comes to; 0 is no author's number, which is told before any file is read, whatever else is wrong
abbrev pub Authored : ℕ → Coming → List Input → Result Effect DrawingStop → Type 0
Authored replica Comes files r =
    ((replica ≡ 0) × (files ≡ []) × (r ≡ Err no_author)) ⊎ ((replica ≢ 0) × OrLacks Comes files r)

-- what it asks for
abbrev pub AuthorAsks : ℕ → Wanting → List Input → List ℕ → Type 0
AuthorAsks replica Wants files wanted = (replica ≢ 0) × Wants files wanted

-- ---- for the proof

-- memory is lacking, or it comes to this
abbrev pub OrMemory : Coming → List Input → Result Effect DrawingStop → Type 0
OrMemory Comes files r = (r ≡ Err Memory) ⊎ Comes files r

-- what is still asked for and come to by a command that has gone on, with one file more or many, is what the command at first asks for and comes to
pub record IsLed (files : List Input) (Wants : Wanting) (Comes : Coming) (WantsNow : Wanting) (ComesNow : Coming) : Type 0 where
  pub wants : (rest : List Input) (name : List ℕ) → WantsNow rest name → Wants (files ++ rest) name
  pub comes : (rest : List Input) (r : Result Effect DrawingStop) → ComesNow rest r → Comes (files ++ rest) r
