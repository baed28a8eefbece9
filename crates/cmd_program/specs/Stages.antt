-- What setting a program asks for and comes to from each of its stages on.
use Rattle.std.specs.Prelude.{◌≡◌, ℕ, zero, suc, List, [], ◌∷◌, Option, Some, None, Result, Ok, Err, MatchResult}
use Rattle.zed_driver.specs.declared.input.Input.{Input}
use Rattle.zed_driver.specs.Effects.{Effect}
use Rattle.cmd_take.specs.Files.{OpensAs}
use Rattle.cmd_take.specs.Steps.{Asks, AsksNoMore, IsLed, OrMemory}
use Rattle.cmd_take.specs.Stops.{DrawingStop}
use Rattle.cmd_program.specs.declared.stage.Stage.{Stage}
use Rattle.cmd_program.specs.declared.stage.Stage.TheVariants.{Begun, Read, Done}
use Rattle.cmd_program.specs.Setting.{FileSets, ProgramComes, ProgramWants}

-- what is still asked for
abbrev pub WantsNow : List ℕ → ℕ → List ℕ → Stage → List Input → List ℕ → Type 0
WantsNow file replica text Begun files wanted = ProgramWants file replica text files wanted
WantsNow file replica text (Read program) files wanted = Asks file (OpensAs None) (λ f. AsksNoMore) files wanted
WantsNow file replica text (Done x) files wanted = ⊥

-- what is still come to
abbrev pub ComesNow : List ℕ → ℕ → ℕ → ℕ → Stage → List Input → Result Effect DrawingStop → Type 0
ComesNow file replica board stat Begun files r = ProgramComes file replica board stat files r
ComesNow file replica board stat (Read program) files r = OrMemory (FileSets file replica board stat program.items) files r
ComesNow file replica board stat (Done x) files r = (files ≡ []) × (r ≡ Ok x)

-- the file that is read next
abbrev pub next_of : List ℕ → ℕ → List ℕ → Stage → Option (List ℕ)
next_of file zero text Begun = None
next_of file (suc n) text Begun = Some text
next_of file replica text (Read program) = Some file
next_of file replica text (Done x) = None

-- how many files are still read at most
abbrev pub left_of : Stage → ℕ
left_of Begun = 2
left_of (Read program) = 1
left_of (Done x) = 0

-- by a file it comes to another stage, or is refused
abbrev pub Leads : List ℕ → ℕ → ℕ → ℕ → List ℕ → Stage → Input → Result Stage DrawingStop → Type 0
Leads file replica board stat text stage i result = MatchResult result
    (λ s. IsLed (i ∷ []) (WantsNow file replica text stage) (ComesNow file replica board stat stage)
    (WantsNow file replica text s) (ComesNow file replica board stat s))
    (λ e. ComesNow file replica board stat stage (i ∷ []) (Err e))
