-- What undoing asks for and comes to from each of its stages on.
use Rattle.std.specs.Prelude.{◌≡◌, ℕ, zero, suc, false, List, [], ◌∷◌, Option, Some, None, Result, Ok, Err, MatchResult}
use Rattle.zed_driver.specs.declared.input.Input.{Input}
use Rattle.zed_driver.specs.Effects.{Effect}
use Rattle.zed_files.specs.Opened.{FileEdits}
use Rattle.zed_document.specs.Replica.{Replica}
use Rattle.cmd_take.specs.Files.{OpensAs}
use Rattle.cmd_take.specs.Steps.{Asks, IsLed, OrMemory}
use Rattle.cmd_take.specs.Stops.{DrawingStop}
use Rattle.cmd_undo.specs.declared.manner.Manner.{Manner}
use Rattle.cmd_undo.specs.declared.stage.Stage.{Stage}
use Rattle.cmd_undo.specs.declared.stage.Stage.TheVariants.{Begun, Opened, Newer, Done}
use Rattle.cmd_undo.specs.Undoing.{Chosen, NewUndoes, OldAsks, OldUndoes, Pulled, UndoComes, UndoWants, Wish}

-- the world and the edits of a file
abbrev pub file_of : Replica → FileEdits
file_of d = (d.world, d.edits)

-- the documents that were read aren't stale
abbrev pub IsSound : Stage → Type 0
IsSound (Opened d) = d.is_stale ≡ false
IsSound (Newer d n) = d.is_stale ≡ false
IsSound _ = Unit {0}

-- the files of a pull: of what is chosen there are none
abbrev pub new_of : Wish → List ℕ
new_of (Chosen w) = []
new_of (Pulled new old) = new

abbrev pub old_of : Wish → List ℕ
old_of (Chosen w) = []
old_of (Pulled new old) = old

-- NEW is asked for, and then OLD
abbrev pub NewAsks : Wish → FileEdits → List Input → List ℕ → Type 0
NewAsks wish f files wanted = Asks (new_of wish) (OpensAs (Some f.0)) (λ n. OldAsks (old_of wish) f) files wanted

-- what is still asked for
abbrev pub WantsNow : List ℕ → ℕ → Wish → Stage → List Input → List ℕ → Type 0
WantsNow file replica wish Begun files wanted = UndoWants file replica wish files wanted
WantsNow file replica wish (Opened d) files wanted = NewAsks wish (file_of d) files wanted
WantsNow file replica wish (Newer d n) files wanted = OldAsks (old_of wish) (file_of d) files wanted
WantsNow file replica wish (Done x) files wanted = ⊥

-- what is still come to
abbrev pub ComesNow : List ℕ → Manner → ℕ → Wish → Stage → List Input → Result Effect DrawingStop → Type 0
ComesNow file manner replica wish Begun files r = UndoComes file manner replica wish files r
ComesNow file manner replica wish (Opened d) files r = OrMemory (NewUndoes file manner replica (file_of d)) files r
ComesNow file manner replica wish (Newer d n) files r = OrMemory (OldUndoes file manner replica (file_of d) (file_of n)) files r
ComesNow file manner replica wish (Done x) files r = (files ≡ []) × (r ≡ Ok x)

-- the file that is read next
abbrev pub next_of : List ℕ → ℕ → Wish → Stage → Option (List ℕ)
next_of file zero wish Begun = None
next_of file (suc n) wish Begun = Some file
next_of file replica wish (Opened d) = Some (new_of wish)
next_of file replica wish (Newer d n) = Some (old_of wish)
next_of file replica wish (Done x) = None

-- how many files are still read at most
abbrev pub left_of : Stage → ℕ
left_of Begun = 3
left_of (Opened d) = 2
left_of (Newer d n) = 1
left_of (Done x) = 0

-- by a file it comes to another stage, or is refused
abbrev pub Leads : List ℕ → Manner → ℕ → Wish → Stage → Input → Result Stage DrawingStop → Type 0
Leads file manner replica wish stage i result = MatchResult result
    (λ s. IsSound s × IsLed (i ∷ []) (WantsNow file replica wish stage) (ComesNow file manner replica wish stage)
    (WantsNow file replica wish s) (ComesNow file manner replica wish s))
    (λ e. ComesNow file manner replica wish stage (i ∷ []) (Err e))
