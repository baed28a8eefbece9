-- What `take` asks for and comes to from each of its stages on.
use Rattle.std.specs.Prelude.{◌≡◌, ℕ, zero, suc, false, List, [], ◌∷◌, Option, Some, None, Result, Ok, Err, IfSome, MatchResult, option_map, string_bytes}
use Rattle.zed_driver.specs.declared.input.Input.{Input}
use Rattle.zed_driver.specs.Effects.{Effect}
use Rattle.zed_files.specs.Opened.{FileEdits}
use Rattle.zed_op.specs.declared.op.Edit.{Edit}
use Rattle.zed_document.specs.Replica.{Replica}
use Rattle.cmd_take.specs.declared.opening.Forcing.{Forcing}
use Rattle.cmd_take.specs.declared.stages.TakeStage.{TakeStage}
use Rattle.cmd_take.specs.declared.stages.TakeStage.TheVariants.{Begun, Opened, Based, Done}
use Rattle.cmd_take.specs.Base.{BaseOf, presence_of}
use Rattle.cmd_take.specs.Steps.{Asks, IsLed, OrMemory, Reads}
use Rattle.cmd_take.specs.Stops.{DrawingStop}
use Rattle.cmd_take.specs.Taking.{TakeComes, TakeWants, WorldAsks, WorldTakes}

-- the world and the edits of a file
abbrev pub file_of : Replica → FileEdits
file_of d = (d.world, d.edits)

-- the edits of a base of its own
abbrev pub base_in : Option Replica → Option (List Edit)
base_in b = option_map (λ d. d.edits) b

-- the documents that were read aren't stale, and are of one world
abbrev pub IsSound : TakeStage → Type 0
IsSound (Opened d name) = d.is_stale ≡ false
IsSound (Based d base name) = (d.is_stale ≡ false) × IfSome base (λ b. (b.is_stale ≡ false) × (b.world ≡ d.world))
IsSound _ = Unit {0}

-- what is still asked for
abbrev pub TakeWantsNow : Option (List ℕ) → List ℕ → ℕ → List ℕ → TakeStage → List Input → List ℕ → Type 0
TakeWantsNow base file replica world Begun files wanted = TakeWants base file replica world files wanted
TakeWantsNow base file replica world (Opened d name) files wanted =
    Asks (string_bytes name) (BaseOf (presence_of base) d.world) (λ o. WorldAsks world) files wanted
TakeWantsNow base file replica world (Based d own name) files wanted = WorldAsks world files wanted
TakeWantsNow base file replica world (Done x) files wanted = ⊥

-- what is still come to
abbrev pub TakeComesNow : Option (List ℕ) → Forcing → List ℕ → ℕ → List ℕ → TakeStage → List Input → Result Effect DrawingStop → Type 0
TakeComesNow base forcing file replica world Begun files r = TakeComes base forcing file replica world files r
TakeComesNow base forcing file replica world (Opened d name) files r =
    OrMemory (Reads (BaseOf (presence_of base) d.world) (WorldTakes (string_bytes name) file replica forcing (file_of d))) files r
TakeComesNow base forcing file replica world (Based d own name) files r =
    OrMemory (WorldTakes (string_bytes name) file replica forcing (file_of d) (base_in own)) files r
TakeComesNow base forcing file replica world (Done x) files r = (files ≡ []) × (r ≡ Ok x)

-- the file that is read next
abbrev pub take_next : List ℕ → ℕ → List ℕ → TakeStage → Option (List ℕ)
take_next file zero world Begun = None
take_next file (suc n) world Begun = Some file
take_next file replica world (Opened d name) = Some (string_bytes name)
take_next file replica world (Based d own name) = Some world
take_next file replica world (Done x) = None

-- how many files are still read at most
abbrev pub take_left : TakeStage → ℕ
take_left Begun = 3
take_left (Opened d name) = 2
take_left (Based d own name) = 1
take_left (Done x) = 0

-- by a file it comes to another stage, or is refused
abbrev pub TakeLeads : Option (List ℕ) → Forcing → List ℕ → ℕ → List ℕ → TakeStage → Input → Result TakeStage DrawingStop → Type 0
TakeLeads base forcing file replica world stage i result = MatchResult result
    (λ s. IsSound s × IsLed (i ∷ []) (TakeWantsNow base file replica world stage) (TakeComesNow base forcing file replica world stage)
    (TakeWantsNow base file replica world s) (TakeComesNow base forcing file replica world s))
    (λ e. TakeComesNow base forcing file replica world stage (i ∷ []) (Err e))
