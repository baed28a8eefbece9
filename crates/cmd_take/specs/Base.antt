-- The base of a world file: the edits that it was exported of.
use Rattle.zed_op.specs.declared.op.Edit.{Edit}
use Rattle.cmd_take.specs.declared.base.Presence.{Presence}
use Rattle.cmd_take.specs.declared.base.Presence.TheVariants.{Needed, Optional}
use Rattle.std.specs.Prelude.{◌≡◌, ℕ, List, ◌++◌, codes, Option, Some, None, Result, Ok, MatchBool}
use Rattle.std.specs.Str.{bytes_eq}
use Rattle.zed_driver.specs.declared.input.Input.{Input}
use Rattle.zed_driver.specs.declared.input.Input.TheVariants.{Bytes, Missing, Failed}
use Rattle.zed_driver.specs.Effects.{Effect}
use Rattle.zed_driver.specs.Reading.{Wanting}
use Rattle.zed_files.specs.Opened.{FileEdits}
use Rattle.cmd_take.specs.Files.{OpensAs}
use Rattle.cmd_take.specs.Stops.{DrawingStop}
use Rattle.cmd_take.specs.Steps.{Asks, Coming, Reads, Steps}

-- the name of the base that lies beside a world file
abbrev pub beside : List ℕ → List ℕ
beside world = world ++ codes ".base"

-- the word that names the base: the one that is given, or else the one beside the world file
abbrev pub base_word : Option (List ℕ) → List ℕ → List ℕ
base_word None world = beside world
base_word (Some name) world = name

-- only the base beside the world file may be missing
abbrev pub presence_of : Option (List ℕ) → Presence
presence_of None = Optional
presence_of (Some name) = Needed

-- a base of its own has these edits
abbrev pub HasEdits : FileEdits → Result (Option (List Edit)) DrawingStop → Type 0
HasEdits f r = r ≡ Ok (Some f.1)

-- a base that is there, of this world
abbrev pub HeldBase : ℕ → Input → Result (Option (List Edit)) DrawingStop → Type 0
HeldBase number file r = Steps (OpensAs (Some number) file) HasEdits r

-- a base of this world that may be missing
abbrev pub TriedBase : ℕ → Input → Result (Option (List Edit)) DrawingStop → Type 0
TriedBase number Missing r = r ≡ Ok None
TriedBase number (Bytes bytes) r = HeldBase number (Bytes bytes) r
TriedBase number Failed r = HeldBase number Failed r

-- either of them
abbrev pub BaseOf : Presence → ℕ → Input → Result (Option (List Edit)) DrawingStop → Type 0
BaseOf Needed number file r = HeldBase number file r
BaseOf Optional number file r = TriedBase number file r

-- the base of FILE, of the world of FILE, is read, and its edits lead on; none where FILE is its own base: where that is the word, or the base is missing
abbrev pub BaseReads : Presence → List ℕ → List ℕ → ℕ → (Option (List Edit) → Coming) → List Input → Result Effect DrawingStop → Type 0
BaseReads presence base file number Next files r =
    MatchBool (bytes_eq base file) (Next None files r) (Reads (BaseOf presence number) Next files r)

-- and it is asked for
abbrev pub BaseAsks : Presence → List ℕ → List ℕ → ℕ → (Option (List Edit) → Wanting) → List Input → List ℕ → Type 0
BaseAsks presence base file number Next files wanted =
    MatchBool (bytes_eq base file) (Next None files wanted) (Asks base (BaseOf presence number) Next files wanted)

-- the edits of the base, or those of FILE where that is its own
abbrev pub edits_of_base : Option (List Edit) → List Edit → List Edit
edits_of_base None own = own
edits_of_base (Some es) own = es
