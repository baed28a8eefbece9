-- What the files come to that a command was given.
use Rattle.zed_world.specs.declared.error.WorldError.{WorldError}
use Rattle.zed_driver.specs.declared.command.Stop.{Stop}
use Rattle.zed_driver.specs.declared.command.Stop.TheVariants.{File}
use Rattle.zed_driver.specs.declared.input.Input.{Input}
use Rattle.zed_driver.specs.declared.input.Input.TheVariants.{Bytes, Missing, Failed}
use Rattle.zed_refusal.specs.declared.reason.Reason.{Reason}
use Rattle.zed_refusal.specs.Stops.{world_stop}
use Rattle.std.specs.Prelude.{◌≡◌, ℕ, List, Option, Result, Ok, Err}
use Rattle.zed_world.specs.Contents.{Contents}
use Rattle.zed_world.specs.Reading.{world_at}
use Rattle.zed_files.specs.Opened.{FileEdits}
use Rattle.zed_files.specs.Rewrites.{Opens}
use Rattle.cmd_take.specs.Stops.{DrawingStop, drawing_stop, drawing_told}

-- what is made of the bytes of a file, which has to be there
abbrev pub OfFile : {X : Type 0} → (List ℕ → Result X DrawingStop → Type 0) → Input → Result X DrawingStop → Type 0
OfFile Made (Bytes bytes) r = Made bytes r
OfFile Made Missing r = r ≡ Err File
OfFile Made Failed r = r ≡ Err File

-- what the bytes of an edit file, of the world asked for or of any, come to
abbrev pub IsOpened : Option ℕ → List ℕ → Result FileEdits DrawingStop → Type 0
IsOpened asked bytes r = (m : Result FileEdits (Stop Reason)) × Opens asked bytes m × (r ≡ drawing_told m)

-- what an edit file comes to
abbrev pub OpensAs : Option ℕ → Input → Result FileEdits DrawingStop → Type 0
OpensAs asked file r = OfFile (IsOpened asked) file r

-- a world that was read, or why not
abbrev pub world_told : Result Contents WorldError → Result Contents DrawingStop
world_told (Ok w) = Ok w
world_told (Err e) = Err (drawing_stop (world_stop e))

-- what the bytes of a world file are read as
abbrev pub IsWorld : List ℕ → Result Contents DrawingStop → Type 0
IsWorld bytes r = r ≡ world_told (world_at bytes)

-- what a world file is read as
abbrev pub ReadsAs : Input → Result Contents DrawingStop → Type 0
ReadsAs file r = OfFile IsWorld file r
