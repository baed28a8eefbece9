-- A command that opens one edit file, does something with its edits, and writes it again.
use Rattle.zed_types.specs.declared.stamp.Stamp.{Stamp}
use Rattle.zed_op.specs.declared.op.Edit.{Edit}
use Rattle.zed_editfile.specs.declared.error.EditFileError.{EditFileError}
use Rattle.zed_driver.specs.declared.command.Stop.{Stop}
use Rattle.zed_driver.specs.declared.command.Stop.TheVariants.{Memory, File, Refused}
use Rattle.zed_driver.specs.declared.input.Input.{Input}
use Rattle.zed_driver.specs.declared.input.Input.TheVariants.{Bytes, Missing, Failed}
use Rattle.zed_driver.specs.Effects.{Effect, writes}
use Rattle.zed_refusal.specs.declared.reason.Reason.{Reason}
use Rattle.zed_refusal.specs.declared.reason.Reason.TheVariants.{Clash}
use Rattle.zed_refusal.specs.Stops.{file_stop, stop_as}
use Rattle.std.specs.Prelude.{◌≡◌, ◌⊎◌, ℕ, false, List, [], ◌∷◌, Option, Some, None, Result, Ok, Err, length}
use Rattle.zed_op.specs.Set.{Agrees, set_of}
use Rattle.zed_document.specs.Delivery.{IsFirstClash}
use Rattle.zed_document.specs.Replica.{Replica}
use Rattle.zed_editfile.specs.Spelling.{file_text}
use Rattle.zed_files.specs.Files.{IsFile, WantsMemory}
use Rattle.zed_files.specs.Lines.{edits_line}
use Rattle.zed_files.specs.Opened.{FileEdits}

-- ---- one edit file, opened

-- the world and the set of edits of a file that was read to its end
abbrev pub opened_at : Result ℕ EditFileError → List Edit → Result FileEdits (Stop Reason)
opened_at (Ok world) es = Ok (world, set_of es)
opened_at (Err e) es = Err (file_stop e)

-- what comes first: a clash of two edits, or what is wrong with the file; else its world, and the set of its edits
abbrev pub OpensAt : List Edit → Result ℕ EditFileError → Result FileEdits (Stop Reason) → Type 0
OpensAt es end r = ((c : Stamp) × IsFirstClash es c × (r ≡ Err (Refused (Clash c)))) ⊎ (Agrees es × (r ≡ opened_at end es))

-- what the bytes of a file, of the world asked for or of any, come to
abbrev pub Opens : Option ℕ → List ℕ → Result FileEdits (Stop Reason) → Type 0
Opens asked bytes r = (es : List Edit) × (end : Result ℕ EditFileError) × IsFile asked bytes es end × OpensAt es end r

-- the same of a file as a command was given it
abbrev pub OpensFile : Option ℕ → Input → Result FileEdits (Stop Reason) → Type 0
OpensFile asked (Bytes bytes) r = Opens asked bytes r
OpensFile asked Missing r = r ≡ Err File
OpensFile asked Failed r = r ≡ Err File

-- ---- what is done with it

-- the file is written again with these edits, and a line that counts them is printed
abbrev pub rewritten : {E : Type 0} → List ℕ → ℕ → Result (List Edit) (Stop E) → Result Effect (Stop E)
rewritten file world (Ok es) = Ok (writes file (file_text world es) (edits_line (length es)))
rewritten file world (Err e) = Err e

-- what comes of the edits of a file: it is written again with what the action makes of them; or it wasn't opened
abbrev pub IsRewritten : {E : Type 0} → (FileEdits → Result (List Edit) (Stop E) → Type 0) → (Reason → E) → List ℕ → Result FileEdits (Stop Reason) → Result Effect (Stop E) → Type 0
IsRewritten {E} Does told file (Ok f) r = (made : Result (List Edit) (Stop E)) × Does f made × (r ≡ rewritten file f.0 made)
IsRewritten Does told file (Err e) r = r ≡ Err (stop_as told e)

-- it reads its one file, unless it is refused before
abbrev pub RewritesWant : {E : Type 0} → Option E → List ℕ → List Input → List ℕ → Type 0
RewritesWant refusal file files name = (refusal ≡ None) × (files ≡ []) × (name ≡ file)

-- memory may be lacking behind the reading of these edits: for the action, where it may take some, or for writing what it made
abbrev pub ActionLacks : {E : Type 0} → (FileEdits → Type 0) → (FileEdits → Result (List Edit) (Stop E) → Type 0) → FileEdits → Type 0
ActionLacks MayTake Does f = MayTake f ⊎ ((es : List Edit) × Does f (Ok es))

-- memory may be lacking for reading the file; or, once it was read, for the action or behind it
abbrev pub RewritesLack : {E : Type 0} → (FileEdits → Type 0) → (FileEdits → Result (List Edit) (Stop E) → Type 0) → Input → Type 0
RewritesLack MayTake Does (Bytes bytes) =
    WantsMemory None bytes ⊎ ((f : FileEdits) × Opens None bytes (Ok f) × ActionLacks MayTake Does f)
RewritesLack MayTake Does Missing = ⊥
RewritesLack MayTake Does Failed = ⊥

-- it comes to its refusal before any file is read; or to what comes of its file's edits; or memory is lacking
abbrev pub RewritesCome : {E : Type 0} → Option E → (FileEdits → Type 0) → (FileEdits → Result (List Edit) (Stop E) → Type 0) → (Reason → E) → List ℕ → List Input → Result Effect (Stop E) → Type 0
RewritesCome {E} refusal MayTake Does told file [] r = (e : E) × (refusal ≡ Some e) × (r ≡ Err (Refused e))
RewritesCome refusal MayTake Does told file (i ∷ []) r =
    (refusal ≡ None) × (((opened : Result FileEdits (Stop Reason)) × OpensFile None i opened × IsRewritten Does told file opened r) ⊎ ((r ≡ Err Memory) × RewritesLack MayTake Does i))
RewritesCome refusal MayTake Does told file (i ∷ j ∷ files) r = ⊥

-- ---- for the proof

-- the document that it holds after these files
abbrev pub RewritesStand : {E : Type 0} → Option E → List Input → Option Replica → Type 0
RewritesStand refusal [] document = document ≡ None
RewritesStand refusal (i ∷ []) document =
    (refusal ≡ None) × ((d : Replica) × (document ≡ Some d) × (d.is_stale ≡ false) × OpensFile None i (Ok (d.world, d.edits)))
RewritesStand refusal (i ∷ j ∷ files) document = ⊥

-- the file that it reads next
abbrev pub next_file : {E : Type 0} → Option E → List ℕ → Option Replica → Option (List ℕ)
next_file (Some e) file document = None
next_file None file (Some d) = None
next_file None file None = Some file

-- how many it still reads at most
abbrev pub files_left : Option Replica → ℕ
files_left (Some d) = 0
files_left None = 1
