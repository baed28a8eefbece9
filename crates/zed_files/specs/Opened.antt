-- What an edit file comes to that is opened by itself.
use Rattle.zed_types.specs.declared.stamp.Stamp.{Stamp}
use Rattle.zed_op.specs.declared.op.Edit.{Edit}
use Rattle.zed_editfile.specs.declared.error.EditFileError.{EditFileError}
use Rattle.zed_files.specs.declared.refusal.Refusal.{Refusal}
use Rattle.zed_files.specs.declared.refusal.Refusal.TheVariants.{Clash, File}
use Rattle.std.specs.Prelude.{◌≡◌, ◌⊎◌, ℕ, List, Option, Some, None, Result, Ok, Err}
use Rattle.zed_op.specs.Set.{Agrees, set_of}
use Rattle.zed_document.specs.Delivery.{IsFirstClash}
use Rattle.zed_files.specs.Files.{IsFile}
use Rattle.zed_files.specs.Refusals.{file_refusal}
use Rattle.zed_host.specs.HostContents.{HostContents, IsRead}

-- the number of a world, and edits of it
abbrev pub FileEdits : Type 0
FileEdits = ℕ × List Edit

-- the world and the set of edits of a file that was read to its end
abbrev pub edits_at : Result ℕ EditFileError → List Edit → Result FileEdits Refusal
edits_at (Ok world) es = Ok (world, set_of es)
edits_at (Err e) es = Err (file_refusal e)

-- what comes first: a clash of two edits, or what is wrong with the file; else the set of its edits
abbrev pub IsSettled : List Edit → Result ℕ EditFileError → Result FileEdits Refusal → Type 0
IsSettled es end r = ((c : Stamp) × IsFirstClash es c × (r ≡ Err (Clash c))) ⊎ (Agrees es × (r ≡ edits_at end es))

-- what the bytes of a file, of the world asked for or of any, come to
abbrev pub IsOpened : Option ℕ → List ℕ → Result FileEdits Refusal → Type 0
IsOpened asked bytes r = (es : List Edit) × (end : Result ℕ EditFileError) × IsFile asked bytes es end × IsSettled es end r

-- the same of a file, if there is one
abbrev pub IsOpenedFile : Option ℕ → Option (List ℕ) → Result FileEdits Refusal → Type 0
IsOpenedFile asked None r = r ≡ Err File
IsOpenedFile asked (Some bytes) r = IsOpened asked bytes r

-- what the file of a name comes to
abbrev pub OpensAs : Type 0 → HostContents → Option ℕ → List ℕ → Result FileEdits Refusal → Type 0
OpensAs failed t asked file r = (read : Option (List ℕ)) × IsRead failed t file read × IsOpenedFile asked read r
