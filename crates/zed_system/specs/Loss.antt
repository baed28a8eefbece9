-- What another file has to have so that nothing of an edit file is lost.
use Rattle.std.specs.Prelude.{◌≡◌, ◌≢◌, ◌<◌, ◌^◌, ◌⊎◌, ℕ, Bool, false, List, Some, Result, Err, Contains, MatchBool, codes, nat_eq}
use Rattle.std.specs.List.{starts_with}
use Rattle.zed_op.specs.declared.op.Edit.{Edit}
use Rattle.zed_op.specs.Set.{set_of}
use Rattle.zed_history.specs.Finding.{edit_with}
use Rattle.zed_editfile.specs.declared.error.EditFileError.{EditFileError}
use Rattle.zed_editfile.specs.declared.error.EditFileError.TheVariants.{Memory}
use Rattle.zed_editfile.specs.Stream.{AreRecords, IsTextOf}

-- the bytes can be read as an edit file: they are the text of these edits of a world, each of which fits
pub record IsEditFile (world : ℕ) (es : List Edit) (bytes : List ℕ) : Type 0 where
  pub number : world < 2 ^ 64
  pub records : AreRecords es
  pub text : IsTextOf world es bytes

-- the bytes can't be read as an edit file
abbrev pub IsNoFile : List ℕ → Type 0
IsNoFile bytes = (world : ℕ) (es : List Edit) → IsEditFile world es bytes → ⊥

-- a reader found a fault in a file, or that it is cut
abbrev pub IsFaulty : Result (Unit {0}) EditFileError → Type 0
IsFaulty end = (e : EditFileError) × (e ≢ Memory) × (end ≡ Err e)

-- a set has this edit
abbrev pub Has : List Edit → Edit → Type 0
Has set e = edit_with e.stamp set ≡ Some e

-- nothing of an old file is lost where new bytes take its place: both are edit files of one world, and the new one has each edit of the old one
pub record HasAll (new old : List ℕ) : Type 0 where
  pub world : ℕ
  pub edits : List Edit
  pub others : List Edit
  pub is_file : IsEditFile world edits old
  pub is_new : IsEditFile world others new
  pub all : (e : Edit) → Contains edits e → Has (set_of others) e

-- bytes begin as those of edit files do
abbrev pub begins_as_edits : List ℕ → Bool
begins_as_edits bytes = starts_with nat_eq bytes (codes "ZED")

-- an old file needn't be kept where new bytes take its place: they are the same, or it is an edit file of which nothing is lost, or neither an edit file nor a drawing
abbrev pub MayGo : Bool → List ℕ → List ℕ → Type 0
MayGo is_drawing new old = (old ≡ new) ⊎ MatchBool (begins_as_edits old) (HasAll new old) (is_drawing ≡ false)
