-- What edit files come to, one after the other.
use Rattle.zed_editfile.specs.declared.error.EditFileError.TheVariants as file
use Rattle.zed_op.specs.declared.op.Edit.{Edit}
use Rattle.zed_editfile.specs.declared.error.EditFileError.{EditFileError}
use Rattle.zed_files.specs.declared.refusal.Refusal.{Refusal}
use Rattle.zed_files.specs.declared.refusal.Refusal.TheVariants.{NoWorld, File}
use Rattle.std.specs.Prelude.{◌≡◌, ◌≢◌, ◌⊎◌, ℕ, false, true, List, [], ◌∷◌, ◌++◌, Option, Some, None, Result, Ok, Err}
use Rattle.std.specs.List.{flat_map}
use Rattle.zed_editfile.specs.Spelling.{AreOf, text_of}
use Rattle.zed_editfile.specs.Stream.{AreRecords, HasLength, IsTextOf, Progress, Reads, ending, is_other, is_version}
use Rattle.zed_files.specs.Refusals.{file_refusal}

-- what a reader answers at the end of a file: the number of its world, or what is wrong
abbrev pub end_by : Option EditFileError → Option ℕ → Result ℕ EditFileError
end_by (Some e) world = Err e
end_by None (Some world) = Ok world
end_by None None = Err file.CutShort

-- a file, of the world asked for or of any, spells these edits up to its end
pub record IsFile (asked : Option ℕ) (bytes : List ℕ) (es : List Edit) (end : Result ℕ EditFileError) : Type 0 where
  pub progress : Progress
  pub asks : progress.asked ≡ asked
  pub reads : Reads bytes es progress
  pub sound : progress.fault ≢ Some file.Memory
  pub ends : end ≡ end_by (ending progress) progress.world

-- the same by what is wrong with the file, if something is, and the number of its world
abbrev pub ReadsFile : Option ℕ → List ℕ → List Edit → Option EditFileError → Option ℕ → Type 0
ReadsFile asked bytes es (Some e) world = IsFile asked bytes es (Err e)
ReadsFile asked bytes es None world = (n : ℕ) × (world ≡ Some n) × IsFile asked bytes es (Ok n)

-- where reading a file may want memory: behind a good head of the world asked for, and the records of some edits, is the good length of one more
pub record WantsMemory (asked : Option ℕ) (bytes : List ℕ) : Type 0 where
  pub version : ℕ
  pub world : ℕ
  pub before : List Edit
  pub tail : List ℕ
  pub known : is_version version ≡ true
  pub asked_for : is_other asked world ≡ false
  pub good : AreRecords before
  pub spelled : AreOf version before
  pub whole : bytes ≡ text_of version world before ++ tail
  pub long : HasLength tail

-- edits in the order in which files spell them, up to the first refusal of a file
pub record Stream : Type 0 where
  pub edits : List Edit
  pub refusal : Option Refusal

-- these edits, and then perhaps a refusal
abbrev pub edits_then : List Edit → Option Refusal → Stream
edits_then es refusal = record { edits = es; refusal = refusal }

-- what was read before, in front of the rest
abbrev pub stream_after : List Edit → Stream → Stream
stream_after es rest = record { edits = es ++ rest.edits; refusal = rest.refusal }

-- without a file there is no world
abbrev pub end_of : Option ℕ → Option Refusal
end_of None = Some NoWorld
end_of (Some world) = None

-- the files' edits one file after the other, up to the first that is refused; a name without a file is refused, and each file is
-- of the world asked for, which is the first one's
abbrev pub IsStream : Option ℕ → List (Option (List ℕ)) → Stream → Type 0
IsStream asked [] s = s ≡ edits_then [] (end_of asked)
IsStream asked (None ∷ files) s = s ≡ edits_then [] (Some File)
IsStream asked (Some bytes ∷ files) s =
    ((e : EditFileError) × IsFile asked bytes s.edits (Err e) × (s.refusal ≡ Some (file_refusal e)))
    ⊎ ((es : List Edit) × (world : ℕ) × (rest : Stream) × IsFile asked bytes es (Ok world) × IsStream (Some world) files rest × (s ≡ stream_after es rest))

-- the edits of several lists, one list after the other
abbrev pub joined : List (List Edit) → List Edit
joined lists = flat_map (λ es. es) lists

-- the file is there, and is the text of these edits of a world in one of the versions
abbrev pub IsTextIn : ℕ → List Edit → Option (List ℕ) → Type 0
IsTextIn world es None = ⊥
IsTextIn world es (Some bytes) = IsTextOf world es bytes

-- the files spell these lists of edits of one world, each file one list in a version of its own
abbrev pub AreTextsOf : ℕ → List (List Edit) → List (Option (List ℕ)) → Type 0
AreTextsOf world [] [] = Unit {0}
AreTextsOf world [] (file ∷ files) = ⊥
AreTextsOf world (es ∷ lists) [] = ⊥
AreTextsOf world (es ∷ lists) (file ∷ files) = IsTextIn world es file × AreTextsOf world lists files
