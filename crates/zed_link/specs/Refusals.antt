-- Refusals of edit files as those of a link, and which of these tell that the link failed.
use Rattle.std.specs.Prelude.{Bool, true, false, Result, Ok, Err}
use Rattle.zed_editfile.specs.declared.error.EditFileError.{EditFileError}
use Rattle.zed_editfile.specs.declared.error.EditFileError.TheVariants as file
use Rattle.zed_link.specs.declared.error.LinkError.{LinkError}
use Rattle.zed_link.specs.declared.error.LinkError.TheVariants.{Memory, Magic, NewVersion, OtherWorld, RecordLength, BadEdit, CutShort, LinkFault}

-- the refusal of a link for one of an edit file
abbrev pub file_refusal : EditFileError → LinkError
file_refusal file.Memory = Memory
file_refusal file.Magic = Magic
file_refusal file.NewVersion = NewVersion
file_refusal file.OtherWorld = OtherWorld
file_refusal file.RecordLength = RecordLength
file_refusal (file.BadEdit c) = BadEdit c
file_refusal file.CutShort = CutShort

-- whether an answer tells that the link failed
abbrev pub is_fault : {X : Type 0} → Result X LinkError → Bool
is_fault (Err LinkFault) = true
is_fault (Err _) = false
is_fault (Ok x) = false
