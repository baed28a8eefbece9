-- Refusals of edits as those of a document.
use Rattle.zed_op.specs.declared.cause.EditError.{EditError}
use Rattle.zed_op.specs.declared.cause.EditError.TheVariants as edit
use Rattle.zed_document.specs.declared.error.DocumentError.{DocumentError}
use Rattle.zed_document.specs.declared.error.DocumentError.TheVariants.{Memory, BadEdit}

-- the refusal of a document for one of an edit
abbrev pub refusal_of : EditError → DocumentError
refusal_of edit.Memory = Memory
refusal_of (edit.BadEdit c) = BadEdit c
