-- What a refusal of an edit is told as.
use Rattle.zed_op.specs.declared.cause.EditError.{EditError}
use Rattle.zed_op.specs.declared.cause.EditError.TheVariants as edit
use Rattle.zed_editfile.specs.declared.error.EditFileError.{EditFileError}
use Rattle.zed_editfile.specs.declared.error.EditFileError.TheVariants.{Memory, BadEdit}

-- the refusal of a file for a refusal of an edit in it
abbrev pub of_edit : EditError → EditFileError
of_edit edit.Memory = Memory
of_edit (edit.BadEdit cause) = BadEdit cause
