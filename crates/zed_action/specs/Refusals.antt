-- Refusals of an action.
use Rattle.zed_document.specs.declared.error.DocumentError.{DocumentError}
use Rattle.zed_document.specs.declared.error.DocumentError.TheVariants as document
use Rattle.zed_action.specs.declared.error.ActionError.{ActionError}
use Rattle.zed_action.specs.declared.error.ActionError.TheVariants.{Document}

-- the refusal of an action for one of a document
abbrev pub refusal_of : DocumentError → ActionError
refusal_of e = Document e

-- want of memory
abbrev pub memory : ActionError
memory = refusal_of document.Memory
