-- What the commands that call no device read, and what they come to.
use Rattle.std.specs.Prelude.{ℕ, List}
use Rattle.zed_driver.specs.Driven.{Coming}
use Rattle.zed_driver.specs.Reading.{Wanting}
use Rattle.zed_refusal.specs.declared.reason.Reason.{Reason}
use Rattle.zed_files.specs.Rewrites.{RewritesCome, RewritesWant}
use Rattle.zed_files.specs.Tells.{FilesCome, FilesWant}
use Rattle.cmd_save.specs.Made.{checks, saves}
use Rattle.cmd_edit.specs.Edited.{ActMayTake, IsActed, no_author}
use Rattle.cmd_edit.specs.Fresh.{NewComes, NewWants}
use Rattle.zed_program.specs.Limit.{limit_of}
use Rattle.zed_words.specs.Commands.{Command, Save, Check, New, Edit as EditFile, Merge, Show, Play}

-- what a command reads after the files that it read before; those that call devices aren't carried out by the driver (`AsksCommand`)
abbrev pub WantsOf : Command → Wanting
WantsOf (Save profile out files) = FilesWant files
WantsOf (Check profile files) = FilesWant files
WantsOf (New out world from name) = NewWants from
WantsOf (EditFile file replica words) = RewritesWant (no_author replica) file
WantsOf (Merge out world files) = λ before name. ⊥
WantsOf (Show profile board files) = λ before name. ⊥
WantsOf (Play profile board chance files) = λ before name. ⊥

-- what it comes to after these files, likewise (`EndsCommand`)
abbrev pub ComesOf : Command → Coming Reason
ComesOf (Save profile out files) = FilesCome (saves (limit_of profile) out) files
ComesOf (Check profile files) = FilesCome (checks (limit_of profile)) files
ComesOf (New out world from name) = NewComes out world from name
ComesOf (EditFile file replica words) = RewritesCome (no_author replica) (ActMayTake replica words) (IsActed replica words) (λ reason. reason) file
ComesOf (Merge out world files) = λ before r. ⊥
ComesOf (Show profile board files) = λ before r. ⊥
ComesOf (Play profile board chance files) = λ before r. ⊥
