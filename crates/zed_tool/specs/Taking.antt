-- What `take` makes of files that spell lists of edits.
use Rattle.zed_op.specs.declared.op.Edit.{Edit}
use Rattle.zed_take.specs.declared.error.TakeError.{TakeError}
use Rattle.std.specs.Prelude.{◌≡◌, ◌≢◌, ◌⊎◌, ◌<◌, ◌^◌, ◌++◌, ℕ, false, List, Option, Some, Ok, Err}
use Rattle.std.specs.Str.{bytes_eq}
use Rattle.clap.specs.Walk.{Text}
use Rattle.zed_op.specs.Set.{Agrees, union}
use Rattle.zed_world.specs.Contents.{Contents}
use Rattle.zed_world.specs.Reading.{world_at}
use Rattle.zed_editfile.specs.Stream.{AreRecords}
use Rattle.zed_files.specs.Files.{IsTextIn}
use Rattle.zed_host.specs.HostContents.{HostContents, file_in}
use Rattle.zed_take.specs.Taken.{AreTaken, next_stamp}
use Rattle.cmd_take.specs.Base.{base_word}
use Rattle.cmd_take.specs.Stops.{take_stop}
use Rattle.cmd_take.specs.Taking.{IsNotTaken, given, took}
use Rattle.zed_tool_words.specs.declared.asked.Forcing.{Forcing}
use Rattle.zed_tool_words.specs.Commands.{Take, command_of}
use Rattle.zed_tool.specs.Answers.{drawing_failure, failure_as, memory}
use Rattle.zed_tool.specs.Calm.{HasStatus, left_by}
use Rattle.zed_tool.specs.Commands.{forcing_of}

-- the words ask an author to take what was drawn; FILE spells these edits of a world, and the base, which is another file, those, each in one
-- of the versions; all of them agree; and WORLD is read as this world
pub record AsksToTake (words : List Text) (t : HostContents) (name file : Text) (forcing : Forcing) (replica number : ℕ) (own based : List Edit) (shown : Contents) : Type 0 where
  pub base : Option Text
  pub world : Text
  pub bytes : List ℕ
  pub asks : command_of words ≡ Some (Take base forcing file replica world)
  pub is_base : name ≡ base_word base world
  pub other : bytes_eq name file ≡ false
  pub is_author : replica ≢ 0
  pub spelled : IsTextIn number own (file_in t file)
  pub base_spelled : IsTextIn number based (file_in t name)
  pub there : file_in t world ≡ Some bytes
  pub reads : world_at bytes ≡ Ok shown
  pub is_number : number < 2 ^ 64
  pub records : AreRecords (own ++ based)
  pub agree : Agrees (own ++ based)

-- edits are taken that lead from what the set of the base shows to this world, with stamps behind those of both sets: the base's file gets its
-- set with them, and FILE both sets with them; or too many boards go, which is refused. Or none are found, which is told; or memory runs out
abbrev pub TakesSet : Text → Text → HostContents → Forcing → ℕ → ℕ → List Edit → List Edit → Contents → ℕ → Option HostContents → Type 0
TakesSet name file t forcing replica number own based shown status new =
    ((taken : List Edit) × AreTaken based shown (next_stamp (union own based) replica) taken
    × HasStatus (left_by (drawing_failure file) t (took name file (forcing_of forcing) (given (number, own) (Some based) shown) (union own based) taken)) t status new)
    ⊎ ((e : TakeError) × IsNotTaken (union own based) based shown e × HasStatus (Err (failure_as (drawing_failure file) (take_stop e))) t status new)
    ⊎ HasStatus (Err memory) t status new
