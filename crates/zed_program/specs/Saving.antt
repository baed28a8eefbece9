-- What `save` makes of files that spell lists of edits.
use Rattle.zed_op.specs.declared.op.Edit.{Edit}
use Rattle.zed_files.specs.declared.refusal.Refusal.TheVariants.{Memory}
use Rattle.zed_words.specs.declared.profile.Profile.{Profile}
use Rattle.std.specs.Prelude.{◌≡◌, ◌⊎◌, ℕ, ◌<◌, ◌^◌, List, Option, Some, Ok, Err, length, map}
use Rattle.zed_world.specs.Reading.{world_at}
use Rattle.zed_op.specs.Set.{Agrees, set_of}
use Rattle.zed_edit.specs.Replay.{replay}
use Rattle.zed_editfile.specs.Stream.{AreRecords}
use Rattle.zed_export.specs.World.{world_of}
use Rattle.zed_files.specs.Files.{joined, AreTextsOf}
use Rattle.zed_program.specs.Limit.{limit_of}
use Rattle.zed_files.specs.Lines.{bytes_line}
use Rattle.zed_program.specs.Outcome.{HasStatus}
use Rattle.zed_driver.specs.Effects.{after as left_by, writes}
use Rattle.zed_files.specs.Refusals.{refused_as}
use Rattle.cmd_save.specs.Made.{saves}
use Rattle.zed_host.specs.HostContents.{HostContents, file_in}
use Rattle.zed_words.specs.Commands.{Save, command_of}

-- the words ask to save files in a profile, and these spell lists of edits of one world, each in one of the versions; all edits agree
pub record AsksToSave (words : List (List ℕ)) (t : HostContents) (profile : Profile) (out : List ℕ) (world : ℕ) (lists : List (List Edit)) : Type 0 where
  pub files : List (List ℕ)
  pub asks : command_of words ≡ Some (Save profile out files)
  pub spelled : AreTextsOf world lists (map (file_in t) files)
  pub is_number : world < 2 ^ 64
  pub records : AreRecords (joined lists)
  pub agree : Agrees (joined lists)

-- the file of the set of these edits is written, or the first limit told that it is over in this profile; or memory ran out
abbrev pub SavesSet : Profile → List ℕ → HostContents → List Edit → ℕ → Option HostContents → Type 0
SavesSet profile out t es status new =
    HasStatus (refused_as (saves (limit_of profile) out (set_of es))) t status new ⊎ HasStatus (Err Memory) t status new

-- with status 0 a file was written that is read as the exported world of the set of these edits
abbrev pub SavedReadsBack : List ℕ → HostContents → List Edit → ℕ → Option HostContents → Type 0
SavedReadsBack out t es status new = status ≡ 0
    → (bytes : List ℕ) × (new ≡ Some (left_by (writes out bytes (bytes_line (length bytes))) t))
    × (world_at bytes ≡ Ok (world_of (replay (set_of es))))
