-- What `merge` makes of links that hold edit files.
use Rattle.zed_op.specs.declared.op.Edit.{Edit}
use Rattle.zed_files.specs.declared.refusal.Refusal.{Refusal}
use Rattle.zed_files.specs.declared.refusal.Refusal.TheVariants.{Memory, LinkFault, TooManyTurns}
use Rattle.std.specs.Prelude.{◌≡◌, ◌≤◌, ◌<◌, ◌^◌, ◌⊎◌, ℕ, List, Option, Some, Ok, Err, Contains, length, map, option_map, take}
use Rattle.zed_op.specs.Set.{Agrees, set_of}
use Rattle.zed_editfile.specs.Stream.{AreRecords}
use Rattle.zed_link.specs.Ends.{LinkEnds}
use Rattle.zed_link.specs.Laws.{IsLong, MayFail}
use Rattle.zed_session.specs.Links.{LinkSeen}
use Rattle.zed_words.specs.Commands.{Merge, command_of}
use Rattle.zed_files.specs.Files.{joined, AreTextsOf}
use Rattle.zed_host.specs.HostContents.{HostContents}
use Rattle.zed_program.specs.Ends.{as_effect}
use Rattle.zed_program.specs.Outcome.{HasStatus}
use Rattle.zed_program.specs.Merged.{writes_joined}

-- the bytes that are left to read on a link, if it tells them
abbrev pub left_on : LinkSeen → Option (List ℕ)
left_on link = option_map (λ t. t.left) link.ends

-- the words ask to merge files of a world, and for each of these a link holds the text of a list of edits, in one of the versions; all edits agree
pub record AsksToMerge (words : List (List ℕ)) (links : List LinkSeen) (out : List ℕ) (world : ℕ) (lists : List (List Edit)) : Type 0 where
  pub files : List (List ℕ)
  pub asks : command_of words ≡ Some (Merge out world files)
  pub enough : length files ≤ length links
  pub held : AreTextsOf world lists (map left_on (take (length files) links))
  pub is_number : world < 2 ^ 64
  pub records : AreRecords (joined lists)
  pub agree : Agrees (joined lists)

-- the ends of one of these links are so
abbrev pub HasLink : (LinkEnds → Type 0) → List LinkSeen → Type 0
HasLink P links = (link : LinkSeen) × (t : LinkEnds) × Contains links link × (link.ends ≡ Some t) × P t

-- memory ran out, a link failed that may, or one whose file is long took too many reads
abbrev pub IsOfLinks : List LinkSeen → Refusal → Type 0
IsOfLinks links e = (e ≡ Memory) ⊎ ((e ≡ LinkFault) × HasLink MayFail links) ⊎ ((e ≡ TooManyTurns) × HasLink IsLong links)

-- the edit file of the set of all edits of these lists is written; or memory ran out, a link of these files failed that may, or one whose file
-- is long took too many reads
abbrev pub MergesSet : List ℕ → HostContents → ℕ → List LinkSeen → List (List Edit) → ℕ → Option HostContents → Type 0
MergesSet out t world links lists status new =
    HasStatus (as_effect (writes_joined out world (Ok (set_of (joined lists))))) t status new
    ⊎ ((e : Refusal) × IsOfLinks (take (length lists) links) e × HasStatus (Err e) t status new)
