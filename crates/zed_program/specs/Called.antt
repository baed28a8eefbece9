-- Which devices a command calls.
use Rattle.zed_op.specs.declared.op.Edit.{Edit}
use Rattle.zed_files.specs.declared.refusal.Refusal.{Refusal}
use Rattle.std.specs.Prelude.{◌≡◌, ◌<◌, ◌⊎◌, ℕ, Bool, true, false, List, Option, Some, Result, length}
use Rattle.zed_session.specs.Devices.{Foretold}
use Rattle.zed_session.specs.Links.{LinkSeen}
use Rattle.zed_program.specs.Merged.{IsMerged}
use Rattle.zed_host.specs.Calls.{Call}
use Rattle.zed_program.specs.Asked.{Complains}
use Rattle.cmd_show.specs.Shown.{IsOfPlay}
use Rattle.zed_words.specs.Commands.{Command, Merge, Show, Play}

-- whether words ask for a command that calls links: to merge
abbrev pub calls_links : Option Command → Bool
calls_links (Some (Merge out world files)) = true
calls_links command = false

-- a command asks to merge more files than there are links
abbrev pub LacksLinks : Command → ℕ → Type 0
LacksLinks (Merge out world files) count = count < length files
LacksLinks command count = ⊥

-- the first links of a merge are pulled over, one after the other, up to the first refusal, and the others are as they were
abbrev pub PullsLinks : Option Command → List LinkSeen → List LinkSeen → Type 0
PullsLinks (Some (Merge out world files)) links after = (r : Result (List Edit) Refusal) × IsMerged world (length files) links after r
PullsLinks command links after = Unit {0}

-- whether they ask for one that calls the screen: to show or to play
abbrev pub calls_screen : Option Command → Bool
calls_screen (Some (Show profile board files)) = true
calls_screen (Some (Play profile board chance files)) = true
calls_screen command = false

-- whether they ask for one that calls the source of keys: to play
abbrev pub calls_keys : Option Command → Bool
calls_keys (Some (Play profile board chance files)) = true
calls_keys command = false

-- what became of the screen where words ask to show: with status 0 it was called once; else it failed at that, or is as it was
abbrev pub ShowsOnce : Option Command → ℕ → Option (List Bool) → Option (List Bool) → Type 0 → Type 0
ShowsOnce (Some (Show profile board files)) status old new kept =
    ((status ≡ 0) × Foretold false old new) ⊎ ((status ≡ 1) × (Foretold true old new ⊎ kept))
ShowsOnce command status old new kept = Unit {0}

-- what words, with this status, call of links, of a screen that foretells this, and of keys; of each it is told what is so where it is as it was.
-- `merge` pulls over its links, unless memory was lacking before, and no other command calls one; `show` calls the screen once, and only `play`
-- calls it too; and no other command asks for a key
pub record CallsDevices (command : Option Command) (status : ℕ) (before after : List LinkSeen) (old new : Option (List Bool)) (links_kept screen_kept keys_kept : Type 0) : Type 0 where
  pub pulls : PullsLinks command before after ⊎ ((status ≡ 1) × links_kept)
  pub links : calls_links command ≡ false → links_kept
  pub shows : ShowsOnce command status old new screen_kept
  pub screen : calls_screen command ≡ false → screen_kept
  pub keys : calls_keys command ≡ false → keys_kept

-- nothing was asked of the screen and of the source of keys, if this is what is so then; or with status 0 a command was carried out; or with status 1
-- a refusal is told that may come of a playtest that was begun
abbrev pub IdleUnlessPlayed : {H : Type 0} → (H → Call → H → Type 0) → ℕ → H → Type 0 → Type 0
IdleUnlessPlayed called status host kept =
    kept
    ⊎ (status ≡ 0)
    ⊎ ((status ≡ 1) × ((e : Refusal) × (mid : _) × Complains called e mid host × IsOfPlay called e mid))
