-- The steps by which a file takes its place.
use Rattle.std.specs.Prelude.{◌≡◌, ℕ, Bool, true, false, List, [], ◌∷◌, ◌++◌, map, Option, option_map}
use Rattle.zed_system.specs.declared.folder.Old.{Old}
use Rattle.zed_system.specs.declared.folder.Old.TheVariants.{Dropped, Kept}

-- What a folder is asked for.
pub data Step : Type 0 where
  Create : Step
  Fill : (bytes : List ℕ) → Step
  Sync : Step
  Keep : Step
  Rename : Step
  Remove : Step
  SyncPlace : Step

-- A step that was taken, and whether it failed.
pub record Taken : Type 0 where
  pub step : Step
  pub failed : Bool

-- A step that was taken, which failed or not.
abbrev pub taken : Step → Bool → Taken
taken step failed = record { step = step; failed = failed }

-- Each of these steps, none of which failed.
abbrev pub done : List Step → List Taken
done = map (λ step. taken step false)

-- The steps that give the new file its bytes, on the disk.
abbrev pub filling : List ℕ → List Step
filling bytes = Fill bytes ∷ Sync ∷ []

-- The steps that make the new file with all its bytes, on the disk.
abbrev pub making : List ℕ → List Step
making bytes = Create ∷ filling bytes

-- The steps that put it into the place, in front of which the old file may be kept.
abbrev pub taking : Old → List Step
taking Dropped = Rename ∷ []
taking Kept = Keep ∷ Rename ∷ []

-- All steps up to the one that puts the new file into the place.
abbrev pub placing : Old → List ℕ → List Step
placing old bytes = making bytes ++ taking old

-- A folder that tells its steps took these, one after the other, and no others.
abbrev pub Went : List Taken → Option (List Taken) → Option (List Taken) → Type 0
Went steps before after = after ≡ option_map (λ all. all ++ steps) before

-- It took these steps up to the first that failed, and behind that one only those others, of which none failed.
abbrev pub StopsIn : List Step → List Step → Option (List Taken) → Option (List Taken) → Type 0
StopsIn steps behind before after =
    (front : List Step) × (last : Step) × (rest : List Step) × (steps ≡ front ++ last ∷ rest)
    × Went (done front ++ taken last true ∷ done behind) before after
