-- What a search for a live byte of a text tells.
use Rattle.std.proofs.Common.{◌≡◌, ◌<◌, ℕ, List, map, slice_get, Option, Some, ap, ◌∙◌, sym}
use Rattle.std.specs.List.{AllByRecursion}
use Rattle.zed_types.specs.Text.{alive_bytes}
use Rattle.zed_code.specs.declared.run.Run.{Run}
use Rattle.zed_code.specs.declared.block.Block.{Block}
use Rattle.zed_code.specs.Blocks.{runs_of}
use Rattle.zed_code.specs.Cutting.{piece_in}
use Rattle.zed_code.specs.Kept.{IsRun}
use Rattle.zed_code.specs.Pieces.{Shown}
use Rattle.zed_code.specs.Reading.{live_at}
use Rattle.zed_code.specs.Text.{elements, alive_names}
use Rattle.zed_code.proofs.PutBytes.{shown}
use Rattle.zed_code.proofs.Alive.{name-is, name_at, byte-is, value_at, live_at-is}

-- the blocks that were searched are those of the text that contracts see
module _ (store : List ℕ) (bs cs : List Block) (s t : Shown) (k : ℕ) (o : Option (Run × ℕ)) (each : AllByRecursion (IsRun store) (runs_of bs)) (e : s.cutting ≡ map (piece_in store) (runs_of bs)) (f : s ≡ t) (same : cs ≡ bs) (told : o ≡ live_at (runs_of cs) k) where
  is : live_at (runs_of bs) k ≡ o
  is = sym (told ∙ ap (λ xs. live_at (runs_of xs) k) same)

  pub run-told : (r : Run) (i : ℕ) → o ≡ Some (r, i) → IsRun store r × (i < r.len)
  run-told r i g = live_at-is (IsRun store) (runs_of bs) k r i each (is ∙ g)

  pub name-told : slice_get (alive_names (elements t)) k ≡ name_at o
  name-told = ap (λ xs. slice_get (alive_names xs) k) (shown store (runs_of bs) s t e f) ∙ name-is store (runs_of bs) each k ∙ ap name_at is

  pub byte-told : slice_get (alive_bytes (elements t)) k ≡ value_at store o
  byte-told =
      ap (λ xs. slice_get (alive_bytes xs) k) (shown store (runs_of bs) s t e f) ∙ byte-is store (runs_of bs) each k
      ∙ ap (value_at store) is
