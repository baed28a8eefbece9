use Rattle.std.proofs.Common.{◌≡◌, ◌++◌, map, take, drop}
use Rattle.zed_code.specs.Kept.{moved}
use Rattle.zed_code.proofs.blocks.move_places.Given as goal

abbrev pub invariant-loop-place : goal.invariant-loop-place
invariant-loop-place l = l.places ≡ map (moved l.block) (take l.place-index l.initial.places) ++ drop l.place-index l.initial.places
