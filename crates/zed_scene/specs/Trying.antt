-- How the stat whose program has its turn moves.
use Rattle.std.specs.Prelude.{ℕ, pos, Bool, true, false, ◌&&◌, ◌==◌, if◌then◌else◌, Option, Some, None}
use Rattle.std.specs.Ordering.{int_eq}
use Rattle.zed_types.specs.declared.tile.Place.{Place}
use Rattle.zed_scene.specs.declared.step.Step.{Step}
use Rattle.zed_scene.specs.Moving.{is_pushable, is_walkable, pushed, pushed_onto, shift}
use Rattle.zed_scene.specs.Places.{ahead}
use Rattle.zed_scene.specs.Scene.{Scene, element_at}

-- the stat of a number moves to a place; without a number nothing moves
abbrev pub shift_at : Option ℕ → Place → Scene → Scene
shift_at None to s = s
shift_at (Some i) to s = shift i to s

-- the running stat moves to the next place if it may
abbrev pub walk_on : Place → Scene → Bool × Scene
walk_on to s = if is_walkable (element_at s to) then (true, shift_at s.running to s) else (false, s)

-- what can't be walked on is pushed
abbrev pub way_made : Place → Step → Scene → Scene
way_made to d s = if is_walkable (element_at s to) then s else pushed to d s

-- whether the running stat gets to the place ahead, pushing what is there; off the table it doesn't
abbrev pub moved_to : Step → Option Place → Scene → Bool × Scene
moved_to d None s = (false, s)
moved_to d (Some to) s = walk_on to (way_made to d s)

-- whether a step leads nowhere
abbrev pub is_nowhere : Step → Bool
is_nowhere d = int_eq d.x (pos 0) && int_eq d.y (pos 0)

-- a step is tried: whether it was done, and the board after it
unfoldable pub try_move : Place → Step → Scene → Bool × Scene
try_move from d s = if is_nowhere d then (true, s) else moved_to d (ahead from d) s

-- what is pushed goes on to the next place, once what is there, if anything, was pushed itself
abbrev pub push_rule : Place → Step → Scene → Scene
push_rule p d s =
    if is_pushable (element_at s p) d then
    elim (ahead p d) [ None ↦ s | Some n ↦ pushed_onto p n (if element_at s n == 0 then s else pushed n d s) ]
    else s
