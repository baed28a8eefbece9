-- The picture of a playtest before its first step.
use Rattle.std.proofs.Common.{◌≡◌, ◌+◌, ℕ, Bool, true, false, if◌then◌else◌, List, [], ◌∷◌, Option, Some, refl, ap}
use Rattle.std.specs.Prelude.{find}
use Rattle.zed_types.specs.declared.tile.Place.{Place}
use Rattle.zed_world.specs.declared.board.BoardData.{BoardData}
use Rattle.zed_world.specs.declared.header.Header.{Header}
use Rattle.zed_world.specs.declared.stat.StatData.{StatData}
use Rattle.zed_scene.specs.declared.stat.Stat.{Stat}
use Rattle.zed_scene.specs.Scene.{same_place, tile_at}
use Rattle.zed_play.specs.Opening.{play_of, stat_from, stats_from}
use Rattle.zed_look.specs.Drawing.{in_play, place_of, played_at, played_pose, pose_in, pose_of, scene_at, scene_pose, shown_at, shown_of, stands_at}

first_of : (b : Bool) (a : Stat) (s : StatData) (r : Option Stat) (t : Option StatData) → played_pose a ≡ pose_of s
    → scene_pose r ≡ pose_in t
    → scene_pose (if b then Some a else r) ≡ pose_in (if b then Some s else t)
first_of true a s r t same rest = same
first_of false a s r t same rest = rest

-- the lowest stat at a place looks as it does in the world
same_pose : (p : Place) (i : ℕ) (ss : List StatData)
    → scene_pose (find (λ a. same_place a.place p) (stats_from i ss)) ≡ pose_in (find (stands_at p) ss)
same_pose p i [] = refl
same_pose p i (s ∷ ss) =
    first_of (stands_at p s) (stat_from i s) s (find (λ a. same_place a.place p) (stats_from (i + 1) ss)) (find (stands_at p) ss) refl (same_pose p (i + 1) ss)

pub looks_like : (h : Header) (b : BoardData) (tick row column : ℕ)
    → played_at (play_of h b tick) row column ≡ in_play (tile_at b.tiles (place_of column row)) (shown_at b tick row column)
unfolding scene_at shown_at
looks_like h b tick row column =
    let p = place_of column row in
    ap (λ pose. in_play (tile_at b.tiles p) (shown_of b.tiles pose tick p)) (same_pose p 0 b.stats)
