-- The picture of a playtest before its first step.
use Rattle.std.proofs.Common.{◌≡◌, ◌+◌, ◌%◌, ◌/◌, ℕ, Bool, true, false, if◌then◌else◌, List, [], ◌∷◌, Option, Some, refl, ap}
use Rattle.std.specs.Prelude.{find}
use Rattle.zed_types.specs.declared.tile.Place.{Place}
use Rattle.zed_world.specs.declared.board.BoardData.{BoardData}
use Rattle.zed_world.specs.declared.header.Header.{Header}
use Rattle.zed_world.specs.declared.stat.StatData.{StatData}
use Rattle.zed_scene.specs.declared.stat.Stat.{Stat}
use Rattle.zed_scene.specs.Scene.{same_place, tile_at}
use Rattle.zed_play.specs.Opening.{play_of, scene_of, stat_from, stats_from}
use Rattle.zed_screen.specs.declared.frame.Cell.{Cell}
use Rattle.zed_screen.specs.Panel.{is_on_panel, play_cell}
use Rattle.zed_screen.specs.Picture.{data_cell, data_p1, p1_of, place_of, scene_cell, shown_in, stands_at}

first_of : (b : Bool) (a : Stat) (s : StatData) (r : Option Stat) (t : Option StatData) → a.p1 ≡ s.p1 → p1_of r ≡ data_p1 t
    → p1_of (if b then Some a else r) ≡ data_p1 (if b then Some s else t)
first_of true a s r t same rest = ap (λ n. Some n) same
first_of false a s r t same rest = rest

-- the lowest stat at a place has the first parameter that it has in the world
same_p1 : (p : Place) (i : ℕ) (ss : List StatData)
    → p1_of (find (λ a. same_place a.place p) (stats_from i ss)) ≡ data_p1 (find (stands_at p) ss)
same_p1 p i [] = refl
same_p1 p i (s ∷ ss) =
    first_of (stands_at p s) (stat_from i s) s (find (λ a. same_place a.place p) (stats_from (i + 1) ss)) (find (stands_at p) ss) refl (same_p1 p (i + 1) ss)

scene_shows : (h : Header) (b : BoardData) (k : ℕ) → scene_cell (scene_of h b) k ≡ data_cell b k
unfolding scene_cell data_cell
scene_shows h b k =
    ap (λ p1. shown_in (k % 80) (tile_at b.tiles (place_of (k % 80) (k / 80))) p1) (same_p1 (place_of (k % 80) (k / 80)) 0 b.stats)

unless : (c : Bool) (x y z : Cell) → c ≡ false → y ≡ z → (if c then x else y) ≡ z
unless true x y z e h = absurd (cc)
unless false x y z e h = h

pub playtest_shows : (h : Header) (b : BoardData) (tick k : ℕ) → is_on_panel (k % 80) (k / 80) ≡ false
    → play_cell (play_of h b tick) k ≡ data_cell b k
unfolding play_cell
playtest_shows h b tick k off =
    unless (is_on_panel (k % 80) (k / 80)) _ (scene_cell (scene_of h b) k) (data_cell b k) off (scene_shows h b k)
