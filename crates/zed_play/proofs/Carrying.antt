-- What a player has on the next board.
use Rattle.std.proofs.Common.{◌≡◌, ◌∙◌, ◌==◌, ℕ, if◌then◌else◌, slice_get, Option, Some, None, refl, sym, ap, subst}
use Rattle.zed_types.specs.declared.property.Side.{Side}
use Rattle.zed_types.specs.declared.tile.Place.{Place}
use Rattle.zed_world.specs.declared.board.BoardData.{BoardData}
use Rattle.zed_world.specs.Contents.{Contents}
use Rattle.zed_scene.specs.declared.stat.Stat.{Stat}
use Rattle.zed_scene.specs.declared.step.Step.{Step}
use Rattle.zed_scene.specs.Moving.{is_walkable, shift, shifted}
use Rattle.zed_scene.specs.Scene.{Scene, element_at, tile_at}
use Rattle.zed_play.specs.declared.entering.Way.{Way}
use Rattle.zed_play.specs.declared.entering.Way.TheVariants.{Edge, Passage}
use Rattle.zed_play.specs.declared.game.Game.{Game}
use Rattle.zed_play.specs.Entering.{arrives, bared, beyond, brought, comes_by, comes_onto, comes_through, entered, entered_on, game_on, goes_on, last_passage, met, scene_on}
use Rattle.zed_play.specs.Game.{with_scene}
use Rattle.zed_play.specs.Laws.{HasTheSame}
use Rattle.zed_play.specs.Opening.{bounds_of}
use Rattle.zed_play.specs.Pieces.{piece_of}
use Rattle.zed_play.specs.Player.{step_of}
use Rattle.zed_play.specs.Playtest.{Playtest}
use Rattle.zed_play.specs.Touch.{touched}

-- one board has the counters and flags of another
abbrev pub Keeps : Scene → Scene → Type 0
Keeps t s = (t.counters ≡ s.counters) × (t.flags ≡ s.flags)

shifted_keeps : (o : Option Stat) (n : Place) (s : Scene) → Keeps (shifted 0 n o s) s
shifted_keeps None n s = (refl, refl)
shifted_keeps (Some a) n s = (refl, refl)

bared_keeps : (o : Option Stat) (s : Scene) → Keeps (bared o s) s
bared_keeps None s = (refl, refl)
bared_keeps (Some a) s = (refl, refl)

brought_keeps : (o : Option Place) (s : Scene) → Keeps (brought o s) s
brought_keeps None s = (refl, refl)
brought_keeps (Some n) s = shifted_keeps (slice_get s.stats 0) n s

through_keeps : (colour : ℕ) (s : Scene) → Keeps (comes_through colour s) s
through_keeps colour s =
    let first = bared_keeps (slice_get s.stats 0) s in
    let behind = brought_keeps (last_passage colour s.tiles) (bared (slice_get s.stats 0) s) in
    (behind.0 ∙ first.0, behind.1 ∙ first.1)

-- ---- passages

through : (o : Option BoardData) (colour : ℕ) (p q : Playtest) → entered_on (Passage colour) o p ≡ Some q → HasTheSame q p
through None colour p q e = absurd (cc)
through (Some b) colour p q e =
    let g = with_scene (comes_through colour (scene_on b p.game.scene)) (game_on b p.game) in
    let is : goes_on (bounds_of b.properties) g p ≡ q = cc in
    let k = through_keeps colour (scene_on b p.game.scene) in
    subst (λ x. HasTheSame x p) is (k.0, k.1, refl, refl, refl)

pub passages_take_all : (w : Contents) (n colour : ℕ) (p q : Playtest) → entered w n (Passage colour) p ≡ Some q → HasTheSame q p
passages_take_all w n colour p q e = through (slice_get w.boards n) colour p q e

-- ---- edges

met_nothing : (n : Place) (d : Step) (g : Game) → element_at g.scene n ≡ 0 → met n d g ≡ g
unfolding piece_of touched
met_nothing n d g nothing = ap (λ e. touched (piece_of e) (tile_at g.scene.tiles n) n d g) nothing

onto_nothing : (n : Place) (g : Game) → element_at g.scene n ≡ 0 → comes_onto n g ≡ Some (with_scene (shift 0 n g.scene) g)
unfolding is_walkable
onto_nothing n g nothing =
    ap (λ e. if e == 4 then Some g else if is_walkable e then Some (with_scene (shift 0 n g.scene) g) else None) nothing

over : (b : BoardData) (side : Side) (from : Place) (p q : Playtest) → (tile_at b.tiles (beyond side from)).element ≡ 0
    → entered_on (Edge side from) (Some b) p ≡ Some q
    → HasTheSame q p
over b side from p q nothing e =
    let n = beyond side from in
    let g = game_on b p.game in
    let h = with_scene (shift 0 n g.scene) g in
    let comes : comes_by (Edge side from) g ≡ Some h =
    ap (comes_onto n) (met_nothing n (step_of side) g nothing) ∙ onto_nothing n g nothing in
    let there : Some (goes_on (bounds_of b.properties) h p) ≡ Some q =
    sym (ap (λ o. Some (arrives (bounds_of b.properties) o p)) comes) ∙ e in
    let is : goes_on (bounds_of b.properties) h p ≡ q = cc in
    let k = shifted_keeps (slice_get g.scene.stats 0) n g.scene in
    subst (λ x. HasTheSame x p) is (k.0, k.1, refl, refl, refl)

pub edges_take_all : (w : Contents) (n : ℕ) (b : BoardData) (side : Side) (from : Place) (p q : Playtest) → slice_get w.boards n ≡ Some b
    → (tile_at b.tiles (beyond side from)).element ≡ 0 → entered w n (Edge side from) p ≡ Some q
    → HasTheSame q p
edges_take_all w n b side from p q there nothing e =
    over b side from p q nothing (sym (ap (λ o. entered_on (Edge side from) o p) there) ∙ e)
