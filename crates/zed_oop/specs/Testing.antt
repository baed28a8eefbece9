-- Whether conditions hold.
use Rattle.std.specs.Prelude.{ℕ, ◌+◌, Bool, false, not, ◌||◌, ◌==◌, List, Option, Some, None}
use Rattle.std.specs.List.{list_any}
use Rattle.zed_types.specs.declared.tile.Place.{Place}
use Rattle.zed_types.specs.declared.tile.Tile.{Tile}
use Rattle.zed_scene.specs.declared.stat.Stat.{Stat}
use Rattle.zed_oop_syntax.specs.declared.conditions.Query.{Query}
use Rattle.zed_oop_syntax.specs.declared.conditions.Test.{Test}
use Rattle.zed_oop_syntax.specs.declared.conditions.Test.TheVariants.{Aligned, Contact, Blocked, Any, Energized, Flag}
use Rattle.zed_oop_syntax.specs.declared.heading.Heading.{Heading}
use Rattle.zed_oop_syntax.specs.declared.kinds.TileKind.{TileKind}
use Rattle.zed_scene.specs.Scene.{Scene, element_ahead}
use Rattle.zed_scene.specs.declared.step.Step.{Step}
use Rattle.zed_oop_syntax.specs.Condition.{flipped}
use Rattle.zed_oop_syntax.specs.Kind.{matches}
use Rattle.zed_oop.specs.Leading.{led}
use Rattle.zed_scene.specs.Moving.{is_walkable}
use Rattle.zed_scene.specs.Places.{ahead, apart}
use Rattle.zed_scene.specs.Seeking.{player_place}
use Rattle.zed_scene.specs.Flags.{has_flag}
use Rattle.zed_scene.specs.Words.{Drawn, ◌>>=◌}

-- whether two places are in one column or in one row
abbrev pub is_aligned : Place → Place → Bool
is_aligned a b = a.x == b.x || a.y == b.y

-- whether two places are next to each other in a column or a row
abbrev pub is_in_contact : Place → Place → Bool
is_in_contact a b = apart a.x b.x + apart a.y b.y == 1

-- whether one of these tiles is of a kind
abbrev pub is_any : TileKind → List Tile → Bool
is_any k tiles = list_any (matches k) tiles

-- whether what is ahead of a stat along a step can't be walked on; none without a step
abbrev pub is_way_blocked : Stat → Scene → Option Step → Option Bool
is_way_blocked a s None = None
is_way_blocked a s (Some d) = Some (not (is_walkable (element_ahead s (ahead a.place d))))

-- whether what is ahead can't be walked on; none where the direction is none
unfoldable pub blocked : Heading → Stat → Scene → List ℕ → Drawn (Option Bool)
blocked h a s ws = do
  d ← led h.turns h.course a s ws
  Some (is_way_blocked a s d.0, d.1)

-- whether one of these tiles is of a kind; none where the kind is none
abbrev pub any_of : List Tile → Option TileKind → Option Bool
any_of tiles None = None
any_of tiles (Some k) = Some (is_any k tiles)

-- whether a test holds, any NOT aside; none where it has a direction or a kind that there isn't
abbrev pub tested : Test → Stat → Scene → List ℕ → Drawn (Option Bool)
tested Aligned a s ws = Some (Some (is_aligned a.place (player_place s a.place)), ws)
tested Contact a s ws = Some (Some (is_in_contact a.place (player_place s a.place)), ws)
tested (Blocked h) a s ws = blocked h a s ws
tested (Any k) a s ws = Some (any_of s.tiles k, ws)
tested Energized a s ws = Some (Some false, ws)
tested (Flag w) a s ws = Some (Some (has_flag s.flags w), ws)

-- a truth, turned where it is negated; none stays none
abbrev pub negated_if : Bool → Option Bool → Option Bool
negated_if negated None = None
negated_if negated (Some truth) = Some (flipped negated truth)

-- whether a condition holds; none where it has a direction or a kind that there isn't
unfoldable pub holds : Query → Stat → Scene → List ℕ → Drawn (Option Bool)
holds q a s ws = do
  t ← tested q.test a s ws
  Some (negated_if q.negated t.0, t.1)
