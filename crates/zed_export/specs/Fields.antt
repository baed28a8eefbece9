-- The numbers of a world that stand in fields of sixteen bits, and how things are numbered by lists of names.
use Rattle.std.specs.Prelude.{ℕ, Bool, if◌then◌else◌, List, length, map, position, unwrap_or, Option, Some, None, ◌≡◌, slice_get, IsSomeAnd}
use Rattle.std.specs.List.{AllByRecursion}
use Rattle.zed_types.specs.declared.names.Name.{Name}
use Rattle.zed_types.specs.declared.names.BoardId.{BoardId}
use Rattle.zed_types.specs.declared.names.StatId.{StatId}
use Rattle.zed_types.specs.declared.names.TextId.{TextId}
use Rattle.zed_types.specs.declared.stat_field.ThirdParameter.{ThirdParameter}
use Rattle.zed_types.specs.declared.stat_field.ThirdParameter.TheVariants as third
use Rattle.zed_types.specs.Names.{same_name}
use Rattle.zed_world.specs.Fields.{board_number}
use Rattle.zed_world.specs.Normal.{IsInteger}
use Rattle.zed_world.specs.declared.header.Header.{Header}
use Rattle.zed_world.specs.declared.board.BoardData.{BoardData}
use Rattle.zed_world.specs.declared.stat.StatData.{StatData}
use Rattle.zed_edit.specs.declared.plain.Board.{Board}
use Rattle.zed_edit.specs.declared.plain.Plain.{Plain}
use Rattle.zed_edit.specs.Document.{text}
use Rattle.zed_edit.specs.Numbers.{alive_boards, alive_stats}
use Rattle.zed_export.specs.World.{user_of, code_with}

-- each number of a header fits in its field
pub record FitsHeader (h : Header) : Type 0 where
  pub ammo : IsInteger h.ammo
  pub gems : IsInteger h.gems
  pub health : IsInteger h.health
  pub torches : IsInteger h.torches
  pub torch_ticks : IsInteger h.torch_ticks
  pub energizer_ticks : IsInteger h.energizer_ticks
  pub score : IsInteger h.score
  pub time_passed : IsInteger h.time_passed
  pub hundredths : IsInteger h.hundredths

-- each number of a stat does
pub record FitsStat (s : StatData) : Type 0 where
  pub step_x : IsInteger s.step_x
  pub step_y : IsInteger s.step_y
  pub cycle : IsInteger s.cycle
  pub position : IsInteger s.position

-- each number of a board does
pub record FitsBoard (b : BoardData) : Type 0 where
  pub time_limit : IsInteger b.properties.time_limit
  pub stats : AllByRecursion FitsStat b.stats

-- the names of the boards that aren't removed, by number
abbrev pub board_names : Plain → List Name
board_names p = map (λ b. b.id.name) (alive_boards p)

-- the names of the stats of a board that aren't removed, by number
abbrev pub stat_names : Board → List Name
stat_names b = map (λ s. s.id.name) (alive_stats b)

-- the place of a name among these
abbrev pub place_among : List Name → Name → Option ℕ
place_among names name = position (λ x. same_name x name) names

-- the place of a board among these, or 0
abbrev pub place_or_0 : List Name → BoardId → ℕ
place_or_0 names b = unwrap_or (place_among names b.name) 0

-- the place of the board behind an exit among these; 0 for no exit or for a board that isn't there
abbrev pub exit_place : List Name → Option BoardId → ℕ
exit_place names None = 0
exit_place names (Some b) = place_or_0 names b

-- a third parameter, in a world whose boards have these names
abbrev pub place_parameter : List Name → Bool → ThirdParameter → ℕ
place_parameter names on_passage (third.Board b) = place_or_0 names b
place_parameter names on_passage (third.Byte n) = if on_passage then board_number (length names) n else n

-- the place of a stat among these
abbrev pub stat_place : List Name → Option StatId → Option ℕ
stat_place names None = None
stat_place names (Some s) = place_among names s.name

-- of stats with these texts, the lowest past the player that uses a text has its bytes for a program
abbrev pub IsOwned : Plain → List (Option TextId) → List StatData → Type 0
IsOwned p lower done =
    (t : TextId) (n : ℕ) → user_of t lower ≡ Some n → IsSomeAnd (slice_get done n) (λ s. s.code ≡ code_with None (text p t))
