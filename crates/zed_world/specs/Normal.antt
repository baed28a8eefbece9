-- Which worlds can stand in a file: those that some file spells. The parts of each fit their fields.
use Rattle.std.specs.Prelude.{◌≡◌, ℕ, ℤ, ◌<◌, ◌≤◌, ◌^◌, true, List, [], ◌∷◌, ◌++◌, length, slice_get, Some, IfSome, Ok, FitsSigned}
use Rattle.std.specs.List.{AllByRecursion}
use Rattle.std.specs.Int.{w16}
use Rattle.zed_types.specs.Limits.{largest_body, table_tiles}
use Rattle.zed_types.specs.declared.tile.Tile.{Tile}
use Rattle.zed_world.specs.declared.header.Header.{Header}
use Rattle.zed_world.specs.declared.stat.Code.{Code}
use Rattle.zed_world.specs.declared.stat.Code.TheVariants as code
use Rattle.zed_world.specs.declared.stat.StatData.{StatData}
use Rattle.zed_world.specs.declared.board.Properties.{Properties}
use Rattle.zed_world.specs.declared.board.BoardData.{BoardData}
use Rattle.zed_world.specs.Contents.{Contents}
use Rattle.zed_world.specs.Offsets.{is_passage_at}
use Rattle.zed_world.specs.Reading.{world_at}
use Rattle.zed_world.specs.Writing.{code_length, body_text}

-- a number of 16 bits with a sign
abbrev pub IsInteger : ℤ → Type 0
IsInteger z = FitsSigned w16 z

-- a text that fits in a field of so many bytes
abbrev pub IsAtMost : ℕ → List ℕ → Type 0
IsAtMost field text = length text ≤ field

-- a header, in a world of so many boards
pub record IsNormalHeader (boards : ℕ) (h : Header) : Type 0 where
  pub ammo : IsInteger h.ammo
  pub gems : IsInteger h.gems
  pub keys : length h.keys ≡ 7
  pub health : IsInteger h.health
  pub current_board : h.current_board < boards
  pub torches : IsInteger h.torches
  pub torch_ticks : IsInteger h.torch_ticks
  pub energizer_ticks : IsInteger h.energizer_ticks
  pub score : IsInteger h.score
  pub name : IsAtMost 20 h.name
  pub flags : length h.flags ≡ 10
  pub each_flag : AllByRecursion (IsAtMost 20) h.flags
  pub time_passed : IsInteger h.time_passed
  pub hundredths : IsInteger h.hundredths

-- the properties of a board, in a world of so many boards
pub record IsNormalProperties (boards : ℕ) (p : Properties) : Type 0 where
  pub north : p.north < boards
  pub south : p.south < boards
  pub west : p.west < boards
  pub east : p.east < boards
  pub message : IsAtMost 58 p.message
  pub time_limit : IsInteger p.time_limit

-- some bytes of one's own, or those of a lower stat past the first that has some of its own
abbrev pub IsNormalCode : List StatData → Code → Type 0
IsNormalCode lower code.None = Unit {0}
IsNormalCode lower (code.Own bytes) = (0 < length bytes) × (length bytes < 2 ^ 15)
IsNormalCode lower (code.Same n) =
    (0 < n) × (owner : StatData) × (bytes : List ℕ) × (slice_get lower n ≡ Some owner) × (owner.code ≡ code.Own bytes)

-- a stat above these lower ones, of so many
pub record IsNormalStat (boards stats : ℕ) (tiles : List Tile) (lower : List StatData) (s : StatData) : Type 0 where
  pub step_x : IsInteger s.step_x
  pub step_y : IsInteger s.step_y
  pub cycle : IsInteger s.cycle
  pub passage : is_passage_at tiles s.x s.y ≡ true → s.p3 < boards
  pub follower : IfSome s.follower (λ n. n < stats)
  pub leader : IfSome s.leader (λ n. n < stats)
  pub position : IsInteger s.position
  pub code : IsNormalCode lower s.code

-- stats above these lower ones
abbrev pub AreNormalStats : ℕ → ℕ → List Tile → List StatData → List StatData → Type 0
AreNormalStats boards stats tiles lower [] = Unit {0}
AreNormalStats boards stats tiles lower (s ∷ ss) =
    IsNormalStat boards stats tiles lower s × AreNormalStats boards stats tiles (lower ++ s ∷ []) ss

-- a board, in a world of so many boards
pub record IsNormalBoard (boards : ℕ) (b : BoardData) : Type 0 where
  pub name : IsAtMost 50 b.name
  pub tiles : length b.tiles ≡ table_tiles
  pub properties : IsNormalProperties boards b.properties
  pub some : 1 ≤ length b.stats
  pub few : length b.stats ≤ 151
  pub stats : AreNormalStats boards (length b.stats) b.tiles [] b.stats

-- each part of a world fits its field; that all parts of a board fit in one body is no matter here
pub record HasNormalParts (w : Contents) : Type 0 where
  pub some : 1 ≤ length w.boards
  pub few : length w.boards ≤ 101
  pub header : IsNormalHeader (length w.boards) w.header
  pub boards : AllByRecursion (IsNormalBoard (length w.boards)) w.boards

-- some file spells this world, so all parts of each board fit in a body that may be read
pub record IsNormal (w : Contents) : Type 0 where
  pub file : List ℕ
  pub read : world_at file ≡ Ok w

-- the body that the writer makes of this board is one that may be read
abbrev pub HasShortBody : BoardData → Type 0
HasShortBody b = length (body_text b) ≤ largest_body

-- what the writer asks of a board
pub record IsWritable (b : BoardData) : Type 0 where
  pub name : IsAtMost 50 b.name
  pub message : IsAtMost 58 b.properties.message
  pub some : 1 ≤ length b.stats
  pub few : length b.stats ≤ 151
  pub programs : AllByRecursion (λ s. IsInteger (code_length s.code)) b.stats
