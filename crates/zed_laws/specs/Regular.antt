-- What holds of every document that edits that fit make: but for the limits on what a world file can hold, it can stand in one.
use Rattle.std.specs.Prelude.{◌≡◌, ◌≤◌, ℕ, true, false, List, [], ◌∷◌, length}
use Rattle.std.specs.List.{AllByRecursion}
use Rattle.zed_types.specs.Limits.{table_tiles}
use Rattle.zed_types.specs.Names.{same_board}
use Rattle.zed_edit.specs.declared.plain.Header.{Header}
use Rattle.zed_edit.specs.declared.plain.Board.{Board}
use Rattle.zed_edit.specs.declared.plain.Stat.{Stat}
use Rattle.zed_edit.specs.declared.plain.Plain.{Plain}
use Rattle.zed_op.specs.declared.op.Edit.{Edit}
use Rattle.zed_types.specs.Names.{title}
use Rattle.zed_op.specs.Set.{AllFit}
use Rattle.zed_edit.specs.Replay.{replay}

-- nine numbers, seven keys, ten flags, and strings of at most 20 bytes
pub record IsRegularHeader (h : Header) : Type 0 where
  pub numbers : length h.numbers ≡ 9
  pub keys : length h.keys ≡ 7
  pub world_name : length h.world_name ≤ 20
  pub flags : length h.flags ≡ 10
  pub each_flag : AllByRecursion (λ s. length s ≤ 20) h.flags

-- the first stat is the player, and isn't removed
abbrev pub HasPlayer : List Stat → Type 0
HasPlayer [] = ⊥
HasPlayer (s ∷ ss) = (s.is_player ≡ true) × (s.removed ≡ false)

-- a name of at most 50 bytes, and a message of at most 58
abbrev pub AreTexts : List (List ℕ) → Type 0
AreTexts [] = ⊥
AreTexts (name ∷ []) = ⊥
AreTexts (name ∷ message ∷ []) = (length name ≤ 50) × (length message ≤ 58)
AreTexts (name ∷ message ∷ more ∷ texts) = ⊥

-- a whole table, strings that a file has room for, and a player; the title isn't removed
pub record IsRegularBoard (b : Board) : Type 0 where
  pub texts : AreTexts b.properties.texts
  pub tiles : length b.tiles ≡ table_tiles
  pub player : HasPlayer b.stats
  pub title_stays : same_board b.id title ≡ true → b.removed ≡ false

-- the header and each board are regular
pub record IsRegular (p : Plain) : Type 0 where
  pub header : IsRegularHeader p.header
  pub boards : AllByRecursion IsRegularBoard p.boards

-- what edits that fit make is regular
abbrev pub ReplayIsRegular : Type 0
ReplayIsRegular = (es : List Edit) → AllFit es → IsRegular (replay es)
