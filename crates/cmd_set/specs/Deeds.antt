-- What a wish comes to: the ops of its settings.
use Rattle.std.specs.Prelude.{◌≡◌, ◌⊎◌, ◌<◌, ℕ, List, [], length, Option, Some, None, Result, Ok, Err, MatchResult}
use Rattle.zed_types.specs.declared.names.BoardId.{BoardId}
use Rattle.zed_types.specs.declared.names.StatId.{StatId}
use Rattle.zed_types.specs.declared.names.TextId.{TextId}
use Rattle.zed_types.specs.declared.header.HeaderSetting.{HeaderSetting}
use Rattle.zed_types.specs.declared.header.HeaderSetting.TheVariants as header_setting
use Rattle.zed_types.specs.declared.property.BoardByte.TheVariants.{StartX, StartY}
use Rattle.zed_types.specs.declared.property.BoardSetting.{BoardSetting}
use Rattle.zed_types.specs.declared.property.BoardSetting.TheVariants as board_setting
use Rattle.zed_types.specs.declared.stat_field.StatByte.TheVariants.{X, Y}
use Rattle.zed_types.specs.declared.stat_field.StatSetting.{StatSetting}
use Rattle.zed_types.specs.declared.stat_field.StatSetting.TheVariants as stat_setting
use Rattle.zed_types.specs.declared.stat_field.ThirdParameter.{ThirdParameter}
use Rattle.zed_types.specs.declared.stat_field.ThirdParameter.TheVariants as third
use Rattle.zed_op.specs.declared.op.Op.TheVariants.{SetHeader, SetBoard, SetStat}
use Rattle.zed_edit.specs.declared.plain.Plain.{Plain}
use Rattle.zed_document.specs.declared.error.DocumentError.{DocumentError}
use Rattle.zed_document.specs.declared.error.DocumentError.TheVariants.{Memory}
use Rattle.zed_document.specs.Reading.{text_of}
use Rattle.zed_action.specs.Deeds.{◌>>=◌, board_in, found, stat_in}
use Rattle.zed_set_words.specs.declared.wishes.BoardPlace.{BoardPlace}
use Rattle.zed_set_words.specs.declared.wishes.BoardPlace.TheVariants as board
use Rattle.zed_set_words.specs.declared.wishes.StatPlace.{StatPlace}
use Rattle.zed_set_words.specs.declared.wishes.StatPlace.TheVariants as stat
use Rattle.zed_set_words.specs.declared.wishes.WorldWish.{WorldWish}
use Rattle.zed_set_words.specs.declared.wishes.WorldWish.TheVariants as world_wish
use Rattle.zed_set_words.specs.declared.wishes.BoardWish.{BoardWish}
use Rattle.zed_set_words.specs.declared.wishes.BoardWish.TheVariants as board_wish
use Rattle.zed_set_words.specs.declared.wishes.P3Wish.{P3Wish}
use Rattle.zed_set_words.specs.declared.wishes.P3Wish.TheVariants as p3_wish
use Rattle.zed_set_words.specs.declared.wishes.StatWish.{StatWish}
use Rattle.zed_set_words.specs.declared.wishes.StatWish.TheVariants as stat_wish
use Rattle.zed_set_words.specs.declared.wishes.Wish.{Wish}
use Rattle.zed_set_words.specs.declared.wishes.Wish.TheVariants as wish
use Rattle.cmd_set.specs.declared.deed.Deed.{Deed}
use Rattle.cmd_set.specs.declared.deed.Deed.TheVariants.{One, Two}

-- the bytes that a wish for the world keeps
abbrev pub kept_in_world : WorldWish → List ℕ
kept_in_world (world_wish.Name s) = s
kept_in_world (world_wish.Flag k s) = s
kept_in_world _ = []

-- the bytes that a wish for a board keeps
abbrev pub kept_in_board : BoardWish → List ℕ
kept_in_board (board_wish.Text f s) = s
kept_in_board _ = []

-- the bytes that a wish keeps
abbrev pub kept_in : Wish → List ℕ
kept_in (wish.World w) = kept_in_world w
kept_in (wish.Board place w) = kept_in_board w
kept_in (wish.Stat place w) = []

-- a call answers what is told, or wants memory for the bytes that it keeps
abbrev pub Comes : {X : Type 0} → List ℕ → Result X DocumentError → Result X DocumentError → Type 0
Comes kept result told = MatchResult result (λ x. told ≡ Ok x) (λ e. ((e ≡ Memory) × (0 < length kept)) ⊎ (told ≡ Err e))

-- ---- things

-- a board by its number, or by its name
abbrev pub board_at : Plain → BoardPlace → Result BoardId DocumentError
board_at p (board.Numbered n) = board_in p n
board_at p (board.Named b) = Ok b

-- a stat by its board's number and its own, or by its name
abbrev pub stat_at : Plain → StatPlace → Result StatId DocumentError
stat_at p (stat.Numbered b n) = stat_in p b n
stat_at p (stat.Named s) = Ok s

-- a board, or none
abbrev pub exit_at : Plain → Option BoardPlace → Result (Option BoardId) DocumentError
exit_at p None = Ok None
exit_at p (Some place) = do
  b ← board_at p place
  Ok (Some b)

-- a stat, or none
abbrev pub stat_or_none : Plain → Option StatPlace → Result (Option StatId) DocumentError
stat_or_none p None = Ok None
stat_or_none p (Some place) = do
  s ← stat_at p place
  Ok (Some s)

-- the text of a stat; NoSuch where it has none
abbrev pub shared_text : Plain → StatPlace → Result TextId DocumentError
shared_text p place = do
  s ← stat_at p place
  found (text_of p s)

-- ---- settings

-- the setting of a register of the world
abbrev pub header_of : Plain → WorldWish → Result HeaderSetting DocumentError
header_of p (world_wish.Number f n) = Ok (header_setting.Number f n)
header_of p (world_wish.Key k has) = Ok (header_setting.Key k has)
header_of p (world_wish.Saved is) = Ok (header_setting.Saved is)
header_of p (world_wish.CurrentBoard place) = do
  b ← board_at p place
  Ok (header_setting.CurrentBoard b)
header_of p (world_wish.Name s) = Ok (header_setting.WorldName s)
header_of p (world_wish.Flag k s) = Ok (header_setting.Flag k s)

-- the deed of a setting of a board
abbrev pub of_board : BoardId → BoardSetting → Deed
of_board b s = One (SetBoard b s)

-- the deed of a column and a row where the player starts
abbrev pub of_start : BoardId → ℕ → ℕ → Deed
of_start b x y = Two (SetBoard b (board_setting.Byte StartX x)) (SetBoard b (board_setting.Byte StartY y))

-- what a wish for a board comes to
abbrev pub board_deed : Plain → BoardId → BoardWish → Result Deed DocumentError
board_deed p b (board_wish.Byte f n) = Ok (of_board b (board_setting.Byte f n))
board_deed p b (board_wish.Flag f is) = Ok (of_board b (board_setting.Flag f is))
board_deed p b (board_wish.TimeLimit n) = Ok (of_board b (board_setting.TimeLimit n))
board_deed p b (board_wish.Rank n) = Ok (of_board b (board_setting.Rank n))
board_deed p b (board_wish.Exit side place) = do
  to ← exit_at p place
  Ok (of_board b (board_setting.Exit side to))
board_deed p b (board_wish.Text f s) = Ok (of_board b (board_setting.Text f s))
board_deed p b (board_wish.Start x y) = Ok (of_start b x y)

-- a third parameter
abbrev pub p3_of : Plain → P3Wish → Result ThirdParameter DocumentError
p3_of p (p3_wish.Byte n) = Ok (third.Byte n)
p3_of p (p3_wish.Board place) = do
  b ← board_at p place
  Ok (third.Board b)

-- the deed of a setting of a stat
abbrev pub of_stat : StatId → StatSetting → Deed
of_stat s setting = One (SetStat s setting)

-- the deed of a column and a row where a stat is
abbrev pub of_place : StatId → ℕ → ℕ → Deed
of_place s x y = Two (SetStat s (stat_setting.Byte X x)) (SetStat s (stat_setting.Byte Y y))

-- what a wish for a stat comes to
abbrev pub stat_deed : Plain → StatId → StatWish → Result Deed DocumentError
stat_deed p s (stat_wish.Byte f n) = Ok (of_stat s (stat_setting.Byte f n))
stat_deed p s (stat_wish.Number f n) = Ok (of_stat s (stat_setting.Number f n))
stat_deed p s (stat_wish.P3 target) = do
  t ← p3_of p target
  Ok (of_stat s (stat_setting.P3 t))
stat_deed p s (stat_wish.Follower place) = do
  other ← stat_or_none p place
  Ok (of_stat s (stat_setting.Follower other))
stat_deed p s (stat_wish.Leader place) = do
  other ← stat_or_none p place
  Ok (of_stat s (stat_setting.Leader other))
stat_deed p s (stat_wish.Text t) = Ok (of_stat s (stat_setting.Text t))
stat_deed p s (stat_wish.Shares place) = do
  t ← shared_text p place
  Ok (of_stat s (stat_setting.Text (Some t)))
stat_deed p s (stat_wish.At x y) = Ok (of_place s x y)

-- what a wish for the world comes to
abbrev pub world_deed : Plain → WorldWish → Result Deed DocumentError
world_deed p w = do
  setting ← header_of p w
  Ok (One (SetHeader setting))

-- what a wish for the board of a place comes to
abbrev pub deed_at_board : Plain → BoardPlace → BoardWish → Result Deed DocumentError
deed_at_board p place w = do
  b ← board_at p place
  board_deed p b w

-- what a wish for the stat of a place comes to
abbrev pub deed_at_stat : Plain → StatPlace → StatWish → Result Deed DocumentError
deed_at_stat p place w = do
  s ← stat_at p place
  stat_deed p s w

-- what a wish comes to where this is shown
abbrev pub deed_of : Plain → Wish → Result Deed DocumentError
deed_of p (wish.World w) = world_deed p w
deed_of p (wish.Board place w) = deed_at_board p place w
deed_of p (wish.Stat place w) = deed_at_stat p place w
