-- Which sizes the values of an edit have. Each number of a program's edit has the size of its field by its type, each time and each string by the rules for edits.
use Rattle.std.specs.Prelude.{◌≡◌, ℕ, ℤ, ◌<◌, ◌^◌, true, List, length, IfSome, FitsSigned}
use Rattle.std.specs.List.{AllByRecursion, list_all}
use Rattle.std.specs.Int.{w16}
use Rattle.zed_types.specs.declared.stamp.Stamp.{Stamp}
use Rattle.zed_types.specs.declared.names.Name.{Name}
use Rattle.zed_types.specs.declared.tile.Tile.{Tile}
use Rattle.zed_types.specs.declared.tile.Rectangle.{Rectangle}
use Rattle.zed_types.specs.declared.text.ByteRange.{ByteRange}
use Rattle.zed_types.specs.declared.header.HeaderSetting.{HeaderSetting}
use Rattle.zed_types.specs.declared.header.HeaderSetting.TheVariants as header
use Rattle.zed_types.specs.declared.property.BoardSetting.{BoardSetting}
use Rattle.zed_types.specs.declared.property.BoardSetting.TheVariants as board
use Rattle.zed_types.specs.declared.stat_field.ThirdParameter.{ThirdParameter}
use Rattle.zed_types.specs.declared.stat_field.ThirdParameter.TheVariants as third
use Rattle.zed_types.specs.declared.stat_field.StatSetting.{StatSetting}
use Rattle.zed_types.specs.declared.stat_field.StatSetting.TheVariants as stat
use Rattle.zed_types.specs.declared.stat_field.StatFields.{StatFields}
use Rattle.zed_op.specs.declared.op.Op.{Op}
use Rattle.zed_op.specs.declared.op.Op.TheVariants.{Genesis, SetHeader, BoardAdd, BoardRemove, SetBoard, SetCells, StatAdd, StatRemove, SetStat, TextAdd, TextInsert, TextDelete}
use Rattle.zed_op.specs.declared.op.Edit.{Edit}
use Rattle.zed_op.specs.declared.thing.Thing.{Thing}
use Rattle.zed_op.specs.Names.{stamp_of}
use Rattle.zed_op.specs.Fit.{is_stamp}

-- one byte
abbrev pub IsByte : ℕ → Type 0
IsByte n = n < 256

-- two bytes with a sign
abbrev pub IsNumber : ℤ → Type 0
IsNumber n = FitsSigned w16 n

-- two bytes without a sign
abbrev pub IsRank : ℕ → Type 0
IsRank n = n < 2 ^ 16

-- a string whose length is one byte
abbrev pub IsString : List ℕ → Type 0
IsString s = length s < 256

-- six bytes and two
abbrev pub IsStamp : Stamp → Type 0
IsStamp s = (s.time < 2 ^ 48) × (s.replica < 2 ^ 16)

-- a stamp and four bytes
abbrev pub IsName : Name → Type 0
IsName n = IsStamp n.stamp × (n.index < 2 ^ 32)

-- two bytes
abbrev pub IsTile : Tile → Type 0
IsTile t = IsByte t.element × IsByte t.colour

-- four bytes
abbrev pub IsRectangle : Rectangle → Type 0
IsRectangle r = IsByte r.left × IsByte r.top × IsByte r.right × IsByte r.bottom

-- a byte, or a name
abbrev pub IsThirdParameter : ThirdParameter → Type 0
IsThirdParameter (third.Byte n) = IsByte n
IsThirdParameter (third.Board b) = IsName b.name

-- a stamp and twice four bytes
abbrev pub IsRange : ByteRange → Type 0
IsRange r = IsStamp r.stamp × (r.first < 2 ^ 32) × (r.last < 2 ^ 32)

-- the value of a header register has the size of its field
abbrev pub IsHeaderSetting : HeaderSetting → Type 0
IsHeaderSetting (header.Number f n) = IsNumber n
IsHeaderSetting (header.Key k b) = Unit {0}
IsHeaderSetting (header.Saved b) = Unit {0}
IsHeaderSetting (header.CurrentBoard b) = IsName b.name
IsHeaderSetting (header.WorldName s) = IsString s
IsHeaderSetting (header.Flag k s) = IsString s

-- the value of a board's register has the size of its field
abbrev pub IsBoardSetting : BoardSetting → Type 0
IsBoardSetting (board.Byte f n) = IsByte n
IsBoardSetting (board.Flag f b) = Unit {0}
IsBoardSetting (board.TimeLimit n) = IsNumber n
IsBoardSetting (board.Rank n) = IsRank n
IsBoardSetting (board.Exit d b) = IfSome b (λ x. IsName x.name)
IsBoardSetting (board.Text f s) = IsString s

-- the value of a stat's register has the size of its field
abbrev pub IsStatSetting : StatSetting → Type 0
IsStatSetting (stat.Byte f n) = IsByte n
IsStatSetting (stat.Number f n) = IsNumber n
IsStatSetting (stat.P3 target) = IsThirdParameter target
IsStatSetting (stat.Follower s) = IfSome s (λ x. IsName x.name)
IsStatSetting (stat.Leader s) = IfSome s (λ x. IsName x.name)
IsStatSetting (stat.Text t) = IfSome t (λ x. IsName x.name)

-- what a new stat is given has the sizes of its fields, each of which is there
pub record IsStatFields (f : StatFields) : Type 0 where
  pub all_bytes : length f.bytes ≡ 6
  pub bytes : AllByRecursion IsByte f.bytes
  pub all_numbers : length f.numbers ≡ 3
  pub numbers : AllByRecursion IsNumber f.numbers
  pub p3 : IsThirdParameter f.p3
  pub text : IfSome f.text (λ x. IsName x.name)

-- the values of an op have the sizes of their fields
abbrev pub IsOp : Op → Type 0
IsOp (Genesis bytes) = Unit {0}
IsOp (SetHeader setting) = IsHeaderSetting setting
IsOp (BoardAdd s) = IsString s
IsOp (BoardRemove b) = IsName b.name
IsOp (SetBoard b setting) = IsName b.name × IsBoardSetting setting
IsOp (SetCells b r t) = IsName b.name × IsRectangle r × IsTile t
IsOp (StatAdd b f) = IsName b.name × IsStatFields f
IsOp (StatRemove s) = IsName s.name
IsOp (SetStat s setting) = IsName s.name × IsStatSetting setting
IsOp TextAdd = Unit {0}
IsOp (TextInsert t after bytes) = IsName t.name × IfSome after (λ x. IsName x.name)
IsOp (TextDelete t r) = IsName t.name × IsRange r

-- every value of an edit has the size of its field
abbrev pub HasSizes : Edit → Type 0
HasSizes e = IsStamp e.stamp × IsOp e.op

-- so has every value of each of these edits
abbrev pub HaveSizes : List Edit → Type 0
HaveSizes es = AllByRecursion HasSizes es

-- each of these things was made at a stamp that there is
abbrev pub AreStamped : List Thing → Type 0
AreStamped things = list_all (λ x. is_stamp (stamp_of x)) things ≡ true
