-- The words of a setting are read as it.
use Rattle.std.proofs.Common.{◌≡◌, ◌∙◌, Bool, true, false, ◌∷◌, map, codes, Option, Some, None, Ok, refl, sym, ap, arith}
use Rattle.std.specs.Prelude.{IfSome, option_map}
use Rattle.std.specs.Str.{bytes_eq}
use Rattle.zed_set_words.proofs.Tests.{eq_of}
use Rattle.zed_types.specs.declared.names.Name.{Name as TheName}
use Rattle.zed_types.specs.declared.names.BoardId.{BoardId}
use Rattle.zed_types.specs.declared.names.StatId.{StatId}
use Rattle.zed_types.specs.declared.names.TextId.{TextId}
use Rattle.zed_types.specs.declared.header.HeaderNumber.TheVariants.{Ammo, Gems, Health, Torches, TorchTicks, EnergizerTicks, Score, TimePassed, Hundredths}
use Rattle.zed_types.specs.declared.header.KeyColour.TheVariants.{Blue, Green, Cyan, Red, Purple, Yellow, White}
use Rattle.zed_types.specs.declared.header.FlagSlot.TheVariants.{First, Second, Third, Fourth, Fifth, Sixth, Seventh, Eighth, Ninth, Tenth}
use Rattle.zed_types.specs.declared.header.HeaderSetting.{HeaderSetting}
use Rattle.zed_types.specs.declared.header.HeaderSetting.TheVariants as header
use Rattle.zed_types.specs.declared.property.Side.TheVariants.{North, South, West, East}
use Rattle.zed_types.specs.declared.property.BoardByte.TheVariants.{MaxShots, StartX, StartY}
use Rattle.zed_types.specs.declared.property.BoardFlag.TheVariants.{Dark, ReEnter}
use Rattle.zed_types.specs.declared.property.BoardText.TheVariants.{Name, Message}
use Rattle.zed_types.specs.declared.property.BoardSetting.{BoardSetting}
use Rattle.zed_types.specs.declared.property.BoardSetting.TheVariants as board
use Rattle.zed_types.specs.declared.stat_field.StatByte.TheVariants.{X, Y, P1, P2, UnderElement, UnderColour}
use Rattle.zed_types.specs.declared.stat_field.StatNumber.TheVariants.{StepX, StepY, Cycle, Position}
use Rattle.zed_types.specs.declared.stat_field.ThirdParameter.TheVariants as third
use Rattle.zed_types.specs.declared.stat_field.StatSetting.{StatSetting}
use Rattle.zed_types.specs.declared.stat_field.StatSetting.TheVariants as stat
use Rattle.zed_op.specs.declared.op.Op.TheVariants.{SetHeader, SetBoard, SetStat}
use Rattle.zed_op.specs.Fit.{is_header_in_range, is_property_in_range}
use Rattle.zed_op.specs.Sizes.{IsBoardSetting, IsHeaderSetting, IsName, IsStatSetting}
use Rattle.zed_log.specs.Fields.{board_name, name, number, optional, stat_name, text_name, third_parameter}
use Rattle.zed_log.specs.Line.{op_text}
use Rattle.zed_set_words.specs.declared.wishes.BoardPlace.{BoardPlace}
use Rattle.zed_set_words.specs.declared.wishes.BoardPlace.TheVariants as board_place
use Rattle.zed_set_words.specs.declared.wishes.StatPlace.{StatPlace}
use Rattle.zed_set_words.specs.declared.wishes.StatPlace.TheVariants as stat_place
use Rattle.zed_set_words.specs.declared.wishes.Wish.TheVariants as wish
use Rattle.cmd_set.specs.Printed.{FieldIsRead, HasBytes, HeaderIsRead, Plain, PropertyIsRead, TextHasBytes, board_words, field_wish, header_wish, header_words, line_of, property_wish, stat_words, word_of}
use Rattle.zed_set_words.specs.Rows.{reading, wish_of}
use Rattle.zed_set_words.specs.Values.{board_of, byte_of, name_of, number_of, other_of, text_of, unless_none}
use Rattle.cmd_set.proofs.Back.{colour_back, integer_back, name_back, number_back, string_back}
use Rattle.cmd_set.proofs.ElementBack.{element_back}

-- ---- how lines have them

header_line : (s : HeaderSetting) → op_text (SetHeader s) ≡ line_of (Plain (codes "header") ∷ header_words s)
header_line (header.Number Ammo n) = refl
header_line (header.Number Gems n) = refl
header_line (header.Number Health n) = refl
header_line (header.Number Torches n) = refl
header_line (header.Number TorchTicks n) = refl
header_line (header.Number EnergizerTicks n) = refl
header_line (header.Number Score n) = refl
header_line (header.Number TimePassed n) = refl
header_line (header.Number Hundredths n) = refl
header_line (header.Key Blue b) = refl
header_line (header.Key Green b) = refl
header_line (header.Key Cyan b) = refl
header_line (header.Key Red b) = refl
header_line (header.Key Purple b) = refl
header_line (header.Key Yellow b) = refl
header_line (header.Key White b) = refl
header_line (header.Saved b) = refl
header_line (header.CurrentBoard b) = refl
header_line (header.WorldName s) = refl
header_line (header.Flag k s) = refl

board_line : (b : BoardId) (s : BoardSetting)
    → op_text (SetBoard b s) ≡ line_of (Plain (codes "board") ∷ Plain (board_name b) ∷ board_words s)
board_line b (board.Byte MaxShots n) = refl
board_line b (board.Byte StartX n) = refl
board_line b (board.Byte StartY n) = refl
board_line b (board.Flag Dark f) = refl
board_line b (board.Flag ReEnter f) = refl
board_line b (board.TimeLimit n) = refl
board_line b (board.Exit North t) = refl
board_line b (board.Exit South t) = refl
board_line b (board.Exit West t) = refl
board_line b (board.Exit East t) = refl
board_line b (board.Text Name s) = refl
board_line b (board.Text Message s) = refl
board_line b (board.Rank n) = refl

stat_line : (k : StatId) (s : StatSetting) → op_text (SetStat k s) ≡ line_of (Plain (codes "stat") ∷ Plain (stat_name k) ∷ stat_words s)
unfolding third_parameter
stat_line k (stat.Byte X n) = refl
stat_line k (stat.Byte Y n) = refl
stat_line k (stat.Byte P1 n) = refl
stat_line k (stat.Byte P2 n) = refl
stat_line k (stat.Byte UnderElement n) = refl
stat_line k (stat.Byte UnderColour n) = refl
stat_line k (stat.Number StepX n) = refl
stat_line k (stat.Number StepY n) = refl
stat_line k (stat.Number Cycle n) = refl
stat_line k (stat.Number Position n) = refl
stat_line k (stat.P3 (third.Byte n)) = refl
stat_line k (stat.P3 (third.Board b)) = refl
stat_line k (stat.Follower s) = refl
stat_line k (stat.Leader s) = refl
stat_line k (stat.Text t) = refl

-- ---- registers of the world

header_read : (s : HeaderSetting) → IsHeaderSetting s → HasBytes s → is_header_in_range s ≡ true
    → wish_of (map word_of (Plain (codes "header") ∷ header_words s)) ≡ Ok (wish.World (header_wish s))
unfolding wish_of reading number
header_read (header.Number Ammo n) fits bytes short = rw (integer_back n fits) refl
header_read (header.Number Gems n) fits bytes short = rw (integer_back n fits) refl
header_read (header.Number Health n) fits bytes short = rw (integer_back n fits) refl
header_read (header.Number Torches n) fits bytes short = rw (integer_back n fits) refl
header_read (header.Number TorchTicks n) fits bytes short = rw (integer_back n fits) refl
header_read (header.Number EnergizerTicks n) fits bytes short = rw (integer_back n fits) refl
header_read (header.Number Score n) fits bytes short = rw (integer_back n fits) refl
header_read (header.Number TimePassed n) fits bytes short = rw (integer_back n fits) refl
header_read (header.Number Hundredths n) fits bytes short = rw (integer_back n fits) refl
header_read (header.Key Blue true) fits bytes short = refl
header_read (header.Key Blue false) fits bytes short = refl
header_read (header.Key Green true) fits bytes short = refl
header_read (header.Key Green false) fits bytes short = refl
header_read (header.Key Cyan true) fits bytes short = refl
header_read (header.Key Cyan false) fits bytes short = refl
header_read (header.Key Red true) fits bytes short = refl
header_read (header.Key Red false) fits bytes short = refl
header_read (header.Key Purple true) fits bytes short = refl
header_read (header.Key Purple false) fits bytes short = refl
header_read (header.Key Yellow true) fits bytes short = refl
header_read (header.Key Yellow false) fits bytes short = refl
header_read (header.Key White true) fits bytes short = refl
header_read (header.Key White false) fits bytes short = refl
header_read (header.Saved true) fits bytes short = refl
header_read (header.Saved false) fits bytes short = refl
header_read (header.CurrentBoard b) fits bytes short = rw (name_back b.name fits) refl
header_read (header.WorldName s) fits bytes short = rw (string_back 20 s bytes short) refl
header_read (header.Flag First s) fits bytes short = rw (string_back 20 s bytes short) refl
header_read (header.Flag Second s) fits bytes short = rw (string_back 20 s bytes short) refl
header_read (header.Flag Third s) fits bytes short = rw (string_back 20 s bytes short) refl
header_read (header.Flag Fourth s) fits bytes short = rw (string_back 20 s bytes short) refl
header_read (header.Flag Fifth s) fits bytes short = rw (string_back 20 s bytes short) refl
header_read (header.Flag Sixth s) fits bytes short = rw (string_back 20 s bytes short) refl
header_read (header.Flag Seventh s) fits bytes short = rw (string_back 20 s bytes short) refl
header_read (header.Flag Eighth s) fits bytes short = rw (string_back 20 s bytes short) refl
header_read (header.Flag Ninth s) fits bytes short = rw (string_back 20 s bytes short) refl
header_read (header.Flag Tenth s) fits bytes short = rw (string_back 20 s bytes short) refl

-- ---- properties of a board

no_name : {n : TheName} → name_of (codes "none") ≡ Some n → ⊥
unfolding name_of
no_name {n = n} h = let no : None ≡ Some n = h in cc

-- a name isn't `none` (110 at its head)
not_none : (n : TheName) → IsName n → (A : Type 0) (x : A) → unless_none (name n) (Some x) ≡ Some (Some x)
not_none n fits A x = go (bytes_eq (name n) (codes "none")) refl
  where
    go : (b : Bool) → bytes_eq (name n) (codes "none") ≡ b → unless_none (name n) (Some x) ≡ Some (Some x)
    go true same = absurd (let named : name n ≡ codes "none" = eq_of (name n) (codes "none") same in let read_none : name_of (codes "none") ≡ Some n = ap name_of (sym named) ∙ name_back n fits in no_name read_none)
    go false other = rw other refl

board_found : (b : BoardId) → IsName b.name → board_of (board_name b) ≡ Some (board_place.Named b)
board_found b fits = rw (name_back b.name fits) refl

exit_found : (b : Option BoardId) → IfSome b (λ x. IsName x.name)
    → unless_none (optional board_name b) (board_of (optional board_name b)) ≡ Some (option_map board_place.Named b)
exit_found None fits = refl
exit_found (Some b) fits = rw (board_found b fits) (not_none b.name fits BoardPlace (board_place.Named b))

property_read : (b : BoardId) (s : BoardSetting) → IsName b.name → IsBoardSetting s → TextHasBytes s → is_property_in_range s ≡ true
    → wish_of (map word_of (Plain (codes "board") ∷ Plain (board_name b) ∷ board_words s))
    ≡ Ok (wish.Board (board_place.Named b) (property_wish s))
unfolding wish_of reading
property_read b (board.Byte MaxShots n) named fits bytes short = rw (name_back b.name named, number_back 255 n (omega arith)) refl
property_read b (board.Byte StartX n) named fits bytes short = rw (name_back b.name named, number_back 255 n (omega arith)) refl
property_read b (board.Byte StartY n) named fits bytes short = rw (name_back b.name named, number_back 255 n (omega arith)) refl
property_read b (board.Flag Dark true) named fits bytes short = rw (name_back b.name named) refl
property_read b (board.Flag Dark false) named fits bytes short = rw (name_back b.name named) refl
property_read b (board.Flag ReEnter true) named fits bytes short = rw (name_back b.name named) refl
property_read b (board.Flag ReEnter false) named fits bytes short = rw (name_back b.name named) refl
property_read b (board.TimeLimit n) named fits bytes short = rw (name_back b.name named, integer_back n fits) refl
property_read b (board.Exit North to) named fits bytes short = rw (name_back b.name named, exit_found to fits) refl
property_read b (board.Exit South to) named fits bytes short = rw (name_back b.name named, exit_found to fits) refl
property_read b (board.Exit West to) named fits bytes short = rw (name_back b.name named, exit_found to fits) refl
property_read b (board.Exit East to) named fits bytes short = rw (name_back b.name named, exit_found to fits) refl
property_read b (board.Text Name s) named fits bytes short = rw (name_back b.name named, string_back 50 s bytes short) refl
property_read b (board.Text Message s) named fits bytes short = rw (name_back b.name named, string_back 58 s bytes short) refl
property_read b (board.Rank n) named fits bytes short = rw (name_back b.name named, number_back 65535 n (omega arith)) refl

-- ---- fields of a stat

other_found : (at s : StatId) → IsName s.name → other_of (stat_place.Named at) (stat_name s) ≡ Some (stat_place.Named s)
other_found at s fits = rw (name_back s.name fits) refl

stat_found : (at : StatId) (s : Option StatId) → IfSome s (λ x. IsName x.name)
    → unless_none (optional stat_name s) (other_of (stat_place.Named at) (optional stat_name s)) ≡ Some (option_map stat_place.Named s)
stat_found at None fits = refl
stat_found at (Some s) fits = rw (other_found at s fits) (not_none s.name fits StatPlace (stat_place.Named s))

a_text : (t : TextId) → IsName t.name → text_of (text_name t) ≡ Some t
a_text t fits = rw (name_back t.name fits) refl

text_found : (t : Option TextId) → IfSome t (λ x. IsName x.name)
    → unless_none (optional text_name t) (text_of (optional text_name t)) ≡ Some t
text_found None fits = refl
text_found (Some t) fits = rw (a_text t fits) (not_none t.name fits TextId t)

-- `board` is no byte
not_byte : byte_of (codes "board") ≡ None
unfolding number_of
not_byte = refl

field_read : (k : StatId) (s : StatSetting) → IsName k.name → IsStatSetting s
    → wish_of (map word_of (Plain (codes "stat") ∷ Plain (stat_name k) ∷ stat_words s)) ≡ Ok (wish.Stat (stat_place.Named k) (field_wish s))
unfolding wish_of reading
field_read k (stat.Byte X n) named fits = rw (name_back k.name named, number_back 255 n (omega arith)) refl
field_read k (stat.Byte Y n) named fits = rw (name_back k.name named, number_back 255 n (omega arith)) refl
field_read k (stat.Byte P1 n) named fits = rw (name_back k.name named, number_back 255 n (omega arith)) refl
field_read k (stat.Byte P2 n) named fits = rw (name_back k.name named, number_back 255 n (omega arith)) refl
field_read k (stat.Byte UnderElement n) named fits = rw (name_back k.name named, element_back n fits) refl
field_read k (stat.Byte UnderColour n) named fits = rw (name_back k.name named, colour_back n fits) refl
field_read k (stat.Number StepX n) named fits = rw (name_back k.name named, integer_back n fits) refl
field_read k (stat.Number StepY n) named fits = rw (name_back k.name named, integer_back n fits) refl
field_read k (stat.Number Cycle n) named fits = rw (name_back k.name named, integer_back n fits) refl
field_read k (stat.Number Position n) named fits = rw (name_back k.name named, integer_back n fits) refl
field_read k (stat.P3 (third.Byte n)) named fits = rw (name_back k.name named, number_back 255 n (omega arith)) refl
field_read k (stat.P3 (third.Board b)) named fits = rw (name_back k.name named, not_byte, name_back b.name fits) refl
field_read k (stat.Follower s) named fits = rw (name_back k.name named, stat_found k s fits) refl
field_read k (stat.Leader s) named fits = rw (name_back k.name named, stat_found k s fits) refl
field_read k (stat.Text t) named fits = rw (name_back k.name named, text_found t fits) refl

-- ---- the laws

pub header_is_read : HeaderIsRead
header_is_read s fits bytes short = (header_line s, header_read s fits bytes short)

pub property_is_read : PropertyIsRead
property_is_read b s named fits bytes short = (board_line b s, property_read b s named fits bytes short)

pub field_is_read : FieldIsRead
field_is_read k s named fits = (stat_line k s, field_read k s named fits)
