-- Registers are read from their words and values.
use Rattle.std.proofs.Common.{◌≡◌, ℕ, ℤ, ◌+◌, Bool, List, [], ◌∷◌, ◌++◌, get_or, Option, Some, codes, refl, sym, ap, ◌∙◌, append_assoc, eqb, cond, nat_eq, arith}
use Rattle.std.specs.List.{find, starts_with}
use Rattle.zed_types.specs.declared.names.BoardId.{BoardId}
use Rattle.zed_types.specs.declared.header.HeaderNumber.{HeaderNumber}
use Rattle.zed_types.specs.declared.header.HeaderNumber.TheVariants.{Ammo, Gems, Health, Torches, TorchTicks, EnergizerTicks, Score, TimePassed, Hundredths}
use Rattle.zed_types.specs.declared.header.KeyColour.{KeyColour}
use Rattle.zed_types.specs.declared.header.KeyColour.TheVariants.{Blue, Green, Cyan, Red, Purple, Yellow, White}
use Rattle.zed_types.specs.declared.header.FlagSlot.{FlagSlot}
use Rattle.zed_types.specs.declared.header.FlagSlot.TheVariants.{First, Second, Third, Fourth, Fifth, Sixth, Seventh, Eighth, Ninth, Tenth}
use Rattle.zed_types.specs.declared.header.HeaderSetting.{HeaderSetting}
use Rattle.zed_types.specs.declared.header.HeaderSetting.TheVariants as header
use Rattle.zed_types.specs.declared.property.Side.{Side}
use Rattle.zed_types.specs.declared.property.Side.TheVariants.{North, South, West, East}
use Rattle.zed_types.specs.declared.property.BoardByte.{BoardByte}
use Rattle.zed_types.specs.declared.property.BoardByte.TheVariants.{MaxShots, StartX, StartY}
use Rattle.zed_types.specs.declared.property.BoardFlag.{BoardFlag}
use Rattle.zed_types.specs.declared.property.BoardFlag.TheVariants.{Dark, ReEnter}
use Rattle.zed_types.specs.declared.property.BoardText.{BoardText}
use Rattle.zed_types.specs.declared.property.BoardText.TheVariants.{Name, Message}
use Rattle.zed_types.specs.declared.property.BoardSetting.{BoardSetting}
use Rattle.zed_types.specs.declared.property.BoardSetting.TheVariants as board
use Rattle.zed_types.specs.declared.stat_field.StatByte.{StatByte}
use Rattle.zed_types.specs.declared.stat_field.StatByte.TheVariants.{X, Y, P1, P2, UnderElement, UnderColour}
use Rattle.zed_types.specs.declared.stat_field.StatNumber.{StatNumber}
use Rattle.zed_types.specs.declared.stat_field.StatNumber.TheVariants.{StepX, StepY, Cycle, Position}
use Rattle.zed_types.specs.declared.stat_field.StatSetting.{StatSetting}
use Rattle.zed_types.specs.declared.stat_field.StatSetting.TheVariants as stat
use Rattle.zed_types.specs.Header.{flag_index}
use Rattle.zed_log.specs.Fields.{number, integer, quoted, boolean, board_name, stat_name, text_name, optional, third_parameter}
use Rattle.zed_log.specs.Words.{header_number_word, key_word, side_word, board_byte_word, board_flag_word, board_text_word, stat_byte_word, stat_number_word}
use Rattle.zed_log.specs.Line.{header_setting, board_setting, stat_byte, stat_setting}
use Rattle.zed_log.proofs.Codes.{IsCode, led, two, known, words, word_code, worded}
use Rattle.zed_log.proofs.Numerals.{number_code, integer_code}
use Rattle.zed_log.proofs.Strings.{colour_code, quoted_code}
use Rattle.zed_log.proofs.Elements.{element_code}
use Rattle.zed_log.proofs.Parts.{boolean_word, board_code, board_option_code, stat_option_code, text_option_code, third_code}

-- ---- words

abbrev pick_header : List ℕ → Option HeaderNumber
pick_header l = find (λ k. starts_with nat_eq l (header_number_word k)) (Ammo ∷ Gems ∷ Health ∷ Torches ∷ TorchTicks ∷ EnergizerTicks ∷ Score ∷ TimePassed ∷ Hundredths ∷ [])

header_back : (k : HeaderNumber) (x : List ℕ) → pick_header (header_number_word k ++ x) ≡ Some k
header_back Ammo x = refl
header_back Gems x = refl
header_back Health x = refl
header_back Torches x = refl
header_back TorchTicks x = refl
header_back EnergizerTicks x = refl
header_back Score x = refl
header_back TimePassed x = refl
header_back Hundredths x = refl

abbrev key_text : KeyColour → List ℕ
key_text k = codes "key " ++ key_word k

abbrev pick_key : List ℕ → Option KeyColour
pick_key l = find (λ k. starts_with nat_eq l (key_text k)) (Blue ∷ Green ∷ Cyan ∷ Red ∷ Purple ∷ Yellow ∷ White ∷ [])

key_back : (k : KeyColour) (x : List ℕ) → pick_key (key_text k ++ x) ≡ Some k
key_back Blue x = refl
key_back Green x = refl
key_back Cyan x = refl
key_back Red x = refl
key_back Purple x = refl
key_back Yellow x = refl
key_back White x = refl

abbrev pick_slot : ℕ → Option FlagSlot
pick_slot n = find (λ k. eqb n (1 + flag_index k)) (First ∷ Second ∷ Third ∷ Fourth ∷ Fifth ∷ Sixth ∷ Seventh ∷ Eighth ∷ Ninth ∷ Tenth ∷ [])

slot_back : (k : FlagSlot) → pick_slot (1 + flag_index k) ≡ Some k
slot_back First = refl
slot_back Second = refl
slot_back Third = refl
slot_back Fourth = refl
slot_back Fifth = refl
slot_back Sixth = refl
slot_back Seventh = refl
slot_back Eighth = refl
slot_back Ninth = refl
slot_back Tenth = refl

abbrev side_text : Side → List ℕ
side_text k = codes "exit " ++ side_word k

abbrev pick_side : List ℕ → Option Side
pick_side l = find (λ k. starts_with nat_eq l (side_text k)) (North ∷ South ∷ West ∷ East ∷ [])

side_back : (k : Side) (x : List ℕ) → pick_side (side_text k ++ x) ≡ Some k
side_back North x = refl
side_back South x = refl
side_back West x = refl
side_back East x = refl

abbrev pick_board_byte : List ℕ → Option BoardByte
pick_board_byte l = find (λ k. starts_with nat_eq l (board_byte_word k)) (MaxShots ∷ StartX ∷ StartY ∷ [])

board_byte_back : (k : BoardByte) (x : List ℕ) → pick_board_byte (board_byte_word k ++ x) ≡ Some k
board_byte_back MaxShots x = refl
board_byte_back StartX x = refl
board_byte_back StartY x = refl

abbrev pick_board_flag : List ℕ → Option BoardFlag
pick_board_flag l = find (λ k. starts_with nat_eq l (board_flag_word k)) (Dark ∷ ReEnter ∷ [])

board_flag_back : (k : BoardFlag) (x : List ℕ) → pick_board_flag (board_flag_word k ++ x) ≡ Some k
board_flag_back Dark x = refl
board_flag_back ReEnter x = refl

abbrev pick_board_text : List ℕ → Option BoardText
pick_board_text l = find (λ k. starts_with nat_eq l (board_text_word k)) (Name ∷ Message ∷ [])

board_text_back : (k : BoardText) (x : List ℕ) → pick_board_text (board_text_word k ++ x) ≡ Some k
board_text_back Name x = refl
board_text_back Message x = refl

abbrev pick_stat_byte : List ℕ → Option StatByte
pick_stat_byte l = find (λ k. starts_with nat_eq l (stat_byte_word k)) (X ∷ Y ∷ P1 ∷ P2 ∷ UnderElement ∷ UnderColour ∷ [])

stat_byte_back : (k : StatByte) (x : List ℕ) → pick_stat_byte (stat_byte_word k ++ x) ≡ Some k
stat_byte_back X x = refl
stat_byte_back Y x = refl
stat_byte_back P1 x = refl
stat_byte_back P2 x = refl
stat_byte_back UnderElement x = refl
stat_byte_back UnderColour x = refl

abbrev pick_stat_number : List ℕ → Option StatNumber
pick_stat_number l = find (λ k. starts_with nat_eq l (stat_number_word k)) (StepX ∷ StepY ∷ Cycle ∷ Position ∷ [])

stat_number_back : (k : StatNumber) (x : List ℕ) → pick_stat_number (stat_number_word k ++ x) ≡ Some k
stat_number_back StepX x = refl
stat_number_back StepY x = refl
stat_number_back Cycle x = refl
stat_number_back Position x = refl

-- ---- registers of a header

-- which kind of register a text begins with
abbrev header_kind_at : List ℕ → ℕ
header_kind_at l = cond (eqb (get_or l 0 0) 107) 1 (cond (eqb (get_or l 0 0) 115) (cond (eqb (get_or l 1 0) 97) 2 0) (cond (eqb (get_or l 0 0) 99) 3 (cond (eqb (get_or l 0 0) 119) 4 (cond (eqb (get_or l 0 0) 102) 5 0))))

abbrev header_kind : HeaderSetting → ℕ
header_kind (header.Number f n) = 0
header_kind (header.Key k b) = 1
header_kind (header.Saved b) = 2
header_kind (header.CurrentBoard b) = 3
header_kind (header.WorldName s) = 4
header_kind (header.Flag k s) = 5

number_kind : (k : HeaderNumber) (t : List ℕ) → header_kind_at (header_number_word k ++ t) ≡ 0
number_kind Ammo t = refl
number_kind Gems t = refl
number_kind Health t = refl
number_kind Torches t = refl
number_kind TorchTicks t = refl
number_kind EnergizerTicks t = refl
number_kind Score t = refl
number_kind TimePassed t = refl
number_kind Hundredths t = refl

header_kind_is : (s : HeaderSetting) (x : List ℕ) → header_kind_at (header_setting s ++ x) ≡ header_kind s
header_kind_is (header.Number f n) x =
    ap header_kind_at (append_assoc (header_number_word f) (integer n) x) ∙ number_kind f (integer n ++ x)
header_kind_is (header.Key k b) x = refl
header_kind_is (header.Saved b) x = refl
header_kind_is (header.CurrentBoard b) x = refl
header_kind_is (header.WorldName s) x = refl
header_kind_is (header.Flag k s) x = refl

same_header_kind : (s t : HeaderSetting) (x y : List ℕ) → header_setting s ++ x ≡ header_setting t ++ y → header_kind s ≡ header_kind t
same_header_kind s t x y h = sym (header_kind_is s x) ∙ ap header_kind_at h ∙ header_kind_is t y

numbers_code : IsCode (λ (p : HeaderNumber × ℤ). header_number_word p.0 ++ integer p.1)
numbers_code = worded header_number_word integer (words header_number_word pick_header header_back) integer_code

keys_code : IsCode (λ (p : KeyColour × Bool). key_text p.0 ++ boolean p.1)
keys_code = worded key_text boolean (words key_text pick_key key_back) (word_code boolean boolean_word)

saved_code : IsCode (λ (b : Bool). codes "saved " ++ boolean b)
saved_code = led (codes "saved ") boolean (word_code boolean boolean_word)

current_code : IsCode (λ (b : BoardId). codes "current board " ++ board_name b)
current_code = led (codes "current board ") board_name board_code

world_name_code : IsCode (λ (s : List ℕ). codes "world name " ++ quoted s)
world_name_code = led (codes "world name ") quoted quoted_code

abbrev slot_number : FlagSlot → ℕ
slot_number k = 1 + flag_index k

abbrev slot_text : FlagSlot → List ℕ
slot_text k = codes "flag " ++ number (slot_number k)

slot_code : IsCode slot_text
slot_code =
    led (codes "flag ") (λ (k : FlagSlot). number (slot_number k)) (known slot_number pick_slot number slot_back number_code)

flags_code : IsCode (λ (p : FlagSlot × List ℕ). slot_text p.0 ++ (32 ∷ quoted p.1))
flags_code = two slot_text (32 ∷ []) quoted (λ t. refl) slot_code quoted_code

pub header_code : IsCode header_setting
header_code (header.Number f m) (header.Number g n) x y p q h =
    let r = numbers_code (f, m) (g, n) x y p q h in (ap (λ (k : HeaderNumber × ℤ). header.Number k.0 k.1) r.0, r.1)
header_code (header.Key j b) (header.Key k c) x y p q h =
    let r = keys_code (j, b) (k, c) x y p q h in (ap (λ (k : KeyColour × Bool). header.Key k.0 k.1) r.0, r.1)
header_code (header.Saved b) (header.Saved c) x y p q h =
    let r = saved_code b c x y p q h in (ap header.Saved r.0, r.1)
header_code (header.CurrentBoard b) (header.CurrentBoard c) x y p q h =
    let r = current_code b c x y p q h in (ap header.CurrentBoard r.0, r.1)
header_code (header.WorldName s) (header.WorldName t) x y p q h =
    let r = world_name_code s t x y p q h in (ap header.WorldName r.0, r.1)
header_code (header.Flag j s) (header.Flag k t) x y p q h =
    let r = flags_code (j, s) (k, t) x y p q h in (ap (λ (k : FlagSlot × List ℕ). header.Flag k.0 k.1) r.0, r.1)
header_code s t x y p q h = absurd (omega (arith, same_header_kind s t x y h))

-- ---- registers of a board

abbrev board_kind_at : List ℕ → ℕ
board_kind_at l = cond (eqb (get_or l 0 0) 100) 1 (cond (eqb (get_or l 0 0) 116) 2 (cond (eqb (get_or l 0 0) 101) 3 (cond (eqb (get_or l 0 0) 110) 4 (cond (eqb (get_or l 0 0) 109) (cond (eqb (get_or l 1 0) 101) 4 0) (cond (eqb (get_or l 0 0) 114) (cond (eqb (get_or l 1 0) 101) 1 5) 0)))))

abbrev board_kind : BoardSetting → ℕ
board_kind (board.Byte f n) = 0
board_kind (board.Flag f b) = 1
board_kind (board.TimeLimit n) = 2
board_kind (board.Exit d b) = 3
board_kind (board.Text f s) = 4
board_kind (board.Rank n) = 5

byte_kind : (k : BoardByte) (t : List ℕ) → board_kind_at (board_byte_word k ++ t) ≡ 0
byte_kind MaxShots t = refl
byte_kind StartX t = refl
byte_kind StartY t = refl

flag_kind : (k : BoardFlag) (t : List ℕ) → board_kind_at (board_flag_word k ++ t) ≡ 1
flag_kind Dark t = refl
flag_kind ReEnter t = refl

text_kind : (k : BoardText) (t : List ℕ) → board_kind_at (board_text_word k ++ t) ≡ 4
text_kind Name t = refl
text_kind Message t = refl

board_kind_is : (s : BoardSetting) (x : List ℕ) → board_kind_at (board_setting s ++ x) ≡ board_kind s
board_kind_is (board.Byte f n) x =
    ap board_kind_at (append_assoc (board_byte_word f) (number n) x) ∙ byte_kind f (number n ++ x)
board_kind_is (board.Flag f b) x =
    ap board_kind_at (append_assoc (board_flag_word f) (boolean b) x) ∙ flag_kind f (boolean b ++ x)
board_kind_is (board.TimeLimit n) x = refl
board_kind_is (board.Exit d b) x = refl
board_kind_is (board.Text f s) x =
    ap board_kind_at (append_assoc (board_text_word f) (quoted s) x) ∙ text_kind f (quoted s ++ x)
board_kind_is (board.Rank n) x = refl

same_board_kind : (s t : BoardSetting) (x y : List ℕ) → board_setting s ++ x ≡ board_setting t ++ y → board_kind s ≡ board_kind t
same_board_kind s t x y h = sym (board_kind_is s x) ∙ ap board_kind_at h ∙ board_kind_is t y

bytes_code : IsCode (λ (p : BoardByte × ℕ). board_byte_word p.0 ++ number p.1)
bytes_code = worded board_byte_word number (words board_byte_word pick_board_byte board_byte_back) number_code

board_flags_code : IsCode (λ (p : BoardFlag × Bool). board_flag_word p.0 ++ boolean p.1)
board_flags_code =
    worded board_flag_word boolean (words board_flag_word pick_board_flag board_flag_back) (word_code boolean boolean_word)

limit_code : IsCode (λ (n : ℤ). codes "time limit " ++ integer n)
limit_code = led (codes "time limit ") integer integer_code

exits_code : IsCode (λ (p : Side × Option BoardId). side_text p.0 ++ optional board_name p.1)
exits_code = worded side_text (optional board_name) (words side_text pick_side side_back) board_option_code

board_texts_code : IsCode (λ (p : BoardText × List ℕ). board_text_word p.0 ++ quoted p.1)
board_texts_code = worded board_text_word quoted (words board_text_word pick_board_text board_text_back) quoted_code

rank_code : IsCode (λ (n : ℕ). codes "rank " ++ number n)
rank_code = led (codes "rank ") number number_code

pub property_code : IsCode board_setting
property_code (board.Byte f m) (board.Byte g n) x y p q h =
    let r = bytes_code (f, m) (g, n) x y p q h in (ap (λ (k : BoardByte × ℕ). board.Byte k.0 k.1) r.0, r.1)
property_code (board.Flag f b) (board.Flag g c) x y p q h =
    let r = board_flags_code (f, b) (g, c) x y p q h in (ap (λ (k : BoardFlag × Bool). board.Flag k.0 k.1) r.0, r.1)
property_code (board.TimeLimit m) (board.TimeLimit n) x y p q h =
    let r = limit_code m n x y p q h in (ap board.TimeLimit r.0, r.1)
property_code (board.Exit d b) (board.Exit e c) x y p q h =
    let r = exits_code (d, b) (e, c) x y p q h in (ap (λ (k : Side × Option BoardId). board.Exit k.0 k.1) r.0, r.1)
property_code (board.Text f s) (board.Text g t) x y p q h =
    let r = board_texts_code (f, s) (g, t) x y p q h in (ap (λ (k : BoardText × List ℕ). board.Text k.0 k.1) r.0, r.1)
property_code (board.Rank m) (board.Rank n) x y p q h =
    let r = rank_code m n x y p q h in (ap board.Rank r.0, r.1)
property_code s t x y p q h = absurd (omega (arith, same_board_kind s t x y h))

-- ---- registers of a stat

abbrev stat_kind_at : List ℕ → ℕ
stat_kind_at l = cond (eqb (get_or l 0 0) 112) (cond (eqb (get_or l 1 0) 51) 2 (cond (eqb (get_or l 1 0) 111) 1 0)) (cond (eqb (get_or l 0 0) 115) 1 (cond (eqb (get_or l 0 0) 99) 1 (cond (eqb (get_or l 0 0) 102) 3 (cond (eqb (get_or l 0 0) 108) 4 (cond (eqb (get_or l 0 0) 116) 5 0)))))

abbrev stat_kind : StatSetting → ℕ
stat_kind (stat.Byte f n) = 0
stat_kind (stat.Number f n) = 1
stat_kind (stat.P3 t) = 2
stat_kind (stat.Follower s) = 3
stat_kind (stat.Leader s) = 4
stat_kind (stat.Text t) = 5

stat_byte_kind : (k : StatByte) (t : List ℕ) → stat_kind_at (stat_byte_word k ++ t) ≡ 0
stat_byte_kind X t = refl
stat_byte_kind Y t = refl
stat_byte_kind P1 t = refl
stat_byte_kind P2 t = refl
stat_byte_kind UnderElement t = refl
stat_byte_kind UnderColour t = refl

stat_number_kind : (k : StatNumber) (t : List ℕ) → stat_kind_at (stat_number_word k ++ t) ≡ 1
stat_number_kind StepX t = refl
stat_number_kind StepY t = refl
stat_number_kind Cycle t = refl
stat_number_kind Position t = refl

stat_kind_is : (s : StatSetting) (x : List ℕ) → stat_kind_at (stat_setting s ++ x) ≡ stat_kind s
stat_kind_is (stat.Byte f n) x =
    ap stat_kind_at (append_assoc (stat_byte_word f) (stat_byte f n) x) ∙ stat_byte_kind f (stat_byte f n ++ x)
stat_kind_is (stat.Number f n) x =
    ap stat_kind_at (append_assoc (stat_number_word f) (integer n) x) ∙ stat_number_kind f (integer n ++ x)
stat_kind_is (stat.P3 t) x = refl
stat_kind_is (stat.Follower s) x = refl
stat_kind_is (stat.Leader s) x = refl
stat_kind_is (stat.Text t) x = refl

same_stat_kind : (s t : StatSetting) (x y : List ℕ) → stat_setting s ++ x ≡ stat_setting t ++ y → stat_kind s ≡ stat_kind t
same_stat_kind s t x y h = sym (stat_kind_is s x) ∙ ap stat_kind_at h ∙ stat_kind_is t y

value_code : (f : StatByte) → IsCode (stat_byte f)
value_code X = number_code
value_code Y = number_code
value_code P1 = number_code
value_code P2 = number_code
value_code UnderElement = element_code
value_code UnderColour = colour_code

stat_bytes_code : IsCode (λ (p : StatByte × ℕ). stat_byte_word p.0 ++ stat_byte p.0 p.1)
stat_bytes_code a b x y p q h =
    let e : stat_byte_word a.0 ++ (stat_byte a.0 a.1 ++ x) ≡ stat_byte_word b.0 ++ (stat_byte b.0 b.1 ++ y) =
    sym (append_assoc (stat_byte_word a.0) (stat_byte a.0 a.1) x) ∙ h ∙ append_assoc (stat_byte_word b.0) (stat_byte b.0 b.1) y in
    let r = words stat_byte_word pick_stat_byte stat_byte_back a.0 b.0 (stat_byte a.0 a.1 ++ x) (stat_byte b.0 b.1 ++ y) e in
    let s = value_code b.0 a.1 b.1 x y p q (ap (λ (k : StatByte). stat_byte k a.1 ++ x) (sym r.0) ∙ r.1) in
    let same : a ≡ b = ap (λ (k : StatByte). let made : StatByte × ℕ = (k, a.1) in made) r.0 ∙ ap (λ (k : ℕ). let made : StatByte × ℕ = (b.0, k) in made) s.0 in
    (same, s.1)

stat_numbers_code : IsCode (λ (p : StatNumber × ℤ). stat_number_word p.0 ++ integer p.1)
stat_numbers_code = worded stat_number_word integer (words stat_number_word pick_stat_number stat_number_back) integer_code

pub field_code : IsCode stat_setting
field_code (stat.Byte f m) (stat.Byte g n) x y p q h =
    let r = stat_bytes_code (f, m) (g, n) x y p q h in (ap (λ (k : StatByte × ℕ). stat.Byte k.0 k.1) r.0, r.1)
field_code (stat.Number f m) (stat.Number g n) x y p q h =
    let r = stat_numbers_code (f, m) (g, n) x y p q h in (ap (λ (k : StatNumber × ℤ). stat.Number k.0 k.1) r.0, r.1)
field_code (stat.P3 s) (stat.P3 t) x y p q h =
    let r = led (codes "p3 ") third_parameter third_code s t x y p q h in (ap stat.P3 r.0, r.1)
field_code (stat.Follower s) (stat.Follower t) x y p q h =
    let r = led (codes "follower ") (optional stat_name) stat_option_code s t x y p q h in (ap stat.Follower r.0, r.1)
field_code (stat.Leader s) (stat.Leader t) x y p q h =
    let r = led (codes "leader ") (optional stat_name) stat_option_code s t x y p q h in (ap stat.Leader r.0, r.1)
field_code (stat.Text s) (stat.Text t) x y p q h =
    let r = led (codes "text ") (optional text_name) text_option_code s t x y p q h in (ap stat.Text r.0, r.1)
field_code s t x y p q h = absurd (omega (arith, same_stat_kind s t x y h))
