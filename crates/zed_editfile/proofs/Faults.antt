-- The fault of a reader: that the bytes are cut short is told at the end alone.
use Rattle.std.proofs.Common.{◌≡◌, ℕ, ◌-◌, Bool, true, false, not, ◌&&◌, cond, leb, ltb, eqb, List, [], ◌∷◌, length, drop, get_or, Option, Some, None, Result, Ok, Err, ap, sym, ◌∙◌, inl, inr}
use Rattle.byteorder.specs.Endian.{little_number}
use Rattle.zed_types.specs.declared.header.HeaderSetting.TheVariants as header
use Rattle.zed_types.specs.declared.property.BoardSetting.TheVariants as board
use Rattle.zed_types.specs.declared.stat_field.ThirdParameter.TheVariants as third
use Rattle.zed_types.specs.declared.stat_field.StatSetting.TheVariants as stat
use Rattle.zed_types.specs.Header.{header_number_of_field}
use Rattle.zed_types.specs.Board.{board_byte_of_field, board_flag_of_field, side_of_field, board_text_of_field}
use Rattle.zed_types.specs.Stat.{stat_byte_of_field, stat_number_of_field}
use Rattle.zed_op.specs.declared.cause.Cause.{Cause}
use Rattle.zed_op.specs.declared.cause.Cause.TheVariants.{Short, Op as BadOp, Tag, Long}
use Rattle.zed_op.specs.declared.op.Op.TheVariants.{SetHeader, BoardAdd, BoardRemove, SetBoard, StatAdd, StatRemove, SetStat, TextDelete}
use Rattle.zed_op.specs.declared.op.Op.{Op}
use Rattle.zed_op.specs.declared.op.Edit.{Edit}
use Rattle.zed_op.specs.Fit.{fault}
use Rattle.zed_types.specs.Steps.{◌>>=◌}
use Rattle.zed_editfile.specs.declared.error.EditFileError.{EditFileError}
use Rattle.zed_editfile.specs.declared.error.EditFileError.TheVariants.{Memory, Magic, NewVersion, OtherWorld, RecordLength, BadEdit, CutShort}
use Rattle.zed_editfile.specs.Laws.{CutIsToldAtTheEnd}
use Rattle.zed_editfile.specs.Reading.{Field, mapped, by_kind, pair_at, unless_faulty, byte_at, number_at, integer_at, boolean_at, string_at, stamp_at, name_at, board_with, stat_with, text_with, element_with, board_name_at, stat_name_at, text_name_at, element_name_at, optional_at, tile_at, rectangle_at, third_parameter_at, key_of, flag_of, header_value_at, header_setting_at, board_value_at, board_setting_at, stat_value_at, stat_setting_at, stat_fields_at, set_board_at, set_cells_at, stat_add_at, set_stat_at, text_insert_at, range_at, text_delete_at, op_at, unchecked_edit_at, edit_at}
use Rattle.zed_editfile.specs.Stream.{Stop, fault_of, has_letters, is_length, is_other, is_version, body_at, head_stop, record_stop, Progress, stop_of, Stops}
use Rattle.zed_editfile.proofs.Stopping.{StopsBut, choice, failing, nowhere, waiting}

-- ---- what is read may be bad, but never cut short

abbrev NotCut : {A : Type 0} → Result A EditFileError → Type 0
NotCut r = r ≡ Err CutShort → ⊥

-- a reader of fields that doesn't say so
abbrev Reader : {A : Type 0} → (List ℕ → Field A) → Type 0
Reader read = (bytes : List ℕ) → NotCut (read bytes)

fine : {A : Type 0} (x : A) → NotCut (Ok x)
fine x h = cc

bad : {A : Type 0} (c : Cause) → NotCut {A = A} (Err (BadEdit c))
bad c h = cc

either : {A : Type 0} (b : Bool) (r s : Result A EditFileError) → NotCut r → NotCut s → NotCut (cond b r s)
either true r s h k = h
either false r s h k = k

steps : {A B : Type 0} (r : Result A EditFileError) (f : A → Result B EditFileError) → NotCut r → ((x : A) → NotCut (f x))
    → NotCut (r >>= f)
steps (Ok x) f h k = k x
steps (Err e) f h k = λ cut. h (let same : e ≡ CutShort = cc in ap (λ (e : EditFileError). Err e) same)

made : {A B : Type 0} (f : A → B) (r : Field A) → NotCut r → NotCut (mapped f r)
made f r h = steps r (λ x. Ok (f x.0, x.1)) h (λ x. fine (f x.0, x.1))

kinds : {A C : Type 0} (o : Option A) (read : A → Field C) (other : Field C) → ((a : A) → NotCut (read a)) → NotCut other
    → NotCut (by_kind o read other)
kinds None read other h k = k
kinds (Some a) read other h k = h a

pair : {A B : Type 0} (make : A → B → Op) (first : List ℕ → Field A) (second : List ℕ → Field B) → Reader first → Reader second
    → Reader (pair_at make first second)
pair make first second h k bytes =
    steps (first bytes) (λ a. second a.1 >>= λ b. Ok (make a.0 b.0, b.1)) (h bytes) (λ a. steps (second a.1) (λ b. Ok (make a.0 b.0, b.1)) (k a.1) (λ b. fine (make a.0 b.0, b.1)))

-- ---- fields

byte : Reader byte_at
unfolding byte_at
byte [] = bad Short
byte (b ∷ rest) = fine (b, rest)

number : (n : ℕ) → Reader (number_at n)
unfolding number_at
number n bytes = either (ltb (length bytes) n) _ _ (bad Short) (fine (little_number n bytes, drop n bytes))

integer : Reader integer_at
unfolding integer_at
integer bytes = steps (number_at 2 bytes) _ (number 2 bytes) (λ n. fine _)

boolean : Reader boolean_at
unfolding boolean_at
boolean bytes = steps (byte_at bytes) _ (byte bytes) (λ b. either (eqb b.0 0) _ _ (fine _) (either (eqb b.0 1) _ _ (fine _) (bad Tag)))

string : Reader string_at
unfolding string_at
string bytes = steps (byte_at bytes) _ (byte bytes) (λ n. either (ltb (length n.1) n.0) _ _ (bad Short) (fine _))

stamp : Reader stamp_at
unfolding stamp_at
stamp bytes = steps (number_at 6 bytes) _ (number 6 bytes) (λ time. steps (number_at 2 time.1) _ (number 2 time.1) (λ replica. fine _))

name : Reader name_at
unfolding name_at
name bytes = steps (stamp_at bytes) _ (stamp bytes) (λ made. steps (number_at 4 made.1) _ (number 4 made.1) (λ n. fine _))

board_name : Reader board_name_at
unfolding board_name_at
board_name bytes = made board_with (name_at bytes) (name bytes)

stat_name : Reader stat_name_at
unfolding stat_name_at
stat_name bytes = made stat_with (name_at bytes) (name bytes)

text_name : Reader text_name_at
unfolding text_name_at
text_name bytes = made text_with (name_at bytes) (name bytes)

element_name : Reader element_name_at
unfolding element_name_at
element_name bytes = made element_with (name_at bytes) (name bytes)

optional : {A : Type 0} (read : List ℕ → Field A) → Reader read → Reader (optional_at read)
unfolding optional_at
optional read h bytes = steps (boolean_at bytes) _ (boolean bytes) (λ tag. either tag.0 _ _ (made Some (read tag.1) (h tag.1)) (fine _))

tile : Reader tile_at
unfolding tile_at
tile bytes = steps (byte_at bytes) _ (byte bytes) (λ element. steps (byte_at element.1) _ (byte element.1) (λ colour. fine _))

rectangle : Reader rectangle_at
unfolding rectangle_at
rectangle bytes =
    steps (byte_at bytes) _ (byte bytes)
    (λ left. steps (byte_at left.1) _ (byte left.1) (λ top. steps (byte_at top.1) _ (byte top.1) (λ right. steps (byte_at right.1) _ (byte right.1) (λ bottom. fine _))))

third_parameter : Reader third_parameter_at
unfolding third_parameter_at
third_parameter bytes = steps (boolean_at bytes) _ (boolean bytes) (λ tag. either tag.0 _ _ (made third.Board (board_name_at tag.1) (board_name tag.1)) (made third.Byte (byte_at tag.1) (byte tag.1)))

-- ---- registers

header_value : (f : ℕ) → Reader (header_value_at f)
unfolding header_value_at
header_value f bytes =
    kinds (header_number_of_field f) _ _ (λ k. made (header.Number k) (integer_at bytes) (integer bytes))
    (either (ltb f 16) _ _ (made (header.Key (key_of (f - 9))) (boolean_at bytes) (boolean bytes))
    (either (eqb f 16) _ _ (made header.Saved (boolean_at bytes) (boolean bytes))
    (either (eqb f 17) _ _ (made header.CurrentBoard (board_name_at bytes) (board_name bytes))
    (either (eqb f 18) _ _ (made header.WorldName (string_at bytes) (string bytes)) (either (ltb f 29) _ _ (made (header.Flag (flag_of (f - 19))) (string_at bytes) (string bytes)) (bad Tag))))))

header_setting : Reader header_setting_at
unfolding header_setting_at
header_setting bytes = steps (byte_at bytes) _ (byte bytes) (λ f. header_value f.0 f.1)

board_value : (v f : ℕ) → Reader (board_value_at v f)
unfolding board_value_at
board_value v f bytes =
    kinds (board_byte_of_field f) _ _ (λ k. made (board.Byte k) (byte_at bytes) (byte bytes))
    (kinds (board_flag_of_field f) _ _ (λ k. made (board.Flag k) (boolean_at bytes) (boolean bytes))
    (kinds (side_of_field f) _ _ (λ k. made (board.Exit k) (optional_at board_name_at bytes) (optional board_name_at board_name bytes))
    (kinds (board_text_of_field f) _ _ (λ k. made (board.Text k) (string_at bytes) (string bytes)) (either (eqb f 5) _ _ (made board.TimeLimit (integer_at bytes) (integer bytes)) (either (eqb f 12 && leb 2 v) _ _ (made board.Rank (number_at 2 bytes) (number 2 bytes)) (bad Tag))))))

board_setting : (v : ℕ) → Reader (board_setting_at v)
unfolding board_setting_at
board_setting v bytes = steps (byte_at bytes) _ (byte bytes) (λ f. board_value v f.0 f.1)

stat_value : (f : ℕ) → Reader (stat_value_at f)
unfolding stat_value_at
stat_value f bytes =
    kinds (stat_byte_of_field f) _ _ (λ k. made (stat.Byte k) (byte_at bytes) (byte bytes))
    (kinds (stat_number_of_field f) _ _ (λ k. made (stat.Number k) (integer_at bytes) (integer bytes))
    (either (eqb f 8) _ _ (made stat.P3 (third_parameter_at bytes) (third_parameter bytes))
    (either (eqb f 9) _ _ (made stat.Follower (optional_at stat_name_at bytes) (optional stat_name_at stat_name bytes))
    (either (eqb f 10) _ _ (made stat.Leader (optional_at stat_name_at bytes) (optional stat_name_at stat_name bytes))
    (either (eqb f 13) _ _ (made stat.Text (optional_at text_name_at bytes) (optional text_name_at text_name bytes)) (bad Tag))))))

stat_setting : Reader stat_setting_at
unfolding stat_setting_at
stat_setting bytes = steps (byte_at bytes) _ (byte bytes) (λ f. stat_value f.0 f.1)

stat_fields : Reader stat_fields_at
unfolding stat_fields_at
stat_fields bytes =
    steps (byte_at bytes) _ (byte bytes)
    (λ x. steps (byte_at x.1) _ (byte x.1)
    (λ y. steps (integer_at y.1) _ (integer y.1)
    (λ step_x. steps (integer_at step_x.1) _ (integer step_x.1)
    (λ step_y. steps (integer_at step_y.1) _ (integer step_y.1)
    (λ cycle. steps (byte_at cycle.1) _ (byte cycle.1)
    (λ p1. steps (byte_at p1.1) _ (byte p1.1)
    (λ p2. steps (third_parameter_at p2.1) _ (third_parameter p2.1)
    (λ p3. steps (tile_at p3.1) _ (tile p3.1) (λ under. steps (optional_at text_name_at under.1) _ (optional text_name_at text_name under.1) (λ text. fine _))))))))))

-- ---- ops

set_cells : Reader set_cells_at
unfolding set_cells_at
set_cells bytes = steps (board_name_at bytes) _ (board_name bytes) (λ b. steps (rectangle_at b.1) _ (rectangle b.1) (λ r. steps (tile_at r.1) _ (tile r.1) (λ t. fine _)))

text_insert : Reader text_insert_at
unfolding text_insert_at
text_insert bytes = steps (text_name_at bytes) _ (text_name bytes) (λ t. steps (optional_at element_name_at t.1) _ (optional element_name_at element_name t.1) (λ after. fine _))

range : Reader range_at
unfolding range_at
range bytes = steps (stamp_at bytes) _ (stamp bytes) (λ made. steps (number_at 4 made.1) _ (number 4 made.1) (λ first. steps (number_at 4 first.1) _ (number 4 first.1) (λ last. fine _)))

op : (v n : ℕ) → Reader (op_at v n)
unfolding op_at set_board_at stat_add_at set_stat_at text_delete_at
op v n bytes =
    either (eqb n 1) _ _ (fine _)
    (either (eqb n 2) _ _ (made SetHeader (header_setting_at bytes) (header_setting bytes))
    (either (eqb n 3) _ _ (made BoardAdd (string_at bytes) (string bytes))
    (either (eqb n 4) _ _ (made BoardRemove (board_name_at bytes) (board_name bytes))
    (either (eqb n 5) _ _ (pair SetBoard board_name_at (board_setting_at v) board_name (board_setting v) bytes)
    (either (eqb n 6) _ _ (set_cells bytes)
    (either (eqb n 7) _ _ (pair StatAdd board_name_at stat_fields_at board_name stat_fields bytes)
    (either (eqb n 8) _ _ (made StatRemove (stat_name_at bytes) (stat_name bytes))
    (either (eqb n 9) _ _ (pair SetStat stat_name_at stat_setting_at stat_name stat_setting bytes)
    (either (eqb n 10) _ _ (fine _) (either (eqb n 11) _ _ (text_insert bytes) (either (eqb n 12) _ _ (pair TextDelete text_name_at range_at text_name range bytes) (bad BadOp))))))))))))

fields : (v : ℕ) (bytes : List ℕ) → NotCut (unchecked_edit_at v bytes)
unfolding unchecked_edit_at
fields v bytes =
    steps (stamp_at bytes) _ (stamp bytes) (λ made. steps (byte_at made.1) _ (byte made.1) (λ number. steps (op_at v number.0 number.1) _ (op v number.0 number.1) (λ op. either (eqb (length op.1) 0) _ _ (fine _) (bad Long))))

unfaulty : (o : Option Cause) (e : Edit) → NotCut (unless_faulty o e)
unfaulty None e = fine e
unfaulty (Some c) e = bad c

edit : (v : ℕ) (bytes : List ℕ) → NotCut (edit_at v bytes)
unfolding edit_at
edit v bytes = steps (unchecked_edit_at v bytes) _ (fields v bytes) (λ e. unfaulty (fault e) e)

-- ---- where reading stops

-- not for missing bytes
abbrev StopsFine : Option Stop → Type 0
StopsFine stop = StopsBut CutShort stop

by_result : (r : Result Edit EditFileError) → NotCut r → StopsFine (fault_of r)
by_result (Ok e) h = nowhere
by_result (Err f) h = failing f (λ same. h (let is : f ≡ CutShort = cc in ap (λ (e : EditFileError). Err e) is))

head : (asked : Option ℕ) (bytes : List ℕ) → StopsFine (head_stop asked bytes)
unfolding head_stop
head asked bytes =
    choice (not (has_letters bytes)) _ _ (failing Magic (λ h. cc))
    (choice (ltb (length bytes) 4) _ _ (waiting bytes)
    (choice (not (is_version (get_or bytes 3 0))) _ _ (failing NewVersion (λ h. cc))
    (choice (ltb (length bytes) 12) _ _ (waiting bytes) (choice (is_other asked (little_number 8 (drop 4 bytes))) _ _ (failing OtherWorld (λ h. cc)) nowhere))))

record_front : (v : ℕ) (bytes : List ℕ) → StopsFine (record_stop v bytes)
unfolding record_stop
record_front v bytes =
    choice (ltb (length bytes) 4) _ _ (waiting bytes)
    (choice (not (is_length (little_number 4 bytes))) _ _ (failing RecordLength (λ h. cc)) (choice (ltb (length (drop 4 bytes)) (little_number 4 bytes)) _ _ (waiting bytes) (by_result (edit_at v (body_at bytes)) (edit v (body_at bytes)))))

stopped : (left : List ℕ) (p : Progress) (stop : Option Stop) → StopsFine stop → Stops left p stop → p.fault ≡ Some CutShort → ⊥
stopped left p stop fine (inl memory) cut = let both : Some Memory ≡ Some CutShort = sym memory.0 ∙ cut in cc
stopped left p stop fine (inr is) cut = fine (stop_of p) is cut

pub cut_is_told_at_the_end : CutIsToldAtTheEnd
cut_is_told_at_the_end bytes found p (inl h) cut = head p.asked bytes (stop_of p) h.stop cut
cut_is_told_at_the_end bytes found p (inr h) cut =
    stopped h.tail p (record_stop p.version h.tail) (record_front p.version h.tail) h.stop cut
