-- How long the body of a fitting edit is.
use Rattle.std.proofs.Common.{◌≡◌, ℕ, leb, ℤ, ◌+◌, ◌*◌, ◌≤◌, true, Option, Some, None, List, [], ◌∷◌, ◌++◌, length, drop, length-take, length-drop, refl, length-append, arith}
use Rattle.std.proofs.lemmas.Bool.{leb-true, le-leb, and_parts}
use Rattle.zed_types.specs.declared.stamp.Stamp.{Stamp}
use Rattle.zed_types.specs.declared.names.Name.{Name as ThingName}
use Rattle.zed_types.specs.declared.names.BoardId.{BoardId}
use Rattle.zed_types.specs.declared.names.StatId.{StatId}
use Rattle.zed_types.specs.declared.names.TextId.{TextId}
use Rattle.zed_types.specs.declared.names.ElemId.{ElemId}
use Rattle.zed_types.specs.declared.header.HeaderSetting.{HeaderSetting}
use Rattle.zed_types.specs.declared.header.HeaderSetting.TheVariants as header
use Rattle.zed_types.specs.declared.property.BoardText.TheVariants.{Name, Message}
use Rattle.zed_types.specs.declared.property.BoardSetting.{BoardSetting}
use Rattle.zed_types.specs.declared.property.BoardSetting.TheVariants as board
use Rattle.zed_types.specs.declared.stat_field.ThirdParameter.{ThirdParameter}
use Rattle.zed_types.specs.declared.stat_field.ThirdParameter.TheVariants as third
use Rattle.zed_types.specs.declared.stat_field.StatSetting.{StatSetting}
use Rattle.zed_types.specs.declared.stat_field.StatSetting.TheVariants as stat
use Rattle.zed_types.specs.declared.stat_field.StatFields.{StatFields}
use Rattle.zed_world.specs.Canonical.{IsCanonical}
use Rattle.zed_world.proofs.Rewritten.{canonical_tested}
use Rattle.zed_op.specs.declared.op.Op.{Op}
use Rattle.zed_op.specs.declared.op.Op.TheVariants.{Genesis, SetHeader, BoardAdd, BoardRemove, SetBoard, SetCells, StatAdd, StatRemove, SetStat, TextAdd, TextInsert, TextDelete}
use Rattle.zed_op.specs.declared.op.Edit.{Edit}
use Rattle.zed_op.specs.Fit.{is_header_in_range, is_property_in_range, is_in_range, has_good_world}
use Rattle.std.specs.List.{flat_map}
use Rattle.zed_op.specs.Sizes.{IsStatFields, IsOp}
use Rattle.zed_editfile.specs.Stream.{is_length}
use Rattle.zed_editfile.specs.Spelling.{integer, stamp, name, optional, board_name, stat_name, text_name, element_name, third_parameter, header_setting, board_setting, stat_setting, stat_fields, op_text, spelling, record_text}
use Rattle.zed_editfile.proofs.Numbers.{length_number}

-- ---- the world of a Genesis

-- what the law on canonical files promises
abbrev pub AreShort : Type 0
AreShort = (bytes : List ℕ) → IsCanonical bytes → length bytes ≤ 512 + 101 * (2 + 32767)

-- ---- fields

pub length_both : (a b : List ℕ) → length (a ++ b) ≡ length a + length b
length_both a b = length-append a b

pub length_name : (n : ThingName) → length (name n) ≡ 12
unfolding name
length_name n = simp (length-append, length_number) refl

length_optional : {A : Type 0} (spell : A → List ℕ) (n : ℕ) → ((a : A) → length (spell a) ≡ n) → (o : Option A)
    → length (optional spell o) ≤ 1 + n
length_optional spell n h None = omega arith
length_optional spell n h (Some a) = omega (arith, h a)

length_board : (b : BoardId) → length (board_name b) ≡ 12
length_board b = length_name b.name

length_stat : (s : StatId) → length (stat_name s) ≡ 12
length_stat s = length_name s.name

length_text : (t : TextId) → length (text_name t) ≡ 12
length_text t = length_name t.name

length_element : (a : ElemId) → length (element_name a) ≡ 12
length_element a = length_name a.name

length_target : (p : ThirdParameter) → length (third_parameter p) ≤ 13
length_target (third.Byte n) = omega arith
length_target (third.Board b) = omega (arith, length_board b)

pub length_integer : (z : ℤ) → length (integer z) ≡ 2
length_integer z = length_number 2 _

-- a register and its value
length_header : (s : HeaderSetting) → is_header_in_range s ≡ true → length (header_setting s) ≤ 22
length_header (header.Number f n) h = omega (arith, length_integer n)
length_header (header.Key k b) h = omega arith
length_header (header.Saved b) h = omega arith
length_header (header.CurrentBoard b) h = omega (arith, length_board b)
length_header (header.WorldName s) h = omega (arith, leb-true _ _ h)
length_header (header.Flag k s) h = omega (arith, leb-true _ _ h)

length_property : (s : BoardSetting) → is_property_in_range s ≡ true → length (board_setting s) ≤ 60
length_property (board.Byte f n) h = omega arith
length_property (board.Flag f b) h = omega arith
length_property (board.Rank n) h = omega (arith, length_number 2 n)
length_property (board.TimeLimit n) h = omega (arith, length_integer n)
length_property (board.Exit d b) h = omega (arith, length_optional board_name 12 length_board b)
length_property (board.Text Name s) h = omega (arith, leb-true _ _ h)
length_property (board.Text Message s) h = omega (arith, leb-true _ _ h)

length_register : (s : StatSetting) → length (stat_setting s) ≤ 14
length_register (stat.Byte f n) = omega arith
length_register (stat.Number f n) = omega (arith, length_integer n)
length_register (stat.P3 target) = omega (arith, length_target target)
length_register (stat.Follower s) = omega (arith, length_optional stat_name 12 length_stat s)
length_register (stat.Leader s) = omega (arith, length_optional stat_name 12 length_stat s)
length_register (stat.Text t) = omega (arith, length_optional text_name 12 length_text t)

pub length_integers : (ns : List ℤ) → length (flat_map integer ns) ≡ 2 * length ns
length_integers [] = refl
length_integers (n ∷ ns) = omega (arith, length-append (integer n) (flat_map integer ns), length_integer n, length_integers ns)

length_fields : (f : StatFields) → IsStatFields f → length (stat_fields f) ≤ 38
length_fields f g =
    simp length-append
    (omega (arith, length-take 2 f.bytes, length-take 2 (drop 2 f.bytes), length-drop 2 f.bytes, length-drop 2 (drop 2 f.bytes), length_integers f.numbers, g.all_bytes, g.all_numbers, length_target f.p3, length_optional text_name 12 length_text f.text))

-- ---- edits

pub length_stamp : (s : Stamp) → length (stamp s) ≡ 8
length_stamp s = simp (length-append, length_number) refl

-- one byte for the number of the op, and what follows it
length_op : AreShort → (op : Op) → is_in_range op ≡ true → has_good_world op ≡ true → IsOp op
    → (1 ≤ length (op_text op)) × (length (op_text op) ≤ 3310182)
length_op law (Genesis bytes) h k g = let short = law bytes ((canonical_tested bytes).0 k) in (omega arith, omega arith)
length_op law (SetHeader setting) h k g = let most = length_header setting h in (omega arith, omega arith)
length_op law (BoardAdd s) h k g = let most = leb-true (length s) 50 h in (omega arith, omega arith)
length_op law (BoardRemove b) h k g = let name = length_board b in (omega arith, omega arith)
length_op law (SetBoard b setting) h k g = (omega arith, simp length-append (omega (arith, length_board b, length_property setting h)))
length_op law (SetCells b r t) h k g = (omega arith, simp length-append (omega (arith, length_board b)))
length_op law (StatAdd b f) h k g =
    (omega arith, omega (arith, length-append (7 ∷ board_name b) (stat_fields f), length_board b, length_fields f g.1))
length_op law (StatRemove s) h k g = let name = length_stat s in (omega arith, omega arith)
length_op law (SetStat s setting) h k g = (omega arith, simp length-append (omega (arith, length_stat s, length_register setting)))
length_op law TextAdd h k g = (omega arith, omega arith)
length_op law (TextInsert t after bytes) h k g =
    let most : length bytes ≤ 32767 = leb-true (length bytes) 32767 (and_parts (leb 1 (length bytes)) (leb (length bytes) 32767) h).1 in
    (omega arith, simp length-append (omega (arith, length_text t, length_optional element_name 12 length_element after)))
length_op law (TextDelete t r) h k g = (omega arith, simp (length-append, length_number) (omega (arith, length_text t)))

pub length_record : (e : Edit) → length (record_text e) ≡ 4 + length (spelling e)
unfolding record_text
length_record e = simp (length-append, length_number) refl

pub body_is_short : AreShort → (e : Edit) → is_in_range e.op ≡ true → has_good_world e.op ≡ true → IsOp e.op
    → is_length (length (spelling e)) ≡ true
unfolding spelling
body_is_short law e h k g =
    let op = length_op law e.op h k g in
    let whole = length-append (stamp e.stamp) (op_text e.op) in
    let low : 9 ≤ length (stamp e.stamp ++ op_text e.op) = omega (arith, whole, length_stamp e.stamp, op.0) in
    let high : length (stamp e.stamp ++ op_text e.op) ≤ 4194304 = omega (arith, whole, length_stamp e.stamp, op.1) in
    let a = le-leb _ _ low in
    let b = le-leb _ _ high in
    rw (a, b) refl
