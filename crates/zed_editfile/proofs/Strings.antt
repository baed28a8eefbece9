-- Which fields, ops and edits have a string, by the bytes that spell them.
use Rattle.std.proofs.Common.{◌≡◌, ℕ, Bool, true, cond, eqb, List, length, Result, Ok, Err, sym, subst, arith, inl, inr}
use Rattle.std.proofs.lemmas.Bool.{lt-ltb}
use Rattle.zed_types.specs.declared.header.FlagSlot.{FlagSlot}
use Rattle.zed_types.specs.declared.header.HeaderSetting.{HeaderSetting}
use Rattle.zed_types.specs.declared.header.HeaderSetting.TheVariants as header
use Rattle.zed_types.specs.declared.names.BoardId.{BoardId}
use Rattle.zed_types.specs.declared.property.BoardText.{BoardText}
use Rattle.zed_types.specs.declared.property.BoardSetting.{BoardSetting}
use Rattle.zed_types.specs.declared.property.BoardSetting.TheVariants as board
use Rattle.zed_types.specs.declared.stamp.Stamp.{Stamp}
use Rattle.zed_types.specs.Strings.{has_bytes, header_has_string, board_has_string}
use Rattle.zed_types.specs.Steps.{◌>>=◌}
use Rattle.zed_types.proofs.Steps.{bind_ok, ok_is}
use Rattle.zed_op.specs.declared.cause.Cause.TheVariants.{Long}
use Rattle.zed_op.specs.declared.op.Op.{Op}
use Rattle.zed_op.specs.declared.op.Op.TheVariants.{Genesis, SetHeader, BoardAdd, BoardRemove, SetBoard, SetCells, StatAdd, StatRemove, SetStat, TextAdd, TextInsert, TextDelete}
use Rattle.zed_op.specs.declared.op.Edit.{Edit}
use Rattle.zed_op.specs.Growth.{has_string}
use Rattle.zed_op.specs.Verdict.{is_genesis, BeginsItsWorld, HangsOnItsWorld}
use Rattle.zed_editfile.specs.declared.error.EditFileError.{EditFileError}
use Rattle.zed_editfile.specs.declared.error.EditFileError.TheVariants.{BadEdit}
use Rattle.zed_editfile.specs.Reading.{Field, reads_such, mapped, byte_at, stamp_at, op_at, op_in, unchecked_edit_at, SpellsString, string_at}
use Rattle.zed_editfile.proofs.Codec.{chosen}

-- ---- what is made of a string has it

such_mapped : {A B : Type 0} (f : A → B) (has : B → Bool) (read : Field A) → reads_such (λ a. has (f a)) read ≡ true
    → reads_such has (mapped f read) ≡ true
such_mapped f has (Ok x) h = h
such_mapped f has (Err e) h = absurd cc

pub world_name_has : (bytes : List ℕ) → reads_such has_bytes (string_at bytes) ≡ true
    → reads_such header_has_string (mapped header.WorldName (string_at bytes)) ≡ true
world_name_has bytes h = such_mapped header.WorldName header_has_string (string_at bytes) h

pub flag_has : (slot : FlagSlot) (bytes : List ℕ) → reads_such has_bytes (string_at bytes) ≡ true
    → reads_such header_has_string (mapped (header.Flag slot) (string_at bytes)) ≡ true
flag_has slot bytes h = such_mapped (header.Flag slot) header_has_string (string_at bytes) h

pub board_text_has : (text : BoardText) (bytes : List ℕ) → reads_such has_bytes (string_at bytes) ≡ true
    → reads_such board_has_string (mapped (board.Text text) (string_at bytes)) ≡ true
board_text_has text bytes h = such_mapped (board.Text text) board_has_string (string_at bytes) h

pub set_header_has : (read : Field HeaderSetting) → reads_such header_has_string read ≡ true
    → reads_such has_string (mapped SetHeader read) ≡ true
set_header_has read h = such_mapped SetHeader has_string read h

pub board_add_has : (read : Field (List ℕ)) → reads_such has_bytes read ≡ true → reads_such has_string (mapped BoardAdd read) ≡ true
board_add_has read h = such_mapped BoardAdd has_string read h

pub set_board_has : (b : BoardId) (read : Field BoardSetting) → reads_such board_has_string read ≡ true
    → reads_such has_string (read >>= λ x. Ok (SetBoard b x.0, x.1)) ≡ true
set_board_has b (Ok x) h = h
set_board_has b (Err e) h = absurd cc

-- ---- a Genesis whose bytes begin a world has a string

genesis_has : (op : Op) → is_genesis op ≡ true → BeginsItsWorld op → has_string op ≡ true
genesis_has (Genesis bytes) is begins = lt-ltb 0 (length bytes) (omega (arith, begins.long))
genesis_has (SetHeader setting) is begins = absurd cc
genesis_has (BoardAdd name) is begins = absurd cc
genesis_has (BoardRemove b) is begins = absurd cc
genesis_has (SetBoard b setting) is begins = absurd cc
genesis_has (SetCells b r tile) is begins = absurd cc
genesis_has (StatAdd b fields) is begins = absurd cc
genesis_has (StatRemove s) is begins = absurd cc
genesis_has (SetStat s setting) is begins = absurd cc
genesis_has TextAdd is begins = absurd cc
genesis_has (TextInsert t after bytes) is begins = absurd cc
genesis_has (TextDelete t range) is begins = absurd cc

abbrev ended : Stamp → Op × List ℕ → Result Edit EditFileError
ended made op = cond (eqb (length op.1) 0) (Ok (record { stamp = made; op = op.0 })) (Err (BadEdit Long))

op_ended : (made : Stamp) (read : Field Op) (e : Edit) → (read >>= ended made) ≡ Ok e → has_string e.op ≡ true
    → reads_such has_string read ≡ true
op_ended made (Ok op) e h has =
    let c = chosen (eqb (length op.1) 0) (Ok (record { stamp = made; op = op.0 })) (Err (BadEdit Long)) (Ok e) h in
    elim c [
      | inl good ↦ let is = ok_is (record { stamp = made; op = op.0 }) e good.1 in subst (λ (x : Edit). has_string x.op ≡ true) (sym is) has
      | inr bad ↦ let no = bad.1 in absurd cc
    ]
op_ended made (Err d) e h has = absurd cc

spelled : (v : ℕ) (body : List ℕ) (e : Edit) → unchecked_edit_at v body ≡ Ok e → has_string e.op ≡ true → SpellsString v body
unfolding unchecked_edit_at op_in
spelled v body e h has =
    let a = bind_ok (stamp_at body) (λ made. byte_at made.1 >>= λ n. op_at v n.0 n.1 >>= λ op. ended made.0 op) e h in
    let made = a.0 in
    let b = bind_ok (byte_at made.1) (λ n. op_at v n.0 n.1 >>= λ op. ended made.0 op) e a.2 in
    let n = b.0 in
    rw (a.1, b.1) (op_ended made.0 (op_at v n.0 n.1) e b.2 has)

pub world_has : (v : ℕ) (body : List ℕ) (e : Edit) → unchecked_edit_at v body ≡ Ok e → HangsOnItsWorld e → SpellsString v body
world_has v body e h hangs = spelled v body e h (genesis_has e.op hangs.0 hangs.4)
