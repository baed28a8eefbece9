-- Which edits have strings, and which may need memory where they are done.
use Rattle.std.specs.Prelude.{Bool, true, false}
use Rattle.zed_types.specs.Strings.{has_bytes, header_has_string, board_has_string}
use Rattle.zed_op.specs.declared.op.Op.{Op}
use Rattle.zed_op.specs.declared.op.Op.TheVariants.{Genesis, SetHeader, BoardAdd, SetBoard, StatAdd, TextAdd, TextInsert}

-- whether an op has a string or bytes, and one that isn't empty
abbrev pub has_string : Op → Bool
has_string (Genesis bytes) = has_bytes bytes
has_string (SetHeader setting) = header_has_string setting
has_string (BoardAdd name) = has_bytes name
has_string (SetBoard b setting) = board_has_string setting
has_string (TextInsert t after bytes) = has_bytes bytes
has_string _ = false

-- whether a document may grow by an op: it adds a thing or bytes of a text, or sets a string
abbrev pub may_grow : Op → Bool
may_grow (Genesis bytes) = true
may_grow (SetHeader setting) = header_has_string setting
may_grow (BoardAdd name) = true
may_grow (SetBoard b setting) = board_has_string setting
may_grow (StatAdd b fields) = true
may_grow TextAdd = true
may_grow (TextInsert t after bytes) = true
may_grow _ = false
