-- When an edit fits, and the first cause where it doesn't.
use Rattle.std.specs.Prelude.{ℕ, nat_le, Bool, true, not, ◌&&◌, ◌||◌, if◌then◌else◌, List, length, Option, Some, None, ◌≡◌}
use Rattle.std.specs.List.{list_all}
use Rattle.zed_types.specs.declared.stamp.Stamp.{Stamp}
use Rattle.zed_types.specs.Limits.{largest_body, last_time}
use Rattle.zed_types.specs.declared.header.HeaderSetting.{HeaderSetting}
use Rattle.zed_types.specs.declared.header.HeaderSetting.TheVariants.{WorldName, Flag as FlagSetting}
use Rattle.zed_types.specs.declared.property.BoardText.{BoardText}
use Rattle.zed_types.specs.declared.property.BoardText.TheVariants.{Name, Message}
use Rattle.zed_types.specs.declared.property.BoardSetting.{BoardSetting}
use Rattle.zed_types.specs.declared.property.BoardSetting.TheVariants.{Text as TextProperty}
use Rattle.zed_types.specs.Stamp.{before, genesis_stamp, same_stamp}
use Rattle.zed_types.specs.Names.{same_board}
use Rattle.zed_world.specs.Canonical.{is_canonical}
use Rattle.zed_op.specs.declared.cause.Cause.{Cause}
use Rattle.zed_op.specs.declared.cause.Cause.TheVariants as cause
use Rattle.zed_op.specs.declared.op.Op.{Op}
use Rattle.zed_op.specs.declared.op.Op.TheVariants.{Genesis, SetHeader, BoardAdd, BoardRemove, SetBoard, SetCells, TextInsert, TextDelete}
use Rattle.zed_op.specs.declared.op.Edit.{Edit}
use Rattle.zed_types.specs.Names.{title}
use Rattle.zed_types.specs.Table.{is_in_table}
use Rattle.zed_op.specs.Names.{names_of, stamp_of}

-- the stamps that authors give: time 2 to 2^48 - 1, replica 1 and up
abbrev pub is_author_stamp : Stamp → Bool
is_author_stamp s = nat_le 2 s.time && nat_le s.time last_time && nat_le 1 s.replica

-- the stamps that there are
abbrev pub is_stamp : Stamp → Bool
is_stamp s = same_stamp s genesis_stamp || is_author_stamp s

-- the stamps that an edit may have
abbrev pub is_own_stamp : Op → Stamp → Bool
is_own_stamp (Genesis bytes) s = same_stamp s genesis_stamp
is_own_stamp _ s = is_author_stamp s

-- an edit's own stamp and those that it names are inside the rules
abbrev pub has_good_stamps : Edit → Bool
has_good_stamps e = is_own_stamp e.op e.stamp && list_all (λ x. is_stamp (stamp_of x)) (names_of e.op)

-- a string of at most n bytes
abbrev pub is_at_most : ℕ → List ℕ → Bool
is_at_most n s = nat_le (length s) n

-- the string of a header register is short enough
abbrev pub is_header_in_range : HeaderSetting → Bool
is_header_in_range (WorldName s) = is_at_most 20 s
is_header_in_range (FlagSetting k s) = is_at_most 20 s
is_header_in_range _ = true

-- most bytes of a board's strings
abbrev pub most_of : BoardText → ℕ
most_of Name = 50
most_of Message = 58

-- the string of a board's register is short enough
abbrev pub is_property_in_range : BoardSetting → Bool
is_property_in_range (TextProperty f s) = is_at_most (most_of f) s
is_property_in_range _ = true

-- each value is in its range
abbrev pub is_in_range : Op → Bool
is_in_range (SetHeader setting) = is_header_in_range setting
is_in_range (BoardAdd name) = is_at_most 50 name
is_in_range (BoardRemove b) = not (same_board b title)
is_in_range (SetBoard b setting) = is_property_in_range setting
is_in_range (SetCells b r tile) = is_in_table r
is_in_range (TextInsert t after bytes) = nat_le 1 (length bytes) && nat_le (length bytes) largest_body
is_in_range (TextDelete t r) = nat_le r.first r.last
is_in_range _ = true

-- whatever an edit names was made before it
abbrev pub names_earlier : Edit → Bool
names_earlier e = list_all (λ x. before (stamp_of x) e.stamp) (names_of e.op)

-- the bytes of a Genesis are a world file as this editor writes it
abbrev pub has_good_world : Op → Bool
has_good_world (Genesis bytes) = is_canonical bytes
has_good_world _ = true

-- the first cause against an edit, if there is one
abbrev pub fault : Edit → Option Cause
fault e =
    if not (has_good_stamps e) then Some cause.Stamp else
    if not (is_in_range e.op) then Some cause.Range else
    if not (names_earlier e) then Some cause.Order else
    if not (has_good_world e.op) then Some cause.Genesis else None

-- an edit without a fault
abbrev pub Fits : Edit → Type 0
Fits e = fault e ≡ None
