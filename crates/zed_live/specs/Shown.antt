-- What a live header, and live properties, show to one author.
use Rattle.std.specs.Prelude.{◌≡◌, pos, false, List, [], map, Option, Some, None}
use Rattle.zed_types.specs.declared.written.Written.{Written}
use Rattle.zed_types.specs.declared.names.BoardId.{BoardId}
use Rattle.zed_types.specs.Names.{title}
use Rattle.zed_types.specs.Register.{value_or}
use Rattle.zed_op.specs.declared.op.Edit.{Edit}
use Rattle.zed_op.specs.Set.{IsRising}
use Rattle.zed_op.specs.Sizes.{HaveSizes}
use Rattle.zed_edit.specs.declared.plain.Header.{Header}
use Rattle.zed_edit.specs.declared.plain.Properties.{Properties}
use Rattle.zed_edit.specs.declared.plain.Board.{Board}
use Rattle.zed_edit.specs.Replay.{replay, taken}
use Rattle.zed_laws.specs.Winners.{find_board}
use Rattle.zed_live.specs.declared.header.LiveHeader.{LiveHeader}
use Rattle.zed_live.specs.declared.properties.LiveProperties.{LiveProperties}
use Rattle.zed_live.specs.Shows.{HeaderShows}
use Rattle.zed_live.specs.Properties.{PropertiesShow}

-- what each register of a table has, or this value where it was never written
abbrev pub values_or : {V : Type 0} → V → List (Option (Written V)) → List V
values_or v rs = map (value_or v) rs

-- the header as one author sees it: what was never written is 0 or empty
abbrev pub shown : LiveHeader → Header
shown h = record {
  numbers = values_or (pos 0) h.numbers;
  keys = values_or false h.keys;
  saved = value_or false h.saved;
  current_board = value_or title h.current_board;
  world_name = value_or [] h.world_name;
  flags = values_or [] h.flags;
}

-- the header that has the latest writes of the edits taken shows the one of the replay
abbrev pub ReplayIsShown : Type 0
ReplayIsShown =
    (es : List Edit) (h : LiveHeader)
    → IsRising es
    → HaveSizes es
    → HeaderShows (taken es) h
    → shown h ≡ (replay es).header

-- the properties of a board as one author sees them: what was never written is 0, empty or none
abbrev pub shown_properties : LiveProperties → Properties
shown_properties p = record {
  bytes = values_or 0 p.bytes;
  flags = values_or false p.flags;
  time_limit = value_or (pos 0) p.time_limit;
  rank = value_or 0 p.rank;
  exits = values_or None p.exits;
  texts = values_or [] p.texts;
}

-- properties that have the latest writes of the edits taken show those of the board in the replay
abbrev pub ReplayedPropertiesAreShown : Type 0
ReplayedPropertiesAreShown =
    (b : BoardId) (es : List Edit) (p : LiveProperties) (board : Board)
    → IsRising es
    → HaveSizes es
    → find_board b (replay es).boards ≡ Some board
    → PropertiesShow b (taken es) p
    → shown_properties p ≡ board.properties
