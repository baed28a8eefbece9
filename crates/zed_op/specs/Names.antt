-- What an edit names.
use Rattle.std.specs.Prelude.{◌≡◌, Bool, List, [], ◌∷◌, ◌++◌, Option, Some, None}
use Rattle.zed_types.specs.declared.stamp.Stamp.{Stamp}
use Rattle.zed_types.specs.declared.names.BoardId.{BoardId}
use Rattle.zed_types.specs.declared.names.StatId.{StatId}
use Rattle.zed_types.specs.declared.names.TextId.{TextId}
use Rattle.zed_types.specs.declared.names.ElemId.{ElemId}
use Rattle.zed_types.specs.declared.stat_field.ThirdParameter.{ThirdParameter}
use Rattle.zed_types.specs.declared.stat_field.ThirdParameter.TheVariants as third
use Rattle.zed_types.specs.declared.header.HeaderSetting.{HeaderSetting}
use Rattle.zed_types.specs.declared.header.HeaderSetting.TheVariants.{CurrentBoard}
use Rattle.zed_types.specs.declared.property.BoardSetting.{BoardSetting}
use Rattle.zed_types.specs.declared.property.BoardSetting.TheVariants.{Exit}
use Rattle.zed_types.specs.declared.stat_field.StatSetting.{StatSetting}
use Rattle.zed_types.specs.declared.stat_field.StatSetting.TheVariants.{P3, Follower, Leader, Text as TextSetting}
use Rattle.zed_types.specs.Names.{byte_of}
use Rattle.zed_op.specs.declared.op.Op.{Op}
use Rattle.zed_op.specs.declared.op.Op.TheVariants.{Genesis, SetHeader, BoardAdd, BoardRemove, SetBoard, SetCells, StatAdd, StatRemove, SetStat, TextAdd, TextInsert, TextDelete}
use Rattle.zed_op.specs.declared.thing.Thing.{Thing}
use Rattle.zed_op.specs.declared.thing.Thing.TheVariants.{Board as board, Stat as stat, Text as text, Element as element}

-- the board that may be named
abbrev pub board_named : Option BoardId → List Thing
board_named None = []
board_named (Some b) = board b ∷ []

-- the stat that may be named
abbrev pub stat_named : Option StatId → List Thing
stat_named None = []
stat_named (Some s) = stat s ∷ []

-- the text that may be named
abbrev pub text_named : Option TextId → List Thing
text_named None = []
text_named (Some t) = text t ∷ []

-- the byte of a text that may be named
abbrev pub element_named : TextId → Option ElemId → List Thing
element_named t None = []
element_named t (Some a) = element t a ∷ []

-- the board that a third parameter may name
abbrev pub target_named : ThirdParameter → List Thing
target_named (third.Byte n) = []
target_named (third.Board b) = board b ∷ []

-- what the value of a header register names
abbrev pub header_names : HeaderSetting → List Thing
header_names (CurrentBoard b) = board b ∷ []
header_names _ = []

-- what the value of a board's register names
abbrev pub board_names : BoardSetting → List Thing
board_names (Exit side b) = board_named b
board_names _ = []

-- what the value of a stat's register names
abbrev pub stat_names : StatSetting → List Thing
stat_names (P3 target) = target_named target
stat_names (Follower s) = stat_named s
stat_names (Leader s) = stat_named s
stat_names (TextSetting t) = text_named t
stat_names _ = []

-- the things that an edit names, values of registers included; of a range of bytes, its ends
abbrev pub names_of : Op → List Thing
names_of (Genesis bytes) = []
names_of (SetHeader setting) = header_names setting
names_of (BoardAdd name) = []
names_of (BoardRemove b) = board b ∷ []
names_of (SetBoard b setting) = board b ∷ board_names setting
names_of (SetCells b r tile) = board b ∷ []
names_of (StatAdd b fields) = board b ∷ target_named fields.p3 ++ text_named fields.text
names_of (StatRemove s) = stat s ∷ []
names_of (SetStat s setting) = stat s ∷ stat_names setting
names_of TextAdd = []
names_of (TextInsert t after bytes) = text t ∷ element_named t after
names_of (TextDelete t r) =
    text t ∷ element t (byte_of r.stamp r.first) ∷ element t (byte_of r.stamp r.last) ∷ []

-- the stamp of a thing is that of the edit that made it
abbrev pub stamp_of : Thing → Stamp
stamp_of (board b) = b.name.stamp
stamp_of (stat s) = s.name.stamp
stamp_of (text t) = t.name.stamp
stamp_of (element t a) = a.name.stamp

-- a test answers for each thing as this tells
abbrev pub TestsAs : (Thing → Bool) → (Thing → Bool → Type 0) → Type 0
TestsAs good answers = (x : Thing) (r : Bool) → answers x r → r ≡ good x
