-- What insertions come to where edits come in stamp order.
use Rattle.std.specs.Prelude.{◌≡◌, List, Option}
use Rattle.zed_types.specs.declared.stamp.Stamp.{Stamp}
use Rattle.zed_types.specs.declared.names.ElemId.{ElemId}
use Rattle.zed_types.specs.declared.text.TextByte.{TextByte}
use Rattle.zed_types.specs.Text.{NoneLater, put_after, put_late}

-- an edit later than all puts its bytes directly behind the byte named, or to the head
abbrev pub RisingGoDirectly : Type 0
RisingGoDirectly = (a : Option ElemId) (s : Stamp) (run xs : List TextByte)
    → NoneLater s xs → put_late a s run xs ≡ put_after a run xs
