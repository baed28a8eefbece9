-- Whether runs have a byte.
use Rattle.std.specs.Prelude.{◌<◌, List, length, Option, Some, None}
use Rattle.zed_types.specs.declared.names.ElemId.{ElemId}
use Rattle.zed_code.specs.declared.run.Run.{Run}
use Rattle.zed_code.specs.Runs.{found}

-- the byte named, if one is, is in some run
abbrev pub IsThere : Option ElemId → List Run → Type 0
IsThere None rs = Unit {0}
IsThere (Some a) rs = found a rs < length rs
