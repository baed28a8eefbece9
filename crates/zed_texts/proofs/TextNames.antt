-- A text is told by its name.
use Rattle.std.proofs.Common.{ap}
use Rattle.zed_types.specs.declared.names.Name.{Name}
use Rattle.zed_types.specs.declared.names.TextId.{TextId}
use Rattle.zed_stats.specs.ByName.{IsOnlyName}
use Rattle.zed_texts.specs.ByName.{text_name}

abbrev text_at : Name → TextId
text_at n = record { name = n }

pub only_text : IsOnlyName text_name
only_text a b e = ap text_at e
