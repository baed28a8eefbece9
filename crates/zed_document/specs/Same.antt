-- When two documents are the same.
use Rattle.std.specs.Prelude.{◌≡◌}
use Rattle.zed_edit.specs.Document.{HaveSameContent}
use Rattle.zed_edit.specs.Replay.{replay, held}
use Rattle.zed_document.specs.Replica.{Replica}

-- two documents have one world and one log, and both are stale or neither is; how often their runs were looked at may differ
abbrev pub AreAlike : Replica → Replica → Type 0
AreAlike d o = (d.world ≡ o.world) × (d.edits ≡ o.edits) × (d.is_stale ≡ o.is_stale)

-- two documents have equal world numbers, equal contents and equal held edits
abbrev pub AreSame : Replica → Replica → Type 0
AreSame d o = (d.world ≡ o.world) × HaveSameContent (replay d.edits) (replay o.edits) × (held d.edits ≡ held o.edits)
