use Rattle.std.proofs.Common.{◌≡◌, ◌++◌, drop}
use Rattle.std.specs.List.{flat_map}
use Rattle.cmd_show.specs.Told.{message_line}
use Rattle.cmd_show.proofs.playing.messages_told.Given as goal

-- the lines so far, before those that are left, are all
abbrev pub invariant-loop-index : goal.invariant-loop-index
invariant-loop-index l = record {
  text : l.text.items ++ flat_map message_line (drop l.index l.messages) ≡ flat_map message_line l.messages;
}
