-- What `undo` is told of the edits that it undoes.
use Rattle.zed_tool_words.specs.declared.undone.Choice.{Choice}
use Rattle.zed_tool_words.specs.Commands.{Chosen}

-- what a choice of the code says
abbrev pub meaning : Choice → Chosen
meaning c = record {
  stamps = c.stamps.items;
  filter = c.filter;
  last = c.last;
}
