use Rattle.std.proofs.Common.{◌≡◌, ◌++◌, drop}
use Rattle.std.specs.List.{flat_map}
use Rattle.zed_terminal.specs.Staged.{last_of, message_line}
use Rattle.zed_terminal.proofs.stage.put_messages.Given as goal

-- the lines so far, before those that are left, are all
abbrev pub invariant-loop-index : goal.invariant-loop-index
invariant-loop-index l =
    l.out.items ++ flat_map (message_line l.columns) (drop l.index l.messages)
    ≡ l.fn.out.items ++ flat_map (message_line l.columns) (last_of l.most l.messages)
