use Rattle.std.proofs.Common.{◌≡◌, ◌++◌, take}
use Rattle.std.specs.List.{flat_map}
use Rattle.cmd_take.specs.Note.{added_line}
use Rattle.cmd_take.proofs.note.put_all_added.Given as goal

-- the lines so far
abbrev pub invariant-loop-edit : goal.invariant-loop-edit
invariant-loop-edit l = l.out.items ≡ l.fn.out.items ++ flat_map (λ e. added_line e.op) (take l.edit-index l.edits)
