use Rattle.std.proofs.Common.{take}
use Rattle.std.specs.List.{flat_map}
use Rattle.zed_editfile.specs.Room.{Appends}
use Rattle.zed_editfile.specs.Spelling.{integer}
use Rattle.zed_editfile.proofs.put_op.put_integers.Given as goal

-- the first numbers were appended
abbrev pub invariant-loop-number : goal.invariant-loop-number
invariant-loop-number l = Appends (flat_map integer (take l.number-index l.numbers)) l.fn.out l.out
