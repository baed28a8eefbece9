use Rattle.std.proofs.Common.{◌≡◌, ◌++◌, take}
use Rattle.zed_look.specs.Plain.{characters_of}
use Rattle.zed_look.proofs.plain.put_characters.Given as goal

abbrev pub invariant-loop-spot : goal.invariant-loop-spot
invariant-loop-spot l = l.out.items ≡ l.fn.out.items ++ characters_of (take l.spot-index l.row)
