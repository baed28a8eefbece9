use Rattle.std.proofs.Common.{◌≡◌, ◌++◌, drop}
use Rattle.zed_delivery.specs.Made.{all_byte_things}
use Rattle.zed_delivery.proofs.made.add_all_bytes.Given as goal

-- what was added so far, with what is left, is the whole
abbrev pub invariant-loop-text : goal.invariant-loop-text
invariant-loop-text l = l.things.items ++ all_byte_things (drop l.text-index l.texts) ≡ l.fn.things.items ++ all_byte_things l.texts
