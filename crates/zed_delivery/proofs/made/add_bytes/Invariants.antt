use Rattle.std.proofs.Common.{◌≡◌, ◌++◌, drop}
use Rattle.zed_delivery.specs.Made.{byte_things}
use Rattle.zed_delivery.proofs.made.add_bytes.Given as goal

-- what was added so far, with what is left, is the whole
abbrev pub invariant-loop-element : goal.invariant-loop-element
invariant-loop-element l =
    l.things.items ++ byte_things l.text (drop l.element-index l.elements) ≡ l.fn.things.items ++ byte_things l.text l.elements
