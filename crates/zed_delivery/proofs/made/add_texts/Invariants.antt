use Rattle.std.proofs.Common.{◌≡◌, ◌++◌, drop, map}
use Rattle.zed_delivery.specs.Made.{text_thing}
use Rattle.zed_delivery.proofs.made.add_texts.Given as goal

-- what was added so far, with what is left, is the whole
abbrev pub invariant-loop-text : goal.invariant-loop-text
invariant-loop-text l = l.things.items ++ map text_thing (drop l.text-index l.texts) ≡ l.fn.things.items ++ map text_thing l.texts
