use Rattle.std.proofs.Common.{◌≡◌, ◌++◌, drop}
use Rattle.zed_texts.specs.Texts.{bytes_of}
use Rattle.zed_texts.proofs.made.bytes_of.Given as goal

-- the bytes so far, with those that are left, are all
abbrev pub invariant-loop-element : goal.invariant-loop-element
invariant-loop-element l = l.bytes.items ++ bytes_of (drop l.element-index l.elements) ≡ bytes_of l.elements
