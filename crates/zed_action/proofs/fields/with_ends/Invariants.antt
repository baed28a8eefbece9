use Rattle.std.proofs.Common.{◌≡◌, ◌++◌, drop}
use Rattle.zed_action.specs.Words.{with_line_ends}
use Rattle.zed_action.proofs.fields.with_ends.Given as goal

-- the bytes so far, before those that are left, are all
abbrev pub invariant-loop-byte : goal.invariant-loop-byte
invariant-loop-byte l = l.bytes.items ++ with_line_ends (drop l.byte-index l.byte-items) ≡ with_line_ends l.fn.word
