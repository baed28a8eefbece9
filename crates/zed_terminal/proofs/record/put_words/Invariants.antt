use Rattle.std.proofs.Common.{◌≡◌, ◌≤◌, ◌++◌, take}
use Rattle.std.specs.Vec.{vec_capacity}
use Rattle.zed_terminal.specs.Record.{spelled_all}
use Rattle.zed_terminal.proofs.record.put_words.Given as goal

-- the words so far are there, and there is no less room than before
abbrev pub invariant-loop-word : goal.invariant-loop-word
invariant-loop-word l = record {
  made : l.out.items ≡ l.fn.out.items ++ spelled_all (take l.word-index l.words);
  roomy : vec_capacity l.fn.out ≤ vec_capacity l.out;
}
