use Rattle.std.proofs.Common.{◌≡◌, drop}
use Rattle.zed_edit.specs.Replay.{MayGrowBy, replay_on}
use Rattle.zed_edit.proofs.author.replay_on.Given as goal

abbrev pub invariant-loop-edit : goal.invariant-loop-edit
invariant-loop-edit l = record {
  rest : replay_on l.plain (drop l.edit-index l.edits) ≡ replay_on l.initial.plain l.edits;
  grows : MayGrowBy l.plain (drop l.edit-index l.edits) → MayGrowBy l.initial.plain l.edits;
}
