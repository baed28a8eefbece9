use Rattle.std.proofs.Common.{ap, ◌∙◌}
use Rattle.zed_edit.specs.Replay.{replay_on}
use Rattle.zed_edit.proofs.Held.{replay_holds, replay_rises}
use Rattle.zed_edit.proofs.author.replay.Goals as goal

pub returns-clause-held : goal.returns-clause-held
returns-clause-held c = replay_holds c.replay_on.new.plain c.args.edits.now (c.in_ok-replay_on.ensures.result ∙ ap (λ p. replay_on p c.args.edits.now) c.empty-plain.ensures)

pub returns-clause-sound : goal.returns-clause-sound
returns-clause-sound c = λ r. replay_rises c.replay_on.new.plain c.args.edits.now (c.in_ok-replay_on.ensures.result ∙ ap (λ p. replay_on p c.args.edits.now) c.empty-plain.ensures) r
