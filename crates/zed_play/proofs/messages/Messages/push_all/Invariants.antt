use Rattle.std.proofs.Common.{◌≡◌, ◌++◌, drop}
use Rattle.zed_play.specs.Game.{kept}
use Rattle.zed_play.proofs.messages.Messages.push_all.Given as goal

abbrev pub invariant-loop-line : goal.invariant-loop-line
invariant-loop-line l = kept (l.self ++ drop l.line-index l.lines) ≡ kept (l.fn.self ++ l.lines)
