use Rattle.std.proofs.Common.{◌≡◌, None}
use Rattle.zed_oop_syntax.specs.Label.{label_at, least}
use Rattle.zed_oop_syntax.proofs.labels.first_label.Given as goal

abbrev pub invariant-loop-at : goal.invariant-loop-at
invariant-loop-at l = least (label_at 58 l.program l.label) l.at ≡ None
