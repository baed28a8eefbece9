use Rattle.std.proofs.Common.{◌≡◌, ◌++◌, take, drop}
use Rattle.zed_types.specs.Names.{same_stat}
use Rattle.zed_edit.specs.Stat.{set_stat}
use Rattle.zed_edit.specs.Document.{change_such}
use Rattle.zed_edit.proofs.stat.set_stats.Given as goal

abbrev pub invariant-loop-x : goal.invariant-loop-x
invariant-loop-x l =
    l.stats ≡ change_such (λ x. same_stat x.id l.s) (set_stat l.setting) (take l.x-index l.initial.stats) ++ drop l.x-index l.initial.stats
