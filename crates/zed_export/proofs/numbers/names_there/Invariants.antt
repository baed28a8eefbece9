use Rattle.std.proofs.Common.{◌≡◌, ◌++◌, not, map, drop}
use Rattle.std.specs.Prelude.{filter}
use Rattle.zed_edit.specs.Numbers.{boards_there}
use Rattle.zed_export.proofs.numbers.names_there.Given as goal

-- the names so far, with those of the rest, are all
abbrev pub invariant-loop-i : goal.invariant-loop-i
invariant-loop-i l = l.names.items ++ map (λ b. b.id.name) (filter (λ b. not b.removed) (drop l.i l.view.boards)) ≡ map (λ b. b.id.name) (boards_there l.view)
