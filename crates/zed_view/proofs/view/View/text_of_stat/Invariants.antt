use Rattle.std.proofs.Common.{◌≡◌, drop}
use Rattle.std.specs.List.{flat_map}
use Rattle.zed_edit.specs.Document.{text_register}
use Rattle.zed_view.proofs.Sought.{text_in}
use Rattle.zed_view.proofs.view.View.text_of_stat.Given as goal

-- the stat is sought on the boards from here on
abbrev pub invariant-loop-i : goal.invariant-loop-i
invariant-loop-i l = text_in l.stat (flat_map (λ b. b.stats) (drop l.i l.self.boards)) ≡ text_register l.self l.stat
