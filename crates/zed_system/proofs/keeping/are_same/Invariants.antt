use Rattle.zed_system.proofs.keeping.are_same.Given as goal

abbrev pub decreases-loop-left : goal.decreases-loop-left
decreases-loop-left l = l.left
