use Rattle.std.proofs.Common.{length}
use Rattle.zed_link.proofs.Feeding.{Taking}
use Rattle.zed_link.proofs.receiving.take_piece.Given as goal

-- the front of the piece was taken
abbrev pub invariant-loop-rest : goal.invariant-loop-rest
invariant-loop-rest l = Taking l.fn.intake l.fn.piece l.fn.reader l.reader l.rest l.intake l.pulled

abbrev pub decreases-loop-rest : goal.decreases-loop-rest
decreases-loop-rest l = length l.rest
