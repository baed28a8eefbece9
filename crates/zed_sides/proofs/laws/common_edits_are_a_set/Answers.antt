use Rattle.zed_op.specs.Fit.{Fits}
use Rattle.zed_sides.specs.Sides.{knows}
use Rattle.zed_sides.proofs.Overriding.{each_of, rising_of}
use Rattle.zed_sides.proofs.laws.common_edits_are_a_set.Goals as goal

pub returns : goal.returns
returns c es fs rising fit = (rising_of (knows fs) es rising, each_of Fits (knows fs) es fit)
