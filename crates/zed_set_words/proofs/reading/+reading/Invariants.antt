use Rattle.std.proofs.Common.{length}
use Rattle.zed_set_words.proofs.reading.+reading.Given as goal

abbrev pub decreases-reading : goal.decreases-reading
decreases-reading l = length l.words.now
