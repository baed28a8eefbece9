use Rattle.zed_take.proofs.Showing.{unchanged}
use Rattle.zed_take.proofs.laws.nothing_is_taken_unchanged.Goals as goal

pub returns : goal.returns
returns c = unchanged c.saved_is_read.ensures.authored c.rising_lists_are_sets.ensures.agree c.rising_lists_are_sets.ensures.own
