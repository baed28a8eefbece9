use Rattle.zed_document.proofs.Merging.{merge-commutes, merge-associates, merge-repeats, merge-itself}
use Rattle.zed_document.proofs.laws.merging_is_of_sets.Goals as goal

pub returns-clause-commutes : goal.returns-clause-commutes
returns-clause-commutes c = merge-commutes c.rising_lists_are_sets.ensures.agree c.union_is_of_sets.ensures.commutes

pub returns-clause-associates : goal.returns-clause-associates
returns-clause-associates c = merge-associates c.rising_lists_are_sets.ensures.agree c.union_is_of_sets.ensures.associates

pub returns-clause-repeats : goal.returns-clause-repeats
returns-clause-repeats c =
    merge-repeats c.rising_lists_are_sets.ensures.agree c.sets_rise.ensures.union c.union_is_of_sets.ensures.members c.union_is_of_sets.ensures.own

pub returns-clause-itself : goal.returns-clause-itself
returns-clause-itself c = merge-itself c.union_is_of_sets.ensures.own
