use Rattle.zed_laws.specs.Fields.{stat_byte, stat_number, third_parameter, follower, leader, stat_text, removed_or_player}
use Rattle.zed_laws.specs.Winners.{of_stat}
use Rattle.zed_sides.proofs.Overriding.{overridden_by_both}
use Rattle.zed_sides.proofs.laws.overridden_stats.Goals as goal

pub returns-clause-bytes : goal.returns-clause-bytes
returns-clause-bytes c x f = overridden_by_both (of_stat x (stat_byte f)) (c.greatest_stamp_wins_stats.ensures.bytes x f)

pub returns-clause-numbers : goal.returns-clause-numbers
returns-clause-numbers c x f = overridden_by_both (of_stat x (stat_number f)) (c.greatest_stamp_wins_stats.ensures.numbers x f)

pub returns-clause-p3 : goal.returns-clause-p3
returns-clause-p3 c x = overridden_by_both (of_stat x third_parameter) (c.greatest_stamp_wins_stats.ensures.p3 x)

pub returns-clause-follower : goal.returns-clause-follower
returns-clause-follower c x = overridden_by_both (of_stat x follower) (c.greatest_stamp_wins_stats.ensures.follower x)

pub returns-clause-leader : goal.returns-clause-leader
returns-clause-leader c x = overridden_by_both (of_stat x leader) (c.greatest_stamp_wins_stats.ensures.leader x)

pub returns-clause-text : goal.returns-clause-text
returns-clause-text c x = overridden_by_both (of_stat x stat_text) (c.greatest_stamp_wins_stats.ensures.text x)

pub returns-clause-removed : goal.returns-clause-removed
returns-clause-removed c x = overridden_by_both (of_stat x removed_or_player) (c.greatest_stamp_wins_stats.ensures.removed x)
