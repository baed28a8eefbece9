use Rattle.zed_laws.specs.Fields.{stat_byte, stat_number, third_parameter, follower, leader, stat_text, is_player, removed_or_player}
use Rattle.zed_laws.proofs.Homes.{home-wins}
use Rattle.zed_laws.proofs.StatFields.{is_byte, is_number, is_third_parameter, is_follower, is_leader, is_text, is_for_player, is_removed, stat-wins}
use Rattle.zed_laws.proofs.registers.greatest_stamp_wins_stats.Goals as goal

pub returns : goal.returns
returns c =
    let normal = c.read_is_normal.ensures in
    record {
      board = λ x. home-wins x normal;
      bytes = λ x f. stat-wins (stat_byte f) (is_byte f) x normal;
      numbers = λ x f. stat-wins (stat_number f) (is_number f) x normal;
      p3 = λ x. stat-wins third_parameter is_third_parameter x normal;
      follower = λ x. stat-wins follower is_follower x normal;
      leader = λ x. stat-wins leader is_leader x normal;
      text = λ x. stat-wins stat_text is_text x normal;
      player = λ x. stat-wins is_player is_for_player x normal;
      removed = λ x. stat-wins removed_or_player is_removed x normal;
    }
