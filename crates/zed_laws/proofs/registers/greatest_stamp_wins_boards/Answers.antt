use Rattle.zed_laws.specs.Fields.{board_byte, board_flag, time_limit, rank, exit, board_text, cell, board_removed}
use Rattle.zed_laws.proofs.BoardFields.{is_byte, is_flag, is_time_limit, is_rank, is_exit, is_text, is_cell, is_removed, board-wins}
use Rattle.zed_laws.proofs.registers.greatest_stamp_wins_boards.Goals as goal

pub returns : goal.returns
returns c =
    let normal = c.read_is_normal.ensures in
    record {
      bytes = λ b f. board-wins (board_byte f) (is_byte f) b normal;
      flags = λ b f. board-wins (board_flag f) (is_flag f) b normal;
      time_limit = λ b. board-wins time_limit is_time_limit b normal;
      rank = λ b. board-wins rank is_rank b normal;
      exits = λ b f. board-wins (exit f) (is_exit f) b normal;
      texts = λ b f. board-wins (board_text f) (is_text f) b normal;
      cells = λ b i lt. board-wins (cell i) (is_cell i lt) b normal;
      removed = λ b. board-wins board_removed is_removed b normal;
    }
