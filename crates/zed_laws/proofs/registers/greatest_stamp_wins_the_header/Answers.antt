use Rattle.zed_laws.specs.Fields.{header_number, key, saved, current_board, world_name, flag}
use Rattle.zed_laws.proofs.HeaderFields.{is_number, is_key, is_saved, is_current_board, is_world_name, is_flag, header-wins}
use Rattle.zed_laws.proofs.registers.greatest_stamp_wins_the_header.Goals as goal

pub returns : goal.returns
returns c =
    let normal = c.read_is_normal.ensures in
    record {
      numbers = λ f. header-wins (header_number f) (is_number f) normal;
      keys = λ k. header-wins (key k) (is_key k) normal;
      saved = header-wins saved is_saved normal;
      current_board = header-wins current_board is_current_board normal;
      world_name = header-wins world_name is_world_name normal;
      flags = λ k. header-wins (flag k) (is_flag k) normal;
    }
