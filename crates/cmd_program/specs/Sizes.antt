-- Boards whose bytes can be counted.
use Rattle.std.specs.Prelude.{◌<◌, ◌≤◌, length}
use Rattle.std.specs.List.{flat_map}
use Rattle.zed_world.specs.declared.board.BoardData.{BoardData}
use Rattle.zed_world.specs.Writing.{stat_text}

-- the strings of a board fit their fields, and its stats leave room in 64 bits for all else (2^64 - 2^16)
pub record CanBeCounted (b : BoardData) : Type 0 where
  pub name : length b.name ≤ 50
  pub message : length b.properties.message ≤ 58
  pub stats : length (flat_map stat_text b.stats) < 18446744073709486080
