-- What a body is made of that was read.
use Rattle.std.proofs.Common.{◌≡◌, ℕ, ◌+◌, ◌≤◌, ltb, List, [], drop, length, Some, Result, Ok}
use Rattle.std.proofs.lemmas.Bool.{ltb-false}
use Rattle.zed_types.specs.declared.tile.Tile.{Tile}
use Rattle.zed_types.specs.Steps.{◌>>=◌}
use Rattle.zed_types.proofs.Steps.{bind_ok, ok_is, guard_ok}
use Rattle.zed_runs.specs.Reading.{tiles_at}
use Rattle.zed_world.specs.declared.error.WorldError.{WorldError}
use Rattle.zed_world.specs.declared.error.WorldError.TheVariants.{Truncated, TooManyStats}
use Rattle.zed_world.specs.declared.stat.StatData.{StatData}
use Rattle.zed_world.specs.declared.board.BoardData.{BoardData}
use Rattle.zed_world.specs.Fields.{integer_at, string_at}
use Rattle.zed_world.specs.Offsets.{properties_at}
use Rattle.zed_world.specs.Reading.{counted, found_or, stat_at, items_at, board_with, board_at}
use Rattle.zed_world.proofs.Binds.{found_ok}

-- a name, the runs of a table, and behind these the properties, a count and so many stats
pub record BodyParts (boards : ℕ) (body : List ℕ) (b : BoardData) : Type 0 where
  pub tiles : List Tile
  pub rest : List ℕ
  pub others : ℕ
  pub stats : List StatData
  pub name_in : 51 ≤ length body
  pub table : tiles_at 1500 (drop 51 body) ≡ Some (tiles, rest)
  pub rest_in : 88 ≤ length rest
  pub count : counted 150 TooManyStats (integer_at rest 86) ≡ Ok others
  pub items : items_at (stat_at boards (others + 1) tiles) (others + 1) [] (drop 88 rest) ≡ Ok stats
  pub is : record { name = string_at 50 body 0; tiles = tiles; properties = properties_at boards rest; stats = stats } ≡ b

pub body_parts : (boards : ℕ) (body : List ℕ) (b : BoardData) → board_at boards body ≡ Ok b → BodyParts boards body b
unfolding board_at board_with
body_parts boards body b h =
    let g = guard_ok (ltb (length body) 51) Truncated (found_or Truncated (tiles_at 1500 (drop 51 body)) >>= λ table. board_with boards (string_at 50 body 0) table.0 table.1) b h in
    let t = bind_ok (found_or Truncated (tiles_at 1500 (drop 51 body))) (λ (table : List Tile × List ℕ). board_with boards (string_at 50 body 0) table.0 table.1) b g.1 in
    let rest = t.0.1 in
    let made : List StatData → BoardData =
    λ ss. record { name = string_at 50 body 0; tiles = t.0.0; properties = properties_at boards rest; stats = ss } in
    let after : ℕ → Result BoardData WorldError =
    λ others. items_at (stat_at boards (others + 1) t.0.0) (others + 1) [] (drop 88 rest) >>= λ ss. Ok (made ss) in
    let g2 = guard_ok (ltb (length rest) 88) Truncated (counted 150 TooManyStats (integer_at rest 86) >>= after) b t.2 in
    let c = bind_ok (counted 150 TooManyStats (integer_at rest 86)) after b g2.1 in
    let s = bind_ok (items_at (stat_at boards (c.0 + 1) t.0.0) (c.0 + 1) [] (drop 88 rest)) (λ (ss : List StatData). Ok (made ss)) b c.2 in
    record {
      tiles = t.0.0;
      rest = rest;
      others = c.0;
      stats = s.0;
      name_in = ltb-false _ _ g.0;
      table = found_ok Truncated (tiles_at 1500 (drop 51 body)) t.0 t.1;
      rest_in = ltb-false _ _ g2.0;
      count = c.1;
      items = s.1;
      is = ok_is (made s.0) b s.2;
    }
