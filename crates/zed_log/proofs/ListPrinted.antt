-- No control byte stands in a line before its end.
use Rattle.std.proofs.Common.{◌≡◌, ℕ, zero, suc, ◌+◌, ◌-◌, true, List, ◌++◌, length, Option, Some, None, codes, refl}
use Rattle.zed_types.specs.declared.tile.Tile.{Tile}
use Rattle.zed_world.specs.declared.board.BoardData.{BoardData}
use Rattle.zed_world.specs.declared.board.Properties.{Properties}
use Rattle.zed_world.specs.declared.stat.Code.{Code}
use Rattle.zed_world.specs.declared.stat.Code.TheVariants as code
use Rattle.zed_world.specs.declared.stat.StatData.{StatData}
use Rattle.zed_log.specs.Fields.{number, integer, quoted, element, place}
use Rattle.zed_log.proofs.Printed.{plain, both, number_is, integer_is, quoted_is, element_is, place_is}
use Rattle.zed_log.specs.Boards.{board_words, exit, exits}
use Rattle.zed_log.specs.Program.{first_line, line_words, program_bytes}
use Rattle.zed_log.specs.Stats.{element_of, fields, program_words, stat_words}
use Rattle.zed_types.specs.Table.{tile_at}

-- ---- boards

exit_is : (n : ℕ) → plain (exit n) ≡ true
exit_is zero = refl
exit_is (suc n) = number_is (suc n)

exits_are : (p : Properties) → plain (exits p) ≡ true
unfolding exits
exits_are p =
    let a = codes "north " ++ exit p.north in
    let north = both (codes "north ") (exit p.north) refl (exit_is p.north) in
    let b = a ++ codes " south " in
    let c = b ++ exit p.south in
    let south = both b (exit p.south) (both a (codes " south ") north refl) (exit_is p.south) in
    let d = c ++ codes " west " in
    let e = d ++ exit p.west in
    let west = both d (exit p.west) (both c (codes " west ") south refl) (exit_is p.west) in
    both (e ++ codes " east ") (exit p.east) (both e (codes " east ") west refl) (exit_is p.east)

pub board_is : (n rank : ℕ) (b : BoardData) → plain (board_words n rank b) ≡ true
unfolding board_words
board_is n rank b =
    let a = number n ++ codes "  rank " in
    let c = a ++ number rank in
    let ranked = both a (number rank) (both (number n) (codes "  rank ") (number_is n) refl) (number_is rank) in
    let d = c ++ codes "  stats " in
    let e = d ++ number (length b.stats - 1) in
    let counted = both d (number (length b.stats - 1)) (both c (codes "  stats ") ranked refl) (number_is (length b.stats - 1)) in
    let f = e ++ codes "  " in
    let g = f ++ exits b.properties in
    let left = both f (exits b.properties) (both e (codes "  ") counted refl) (exits_are b.properties) in
    both (g ++ codes "  ") (quoted b.name) (both g (codes "  ") left refl) (quoted_is b.name)

-- ---- stats

pub element_of_is : (t : Option Tile) → plain (element_of t) ≡ true
element_of_is None = refl
element_of_is (Some t) = element_is t.element

fields_are : (s : StatData) → plain (fields s) ≡ true
unfolding fields
fields_are s =
    let a = codes "cycle " ++ integer s.cycle in
    let cycle = both (codes "cycle ") (integer s.cycle) refl (integer_is s.cycle) in
    let b = a ++ codes "  p1 " in
    let c = b ++ number s.p1 in
    let first = both b (number s.p1) (both a (codes "  p1 ") cycle refl) (number_is s.p1) in
    let d = c ++ codes " p2 " in
    let e = d ++ number s.p2 in
    let second = both d (number s.p2) (both c (codes " p2 ") first refl) (number_is s.p2) in
    both (e ++ codes " p3 ") (number s.p3) (both e (codes " p3 ") second refl) (number_is s.p3)

program_is : (stats : List StatData) (c : Code) → plain (program_words stats c) ≡ true
program_is stats code.None = refl
program_is stats (code.Own bytes) =
    both (number (length bytes) ++ codes " bytes  ") (quoted (first_line bytes)) (both (number (length bytes)) (codes " bytes  ") (number_is (length bytes)) refl) (quoted_is (first_line bytes))
program_is stats (code.Same n) =
    let a = codes "as " ++ number n in
    let shared = both (codes "as ") (number n) refl (number_is n) in
    both (a ++ codes "  ") (quoted (first_line (program_bytes stats (code.Same n)))) (both a (codes "  ") shared refl) (quoted_is (first_line (program_bytes stats (code.Same n))))

pub stat_is : (b : BoardData) (n : ℕ) (s : StatData) → plain (stat_words b n s) ≡ true
unfolding stat_words
stat_is b n s =
    let a = number n ++ codes "  " in
    let c = a ++ place s.x s.y in
    let placed = both a (place s.x s.y) (both (number n) (codes "  ") (number_is n) refl) (place_is s.x s.y) in
    let d = c ++ codes "  " in
    let e = d ++ element_of (tile_at b.tiles s.x s.y) in
    let there = both d (element_of (tile_at b.tiles s.x s.y)) (both c (codes "  ") placed refl) (element_of_is (tile_at b.tiles s.x s.y)) in
    let f = e ++ codes "  " in
    let g = f ++ fields s in
    let had = both f (fields s) (both e (codes "  ") there refl) (fields_are s) in
    both (g ++ codes "  ") (program_words b.stats s.code) (both g (codes "  ") had refl) (program_is b.stats s.code)

-- ---- programs

pub line_is : (at : ℕ) (line : List ℕ) → plain (line_words at line) ≡ true
unfolding line_words
line_is at line = both (number at ++ codes "  ") (quoted line) (both (number at) (codes "  ") (number_is at) refl) (quoted_is line)
