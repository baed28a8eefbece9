-- Boards whose bytes can be counted.
use Rattle.std.proofs.Common.{◌≡◌, ◌+◌, ◌*◌, ◌<◌, ◌≤◌, ℕ, zero, suc, Bool, true, false, List, [], ◌∷◌, ◌++◌, length, length-append, get_or, take, arith, refl, sym}
use Rattle.std.specs.Prelude.{◌==◌, ◌&&◌, if◌then◌else◌}
use Rattle.std.specs.List.{AllByRecursion, flat_map}
use Rattle.std.proofs.lemmas.Bool.{eqb-true}
use Rattle.zed_types.specs.declared.tile.Tile.{Tile}
use Rattle.zed_world.specs.declared.stat.Code.{Code}
use Rattle.zed_world.specs.declared.stat.Code.TheVariants as code
use Rattle.zed_world.specs.declared.stat.StatData.{StatData}
use Rattle.zed_world.specs.declared.board.BoardData.{BoardData}
use Rattle.zed_world.specs.Normal.{AreNormalStats, IsNormalBoard, IsNormalCode}
use Rattle.zed_world.specs.Writing.{code_text, stat_text}
use Rattle.zed_world.proofs.Sizes.{length_stat, stats_more}
use Rattle.cmd_program.specs.Codes.{owned, sharing}
use Rattle.cmd_program.specs.Sizes.{CanBeCounted}
use Rattle.cmd_program.specs.Worlds.{board_with, stat_with, stats_from}

-- ---- stats so far are no more than all

part_whole : (ss : List StatData) (j : ℕ) → length (flat_map stat_text (take j ss)) ≤ length (flat_map stat_text ss)
part_whole [] zero = omega arith
part_whole [] (suc j) = omega arith
part_whole (s ∷ ss) zero = omega arith
part_whole (s ∷ ss) (suc j) =
    let more = part_whole ss j in
    omega (arith, more, length-append (stat_text s) (flat_map stat_text (take j ss)), length-append (stat_text s) (flat_map stat_text ss))

pub one_of : (ss : List StatData) (i : ℕ) (s : StatData) → i < length ss → s ≡ get_or ss i s
    → length (flat_map stat_text (take i ss)) + (33 + length (code_text s.code)) ≤ length (flat_map stat_text ss)
one_of ss i s lt is =
    let more = stats_more ss i s lt is in
    let part = part_whole ss (suc i) in
    omega (arith, more, part)

-- ---- boards of a world

code_short : (lower : List StatData) (c : Code) → IsNormalCode lower c → length (code_text c) < 32768
code_short lower code.None h = omega arith
code_short lower (code.Own bytes) h = let lt : length bytes < 32768 = h.1 in omega (arith, lt)
code_short lower (code.Same n) h = omega arith

stats_short : (boards stats : ℕ) (tiles : List Tile) (lower ss : List StatData) → AreNormalStats boards stats tiles lower ss
    → length (flat_map stat_text ss) ≤ 32801 * length ss
stats_short boards stats tiles lower [] h = omega arith
stats_short boards stats tiles lower (s ∷ ss) h =
    let here = code_short lower s.code h.0.code in
    let more = stats_short boards stats tiles (lower ++ s ∷ []) ss h.1 in
    omega (arith, here, more, length_stat s, length-append (stat_text s) (flat_map stat_text ss))

pub board_counted : (boards : ℕ) (b : BoardData) → IsNormalBoard boards b → CanBeCounted b
board_counted boards b n = record {
  name = n.name;
  message = n.properties.message;
  stats = let short = stats_short boards (length b.stats) b.tiles [] b.stats n.stats in omega (arith, short, n.few);
}

pub all_counted : (boards : ℕ) (bs : List BoardData) → AllByRecursion (IsNormalBoard boards) bs → AllByRecursion CanBeCounted bs
all_counted boards [] h = tt
all_counted boards (b ∷ bs) h = (board_counted boards b h.0, all_counted boards bs h.1)

-- ---- with other bytes for a program

pub owned_length : (program : List ℕ) → length (code_text (owned program)) ≡ length program
owned_length program = go (length program == 0) refl
  where
    go : (t : Bool) → (length program == 0) ≡ t → length (code_text (if t then code.None else code.Own program)) ≡ length program
    go true is = sym (eqb-true (length program) 0 is)
    go false is = refl

sharing_short : (owner : ℕ) (program : List ℕ) (c : Code) → length (code_text (sharing owner program c)) ≤ length (code_text c)
sharing_short owner program code.None = omega arith
sharing_short owner program (code.Own bytes) = omega arith
sharing_short owner program (code.Same n) = go ((length program == 0) && (n == owner))
  where
    go : (t : Bool) → length (code_text (if t then code.None else code.Same n)) ≤ 0
    go true = omega arith
    go false = omega arith

-- a stat with another code takes the bytes of that
stat_length : (s : StatData) (c : Code) (ss : List StatData)
    → length (flat_map stat_text (stat_with s c ∷ ss)) ≡ 33 + length (code_text c) + length (flat_map stat_text ss)
stat_length s c ss =
    let x = stat_with s c in
    let here : length (stat_text x) ≡ 33 + length (code_text c) = length_stat x in
    omega (arith, here, length-append (stat_text x) (flat_map stat_text ss))

-- no stat above the one that gets the program has more bytes
above_short : (owner : ℕ) (program : List ℕ) (n : ℕ) (ss : List StatData) → owner < n
    → length (flat_map stat_text (stats_from owner program n ss)) ≤ length (flat_map stat_text ss)
above_short owner program n [] lt = omega arith
above_short owner program n (s ∷ ss) lt = go (above_short owner program (n + 1) ss (omega (arith, lt))) (n == owner) refl
  where
    go : length (flat_map stat_text (stats_from owner program (n + 1) ss)) ≤ length (flat_map stat_text ss) → (t : Bool) → (n == owner) ≡ t
        → length (flat_map stat_text (stat_with s (if t then owned program else sharing owner program s.code) ∷ stats_from owner program (n + 1) ss)) ≤ length (flat_map stat_text (s ∷ ss))
    go rest true is = absurd (let same : n ≡ owner = eqb-true n owner is in omega (arith, lt, same))
    go rest false is =
        let here = sharing_short owner program s.code in
        let new = stat_length s (sharing owner program s.code) (stats_from owner program (n + 1) ss) in
        let old = stat_length s s.code ss in
        omega (arith, here, rest, new, old)

-- the stats have at most the bytes of the program more
changed_short : (owner : ℕ) (program : List ℕ) (n : ℕ) (ss : List StatData)
    → length (flat_map stat_text (stats_from owner program n ss)) ≤ length (flat_map stat_text ss) + length program
changed_short owner program n [] = omega arith
changed_short owner program n (s ∷ ss) = go (changed_short owner program (n + 1) ss) (n == owner) refl
  where
    go : length (flat_map stat_text (stats_from owner program (n + 1) ss)) ≤ length (flat_map stat_text ss) + length program → (t : Bool)
        → (n == owner) ≡ t
        → length (flat_map stat_text (stat_with s (if t then owned program else sharing owner program s.code) ∷ stats_from owner program (n + 1) ss)) ≤ length (flat_map stat_text (s ∷ ss)) + length program
    go rest true is =
        let same : n ≡ owner = eqb-true n owner is in
        let here = owned_length program in
        let above = above_short owner program (n + 1) ss (omega (arith, same)) in
        let new = stat_length s (owned program) (stats_from owner program (n + 1) ss) in
        let old = stat_length s s.code ss in
        omega (arith, here, above, new, old)
    go rest false is =
        let here = sharing_short owner program s.code in
        let new = stat_length s (sharing owner program s.code) (stats_from owner program (n + 1) ss) in
        let old = stat_length s s.code ss in
        omega (arith, here, rest, new, old)

pub length_from : (owner : ℕ) (program : List ℕ) (n : ℕ) (ss : List StatData) → length (stats_from owner program n ss) ≡ length ss
length_from owner program n [] = refl
length_from owner program n (s ∷ ss) = let more = length_from owner program (n + 1) ss in omega (arith, more)

pub changed_counted : (boards owner : ℕ) (program : List ℕ) (b : BoardData) → length program < 9223372036854775808 → IsNormalBoard boards b
    → CanBeCounted (board_with owner program b)
changed_counted boards owner program b lt n = record {
  name = n.name;
  message = n.properties.message;
  stats =
      let short = stats_short boards (length b.stats) b.tiles [] b.stats n.stats in
      let grown = changed_short owner program 0 b.stats in
      omega (arith, short, grown, n.few, lt);
}
