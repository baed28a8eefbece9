-- A world has few stats and programs.
use Rattle.std.proofs.Common.{◌≡◌, ◌+◌, ◌*◌, ◌<◌, ◌≤◌, ◌^◌, ℕ, List, [], ◌∷◌, length, arith}
use Rattle.std.specs.List.{AllByRecursion}
use Rattle.std.proofs.lemmas.List.Sums.{count_by-le-length}
use Rattle.zed_world.specs.declared.board.BoardData.{BoardData}
use Rattle.zed_world.specs.Contents.{Contents}
use Rattle.zed_world.specs.Normal.{HasNormalParts, IsNormalBoard}
use Rattle.cmd_page.specs.Page.{is_own, owners_in, programs_in, stats_in}

at_most : (n : ℕ) (bs : List BoardData) → AllByRecursion (IsNormalBoard n) bs → stats_in bs ≤ 151 * length bs
at_most n [] all = omega arith
at_most n (b ∷ bs) all = omega (arith, all.0.few, at_most n bs all.1)

-- the stats of a world are few
pub few_stats : (w : Contents) → HasNormalParts w → stats_in w.boards < 2 ^ 32
few_stats w normal = omega (arith, normal.few, at_most (length w.boards) w.boards normal.boards)

fewer : (bs : List BoardData) → programs_in bs ≤ stats_in bs
fewer [] = omega arith
fewer (b ∷ bs) = omega (arith, count_by-le-length (λ s. is_own s.code) b.stats, fewer bs)

-- and so are the programs
pub no_more_programs : (bs : List BoardData) → stats_in bs < 2 ^ 32 → programs_in bs < 2 ^ 32
no_more_programs bs few = omega (arith, fewer bs, few)
