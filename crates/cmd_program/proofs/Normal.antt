-- Boards and worlds with another program fit their fields.
use Rattle.std.proofs.Common.{◌≡◌, ◌∙◌, ◌+◌, ◌<◌, ℕ, zero, suc, Bool, true, false, List, [], ◌∷◌, ◌++◌, length, ap, arith, refl, subst, sym, Some}
use Rattle.std.specs.Prelude.{◌==◌, ◌&&◌, if◌then◌else◌, slice_get, slice_set}
use Rattle.std.specs.List.{AllByRecursion}
use Rattle.std.proofs.lemmas.Bool.{eqb-false}
use Rattle.std.proofs.lemmas.List.{length_push}
use Rattle.zed_types.specs.declared.tile.Tile.{Tile}
use Rattle.zed_world.specs.Contents.{Contents}
use Rattle.zed_world.specs.declared.stat.Code.{Code}
use Rattle.zed_world.specs.declared.stat.Code.TheVariants as code
use Rattle.zed_world.specs.declared.stat.StatData.{StatData}
use Rattle.zed_world.specs.declared.board.BoardData.{BoardData}
use Rattle.zed_world.specs.Normal.{AreNormalStats, HasNormalParts, IsNormalBoard, IsNormalCode, IsNormalHeader, IsNormalStat}
use Rattle.cmd_program.specs.Codes.{code_in, owned, sharing}
use Rattle.cmd_program.specs.Worlds.{board_with, stat_with, stats_from, world_with}
use Rattle.cmd_program.proofs.Counted.{length_from}
use Rattle.cmd_program.proofs.Lists.{all_set, length_set}

-- ---- stats

-- what became of a stat
pub get_from : (owner : ℕ) (program : List ℕ) (i : ℕ) (ss : List StatData) (n : ℕ) (s : StatData) → slice_get ss n ≡ Some s
    → slice_get (stats_from owner program i ss) n ≡ Some (stat_with s (code_in owner program (i + n) s.code))
get_from owner program i [] n s at = absurd (cc)
get_from owner program i (x ∷ ss) zero s at =
    let same : x ≡ s = cc in
    let e : i ≡ i + 0 = omega arith in
    subst (λ (y : StatData). Some (stat_with x (code_in owner program i x.code)) ≡ Some (stat_with y (code_in owner program (i + 0) y.code))) same
    (ap (λ m. Some (stat_with x (code_in owner program m x.code))) e)
get_from owner program i (x ∷ ss) (suc n) s at =
    let e : (i + 1) + n ≡ i + suc n = omega arith in
    get_from owner program (i + 1) ss n s at ∙ ap (λ m. Some (stat_with s (code_in owner program m s.code))) e

-- one stat more
from_push : (owner : ℕ) (program : List ℕ) (i : ℕ) (ss : List StatData) (s : StatData)
    → stats_from owner program i (ss ++ s ∷ [])
    ≡ stats_from owner program i ss ++ stat_with s (code_in owner program (i + length ss) s.code) ∷ []
from_push owner program i [] s =
    let e : i ≡ i + 0 = omega arith in
    ap (λ m. stat_with s (code_in owner program m s.code) ∷ []) e
from_push owner program i (x ∷ ss) s =
    let e : (i + 1) + length ss ≡ i + length (x ∷ ss) = omega arith in
    ap (λ ys. stat_with x (code_in owner program i x.code) ∷ ys)
    (from_push owner program (i + 1) ss s ∙ ap (λ m. stats_from owner program (i + 1) ss ++ stat_with s (code_in owner program m s.code) ∷ []) e)

-- ---- programs

owned_normal : (lower : List StatData) (program : List ℕ) → length program < 32768 → IsNormalCode lower (owned program)
owned_normal lower program lt = go (length program == 0) refl
  where
    go : (t : Bool) → (length program == 0) ≡ t → IsNormalCode lower (if t then code.None else code.Own program)
    go true is = tt
    go false is = let some : length program ≡ 0 → ⊥ = eqb-false (length program) 0 is in (omega (arith, some), lt)

-- a stat that shares one, which isn't empty where it is the one that changed
shares_normal : (owner : ℕ) (program : List ℕ) (lower : List StatData) (n : ℕ) → length program < 32768 → IsNormalCode lower (code.Same n)
    → ((length program == 0) && (n == owner)) ≡ false → IsNormalCode (stats_from owner program 0 lower) (code.Same n)
shares_normal owner program lower n lt h some_or_other = go (n == owner) refl (length program == 0) refl
  where
    at : slice_get (stats_from owner program 0 lower) n ≡ Some (stat_with h.1 (code_in owner program n h.1.code))
    at = let e : 0 + n ≡ n = omega arith in
        get_from owner program 0 lower n h.1 h.3 ∙ ap (λ m. Some (stat_with h.1 (code_in owner program m h.1.code))) e

    go : (t : Bool) → (n == owner) ≡ t → (u : Bool) → (length program == 0) ≡ u
        → IsNormalCode (stats_from owner program 0 lower) (code.Same n)
    go true is true none = absurd (let bad : ((length program == 0) && (n == owner)) ≡ true = rw (is, none) refl in let good = some_or_other in cc)
    go true is false some =
        let code_is : code_in owner program n h.1.code ≡ code.Own program = rw (is, some) refl in
        (h.0, stat_with h.1 (code_in owner program n h.1.code), program, at, code_is)
    go false is u any =
        let code_is : code_in owner program n h.1.code ≡ code.Own h.2 = rw (is, h.4) refl in
        (h.0, stat_with h.1 (code_in owner program n h.1.code), h.2, at, code_is)

sharing_normal : (owner : ℕ) (program : List ℕ) (lower : List StatData) (c : Code) → length program < 32768 → IsNormalCode lower c
    → IsNormalCode (stats_from owner program 0 lower) (sharing owner program c)
sharing_normal owner program lower code.None lt h = tt
sharing_normal owner program lower (code.Own bytes) lt h = h
sharing_normal owner program lower (code.Same n) lt h = go ((length program == 0) && (n == owner)) refl
  where
    go : (t : Bool) → ((length program == 0) && (n == owner)) ≡ t
        → IsNormalCode (stats_from owner program 0 lower) (if t then code.None else code.Same n)
    go true is = tt
    go false is = shares_normal owner program lower n lt h is

code_normal : (owner : ℕ) (program : List ℕ) (lower : List StatData) (number : ℕ) (c : Code) → length program < 32768 → IsNormalCode lower c
    → IsNormalCode (stats_from owner program 0 lower) (code_in owner program number c)
code_normal owner program lower number c lt h = go (number == owner)
  where
    go : (t : Bool) → IsNormalCode (stats_from owner program 0 lower) (if t then owned program else sharing owner program c)
    go true = owned_normal (stats_from owner program 0 lower) program lt
    go false = sharing_normal owner program lower c lt h

stat_normal : (owner : ℕ) (program : List ℕ) (boards stats : ℕ) (tiles : List Tile) (lower : List StatData) (number : ℕ) (s : StatData)
    → length program < 32768
    → IsNormalStat boards stats tiles lower s
    → IsNormalStat boards stats tiles (stats_from owner program 0 lower) (stat_with s (code_in owner program number s.code))
stat_normal owner program boards stats tiles lower number s lt h = record {
  step_x = h.step_x;
  step_y = h.step_y;
  cycle = h.cycle;
  passage = h.passage;
  follower = h.follower;
  leader = h.leader;
  position = h.position;
  code = code_normal owner program lower number s.code lt h.code;
}

stats_normal : (owner : ℕ) (program : List ℕ) (boards stats : ℕ) (tiles : List Tile) (n : ℕ) (lower ss : List StatData)
    → length program < 32768 → n ≡ length lower
    → AreNormalStats boards stats tiles lower ss
    → AreNormalStats boards stats tiles (stats_from owner program 0 lower) (stats_from owner program n ss)
stats_normal owner program boards stats tiles n lower [] lt is h = tt
stats_normal owner program boards stats tiles n lower (s ∷ ss) lt is h =
    let e : 0 + length lower ≡ n = omega (arith, is) in
    let pushed : stats_from owner program 0 (lower ++ s ∷ []) ≡ stats_from owner program 0 lower ++ stat_with s (code_in owner program n s.code) ∷ [] =
    from_push owner program 0 lower s ∙ ap (λ m. stats_from owner program 0 lower ++ stat_with s (code_in owner program m s.code) ∷ []) e in
    let more = stats_normal owner program boards stats tiles (n + 1) (lower ++ s ∷ []) ss lt (omega (arith, is, length_push lower s)) h.1 in
    (stat_normal owner program boards stats tiles lower n s lt h.0, subst (λ l. AreNormalStats boards stats tiles l (stats_from owner program (n + 1) ss)) pushed more)

-- ---- boards and worlds

pub board_normal : (owner : ℕ) (program : List ℕ) (boards : ℕ) (b : BoardData) → length program < 32768 → IsNormalBoard boards b
    → IsNormalBoard boards (board_with owner program b)
board_normal owner program boards b lt h =
    let same = length_from owner program 0 b.stats in
    record {
      name = h.name;
      tiles = h.tiles;
      properties = h.properties;
      some = omega (arith, same, h.some);
      few = omega (arith, same, h.few);
      stats = subst (λ m. AreNormalStats boards m b.tiles [] (stats_from owner program 0 b.stats)) (sym same)
          (stats_normal owner program boards (length b.stats) b.tiles 0 [] b.stats lt refl h.stats);
    }

pub world_normal : (w : Contents) (number : ℕ) (b : BoardData) → HasNormalParts w → IsNormalBoard (length w.boards) b
    → HasNormalParts (world_with w number b)
world_normal w number b h is =
    let same = length_set w.boards number b in
    record {
      some = omega (arith, same, h.some);
      few = omega (arith, same, h.few);
      header = subst (λ m. IsNormalHeader m w.header) (sym same) h.header;
      boards = subst (λ m. AllByRecursion (IsNormalBoard m) (slice_set w.boards number b)) (sym same) (all_set (IsNormalBoard (length w.boards)) w.boards number b h.boards is);
    }
