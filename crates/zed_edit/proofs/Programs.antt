-- The programs of a world.
use Rattle.std.proofs.Common.{◌≡◌, ℕ, ◌+◌, ◌<◌, ◌^◌, List, [], ◌∷◌, ◌++◌, length, drop, get_or, suc, add-one, refl, append_assoc, IfSome}
use Rattle.std.specs.List.{AllByRecursion, filter_map}
use Rattle.zed_types.specs.declared.tile.Tile.{Tile}
use Rattle.zed_types.specs.Table.{map_from}
use Rattle.zed_world.specs.declared.board.BoardData.{BoardData}
use Rattle.zed_world.specs.declared.stat.StatData.{StatData}
use Rattle.zed_world.specs.declared.stat.Code.{Code}
use Rattle.zed_world.specs.declared.stat.Code.TheVariants as code
use Rattle.zed_world.specs.Normal.{IsNormalCode, AreNormalStats, IsNormalBoard}
use Rattle.zed_edit.specs.Genesis.{own_program, programs_of}
use Rattle.zed_edit.proofs.Lists.{cons_at, map_from-append}

-- the texts of one board more
pub texts_more : {Y : Type 0} (f : ℕ → List ℕ → Y) (old new made : List Y) (t u : ℕ) (bs : List BoardData) (i : ℕ) (b : BoardData)
    → i < length bs → b ≡ get_or bs i b
    → new ≡ old ++ map_from f t (filter_map own_program b.stats) → u ≡ t + length (filter_map own_program b.stats)
    → old ++ map_from f t (programs_of (drop i bs)) ≡ made → new ++ map_from f u (programs_of (drop (i + 1) bs)) ≡ made
texts_more f old new made t u bs i b l e n m h =
    let own = filter_map own_program b.stats in
    let rest = programs_of (drop (i + 1) bs) in
    let here : b ∷ drop (i + 1) bs ≡ drop i bs = rw add-one (cons_at bs i b b (drop (suc i) bs) l e refl) in
    let split : old ++ map_from f t (own ++ rest) ≡ made = rw (← here) at h in
    rw (n, m, append_assoc, ← map_from-append f t own rest) split

abbrev pub IsShort : StatData → Type 0
IsShort s = IfSome (own_program s) (λ program. length program < 2 ^ 15)

short_code : (s : StatData) (c : Code) (lower : List StatData) → s.code ≡ c → IsNormalCode lower c → IsShort s
short_code s code.None lower e h = rw e tt
short_code s (code.Own bytes) lower e h = rw e (h.1)
short_code s (code.Same n) lower e h = rw e tt

short_stats : (boards stats : ℕ) (tiles : List Tile) (lower ss : List StatData) → AreNormalStats boards stats tiles lower ss
    → AllByRecursion IsShort ss
short_stats boards stats tiles lower [] h = tt
short_stats boards stats tiles lower (s ∷ ss) h =
    (short_code s s.code lower refl h.0.code, short_stats boards stats tiles (lower ++ s ∷ []) ss h.1)

-- each program of a normal world is short
pub short_programs : (boards : ℕ) (bs : List BoardData) → AllByRecursion (IsNormalBoard boards) bs
    → AllByRecursion (λ b. AllByRecursion IsShort b.stats) bs
short_programs boards [] h = tt
short_programs boards (b ∷ bs) h = (short_stats boards (length b.stats) b.tiles [] b.stats h.0.stats, short_programs boards bs h.1)
