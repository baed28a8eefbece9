-- A board with a short body has a short program.
use Rattle.std.proofs.Common.{◌≡◌, ◌∙◌, ◌+◌, ◌<◌, ◌≤◌, ℕ, zero, suc, true, List, [], ◌∷◌, ◌++◌, length, length-append, ap, arith, refl, subst, Some}
use Rattle.std.specs.Prelude.{◌==◌, slice_get}
use Rattle.std.specs.List.{flat_map}
use Rattle.std.proofs.lemmas.Bool.{eq-eqb}
use Rattle.std.proofs.lemmas.List.{length_push}
use Rattle.std.proofs.lemmas.Option.{slice_get-get_or, slice_get_within}
use Rattle.zed_types.specs.declared.tile.Tile.{Tile}
use Rattle.zed_world.specs.declared.stat.Code.{Code}
use Rattle.zed_world.specs.declared.stat.Code.TheVariants as code
use Rattle.zed_world.specs.declared.stat.StatData.{StatData}
use Rattle.zed_world.specs.declared.board.BoardData.{BoardData}
use Rattle.zed_world.specs.Normal.{AreNormalStats, HasShortBody, IsNormalBoard, IsNormalCode}
use Rattle.zed_world.specs.Writing.{code_text, stat_text}
use Rattle.zed_world.proofs.Sizes.{length_body, length_stat}
use Rattle.cmd_program.specs.Codes.{code_in, owned, owner_of}
use Rattle.cmd_program.specs.Worlds.{board_with, stat_with, stats_from}
use Rattle.cmd_program.proofs.Counted.{owned_length}
use Rattle.cmd_program.proofs.Normal.{board_normal, get_from}

-- a program is no longer than all stats
part_of : (ss : List StatData) (n : ℕ) (s : StatData) → slice_get ss n ≡ Some s → length (code_text s.code) ≤ length (flat_map stat_text ss)
part_of [] n s at = absurd (cc)
part_of (x ∷ ss) zero s at =
    let same : x ≡ s = cc in
    let here : length (code_text x.code) ≡ length (code_text s.code) = ap (λ (t : StatData). length (code_text t.code)) same in
    omega (arith, here, length_stat x, length-append (stat_text x) (flat_map stat_text ss))
part_of (x ∷ ss) (suc n) s at =
    let more = part_of ss n s at in
    omega (arith, more, length-append (stat_text x) (flat_map stat_text ss))

-- ---- the stat that has the bytes

-- a stat shares the program of a lower one
shared_below : (boards stats : ℕ) (tiles : List Tile) (lower ss : List StatData) (k : ℕ) (s : StatData) (n : ℕ)
    → AreNormalStats boards stats tiles lower ss
    → slice_get ss k ≡ Some s → s.code ≡ code.Same n → n < length lower + k
shared_below boards stats tiles lower [] k s n h at is = absurd (cc)
shared_below boards stats tiles lower (x ∷ ss) zero s n h at is =
    let same : x ≡ s = cc in
    let shares : x.code ≡ code.Same n = ap (λ (t : StatData). t.code) same ∙ is in
    let normal : IsNormalCode lower (code.Same n) = subst (λ c. IsNormalCode lower c) shares h.0.code in
    let within = slice_get_within lower n normal.1 normal.3 in
    omega (arith, within)
shared_below boards stats tiles lower (x ∷ ss) (suc k) s n h at is =
    let more = shared_below boards stats tiles (lower ++ x ∷ []) ss k s n h.1 at is in
    omega (arith, more, length_push lower x)

owner_within : (boards : ℕ) (b : BoardData) (k : ℕ) (s : StatData) → IsNormalBoard boards b → slice_get b.stats k ≡ Some s
    → owner_of k s.code < length b.stats
owner_within boards b k s h at = go s.code refl
  where
    within : k < length b.stats
    within = slice_get_within b.stats k s at

    go : (c : Code) → s.code ≡ c → owner_of k c < length b.stats
    go code.None is = within
    go (code.Own bytes) is = within
    go (code.Same n) is = let low = shared_below boards (length b.stats) b.tiles [] b.stats k s n h.stats at is in omega (arith, low, within)

-- ---- a short body

pub program_short : (boards : ℕ) (b : BoardData) (k : ℕ) (s : StatData) (program : List ℕ) → IsNormalBoard boards b
    → slice_get b.stats k ≡ Some s
    → HasShortBody (board_with (owner_of k s.code) program b) → length program < 32768
program_short boards b k s program h at short =
    let owner = owner_of k s.code in
    let o = owner_at in
    let got = get_from owner program 0 b.stats owner o.0 o.1 in
    let e : 0 + owner ≡ owner = omega arith in
    let itself : (owner == owner) ≡ true = eq-eqb owner owner refl in
    let code_is : code_in owner program (0 + owner) o.0.code ≡ owned program =
    ap (λ m. code_in owner program m o.0.code) e ∙ rw itself refl in
    let long : length (code_text (code_in owner program (0 + owner) o.0.code)) ≡ length program =
    ap (λ c. length (code_text c)) code_is ∙ owned_length program in
    let part = part_of (stats_from owner program 0 b.stats) owner (stat_with o.0 (code_in owner program (0 + owner) o.0.code)) got in
    let whole = length_body (board_with owner program b) h.name h.properties.message in
    omega (arith, long, part, whole, short)
  where
    owner_at : (o : StatData) × (slice_get b.stats (owner_of k s.code) ≡ Some o)
    owner_at =
        let lt = owner_within boards b k s h at in
        (_, slice_get-get_or b.stats (owner_of k s.code) s lt)

pub changed_normal : (boards : ℕ) (b : BoardData) (k : ℕ) (s : StatData) (program : List ℕ) → IsNormalBoard boards b
    → slice_get b.stats k ≡ Some s
    → HasShortBody (board_with (owner_of k s.code) program b) → IsNormalBoard boards (board_with (owner_of k s.code) program b)
changed_normal boards b k s program h at short =
    board_normal (owner_of k s.code) program boards b (program_short boards b k s program h at short) h
