-- A stat that gets the program that it has: the world stays as it is.
use Rattle.std.proofs.Common.{◌≡◌, ◌∙◌, ◌+◌, ◌<◌, ℕ, zero, suc, Bool, true, false, List, [], ◌∷◌, ◌++◌, length, ap, arith, append_assoc, refl, subst, sym, inl, inr, Some, None, Result, Ok}
use Rattle.std.specs.Prelude.{◌==◌, ◌&&◌, if◌then◌else◌, slice_get, slice_set}
use Rattle.std.proofs.lemmas.Bool.{eqb-true}
use Rattle.zed_types.specs.declared.tile.Tile.{Tile}
use Rattle.zed_world.specs.Contents.{Contents}
use Rattle.zed_world.specs.declared.stat.Code.{Code}
use Rattle.zed_world.specs.declared.stat.Code.TheVariants as code
use Rattle.zed_world.specs.declared.stat.StatData.{StatData}
use Rattle.zed_world.specs.declared.board.BoardData.{BoardData}
use Rattle.zed_world.specs.declared.error.WorldError.TheVariants as world
use Rattle.zed_world.specs.Normal.{AreNormalStats, HasNormalParts, IsNormalBoard, IsNormalCode}
use Rattle.zed_world.specs.Writing.{HasText, first_over}
use Rattle.cmd_program.specs.declared.error.ReprogramError.{ReprogramError}
use Rattle.cmd_program.specs.Codes.{bytes_in, bytes_of, code_in, owned, owner_of, program_of, sharing}
use Rattle.cmd_program.specs.Worlds.{Fits, IsReprogrammed, OfBoard, OfStat, board_with, stat_with, stats_from, world_with}
use Rattle.cmd_program.proofs.Lists.{all_get}

-- ---- lists

get_front : {X : Type 0} (xs ys : List X) (n : ℕ) (x : X) → slice_get xs n ≡ Some x → slice_get (xs ++ ys) n ≡ Some x
get_front [] ys n x at = absurd (cc)
get_front (y ∷ xs) ys zero x at = at
get_front (y ∷ xs) ys (suc n) x at = get_front xs ys n x at

set_same : {X : Type 0} (xs : List X) (n : ℕ) (x : X) → slice_get xs n ≡ Some x → slice_set xs n x ≡ xs
set_same [] n x at = refl
set_same (y ∷ xs) zero x at = let e : x ≡ y = cc in ap (λ z. z ∷ xs) e
set_same (y ∷ xs) (suc n) x at = ap (λ zs. y ∷ zs) (set_same xs n x at)

-- ---- what is known of the programs of normal stats

-- a program of its own has bytes
own_has : (boards stats : ℕ) (tiles : List Tile) (lower ss : List StatData) (k : ℕ) (s : StatData) (bytes : List ℕ)
    → AreNormalStats boards stats tiles lower ss
    → slice_get ss k ≡ Some s → s.code ≡ code.Own bytes → 0 < length bytes
own_has boards stats tiles lower [] k s bytes h at is = absurd (cc)
own_has boards stats tiles lower (x ∷ ss) zero s bytes h at is =
    let same : x ≡ s = cc in
    let own : x.code ≡ code.Own bytes = ap (λ (t : StatData). t.code) same ∙ is in
    let normal : IsNormalCode lower (code.Own bytes) = subst (λ c. IsNormalCode lower c) own h.0.code in
    normal.0
own_has boards stats tiles lower (x ∷ ss) (suc k) s bytes h at is = own_has boards stats tiles (lower ++ x ∷ []) ss k s bytes h.1 at is

-- a stat that shares a program shares that of a stat with a program of its own
shares_own : (boards stats : ℕ) (tiles : List Tile) (lower ss : List StatData) (k : ℕ) (s : StatData) (n : ℕ)
    → AreNormalStats boards stats tiles lower ss
    → slice_get ss k ≡ Some s → s.code ≡ code.Same n
    → (o : StatData) × (bytes : List ℕ) × (slice_get (lower ++ ss) n ≡ Some o) × (o.code ≡ code.Own bytes)
shares_own boards stats tiles lower [] k s n h at is = absurd (cc)
shares_own boards stats tiles lower (x ∷ ss) zero s n h at is =
    let same : x ≡ s = cc in
    let shares : x.code ≡ code.Same n = ap (λ (t : StatData). t.code) same ∙ is in
    let normal : IsNormalCode lower (code.Same n) = subst (λ c. IsNormalCode lower c) shares h.0.code in
    (normal.1, normal.2, get_front lower (x ∷ ss) n normal.1 normal.3, normal.4)
shares_own boards stats tiles lower (x ∷ ss) (suc k) s n h at is =
    let more = shares_own boards stats tiles (lower ++ x ∷ []) ss k s n h.1 at is in
    let whole : (lower ++ x ∷ []) ++ ss ≡ lower ++ x ∷ ss = append_assoc lower (x ∷ []) ss in
    (more.0, more.1, subst (λ l. slice_get l n ≡ Some more.0) whole more.2, more.3)

-- ---- the stat that has the program

-- it gets the code that it has, and it has none where the program has no bytes
record IsOwner (ss : List StatData) (owner : ℕ) (program : List ℕ) (o : StatData) : Type 0 where
  at : slice_get ss owner ≡ Some o
  same : owned program ≡ o.code
  none : length program ≡ 0 → o.code ≡ code.None

owned_own : (bytes : List ℕ) → 0 < length bytes → owned bytes ≡ code.Own bytes
owned_own bytes some = go (length bytes == 0) refl
  where
    go : (t : Bool) → (length bytes == 0) ≡ t → (if t then code.None else code.Own bytes) ≡ code.Own bytes
    go true is = absurd (let none : length bytes ≡ 0 = eqb-true (length bytes) 0 is in omega (arith, some, none))
    go false is = refl

owner_with : (ss : List StatData) (owner : ℕ) (bytes : List ℕ) (o : StatData) → slice_get ss owner ≡ Some o → o.code ≡ code.Own bytes
    → 0 < length bytes
    → IsOwner ss owner bytes o
owner_with ss owner bytes o at is some = record {
  at = at;
  same = owned_own bytes some ∙ sym is;
  none = λ no. absurd (omega (arith, some, no));
}

owner_is : (boards stats : ℕ) (tiles : List Tile) (ss : List StatData) (k : ℕ) (s : StatData) → AreNormalStats boards stats tiles [] ss
    → slice_get ss k ≡ Some s
    → (o : StatData) × IsOwner ss (owner_of k s.code) (program_of ss s.code) o
owner_is boards stats tiles ss k s h at = go s.code refl
  where
    go : (c : Code) → s.code ≡ c → (o : StatData) × IsOwner ss (owner_of k c) (program_of ss c) o
    go code.None is = (s, record { at = at; same = sym is; none = λ no. is })
    go (code.Own bytes) is = (s, owner_with ss k bytes s at is (own_has boards stats tiles [] ss k s bytes h at is))
    go (code.Same n) is =
        let o = shares_own boards stats tiles [] ss k s n h at is in
        let some = own_has boards stats tiles [] ss n o.0 o.1 h o.2 o.3 in
        let bytes : bytes_in (slice_get ss n) ≡ o.1 = ap bytes_in o.2 ∙ ap bytes_of o.3 in
        (o.0, subst (λ p. IsOwner ss n p o.0) (sym bytes) (owner_with ss n o.1 o.0 o.2 o.3 some))

-- ---- each stat stays

code_stays : (boards stats : ℕ) (tiles : List Tile) (ss : List StatData) (owner : ℕ) (program : List ℕ) (o : StatData) (k : ℕ) (s : StatData)
    → AreNormalStats boards stats tiles [] ss → IsOwner ss owner program o → slice_get ss k ≡ Some s
    → code_in owner program k s.code ≡ s.code
code_stays boards stats tiles ss owner program o k s h has at = go (k == owner) refl
  where
    -- a stat doesn't share a program that has no bytes
    shared : (n : ℕ) → s.code ≡ code.Same n → (t : Bool) → (length program == 0) ≡ t → (u : Bool) → (n == owner) ≡ u
        → (if t && u then code.None else code.Same n) ≡ code.Same n
    shared n is true none true it = absurd (
        let x = shares_own boards stats tiles [] ss k s n h at is in
        let here : n ≡ owner = eqb-true n owner it in
        let there : slice_get ss owner ≡ Some x.0 = subst (λ m. slice_get ss m ≡ Some x.0) here x.2 in
        let found : Some o ≡ Some x.0 = sym has.at ∙ there in
        let same : o ≡ x.0 = cc in
        let own : o.code ≡ code.Own x.1 = ap (λ (t : StatData). t.code) same ∙ x.3 in
        let no : o.code ≡ code.None = has.none (eqb-true (length program) 0 none) in
        let both : code.None ≡ code.Own x.1 = sym no ∙ own in
        cc)
    shared n is true none false differs = refl
    shared n is false some u it = refl

    other : (c : Code) → s.code ≡ c → sharing owner program c ≡ c
    other code.None is = refl
    other (code.Own bytes) is = refl
    other (code.Same n) is = shared n is (length program == 0) refl (n == owner) refl

    go : (t : Bool) → (k == owner) ≡ t → (if t then owned program else sharing owner program s.code) ≡ s.code
    go true is =
        let here : k ≡ owner = eqb-true k owner is in
        let there : slice_get ss owner ≡ Some s = subst (λ m. slice_get ss m ≡ Some s) here at in
        let found : Some o ≡ Some s = sym has.at ∙ there in
        let same : o ≡ s = cc in
        has.same ∙ ap (λ (t : StatData). t.code) same
    go false is = other s.code refl

-- stats of which each keeps its code
stats_stay : (owner : ℕ) (program : List ℕ) (i : ℕ) (ss : List StatData)
    → ((k : ℕ) (s : StatData) → slice_get ss k ≡ Some s → code_in owner program (i + k) s.code ≡ s.code)
    → stats_from owner program i ss ≡ ss
stats_stay owner program i [] each = refl
stats_stay owner program i (s ∷ ss) each =
    let e : i + 0 ≡ i = omega arith in
    let here : code_in owner program i s.code ≡ s.code = subst (λ m. code_in owner program m s.code ≡ s.code) e (each 0 s refl) in
    let one : stat_with s (code_in owner program i s.code) ≡ s = ap (λ c. stat_with s c) here in
    let rest = stats_stay owner program (i + 1) ss (λ k t at.
    let f : i + suc k ≡ (i + 1) + k = omega arith in
    subst (λ m. code_in owner program m t.code ≡ t.code) f (each (suc k) t at)) in
    ap (λ x. x ∷ stats_from owner program (i + 1) ss) one ∙ ap (λ xs. s ∷ xs) rest

-- ---- boards and worlds

board_stays : (boards : ℕ) (b : BoardData) (k : ℕ) (s : StatData) → IsNormalBoard boards b → slice_get b.stats k ≡ Some s
    → board_with (owner_of k s.code) (program_of b.stats s.code) b ≡ b
board_stays boards b k s h at =
    let owner = owner_of k s.code in
    let program = program_of b.stats s.code in
    let has = owner_is boards (length b.stats) b.tiles b.stats k s h.stats at in
    let same = stats_stay owner program 0 b.stats (λ m t there.
    let e : m ≡ 0 + m = omega arith in
    subst (λ n. code_in owner program n t.code ≡ t.code) e (code_stays boards (length b.stats) b.tiles b.stats owner program has.0 m t h.stats has.1 there)) in
    ap (λ (ss : List StatData). record b { stats = ss }) same

fits_itself : (w v : Contents) (r : Result Contents ReprogramError) → v ≡ w → HasText 32767 w → Fits v r → r ≡ Ok w
fits_itself w v r same text fits = elim fits [
  | inl whole ↦ whole.1 ∙ ap (λ x. Ok x) same
  | inr over ↦ absurd (
      let told : first_over 32767 0 w.boards ≡ Some (world.BoardOver over.0 over.1) =
      subst (λ (x : Contents). first_over 32767 0 x.boards ≡ Some (world.BoardOver over.0 over.1)) same over.2 in
      let both : None ≡ Some (world.BoardOver over.0 over.1) = sym text ∙ told in
      cc)
]

pub stays : (w : Contents) (board stat : ℕ) (b : BoardData) (s : StatData) (r : Result Contents ReprogramError) → HasNormalParts w
    → HasText 32767 w
    → slice_get w.boards board ≡ Some b → slice_get b.stats stat ≡ Some s → IsReprogrammed w board stat (program_of b.stats s.code) r
    → r ≡ Ok w
unfolding IsReprogrammed
stays w board stat b s r normal text at here is =
    let program = program_of b.stats s.code in
    let on_board : OfBoard w board stat program (Some b) r = subst (λ o. OfBoard w board stat program o r) at is in
    let on_stat : OfStat w board b stat program (Some s) r = subst (λ o. OfStat w board b stat program o r) here on_board in
    let kept = board_stays (length w.boards) b stat s (all_get (IsNormalBoard (length w.boards)) w.boards board b normal.boards at) here in
    let boards : slice_set w.boards board (board_with (owner_of stat s.code) program b) ≡ w.boards =
    ap (λ x. slice_set w.boards board x) kept ∙ set_same w.boards board b at in
    let same : world_with w board (board_with (owner_of stat s.code) program b) ≡ w =
    ap (λ (bs : List BoardData). record w { boards = bs }) boards in
    fits_itself w (world_with w board (board_with (owner_of stat s.code) program b)) r same text on_stat
