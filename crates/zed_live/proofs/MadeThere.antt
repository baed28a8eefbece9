-- Boards that show edits have just what these make.
use Rattle.std.proofs.Common.{◌≡◌, ◌∙◌, ◌||◌, Bool, true, false, cond, List, [], ◌∷◌, find, Option, Some, None, refl, ap, sym, true≢false, arith}
use Rattle.std.specs.List.{AllByRecursion, list_any}
use Rattle.std.specs.Option.{option_map, is_some}
use Rattle.zed_types.specs.declared.names.BoardId.{BoardId}
use Rattle.zed_types.specs.declared.names.StatId.{StatId}
use Rattle.zed_types.specs.Names.{same_board, is_earlier}
use Rattle.zed_types.proofs.StampOrder.{same_board-true, same_name-itself}
use Rattle.zed_types.proofs.Facts.{some_is, or_right}
use Rattle.zed_op.specs.declared.op.Edit.{Edit}
use Rattle.zed_op.specs.declared.thing.Thing.TheVariants as thing
use Rattle.zed_op.specs.Set.{IsRising}
use Rattle.zed_laws.proofs.MadeThings.{find-any}
use Rattle.zed_laws.specs.Homes.{home}
use Rattle.zed_laws.specs.Making.{makes}
use Rattle.zed_stats.specs.declared.stat.LiveStat.{LiveStat}
use Rattle.zed_stats.specs.Stats.{has}
use Rattle.zed_live.specs.declared.board.LiveBoard.{LiveBoard}
use Rattle.zed_live.specs.Shows.{latest_in}
use Rattle.zed_live.specs.BoardStats.{is_board, puts, stat_in, IsLeftOn}
use Rattle.zed_live.specs.Boards.{Boards, board_in, home_in, IsLeft, BoardsShow, MadeThingsAreThere}
use Rattle.zed_live.proofs.BoardStatsShown.{home_of, latest-among, put-latest}
use Rattle.zed_live.proofs.BoardStatsTake.{none-put, put-made}
use Rattle.zed_live.proofs.BoardsByName.{Rise}
use Rattle.zed_live.proofs.BoardsTake.{untouched-unmade}
use Rattle.zed_live.proofs.Homes.{makes-puts}
use Rattle.zed_live.proofs.Lists.{found-passes}

-- ---- boards

-- an earlier name is another
earlier-apart : (b c : BoardId) → is_earlier b.name c.name ≡ true → same_board c b ≡ false
earlier-apart b c h = grind (arith, h)

-- a board is found by its name
its-board : (ys : Boards) (q : BoardId × LiveBoard → Bool) (y : BoardId × LiveBoard) → Rise ys → find q ys ≡ Some y
    → board_in y.0 ys ≡ Some y.1
its-board [] q y r h = absurd (cc)
its-board (z ∷ ys) q y r h = go (q z) h (λ k. its-board ys q y r.1 k)
  where
    go : (v : Bool) → cond v (Some z) (find q ys) ≡ Some y → (find q ys ≡ Some y → board_in y.0 ys ≡ Some y.1)
        → cond (same_board y.0 z.0) (Some z.1) (board_in y.0 ys) ≡ Some y.1
    go true k more =
        let i : z ≡ y = some_is z y k in
        let w : same_board y.0 z.0 ≡ true = ap (λ (a : BoardId × LiveBoard). same_board y.0 a.0) i ∙ same_name-itself (y.0).name in
        rw w (ap (λ (a : BoardId × LiveBoard). Some a.1) i)
    go false k more =
        let w : same_board y.0 z.0 ≡ false = earlier-apart z.0 y.0 (later ys r.0 k) in
        rw w (more k)
      where
        later : (zs : Boards) → AllByRecursion (λ a. is_earlier (z.0).name (a.0).name ≡ true) zs → find q zs ≡ Some y
            → is_earlier (z.0).name (y.0).name ≡ true
        later [] a m = absurd (cc)
        later (x ∷ zs) a m = pick (q x) m (λ j. later zs a.1 j)
          where
            pick : (v : Bool) → cond v (Some x) (find q zs) ≡ Some y → (find q zs ≡ Some y → is_earlier (z.0).name (y.0).name ≡ true)
                → is_earlier (z.0).name (y.0).name ≡ true
            pick true j rest = sym (ap (λ (u : BoardId × LiveBoard). is_earlier (z.0).name (u.0).name) (some_is x y j)) ∙ a.0
            pick false j rest = rest j

-- one that is found is among them
among : (b : BoardId) (q : LiveBoard → Bool) (ys : Boards) (x : LiveBoard) → board_in b ys ≡ Some x → q x ≡ true
    → list_any (λ y. q y.1) ys ≡ true
among b q [] x h k = absurd (cc)
among b q (y ∷ ys) x h k = go (same_board b y.0) h (λ m. among b q ys x m k)
  where
    go : (v : Bool) → cond v (Some y.1) (board_in b ys) ≡ Some x → (board_in b ys ≡ Some x → list_any (λ y. q y.1) ys ≡ true)
        → (q y.1 || list_any (λ y. q y.1) ys) ≡ true
    go true m more = ap (λ u. u || list_any (λ y. q y.1) ys) (ap q (some_is y.1 x m) ∙ k)
    go false m more = or_right (q y.1) (list_any (λ y. q y.1) ys) (more m)

-- what is made is put on some board
any-put : (x : StatId) (es : List Edit) → list_any (λ e. makes e (thing.Stat x)) es ≡ true → (b : BoardId) × (list_any (puts x b) es ≡ true)
any-put x [] h = absurd (true≢false (sym h))
any-put x (e ∷ es) h = go (makes e (thing.Stat x)) refl h (λ k. any-put x es k)
  where
    go : (v : Bool) → makes e (thing.Stat x) ≡ v → (v || list_any (λ f. makes f (thing.Stat x)) es) ≡ true
        → (list_any (λ f. makes f (thing.Stat x)) es ≡ true → (b : BoardId) × (list_any (puts x b) es ≡ true))
        → (b : BoardId) × (list_any (puts x b) (e ∷ es) ≡ true)
    go true v k more = let p = makes-puts x e v in (p.0, ap (λ u. u || list_any (puts x p.0) es) p.1)
    go false v k more = let p = more k in (p.0, or_right (puts x p.0 e) (list_any (puts x p.0) es) p.1)

-- ---- what is there

module _ (es : List Edit) (ys : Boards) (rises : IsRising es) (was : BoardsShow es ys) where
  boards-there : (b : BoardId) → is_some (board_in b ys) ≡ list_any (λ e. makes e (thing.Board b)) es
  boards-there b = go (board_in b ys) (was.each b)
    where
      go : (o : Option LiveBoard) → IsLeft b es o → is_some o ≡ list_any (λ e. makes e (thing.Board b)) es
      go None k = sym (untouched-unmade b es k)
      go (Some x) k = sym k.0

  -- a stat that a board has is put there
  had-put : (b : BoardId) (x : StatId) (live : LiveBoard) → board_in b ys ≡ Some live → has x live.stats ≡ true
      → list_any (puts x b) es ≡ true
  had-put b x live is h = board (board_in b ys) (was.each b) is
    where
      stat : (o : Option LiveStat) → IsLeftOn b es x o → is_some o ≡ true → list_any (puts x b) es ≡ true
      stat None k m = absurd (true≢false (sym m))
      stat (Some t) k m = k.0

      board : (o : Option LiveBoard) → IsLeft b es o → o ≡ Some live → list_any (puts x b) es ≡ true
      board None k m = absurd (cc)
      board (Some y) k m =
          let i : y ≡ live = some_is y live m in
          stat (stat_in x y.stats) (k.1.stats.each x) (ap (λ (a : LiveBoard). has x a.stats) i ∙ h)

  -- a stat that is put on a board is there
  put-had : (b : BoardId) (x : StatId) → list_any (puts x b) es ≡ true → list_any (λ y. has x (y.1).stats) ys ≡ true
  put-had b x h = board (board_in b ys) refl (was.each b)
    where
      stat : (y : LiveBoard) (o : Option LiveStat) → stat_in x y.stats ≡ o → IsLeftOn b es x o → has x y.stats ≡ true
      stat y None m k = absurd (true≢false (sym h ∙ k))
      stat y (Some t) m k = ap is_some m

      board : (o : Option LiveBoard) → board_in b ys ≡ o → IsLeft b es o → list_any (λ y. has x (y.1).stats) ys ≡ true
      board None m k = absurd (true≢false (sym h ∙ none-put b x es k))
      board (Some y) m k = among b (λ z. has x z.stats) ys y m (stat y (stat_in x y.stats) refl (k.1.stats.each x))

  -- the board that has a stat
  home-put : (x : StatId) (c : BoardId) → home_in x ys ≡ Some c → list_any (puts x c) es ≡ true
  home-put x c h = go (find (λ y. has x (y.1).stats) ys) refl h
    where
      go : (o : Option (BoardId × LiveBoard)) → find (λ y. has x (y.1).stats) ys ≡ o → option_map (λ y. y.0) o ≡ Some c
          → list_any (puts x c) es ≡ true
      go None k m = absurd (cc)
      go (Some y) k m =
          let i : y.0 ≡ c = some_is y.0 c m in
          ap (λ b. list_any (puts x b) es) (sym i) ∙ had-put y.0 x y.1 (its-board ys (λ z. has x (z.1).stats) y was.rise k) (found-passes (λ z. has x (z.1).stats) ys y k)

  some-home : (x : StatId) → is_some (home_in x ys) ≡ list_any (λ y. has x (y.1).stats) ys
  some-home x = go (find (λ y. has x (y.1).stats) ys) ∙ find-any (λ y. has x (y.1).stats) ys
    where
      go : (o : Option (BoardId × LiveBoard)) → is_some (option_map (λ y. y.0) o) ≡ is_some o
      go None = refl
      go (Some y) = refl

  stats-there : (x : StatId) → is_some (home_in x ys) ≡ list_any (λ e. makes e (thing.Stat x)) es
  stats-there x = go (home_in x ys) refl (list_any (λ e. makes e (thing.Stat x)) es) refl
    where
      go : (o : Option BoardId) → home_in x ys ≡ o → (v : Bool) → list_any (λ e. makes e (thing.Stat x)) es ≡ v → is_some o ≡ v
      go None h false v = refl
      go (Some c) h true v = refl
      go (Some c) h false v = absurd (true≢false (sym (put-made c x es (home-put x c h)) ∙ v))
      go None h true v =
          let one = any-put x es v in
          absurd (true≢false (sym (put-had one.0 x one.1) ∙ sym (some-home x) ∙ ap is_some h))

  homes-there : (x : StatId) → home_in x ys ≡ home_of (latest_in (home x) es)
  homes-there x = go (home_in x ys) refl (home_of (latest_in (home x) es)) refl
    where
      go : (o : Option BoardId) → home_in x ys ≡ o → (p : Option BoardId) → home_of (latest_in (home x) es) ≡ p → o ≡ p
      go None h None k = refl
      go None h (Some d) k =
          let put : list_any (puts x d) es ≡ true = latest-among d x None es (ap (is_board d) k ∙ same_name-itself d.name) in
          absurd (true≢false (sym (put-had d x put) ∙ sym (some-home x) ∙ ap is_some h))
      go (Some c) h p k =
          let is : is_board c p ≡ true = ap (is_board c) (sym k) ∙ put-latest c x es rises (home-put x c h) in
          named c p is
        where
          named : (c : BoardId) (p : Option BoardId) → is_board c p ≡ true → Some c ≡ p
          named c None m = absurd (true≢false (sym m))
          named c (Some d) m = ap Some (sym (same_board-true d c m))

pub made_things_are_there : MadeThingsAreThere
made_things_are_there es ys rises was = record {
  boards = boards-there es ys rises was;
  stats = stats-there es ys rises was;
  homes = homes-there es ys rises was;
}
