-- No two things of a kind have one name.
use Rattle.std.proofs.Common.{◌≡◌, ℕ, ◌+◌, ◌<◌, Bool, true, false, cond, ◌&&◌, eqb, List, [], ◌∷◌, ◌++◌, length, map, Result, Ok, Err, refl, ap, ◌∙◌, sym, subst, arith}
use Rattle.std.specs.List.{AllByRecursion}
use Rattle.std.proofs.lemmas.Grind.{flat_map-append}
use Rattle.zed_types.specs.declared.stamp.Stamp.{Stamp}
use Rattle.zed_types.specs.declared.names.Name.{Name}
use Rattle.zed_types.specs.declared.names.BoardId.{BoardId}
use Rattle.zed_types.specs.declared.names.StatId.{StatId}
use Rattle.zed_types.specs.Stamp.{before, same_stamp}
use Rattle.zed_types.specs.Names.{name_of, board_of, stat_of, same_name, same_board, same_stat, NamesRise, is_earlier}
use Rattle.zed_types.specs.Table.{map_from}
use Rattle.zed_types.proofs.StampOrder.{same_stamp-true, same_stamp-itself, same_name-true, before_differs, before_differs_after}
use Rattle.zed_types.proofs.Facts.{all_joined, all_weaker}
use Rattle.zed_world.specs.Contents.{Contents}
use Rattle.zed_world.specs.Reading.{world_at}
use Rattle.zed_world.specs.declared.error.WorldError.{WorldError}
use Rattle.zed_world.specs.declared.board.BoardData.{BoardData}
use Rattle.zed_world.specs.declared.stat.StatData.{StatData}
use Rattle.zed_op.specs.declared.op.Op.{Op}
use Rattle.zed_op.specs.declared.op.Op.TheVariants.{Genesis, BoardAdd, BoardRemove, SetBoard, SetCells, StatAdd, StatRemove, SetStat}
use Rattle.zed_op.specs.declared.op.Edit.{Edit}
use Rattle.zed_op.specs.Set.{IsRising}
use Rattle.zed_edit.specs.declared.plain.Board.{Board}
use Rattle.zed_edit.specs.declared.plain.Stat.{Stat}
use Rattle.zed_edit.specs.declared.plain.Text.{Text}
use Rattle.zed_edit.specs.declared.plain.Plain.{Plain}
use Rattle.zed_edit.specs.Board.{new_board, set_board_property, set_board_cells, add_stat, remove_board}
use Rattle.zed_edit.specs.Stat.{set_stat, new_stat, remove_stat}
use Rattle.zed_edit.specs.Document.{empty_document, change_such, change_stats_of}
use Rattle.zed_edit.specs.Genesis.{opened_stat, opened_stats, opened_boards_from, opened_boards, programs_before}
use Rattle.zed_edit.specs.Replay.{can, do_op, do_edit, hold, open_world, step, replay_on, replay}
use Rattle.zed_laws.specs.NameOrder.{IsOrdered}
use Rattle.zed_laws.proofs.NamesInOrder.{All-both, All-map, StampsAre, NamesPass, IsBoardOf, pass-opened_boards, above-opened_stats, set_stat-stamp, order-step, IsBefore, before-next, none-before, replay_ordered}
use Rattle.zed_laws.specs.Winners.{stats_of}
use Rattle.zed_laws.specs.OwnNames.{NamesDiffer, BoardsHaveOwnNames, StatsHaveOwnNames, TextsHaveOwnNames}
use Rattle.zed_laws.proofs.Fresh.{stats-pass}
use Rattle.zed_laws.proofs.StatReads.{stats-same, stats-changed}

-- ---- an order of names keeps them apart

earlier-other : (a b : Name) → is_earlier a b ≡ true → same_name a b ≡ false
earlier-other a b h = grind (arith, h)

rise-differ : {X : Type 0} (name : X → Name) (xs : List X) → NamesRise name xs → NamesDiffer name xs
rise-differ name [] r = tt
rise-differ name (x ∷ xs) r = (
  all_weaker (λ y. is_earlier (name x) (name y) ≡ true) (λ y. same_name (name x) (name y) ≡ false) xs (λ y h. earlier-other (name x) (name y) h) r.0,
  rise-differ name xs r.1,
)

pub boards_have_own_names : BoardsHaveOwnNames
boards_have_own_names es r = rise-differ (λ (b : Board). b.id.name) (replay es).boards (replay_ordered es r).boards

pub texts_have_own_names : TextsHaveOwnNames
texts_have_own_names es r = rise-differ (λ (t : Text). t.id.name) (replay es).texts (replay_ordered es r).texts

-- ---- stats of different names

abbrev Differ : List Stat → Type 0
Differ xs = NamesDiffer (λ (x : Stat). x.id.name) xs

-- none of these has the name
abbrev Apart : Name → List Stat → Type 0
Apart n xs = AllByRecursion (λ (y : Stat). same_name n y.id.name ≡ false) xs

all-parts : {X : Type 0} (P : X → Type 0) (xs ys : List X) → AllByRecursion P (xs ++ ys) → AllByRecursion P xs × AllByRecursion P ys
all-parts P [] ys h = (tt, h)
all-parts P (x ∷ xs) ys h = let k = all-parts P xs ys h.1 in ((h.0, k.0), k.1)

differ-joined : (xs ys : List Stat) → Differ xs → Differ ys → AllByRecursion (λ (x : Stat). Apart x.id.name ys) xs → Differ (xs ++ ys)
differ-joined [] ys d e a = e
differ-joined (x ∷ xs) ys d e a =
    (all_joined (λ (y : Stat). same_name x.id.name y.id.name ≡ false) xs ys d.0 a.0, differ-joined xs ys d.1 e a.1)

differ-left : (xs ys : List Stat) → Differ (xs ++ ys) → Differ xs
differ-left [] ys d = tt
differ-left (x ∷ xs) ys d = ((all-parts (λ (y : Stat). same_name x.id.name y.id.name ≡ false) xs ys d.0).0, differ-left xs ys d.1)

differ-right : (xs ys : List Stat) → Differ (xs ++ ys) → Differ ys
differ-right [] ys d = d
differ-right (x ∷ xs) ys d = differ-right xs ys d.1

differ-across : (xs ys : List Stat) → Differ (xs ++ ys) → AllByRecursion (λ (x : Stat). Apart x.id.name ys) xs
differ-across [] ys d = tt
differ-across (x ∷ xs) ys d = ((all-parts (λ (y : Stat). same_name x.id.name y.id.name ≡ false) xs ys d.0).1, differ-across xs ys d.1)

-- a change that keeps names
differ-map : (f : Stat → Stat) → ((x : Stat) → (f x).id ≡ x.id) → (xs : List Stat) → Differ xs → Differ (map f xs)
differ-map f names [] d = tt
differ-map f names (x ∷ xs) d = (
  All-map (λ (y : Stat). same_name x.id.name y.id.name ≡ false) (λ (y : Stat). same_name (f x).id.name y.id.name ≡ false) f xs (λ y e. rw (names x, names y) e) d.0,
  differ-map f names xs d.1,
)

-- ---- names of different stamps

other-stamp : (a b : Name) → same_stamp a.stamp b.stamp ≡ false → same_name a b ≡ false
other-stamp a b h = ap (λ v. v && eqb a.index b.index) h

earlier-apart : (a b : Name) (s : Stamp) → before a.stamp s ≡ true → same_stamp b.stamp s ≡ true → same_name a b ≡ false
earlier-apart a b s h k =
    let e : before a.stamp b.stamp ≡ true = ap (before a.stamp) (same_stamp-true b.stamp s k) ∙ h in
    other-stamp a b (before_differs a.stamp b.stamp e)

-- stats before a stamp, and stats of that stamp
across-stamps : (s : Stamp) (xs ys : List Stat) → StampsAre (λ (x : Stat). x.id.name.stamp) (λ q. before q s) xs
    → StampsAre (λ (x : Stat). x.id.name.stamp) (λ q. same_stamp q s) ys
    → AllByRecursion (λ (x : Stat). Apart x.id.name ys) xs
across-stamps s xs ys a b =
    all_weaker (λ (x : Stat). before x.id.name.stamp s ≡ true) (λ (x : Stat). Apart x.id.name ys) xs
    (λ x h. all_weaker (λ (y : Stat). same_stamp y.id.name.stamp s ≡ true) (λ (y : Stat). same_name x.id.name y.id.name ≡ false) ys (λ y k. earlier-apart x.id.name y.id.name s h k) b)
    a

-- ---- the stats of a world file

above-all : (s : Stamp) (k n m t : ℕ) (bs : List BoardData) → k < m
    → AllByRecursion (λ (x : Stat). is_earlier (name_of s k) x.id.name ≡ true) (stats_of (opened_boards_from s n m t bs))
above-all s k n m t [] lt = tt
above-all s k n m t (b ∷ bs) lt =
    all_joined (λ (x : Stat). is_earlier (name_of s k) x.id.name ≡ true) (opened_stats s m t b) (stats_of (opened_boards_from s (n + 1) (m + length b.stats) (t + programs_before (length b.stats) b.stats) bs))
    (above-opened_stats s k m t b 0 b.stats (omega arith)) (above-all s k (n + 1) (m + length b.stats) (t + programs_before (length b.stats) b.stats) bs (omega arith))

rise-joined : (s : Stamp) (m t : ℕ) (b : BoardData) (j : ℕ) (xs : List StatData) (rest : List Stat)
    → ((k : ℕ) → k < (m + j) + length xs → AllByRecursion (λ (x : Stat). is_earlier (name_of s k) x.id.name ≡ true) rest)
    → NamesRise (λ (x : Stat). x.id.name) rest
    → NamesRise (λ (x : Stat). x.id.name) (map_from (opened_stat s m t b) j xs ++ rest)
rise-joined s m t b j [] rest above r = r
rise-joined s m t b j (x ∷ xs) rest above r = (
  all_joined (λ (y : Stat). is_earlier (name_of s (m + j)) y.id.name ≡ true) (map_from (opened_stat s m t b) (j + 1) xs) rest (above-opened_stats s (m + j) m t b (j + 1) xs (omega arith)) (above (m + j) (omega arith)),
  rise-joined s m t b (j + 1) xs rest (λ k lt. above k (omega arith)) r,
)

rise-all : (s : Stamp) (n m t : ℕ) (bs : List BoardData) → NamesRise (λ (x : Stat). x.id.name) (stats_of (opened_boards_from s n m t bs))
rise-all s n m t [] = tt
rise-all s n m t (b ∷ bs) =
    let u = t + programs_before (length b.stats) b.stats in
    let v = m + length b.stats in
    rise-joined s m t b 0 b.stats (stats_of (opened_boards_from s (n + 1) v u bs)) (λ k lt. above-all s k (n + 1) v u bs (omega arith)) (rise-all s (n + 1) v u bs)

-- ---- a new stat

all-added : (P : Stat → Type 0) (test : Board → Bool) (n : Stat) (bs : List Board) → P n → AllByRecursion P (stats_of bs)
    → AllByRecursion P (stats_of (change_such test (add_stat n) bs))
all-added P test n [] p a = tt
all-added P test n (b ∷ bs) p a = all_joined P (cond (test b) (add_stat n b) b).stats (stats_of (change_such test (add_stat n) bs)) (head (test b)) (all-added P test n bs p parts.1)
  where
    parts : AllByRecursion P b.stats × AllByRecursion P (stats_of bs)
    parts = all-parts P b.stats (stats_of bs) a

    head : (v : Bool) → AllByRecursion P (cond v (add_stat n b) b).stats
    head true = all_joined P b.stats (n ∷ []) parts.0 (p, tt)
    head false = parts.0

-- boards of other names are not changed
none-changed : (d : BoardId) (f : Board → Board) (bs : List Board) → AllByRecursion (λ (y : Board). same_name d.name y.id.name ≡ false) bs
    → change_such (λ c. same_board c.id d) f bs ≡ bs
none-changed d f [] a = refl
none-changed d f (b ∷ bs) a = let e : same_name b.id.name d.name ≡ false = turned d.name b.id.name a.0 in rw e (ap (λ cs. b ∷ cs) (none-changed d f bs a.1))
  where
    turned : (m n : Name) → same_name m n ≡ false → same_name n m ≡ false
    turned m n h = grind (arith, h)

added : (n : Stat) (d : BoardId) (bs : List Board) → NamesDiffer (λ (b : Board). b.id.name) bs → Differ (stats_of bs)
    → AllByRecursion (λ (x : Stat). same_name x.id.name n.id.name ≡ false) (stats_of bs) → Apart n.id.name (stats_of bs)
    → Differ (stats_of (change_such (λ c. same_board c.id d) (add_stat n) bs))
added n d [] boards differ before_it behind_it = tt
added n d (b ∷ bs) boards differ before_it behind_it = go (same_board b.id d) refl (added n d bs boards.1 right others.1 aparts.1)
  where
    left : Differ b.stats
    left = differ-left b.stats (stats_of bs) differ

    right : Differ (stats_of bs)
    right = differ-right b.stats (stats_of bs) differ

    across : AllByRecursion (λ (x : Stat). Apart x.id.name (stats_of bs)) b.stats
    across = differ-across b.stats (stats_of bs) differ

    others : AllByRecursion (λ (x : Stat). same_name x.id.name n.id.name ≡ false) b.stats
        × AllByRecursion (λ (x : Stat). same_name x.id.name n.id.name ≡ false) (stats_of bs)
    others = all-parts (λ (x : Stat). same_name x.id.name n.id.name ≡ false) b.stats (stats_of bs) before_it

    aparts : Apart n.id.name b.stats × Apart n.id.name (stats_of bs)
    aparts = all-parts (λ (x : Stat). same_name n.id.name x.id.name ≡ false) b.stats (stats_of bs) behind_it

    with_it : Differ (b.stats ++ n ∷ [])
    with_it = differ-joined b.stats (n ∷ []) left (tt, tt) (all_weaker (λ (x : Stat). same_name x.id.name n.id.name ≡ false) (λ (x : Stat). Apart x.id.name (n ∷ [])) b.stats (λ x h. (h, tt)) others.0)

    go : (v : Bool) → same_board b.id d ≡ v → Differ (stats_of (change_such (λ c. same_board c.id d) (add_stat n) bs))
        → Differ ((cond v (add_stat n b) b).stats ++ stats_of (change_such (λ c. same_board c.id d) (add_stat n) bs))
    go true v more =
        let e = same_name-true b.id.name d.name v in
        let rest : change_such (λ c. same_board c.id d) (add_stat n) bs ≡ bs = none-changed d (add_stat n) bs (subst (λ (m : Name). AllByRecursion (λ (y : Board). same_name m y.id.name ≡ false) bs) e boards.0) in
        let whole : Differ ((b.stats ++ n ∷ []) ++ stats_of bs) = differ-joined (b.stats ++ n ∷ []) (stats_of bs) with_it right (all_joined (λ (x : Stat). Apart x.id.name (stats_of bs)) b.stats (n ∷ []) across (aparts.1, tt)) in
        subst (λ (cs : List Board). Differ ((b.stats ++ n ∷ []) ++ stats_of cs)) (sym rest) whole
    go false v more =
        differ-joined b.stats (stats_of (change_such (λ c. same_board c.id d) (add_stat n) bs)) left more
        (all_weaker (λ (x : Stat). Apart x.id.name (stats_of bs) × (same_name x.id.name n.id.name ≡ false)) (λ (x : Stat). Apart x.id.name (stats_of (change_such (λ c. same_board c.id d) (add_stat n) bs))) b.stats
        (λ x h. all-added (λ (y : Stat). same_name x.id.name y.id.name ≡ false) (λ c. same_board c.id d) n bs h.1 h.0)
        (All-both (λ (x : Stat). Apart x.id.name (stats_of bs)) (λ (x : Stat). same_name x.id.name n.id.name ≡ false) b.stats across others.0))

-- ---- every edit

joined-boards : (s : Stamp) (p : Plain) (more : List Board) → NamesPass (λ q. before q s) p
    → AllByRecursion (IsBoardOf (λ q. same_stamp q s)) more → Differ (stats_of p.boards) → Differ (stats_of more)
    → Differ (stats_of (p.boards ++ more))
joined-boards s p more a b d e =
    subst Differ (sym (flat_map-append (λ (c : Board). c.stats) p.boards more))
    (differ-joined (stats_of p.boards) (stats_of more) d e (across-stamps s (stats_of p.boards) (stats_of more) (stats-pass (λ q. before q s) p.boards a.boards) (stats-pass (λ q. same_stamp q s) more b)))

own-world : (s : Stamp) (r : Result Contents WorldError) (p : Plain) → NamesPass (λ q. before q s) p → Differ (stats_of p.boards)
    → Differ (stats_of (open_world s r p).boards)
own-world s (Err e) p a d = d
own-world s (Ok w) p a d =
    joined-boards s p (opened_boards s w.boards) a (pass-opened_boards (λ q. same_stamp q s) s 0 0 0 w.boards (same_stamp-itself s)) d
    (rise-differ (λ (x : Stat). x.id.name) (stats_of (opened_boards s w.boards)) (rise-all s 0 0 0 w.boards))

kept-names : (y : StatId) (f : Stat → Stat) → ((x : Stat) → (f x).id ≡ x.id) → (bs : List Board) → Differ (stats_of bs)
    → Differ (stats_of (map (change_stats_of y f) bs))
kept-names y f names bs d = subst Differ (sym (stats-changed y f bs)) (differ-map (λ (x : Stat). cond (same_stat x.id y) (f x) x) (λ x. such x (same_stat x.id y)) (stats_of bs) d)
  where
    such : (x : Stat) (v : Bool) → (cond v (f x) x).id ≡ x.id
    such x true = names x
    such x false = refl

own-op : (s : Stamp) (op : Op) (p : Plain) → NamesPass (λ q. before q s) p → NamesDiffer (λ (b : Board). b.id.name) p.boards
    → Differ (stats_of p.boards)
    → Differ (stats_of (do_op s op p).boards)
own-op s (Genesis bytes) p a b d = own-world s (world_at bytes) p a d
own-op s (BoardAdd name) p a b d =
    let itself = same_stamp-itself s in
    joined-boards s p (new_board (board_of s 0) (stat_of s 0) name ∷ []) a ((itself, (itself, tt)), tt) d (tt, tt)
own-op s (BoardRemove c) p a b d = subst Differ (sym (stats-same (λ x. same_board x.id c) remove_board (λ x. refl) p.boards)) d
own-op s (SetBoard c setting) p a b d =
    subst Differ (sym (stats-same (λ x. same_board x.id c) (set_board_property setting) (λ x. refl) p.boards)) d
own-op s (SetCells c cells tile) p a b d =
    subst Differ (sym (stats-same (λ x. same_board x.id c) (set_board_cells cells tile) (λ x. refl) p.boards)) d
own-op s (StatAdd c fields) p a b d =
    let n = new_stat (stat_of s 0) false fields in
    let earlier = stats-pass (λ q. before q s) p.boards a.boards in
    added n c p.boards b d
    (all_weaker (λ (x : Stat). before x.id.name.stamp s ≡ true) (λ (x : Stat). same_name x.id.name (name_of s 0) ≡ false) (stats_of p.boards) (λ x h. other-stamp x.id.name (name_of s 0) (before_differs x.id.name.stamp s h)) earlier)
    (all_weaker (λ (x : Stat). before x.id.name.stamp s ≡ true) (λ (x : Stat). same_name (name_of s 0) x.id.name ≡ false) (stats_of p.boards) (λ x h. other-stamp (name_of s 0) x.id.name (before_differs_after x.id.name.stamp s h)) earlier)
own-op s (StatRemove y) p a b d = kept-names y remove_stat (λ x. refl) p.boards d
own-op s (SetStat y setting) p a b d = kept-names y (set_stat setting) (set_stat-stamp setting) p.boards d
own-op s _ p a b d = d

own-step : (p : Plain) (e : Edit) → NamesPass (λ q. before q e.stamp) p → IsOrdered p → Differ (stats_of p.boards)
    → Differ (stats_of (step p e).boards)
own-step p e a o d = go (can p e)
  where
    go : (v : Bool) → Differ (stats_of (cond v (do_edit p e) (hold p e)).boards)
    go true = own-op e.stamp e.op p a (rise-differ (λ (b : Board). b.id.name) p.boards o.boards) d
    go false = d

own-on : (p : Plain) (es : List Edit) → IsRising es → IsBefore p es → IsOrdered p → Differ (stats_of p.boards)
    → Differ (stats_of (replay_on p es).boards)
own-on p [] r a o d = d
own-on p (e ∷ es) r a o d = own-on (step p e) es r.1 (before-next p e es r.0 a.1) (order-step p e a.0 o) (own-step p e a.0 o d)

pub stats_have_own_names : StatsHaveOwnNames
stats_have_own_names es r = own-on empty_document es r (none-before es) (record { texts = tt; boards = tt; stats = tt }) tt
