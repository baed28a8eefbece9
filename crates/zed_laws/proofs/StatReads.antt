-- What each edit does to a field of a stat.
use Rattle.std.proofs.Common.{◌≡◌, Bool, true, false, cond, ◌||◌, List, [], ◌∷◌, ◌++◌, map, find, Option, Some, None, Result, Ok, Err, refl, ap, ◌∙◌, sym}
use Rattle.std.specs.List.{AllByRecursion, list_any}
use Rattle.std.specs.Option.{option_or, option_map, is_some}
use Rattle.std.proofs.lemmas.Bool.{and_parts}
use Rattle.std.proofs.lemmas.List.{map-append}
use Rattle.std.proofs.lemmas.List.Folds.{find-append, list_any-append}
use Rattle.std.proofs.lemmas.Grind.{flat_map-append}
use mathlib.Core.Logic.{◌⊎◌, inl, inr}
use Rattle.zed_types.specs.declared.stamp.Stamp.{Stamp}
use Rattle.zed_types.specs.declared.names.BoardId.{BoardId}
use Rattle.zed_types.specs.declared.names.StatId.{StatId}
use Rattle.zed_types.specs.declared.names.Name.{Name}
use Rattle.zed_types.specs.Stamp.{before}
use Rattle.zed_types.specs.Names.{board_of, stat_of, same_name, same_board, same_stat}
use Rattle.zed_types.proofs.StampOrder.{same_name-true, same_name-apart}
use Rattle.zed_types.proofs.Facts.{all_joined}
use Rattle.zed_world.specs.Contents.{Contents}
use Rattle.zed_world.specs.Reading.{world_at}
use Rattle.zed_world.specs.declared.error.WorldError.{WorldError}
use Rattle.zed_op.specs.declared.op.Op.{Op}
use Rattle.zed_op.specs.declared.op.Op.TheVariants.{Genesis, BoardAdd, BoardRemove, SetBoard, SetCells, StatAdd, StatRemove, SetStat}
use Rattle.zed_op.specs.declared.thing.Thing.TheVariants.{Board as board, Stat as stat}
use Rattle.zed_op.specs.Names.{names_of, target_named, text_named, stat_names}
use Rattle.zed_edit.specs.declared.plain.Board.{Board}
use Rattle.zed_edit.specs.declared.plain.Stat.{Stat}
use Rattle.zed_edit.specs.declared.plain.Plain.{Plain}
use Rattle.zed_edit.specs.Board.{new_board, set_board_property, set_board_cells, add_stat, remove_board}
use Rattle.zed_edit.specs.Stat.{set_stat, new_stat, remove_stat}
use Rattle.zed_edit.specs.Document.{change_such, change_boards, change_stats_of, all_stats, has}
use Rattle.zed_edit.specs.Genesis.{opened_boards}
use Rattle.zed_edit.specs.Replay.{has_all, open_world, do_op}
use Rattle.zed_laws.specs.Registers.{overwritten}
use Rattle.zed_laws.proofs.MadeThings.{find-any, set_stat-id}
use Rattle.zed_laws.proofs.NamesInOrder.{NamesPass}
use Rattle.zed_laws.specs.Fields.{Field}
use Rattle.zed_laws.specs.Winners.{opened_from, made_stats, stats_of, changes_stat, find_stat}
use Rattle.zed_laws.specs.Whole.{IsWholeStat, IsWholeBoard}
use Rattle.zed_laws.proofs.Found.{found-holds, value-set, value-apart, value-made}
use Rattle.zed_laws.proofs.Fresh.{fresh-stat}

-- what an edit does to the stat that it changes
abbrev pub on_stat : Op → Stat → Stat
on_stat (StatRemove y) x = remove_stat x
on_stat (SetStat y setting) x = set_stat setting x
on_stat _ x = x

-- a field of a stat is overwritten by what an edit sets
abbrev pub IsStatField : {V : Type 0} → Field Stat V → Type 0
IsStatField f = (op : Op) (x : Stat) → IsWholeStat x → f.value (on_stat op x) ≡ overwritten (f.value x) (f.set op)

-- ---- the stats of boards that are changed

pub stats-same : (test : Board → Bool) (change : Board → Board) → ((b : Board) → (change b).stats ≡ b.stats) → (bs : List Board)
    → stats_of (change_such test change bs) ≡ stats_of bs
stats-same test change keeps [] = refl
stats-same test change keeps (b ∷ bs) =
    ap (λ ss. ss ++ stats_of (change_such test change bs)) (head (test b)) ∙ ap (λ ss. b.stats ++ ss) (stats-same test change keeps bs)
  where
    head : (t : Bool) → (cond t (change b) b).stats ≡ b.stats
    head true = keeps b
    head false = refl

pub stats-changed : (y : StatId) (change : Stat → Stat) (bs : List Board)
    → stats_of (map (change_stats_of y change) bs) ≡ change_such (λ x. same_stat x.id y) change (stats_of bs)
stats-changed y change [] = refl
stats-changed y change (b ∷ bs) =
    let each = λ (x : Stat). cond (same_stat x.id y) (change x) x in
    ap (λ ss. map each b.stats ++ ss) (stats-changed y change bs) ∙ sym (map-append each b.stats (stats_of bs))

pub any-stat : (q : Stat → Bool) (bs : List Board) → list_any q (stats_of bs) ≡ list_any (λ b. list_any q b.stats) bs
any-stat q [] = refl
any-stat q (b ∷ bs) = list_any-append q b.stats (stats_of bs) ∙ ap (λ v. list_any q b.stats || v) (any-stat q bs)

pub whole-stats : (bs : List Board) → AllByRecursion IsWholeBoard bs → AllByRecursion IsWholeStat (stats_of bs)
whole-stats [] h = tt
whole-stats (b ∷ bs) h = all_joined IsWholeStat b.stats (stats_of bs) h.0.stats (whole-stats bs h.1)

-- one more stat, which is not looked for
added-other : (q : Stat → Bool) (test : Board → Bool) (n : Stat) → q n ≡ false → (bs : List Board)
    → find q (stats_of (change_such test (add_stat n) bs)) ≡ find q (stats_of bs)
added-other q test n other [] = refl
added-other q test n other (b ∷ bs) =
    find-append q (cond (test b) (add_stat n b) b).stats (stats_of (change_such test (add_stat n) bs))
    ∙ ap (λ o. option_or o (find q (stats_of (change_such test (add_stat n) bs)))) (head (test b))
    ∙ ap (option_or (find q b.stats)) (added-other q test n other bs)
    ∙ sym (find-append q b.stats (stats_of bs))
  where
    or-none : (o : Option Stat) → option_or o None ≡ o
    or-none None = refl
    or-none (Some x) = refl

    none : find q (n ∷ []) ≡ None
    none = rw other refl

    head : (t : Bool) → find q (cond t (add_stat n b) b).stats ≡ find q b.stats
    head true = find-append q b.stats (n ∷ []) ∙ ap (option_or (find q b.stats)) none ∙ or-none (find q b.stats)
    head false = refl

or-parts : (o m : Option Stat) → option_or o m ≡ None → (o ≡ None) × (m ≡ None)
or-parts None m h = (refl, h)
or-parts (Some x) m h = absurd (cc)

-- one more stat, which is looked for, and was not there
added-found : (q : Stat → Bool) (test : Board → Bool) (n : Stat) → q n ≡ true → (bs : List Board) → list_any test bs ≡ true
    → find q (stats_of bs) ≡ None
    → find q (stats_of (change_such test (add_stat n) bs)) ≡ Some n
added-found q test n this [] there none = absurd (cc)
added-found q test n this (b ∷ bs) there none =
    find-append q (cond (test b) (add_stat n b) b).stats (stats_of (change_such test (add_stat n) bs))
    ∙ go (test b) refl (or-parts (find q b.stats) (find q (stats_of bs)) (sym (find-append q b.stats (stats_of bs)) ∙ none)) (λ t m. added-found q test n this bs t m)
  where
    one : find q (n ∷ []) ≡ Some n
    one = rw this refl

    go : (t : Bool) → test b ≡ t → (find q b.stats ≡ None) × (find q (stats_of bs) ≡ None)
        → (list_any test bs ≡ true → find q (stats_of bs) ≡ None → find q (stats_of (change_such test (add_stat n) bs)) ≡ Some n)
        → option_or (find q (cond t (add_stat n b) b).stats) (find q (stats_of (change_such test (add_stat n) bs))) ≡ Some n
    go true t parts more =
        let head : find q (b.stats ++ n ∷ []) ≡ Some n =
        find-append q b.stats (n ∷ []) ∙ ap (λ o. option_or o (find q (n ∷ []))) parts.0 ∙ one in
        ap (λ o. option_or o (find q (stats_of (change_such test (add_stat n) bs)))) head
    go false t parts more =
        ap (λ o. option_or o (find q (stats_of (change_such test (add_stat n) bs)))) parts.0 ∙ more (rw t at there) parts.1

module _ {V : Type 0} (f : Field Stat V) (law : IsStatField f) (x : StatId) where
  -- an edit of a stat that is there
  read-change : (op : Op) (y : StatId) (change : Stat → Stat) (p : Plain)
      → ((z : Stat) → same_stat (change z).id x ≡ same_stat z.id x)
      → ((z : Stat) → change z ≡ on_stat op z)
      → has p (stat y) ≡ true
      → AllByRecursion IsWholeBoard p.boards
      → option_map f.value (find_stat x (stats_of (map (change_stats_of y change) p.boards)))
      ≡ option_or (cond (same_stat y x) (f.set op) None) (option_map f.value (find_stat x (all_stats p)))
  read-change op y change p names does there whole =
      ap (λ ss. option_map f.value (find_stat x ss)) (stats-changed y change p.boards) ∙ go (same_stat y x) refl
    where
      go : (v : Bool) → same_stat y x ≡ v
          → option_map f.value (find_stat x (change_such (λ z. same_stat z.id y) change (all_stats p)))
          ≡ option_or (cond v (f.set op) None) (option_map f.value (find_stat x (all_stats p)))
      go true v =
          let e : y.name ≡ x.name = same_name-true y.name x.name v in
          let some : is_some (find_stat x (all_stats p)) ≡ true =
          find-any (λ z. same_stat z.id x) (all_stats p)
          ∙ ap (λ (d : Name). list_any (λ (z : Stat). same_name z.id.name d) (all_stats p)) (sym e)
          ∙ any-stat (λ z. same_stat z.id y) p.boards
          ∙ there in
          value-set f.value (λ z. same_stat z.id x) (λ z. same_stat z.id y) change (f.set op) names (λ z. ap (same_name z.id.name) e) (all_stats p) some
          (λ z k. ap f.value (does z) ∙ law op z (found-holds IsWholeStat (λ w. same_stat w.id x) (all_stats p) (whole-stats p.boards whole) z k))
      go false v = value-apart f.value (λ z. same_stat z.id x) (λ z. same_stat z.id y) change names (λ z k. same_name-apart y.name x.name z.id.name v k) (all_stats p)

  -- boards that come behind those that are there
  joined : (p : Plain) (more : List Board) → (find_stat x (all_stats p) ≡ None) ⊎ (find_stat x (stats_of more) ≡ None)
      → option_map f.value (find_stat x (stats_of (p.boards ++ more)))
      ≡ option_or (option_or (option_map f.value (find_stat x (stats_of more))) None) (option_map f.value (find_stat x (all_stats p)))
  joined p more h =
      ap (λ ss. option_map f.value (find_stat x ss)) (flat_map-append (λ b. b.stats) p.boards more)
      ∙ ap (option_map f.value) (find-append (λ z. same_stat z.id x) (all_stats p) (stats_of more))
      ∙ value-made f.value (find_stat x (all_stats p)) (find_stat x (stats_of more)) h

  read-opened : (s : Stamp) (r : Result Contents WorldError) (p : Plain)
      → (find_stat x (all_stats p) ≡ None) ⊎ (find_stat x (stats_of (opened_from s r)) ≡ None)
      → option_map f.value (find_stat x (all_stats (open_world s r p)))
      ≡ option_or (option_or (option_map f.value (find_stat x (stats_of (opened_from s r)))) None) (option_map f.value (find_stat x (all_stats p)))
  read-opened s (Err e) p h = refl
  read-opened s (Ok w) p h = joined p (opened_boards s w.boards) h

  -- a new stat on a board that is there
  read-added : (n : Stat) (d : BoardId) (p : Plain) → has p (board d) ≡ true
      → (find_stat x (all_stats p) ≡ None) ⊎ (find_stat x (n ∷ []) ≡ None)
      → option_map f.value (find_stat x (stats_of (change_boards d (add_stat n) p.boards)))
      ≡ option_or (option_or (option_map f.value (find_stat x (n ∷ []))) None) (option_map f.value (find_stat x (all_stats p)))
  read-added n d p there fresh = go (same_stat n.id x) refl
    where
      absent : same_stat n.id x ≡ true → find_stat x (all_stats p) ≡ None
      absent v =
          let one : find_stat x (n ∷ []) ≡ Some n = rw v refl in
          elim fresh [ inl none ↦ none | inr none ↦ absurd (cc) ]

      go : (v : Bool) → same_stat n.id x ≡ v
          → option_map f.value (find_stat x (stats_of (change_boards d (add_stat n) p.boards)))
          ≡ option_or (option_or (option_map f.value (cond v (Some n) None)) None) (option_map f.value (find_stat x (all_stats p)))
      go true v = ap (option_map f.value) (added-found (λ z. same_stat z.id x) (λ c. same_board c.id d) n v p.boards there (absent v))
      go false v = ap (option_map f.value) (added-other (λ z. same_stat z.id x) (λ c. same_board c.id d) n v p.boards)

  pub read-stat : (s : Stamp) (op : Op) (p : Plain) → NamesPass (λ q. before q s) p → AllByRecursion IsWholeBoard p.boards
      → has_all p (names_of op) ≡ true
      → option_map f.value (find_stat x (all_stats (do_op s op p)))
      ≡ option_or (option_or (option_map f.value (find_stat x (made_stats s op))) (cond (changes_stat x op) (f.set op) None)) (option_map f.value (find_stat x (all_stats p)))
  read-stat s (Genesis bytes) p a whole c = read-opened s (world_at bytes) p (fresh-stat x s (Genesis bytes) p a)
  read-stat s (BoardAdd name) p a whole c = joined p (new_board (board_of s 0) (stat_of s 0) name ∷ []) (fresh-stat x s (BoardAdd name) p a)
  read-stat s (BoardRemove d) p a whole c =
      ap (λ ss. option_map f.value (find_stat x ss)) (stats-same (λ b. same_board b.id d) remove_board (λ b. refl) p.boards)
  read-stat s (SetBoard d setting) p a whole c =
      ap (λ ss. option_map f.value (find_stat x ss)) (stats-same (λ b. same_board b.id d) (set_board_property setting) (λ b. refl) p.boards)
  read-stat s (SetCells d cells tile) p a whole c =
      ap (λ ss. option_map f.value (find_stat x ss)) (stats-same (λ b. same_board b.id d) (set_board_cells cells tile) (λ b. refl) p.boards)
  read-stat s (StatAdd d fields) p a whole c =
      let there = and_parts (has p (board d)) (has_all p (target_named fields.p3 ++ text_named fields.text)) c in
      read-added (new_stat (stat_of s 0) false fields) d p there.0 (fresh-stat x s (StatAdd d fields) p a)
  read-stat s (StatRemove y) p a whole c =
      read-change (StatRemove y) y remove_stat p (λ z. refl) (λ z. refl) (and_parts (has p (stat y)) true c).0 whole
  read-stat s (SetStat y setting) p a whole c = read-change (SetStat y setting) y (set_stat setting) p (set_stat-id x setting) (λ z. refl) (and_parts (has p (stat y)) (has_all p (stat_names setting)) c).0 whole
  read-stat s _ p a whole c = refl
