-- The board of a stat stands from its making on.
use Rattle.std.proofs.Common.{◌≡◌, Bool, true, false, cond, ◌||◌, List, [], ◌∷◌, ◌++◌, map, find, Option, Some, None, Result, Ok, Err, refl, ap, ◌∙◌, sym}
use Rattle.std.specs.List.{list_any}
use Rattle.std.specs.Option.{option_or, option_map, is_some}
use Rattle.std.proofs.lemmas.Bool.{and_parts}
use Rattle.std.proofs.lemmas.List.Folds.{find-append, list_any-append}
use mathlib.Core.Logic.{◌⊎◌, inl, inr}
use Rattle.zed_types.specs.declared.stamp.Stamp.{Stamp}
use Rattle.zed_types.specs.declared.names.BoardId.{BoardId}
use Rattle.zed_types.specs.declared.names.StatId.{StatId}
use Rattle.zed_types.specs.Stamp.{before}
use Rattle.zed_types.specs.Names.{board_of, stat_of, same_board, same_stat}
use Rattle.zed_types.proofs.StampOrder.{same_board-true}
use Rattle.zed_types.proofs.Facts.{none_is}
use Rattle.zed_world.specs.Contents.{Contents}
use Rattle.zed_world.specs.Reading.{world_at}
use Rattle.zed_world.specs.declared.error.WorldError.{WorldError}
use Rattle.zed_op.specs.declared.op.Op.{Op}
use Rattle.zed_op.specs.declared.op.Op.TheVariants.{Genesis, BoardAdd, BoardRemove, SetBoard, SetCells, StatAdd, StatRemove, SetStat}
use Rattle.zed_op.specs.declared.thing.Thing.TheVariants.{Board as board}
use Rattle.zed_op.specs.Names.{names_of, target_named, text_named}
use Rattle.zed_edit.specs.declared.plain.Board.{Board}
use Rattle.zed_edit.specs.declared.plain.Stat.{Stat}
use Rattle.zed_edit.specs.declared.plain.Plain.{Plain}
use Rattle.zed_edit.specs.Board.{new_board, set_board_property, set_board_cells, add_stat, remove_board}
use Rattle.zed_edit.specs.Stat.{set_stat, new_stat, remove_stat}
use Rattle.zed_edit.specs.Document.{change_such, change_boards, change_stats_of, all_stats, has}
use Rattle.zed_edit.specs.Genesis.{opened_boards}
use Rattle.zed_edit.specs.Replay.{has_all, open_world, do_op}
use Rattle.zed_laws.proofs.MadeThings.{or_false, find-any, list_any-change, set_stat-id}
use Rattle.zed_laws.proofs.NamesInOrder.{NamesPass}
use Rattle.zed_laws.proofs.RegularSteps.{ReadIsNormal}
use Rattle.zed_laws.specs.Homes.{is_on, made_home, home}
use Rattle.zed_laws.specs.Winners.{GreatestStampWins, opened_from, stats_of, find_stat}
use Rattle.zed_laws.proofs.Found.{value-kept, value-made}
use Rattle.zed_laws.proofs.Fresh.{fresh-stat}
use Rattle.zed_laws.proofs.StatReads.{any-stat}
use Rattle.zed_laws.proofs.Winning.{IsStepwise, wins}

abbrev id_of : Board → BoardId
id_of b = b.id

or-none : {X : Type 0} (o : Option X) → option_or o None ≡ o
or-none None = refl
or-none (Some x) = refl

module _ (x : StatId) where
  -- a stat that is not among those of boards is on none of them
  on-none : (bs : List Board) → find_stat x (stats_of bs) ≡ None → find (is_on x) bs ≡ None
  on-none bs h = none_is (find (is_on x) bs) (find-any (is_on x) bs ∙ sym (any-stat (λ y. same_stat y.id x) bs) ∙ sym (find-any (λ y. same_stat y.id x) (stats_of bs)) ∙ ap is_some h)

  -- boards that come behind those that are there
  joined : (bs more : List Board) → (find_stat x (stats_of bs) ≡ None) ⊎ (find_stat x (stats_of more) ≡ None)
      → option_map id_of (find (is_on x) (bs ++ more))
      ≡ option_or (option_map id_of (find (is_on x) more)) (option_map id_of (find (is_on x) bs))
  joined bs more h =
      let either : (find (is_on x) bs ≡ None) ⊎ (find (is_on x) more ≡ None) =
      elim h [ inl e ↦ inl (on-none bs e) | inr e ↦ inr (on-none more e) ] in
      ap (option_map id_of) (find-append (is_on x) bs more)
      ∙ value-made id_of (find (is_on x) bs) (find (is_on x) more) either
      ∙ ap (λ o. option_or o (option_map id_of (find (is_on x) bs))) (or-none (option_map id_of (find (is_on x) more)))

  home-opened : (s : Stamp) (r : Result Contents WorldError) (p : Plain)
      → (find_stat x (all_stats p) ≡ None) ⊎ (find_stat x (stats_of (opened_from s r)) ≡ None)
      → option_map id_of (find (is_on x) (open_world s r p).boards)
      ≡ option_or (option_map id_of (find (is_on x) (opened_from s r))) (option_map id_of (find (is_on x) p.boards))
  home-opened s (Err e) p h = refl
  home-opened s (Ok w) p h = joined p.boards (opened_boards s w.boards) h

  -- a change that keeps what is on a board
  such-kept : (test : Board → Bool) (f : Board → Board) → ((b : Board) → is_on x (f b) ≡ is_on x b) → ((b : Board) → (f b).id ≡ b.id)
      → (bs : List Board)
      → option_map id_of (find (is_on x) (change_such test f bs)) ≡ option_map id_of (find (is_on x) bs)
  such-kept test f on names bs = value-kept id_of (is_on x) (λ b. cond (test b) (f b) b) (λ b. stays b (test b)) (λ b. named b (test b)) bs
    where
      stays : (b : Board) (v : Bool) → is_on x (cond v (f b) b) ≡ is_on x b
      stays b true = on b
      stays b false = refl

      named : (b : Board) (v : Bool) → (cond v (f b) b).id ≡ b.id
      named b true = names b
      named b false = refl

  stats-kept : (y : StatId) (f : Stat → Stat) → ((z : Stat) → same_stat (f z).id x ≡ same_stat z.id x) → (bs : List Board)
      → option_map id_of (find (is_on x) (map (change_stats_of y f) bs)) ≡ option_map id_of (find (is_on x) bs)
  stats-kept y f names bs = value-kept id_of (is_on x) (change_stats_of y f) (λ b. list_any-change (λ z. same_stat z.id x) (λ z. same_stat z.id y) f names b.stats) (λ b. refl) bs

  -- a new stat on a board that is there
  first-home : (n : Stat) (d : BoardId) → same_stat n.id x ≡ true → (bs : List Board) → list_any (λ b. same_board b.id d) bs ≡ true
      → list_any (is_on x) bs ≡ false
      → option_map id_of (find (is_on x) (change_boards d (add_stat n) bs)) ≡ Some d
  first-home n d this [] there none = absurd (cc)
  first-home n d this (b ∷ bs) there none = go (same_board b.id d) refl (is_on x b) refl (λ t m. first-home n d this bs t m)
    where
      or_true : (c : Bool) → (c || (true || false)) ≡ true
      or_true true = refl
      or_true false = refl

      on_it : is_on x (add_stat n b) ≡ true
      on_it = list_any-append (λ z. same_stat z.id x) b.stats (n ∷ []) ∙ ap (λ c. is_on x b || (c || false)) this ∙ or_true (is_on x b)

      go : (v : Bool) → same_board b.id d ≡ v → (c : Bool) → is_on x b ≡ c
          → (list_any (λ b. same_board b.id d) bs ≡ true → list_any (is_on x) bs ≡ false → option_map id_of (find (is_on x) (change_boards d (add_stat n) bs)) ≡ Some d)
          → option_map id_of (find (is_on x) (cond v (add_stat n b) b ∷ change_boards d (add_stat n) bs)) ≡ Some d
      go true v c k more =
          ap (λ t. option_map id_of (cond t (Some (add_stat n b)) (find (is_on x) (change_boards d (add_stat n) bs)))) on_it
          ∙ ap Some (same_board-true b.id d v)
      go false v true k more = let e : (is_on x b || list_any (is_on x) bs) ≡ false = none in absurd (let m = rw k at e in cc)
      go false v false k more =
          let e : (is_on x b || list_any (is_on x) bs) ≡ false = none in
          let t : (same_board b.id d || list_any (λ c. same_board c.id d) bs) ≡ true = there in
          ap (λ u. option_map id_of (cond u (Some b) (find (is_on x) (change_boards d (add_stat n) bs)))) k ∙ more (rw v at t) (rw k at e)

  home-added : (n : Stat) (d : BoardId) (p : Plain) → has p (board d) ≡ true
      → (find_stat x (all_stats p) ≡ None) ⊎ (find_stat x (n ∷ []) ≡ None)
      → option_map id_of (find (is_on x) (change_boards d (add_stat n) p.boards))
      ≡ option_or (cond (same_stat n.id x) (Some d) None) (option_map id_of (find (is_on x) p.boards))
  home-added n d p there fresh = go (same_stat n.id x) refl
    where
      nowhere : same_stat n.id x ≡ true → list_any (is_on x) p.boards ≡ false
      nowhere v =
          let one : find_stat x (n ∷ []) ≡ Some n = rw v refl in
          let none : find_stat x (all_stats p) ≡ None = elim fresh [ inl e ↦ e | inr e ↦ absurd (cc) ] in
          sym (find-any (is_on x) p.boards) ∙ ap is_some (on-none p.boards none)

      other : (b : Board) → same_stat n.id x ≡ false → is_on x (add_stat n b) ≡ is_on x b
      other b v = list_any-append (λ z. same_stat z.id x) b.stats (n ∷ []) ∙ ap (λ c. is_on x b || (c || false)) v ∙ or_false (is_on x b)

      go : (v : Bool) → same_stat n.id x ≡ v
          → option_map id_of (find (is_on x) (change_boards d (add_stat n) p.boards))
          ≡ option_or (cond v (Some d) None) (option_map id_of (find (is_on x) p.boards))
      go true v = first-home n d v p.boards there (nowhere v)
      go false v = such-kept (λ c. same_board c.id d) (add_stat n) (λ b. other b v) (λ b. refl) p.boards

  read-home : (s : Stamp) (op : Op) (p : Plain) → NamesPass (λ q. before q s) p → has_all p (names_of op) ≡ true
      → option_map id_of (find (is_on x) (do_op s op p).boards) ≡ option_or (made_home x s op) (option_map id_of (find (is_on x) p.boards))
  read-home s (Genesis bytes) p a c = home-opened s (world_at bytes) p (fresh-stat x s (Genesis bytes) p a)
  read-home s (BoardAdd name) p a c =
      joined p.boards (new_board (board_of s 0) (stat_of s 0) name ∷ []) (fresh-stat x s (BoardAdd name) p a)
  read-home s (BoardRemove d) p a c = such-kept (λ b. same_board b.id d) remove_board (λ b. refl) (λ b. refl) p.boards
  read-home s (SetBoard d setting) p a c = such-kept (λ b. same_board b.id d) (set_board_property setting) (λ b. refl) (λ b. refl) p.boards
  read-home s (SetCells d cells tile) p a c =
      such-kept (λ b. same_board b.id d) (set_board_cells cells tile) (λ b. refl) (λ b. refl) p.boards
  read-home s (StatAdd d fields) p a c =
      let there = and_parts (has p (board d)) (has_all p (target_named fields.p3 ++ text_named fields.text)) c in
      home-added (new_stat (stat_of s 0) false fields) d p there.0 (fresh-stat x s (StatAdd d fields) p a)
  read-home s (StatRemove y) p a c = stats-kept y remove_stat (λ z. refl) p.boards
  read-home s (SetStat y setting) p a c = stats-kept y (set_stat setting) (set_stat-id x setting) p.boards
  read-home s _ p a c = refl

  steps : IsStepwise (home x)
  steps = record { done = λ p e fresh whole c. read-home e.stamp e.op p fresh c; kept = λ p e. refl }

  pub home-wins : ReadIsNormal → GreatestStampWins (home x)
  home-wins normal = wins normal (home x) steps
