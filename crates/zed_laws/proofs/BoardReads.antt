-- What each edit does to a field of a board.
use Rattle.std.proofs.Common.{◌≡◌, Bool, true, false, cond, List, [], ◌∷◌, ◌++◌, map, None, Result, Ok, Err, refl, ap, ◌∙◌, sym}
use Rattle.std.specs.List.{AllByRecursion, list_any}
use Rattle.std.specs.Option.{option_or, option_map, is_some}
use Rattle.std.proofs.lemmas.Bool.{and_parts}
use Rattle.std.proofs.lemmas.List.Folds.{find-append}
use mathlib.Core.Logic.{◌⊎◌}
use Rattle.zed_types.specs.declared.stamp.Stamp.{Stamp}
use Rattle.zed_types.specs.declared.names.BoardId.{BoardId}
use Rattle.zed_types.specs.Stamp.{before}
use Rattle.zed_types.specs.Names.{board_of, stat_of, same_board, same_stat}
use Rattle.zed_types.proofs.StampOrder.{same_board-true, same_board-apart}
use Rattle.zed_world.specs.Contents.{Contents}
use Rattle.zed_world.specs.Reading.{world_at}
use Rattle.zed_world.specs.declared.error.WorldError.{WorldError}
use Rattle.zed_op.specs.declared.op.Op.{Op}
use Rattle.zed_op.specs.declared.op.Op.TheVariants.{Genesis, BoardAdd, BoardRemove, SetBoard, SetCells, StatAdd, StatRemove, SetStat}
use Rattle.zed_op.specs.declared.thing.Thing.TheVariants.{Board as board}
use Rattle.zed_op.specs.Names.{names_of, board_names}
use Rattle.zed_edit.specs.declared.plain.Board.{Board}
use Rattle.zed_edit.specs.declared.plain.Stat.{Stat}
use Rattle.zed_edit.specs.declared.plain.Plain.{Plain}
use Rattle.zed_edit.specs.Board.{new_board, set_board_property, set_board_cells, change_stats, remove_board}
use Rattle.zed_edit.specs.Stat.{set_stat, new_stat, remove_stat}
use Rattle.zed_edit.specs.Document.{change_such, change_boards, has}
use Rattle.zed_edit.specs.Genesis.{opened_boards}
use Rattle.zed_edit.specs.Replay.{has_all, open_world, do_op}
use Rattle.zed_laws.specs.Registers.{overwritten}
use Rattle.zed_laws.proofs.MadeThings.{find-any}
use Rattle.zed_laws.proofs.NamesInOrder.{NamesPass}
use Rattle.zed_laws.specs.Fields.{Field}
use Rattle.zed_laws.specs.Winners.{opened_from, made_boards, changes_board, find_board}
use Rattle.zed_laws.specs.Whole.{IsWholeBoard}
use Rattle.zed_laws.proofs.Found.{found-holds, value-kept, value-set, value-apart, value-made}
use Rattle.zed_laws.proofs.Fresh.{fresh-board}

-- what an edit does to the board that it changes
abbrev pub on_board : Op → Board → Board
on_board (BoardRemove c) b = remove_board b
on_board (SetBoard c setting) b = set_board_property setting b
on_board (SetCells c cells tile) b = set_board_cells cells tile b
on_board _ b = b

-- a field of a board is overwritten by what an edit sets, and stands beside the stats
pub record IsBoardField {V : Type 0} (f : Field Board V) : Type 0 where
  pub sets : (op : Op) (b : Board) → IsWholeBoard b → f.value (on_board op b) ≡ overwritten (f.value b) (f.set op)
  pub beside : (b : Board) (ss : List Stat) → f.value (record b { stats = ss }) ≡ f.value b

module _ {V : Type 0} (f : Field Board V) (law : IsBoardField f) (b : BoardId) where
  -- an edit of a board that is there
  read-change : (op : Op) (c : BoardId) (change : Board → Board) (bs : List Board)
      → ((x : Board) → same_board (change x).id b ≡ same_board x.id b)
      → ((x : Board) → change x ≡ on_board op x)
      → list_any (λ x. same_board x.id c) bs ≡ true
      → AllByRecursion IsWholeBoard bs
      → option_map f.value (find_board b (change_boards c change bs))
      ≡ option_or (cond (same_board c b) (f.set op) None) (option_map f.value (find_board b bs))
  read-change op c change bs names does there whole = go (same_board c b) refl
    where
      go : (v : Bool) → same_board c b ≡ v
          → option_map f.value (find_board b (change_boards c change bs))
          ≡ option_or (cond v (f.set op) None) (option_map f.value (find_board b bs))
      go true v =
          let e = same_board-true c b v in
          let some : is_some (find_board b bs) ≡ true =
          find-any (λ x. same_board x.id b) bs ∙ ap (λ d. list_any (λ x. same_board x.id d) bs) (sym e) ∙ there in
          value-set f.value (λ x. same_board x.id b) (λ x. same_board x.id c) change (f.set op) names (λ x. ap (same_board x.id) e) bs some
          (λ x k. ap f.value (does x) ∙ law.sets op x (found-holds IsWholeBoard (λ y. same_board y.id b) bs whole x k))
      go false v =
          value-apart f.value (λ x. same_board x.id b) (λ x. same_board x.id c) change names (λ x k. same_board-apart c b x.id v k) bs

  -- an edit of stats
  stats-apart : (test : Board → Bool) (change : List Stat → List Stat) (bs : List Board)
      → option_map f.value (find_board b (change_such test (change_stats change) bs)) ≡ option_map f.value (find_board b bs)
  stats-apart test change bs = value-kept f.value (λ x. same_board x.id b) (λ x. cond (test x) (change_stats change x) x) (λ x. names x (test x)) (λ x. keeps x (test x)) bs
    where
      names : (x : Board) (t : Bool) → same_board (cond t (change_stats change x) x).id b ≡ same_board x.id b
      names x true = refl
      names x false = refl

      keeps : (x : Board) (t : Bool) → f.value (cond t (change_stats change x) x) ≡ f.value x
      keeps x true = law.beside x (change x.stats)
      keeps x false = refl

  all-stats-apart : (change : List Stat → List Stat) (bs : List Board)
      → option_map f.value (find_board b (map (change_stats change) bs)) ≡ option_map f.value (find_board b bs)
  all-stats-apart change bs =
      value-kept f.value (λ x. same_board x.id b) (change_stats change) (λ x. refl) (λ x. law.beside x (change x.stats)) bs

  read-opened : (s : Stamp) (r : Result Contents WorldError) (p : Plain)
      → (find_board b p.boards ≡ None) ⊎ (find_board b (opened_from s r) ≡ None)
      → option_map f.value (find_board b (open_world s r p).boards)
      ≡ option_or (option_or (option_map f.value (find_board b (opened_from s r))) None) (option_map f.value (find_board b p.boards))
  read-opened s (Err e) p h = refl
  read-opened s (Ok w) p h =
      ap (option_map f.value) (find-append (λ x. same_board x.id b) p.boards (opened_boards s w.boards)) ∙ value-made f.value (find_board b p.boards) (find_board b (opened_boards s w.boards)) h

  pub read-board : (s : Stamp) (op : Op) (p : Plain) → NamesPass (λ q. before q s) p → AllByRecursion IsWholeBoard p.boards
      → has_all p (names_of op) ≡ true
      → option_map f.value (find_board b (do_op s op p).boards)
      ≡ option_or (option_or (option_map f.value (find_board b (made_boards s op))) (cond (changes_board b op) (f.set op) None)) (option_map f.value (find_board b p.boards))
  read-board s (Genesis bytes) p a whole c = read-opened s (world_at bytes) p (fresh-board b s (Genesis bytes) p a)
  read-board s (BoardAdd name) p a whole c =
      let new = new_board (board_of s 0) (stat_of s 0) name ∷ [] in
      ap (option_map f.value) (find-append (λ x. same_board x.id b) p.boards new) ∙ value-made f.value (find_board b p.boards) (find_board b new) (fresh-board b s (BoardAdd name) p a)
  read-board s (BoardRemove d) p a whole c =
      read-change (BoardRemove d) d remove_board p.boards (λ x. refl) (λ x. refl) (and_parts (has p (board d)) true c).0 whole
  read-board s (SetBoard d setting) p a whole c = read-change (SetBoard d setting) d (set_board_property setting) p.boards (λ x. refl) (λ x. refl) (and_parts (has p (board d)) (has_all p (board_names setting)) c).0 whole
  read-board s (SetCells d cells tile) p a whole c = read-change (SetCells d cells tile) d (set_board_cells cells tile) p.boards (λ x. refl) (λ x. refl) (and_parts (has p (board d)) true c).0 whole
  read-board s (StatAdd d fields) p a whole c =
      stats-apart (λ x. same_board x.id d) (λ ss. ss ++ new_stat (stat_of s 0) false fields ∷ []) p.boards
  read-board s (StatRemove y) p a whole c = all-stats-apart (change_such (λ x. same_stat x.id y) remove_stat) p.boards
  read-board s (SetStat y setting) p a whole c = all-stats-apart (change_such (λ x. same_stat x.id y) (set_stat setting)) p.boards
  read-board s _ p a whole c = refl
