-- The boards take each edit as if it had come at its place.
use Rattle.std.proofs.Common.{◌≡◌, ◌∙◌, ◌||◌, Bool, true, false, cond, List, [], ◌∷◌, ◌++◌, Option, Some, None, Result, Ok, Err, refl, ap, sym, subst, true≢false, arith}
use Rattle.std.specs.List.{AllByRecursion, list_any}
use Rattle.std.specs.Option.{option_or, option_map, is_some}
use Rattle.zed_types.specs.declared.stamp.Stamp.{Stamp}
use Rattle.zed_types.specs.declared.names.BoardId.{BoardId}
use Rattle.zed_types.specs.declared.names.StatId.{StatId}
use Rattle.zed_types.specs.Names.{same_board, same_stat}
use Rattle.zed_types.proofs.StampOrder.{same_board-true, same_name-itself}
use Rattle.zed_types.proofs.Facts.{all_weaker}
use Rattle.zed_world.specs.Contents.{Contents}
use Rattle.zed_world.specs.Reading.{world_at}
use Rattle.zed_world.specs.declared.error.WorldError.{WorldError}
use Rattle.zed_op.specs.declared.op.Op.{Op}
use Rattle.zed_op.specs.declared.op.Op.TheVariants.{Genesis, BoardAdd, BoardRemove, SetBoard, SetCells, StatAdd, StatRemove, SetStat}
use Rattle.zed_op.specs.declared.op.Edit.{Edit}
use Rattle.zed_op.specs.declared.thing.Thing.TheVariants as thing
use Rattle.zed_op.specs.Set.{IsRising}
use Rattle.zed_op.specs.Sizes.{HasSizes}
use Rattle.zed_edit.specs.declared.plain.Board.{Board}
use Rattle.zed_edit.specs.Document.{empty_document}
use Rattle.zed_edit.specs.Replay.{open_world}
use Rattle.zed_laws.proofs.MadeThings.{find-any}
use Rattle.zed_laws.proofs.NamesInOrder.{All-both}
use Rattle.zed_laws.proofs.RegularSteps.{ReadIsNormal}
use Rattle.zed_laws.specs.Making.{makes}
use Rattle.zed_laws.specs.Winners.{opened_from, made_boards, made_stats, changes_stat, find_board}
use Rattle.zed_laws.specs.Whole.{IsWholeBoard}
use Rattle.zed_laws.proofs.Found.{found-holds}
use Rattle.zed_laws.proofs.WholeSteps.{step_whole, empty_whole}
use Rattle.zed_cells.specs.Cells.{CellsHoldTheLatest}
use Rattle.zed_stats.specs.Arrivals.{FieldsHoldTheLatest}
use Rattle.zed_live.specs.declared.board.LiveBoard.{LiveBoard}
use Rattle.zed_live.specs.Stat.{touches_stat}
use Rattle.zed_live.specs.Board.{as_made, board_after, stat_changed, is_of, touches, IsUntouched, MakesNewStats}
use Rattle.zed_live.specs.Boards.{Boards, board_name, board_in, change, change_all, add_all, all_as_made, boards_after, IsMade, IsMadeStat, IsLeft, BoardsShow, NoBoardIsMade, ChangesMade, BoardsTake}
use Rattle.zed_live.proofs.BoardTakes.{untouched-parts, board_takes, board_passes_others, board_is_made}
use Rattle.zed_stats.proofs.Found.{in-change, in-add_all, rise-change, rise-add_all, apart}
use Rattle.zed_live.proofs.BoardsByName.{only_board, in-change_all, rise-change_all}
use Rattle.zed_live.proofs.Lists.{all-insert, any-insert, any-here, any-late, none-any}
use Rattle.zed_live.proofs.MadeOnce.{made-once, stat-made-once}

-- ---- which edit makes a board

-- one that makes it touches it
pub made-touched : (b : BoardId) (e : Edit) → touches b e ≡ false → makes e (thing.Board b) ≡ false
made-touched b e h = sym (find-any (λ x. same_board x.id b) (made_boards e.stamp e.op)) ∙ ap is_some (untouched-parts b e h).0

pub untouched-unmade : (b : BoardId) (es : List Edit) → IsUntouched b es → list_any (λ e. makes e (thing.Board b)) es ≡ false
untouched-unmade b [] a = refl
untouched-unmade b (e ∷ es) a = ap (λ v. v || list_any (λ f. makes f (thing.Board b)) es) (made-touched b e a.0) ∙ untouched-unmade b es a.1

-- ---- what is made is whole

opened_whole : (s : Stamp) (r : Result Contents WorldError) → AllByRecursion IsWholeBoard (open_world s r empty_document).boards
    → AllByRecursion IsWholeBoard (opened_from s r)
opened_whole s (Ok w) a = a
opened_whole s (Err e) a = tt

pub made_whole : ReadIsNormal → (s : Stamp) (op : Op) → AllByRecursion IsWholeBoard (made_boards s op)
made_whole normal s (Genesis bytes) =
    opened_whole s (world_at bytes) (step_whole normal empty_document (record { stamp = s; op = Genesis bytes }) tt empty_whole).boards
made_whole normal s (BoardAdd name) =
    let empty = (step_whole normal empty_document (record { stamp = s; op = BoardAdd [] }) (omega arith) empty_whole).boards.0 in
    (record { tiles = empty.tiles; bytes = refl; flags = refl; exits = refl; texts = refl; stats = empty.stats }, tt)
made_whole normal s _ = tt

-- ---- which edits are of a stat

-- a stat that an edit makes is made by no other, so none of them changes it
new-stats : (e : Edit) (low high : List Edit) (ys : Boards) → IsRising (low ++ e ∷ high) → BoardsShow (low ++ high) ys
    → MakesNewStats e (low ++ high)
new-stats e low high ys rises was x h = go (list_any (λ f. changes_stat x f.op) (low ++ high)) refl
  where
    once : list_any (λ f. makes f (thing.Stat x)) (low ++ high) ≡ false
    once = stat-made-once x e low high rises h

    untouched : (f : Edit) → (makes f (thing.Stat x) ≡ false) × (changes_stat x f.op ≡ false) → touches_stat x f ≡ false
    untouched f k = ap (λ v. v || changes_stat x f.op) (find-any (λ y. same_stat y.id x) (made_stats f.stamp f.op) ∙ k.0) ∙ k.1

    go : (v : Bool) → list_any (λ f. changes_stat x f.op) (low ++ high) ≡ v → AllByRecursion (λ f. touches_stat x f ≡ false) (low ++ high)
    go true v = absurd (true≢false (sym (was.changed x v) ∙ once))
    go false v =
        all_weaker (λ f. (makes f (thing.Stat x) ≡ false) × (changes_stat x f.op ≡ false)) (λ f. touches_stat x f ≡ false) (low ++ high) untouched
        (All-both (λ f. makes f (thing.Stat x) ≡ false) (λ f. changes_stat x f.op ≡ false) (low ++ high) (none-any (λ f. makes f (thing.Stat x)) (low ++ high) once) (none-any (λ f. changes_stat x f.op) (low ++ high) v))

-- each stat that is changed is made, with one more edit too
changed-made : (e : Edit) (low high : List Edit) (ys : Boards) → ChangesMade (low ++ high) e → BoardsShow (low ++ high) ys → (x : StatId)
    → list_any (λ f. changes_stat x f.op) (low ++ e ∷ high) ≡ true
    → IsMadeStat x (low ++ e ∷ high)
changed-made e low high ys known was x h = any-insert (λ f. makes f (thing.Stat x)) low e high (go (changes_stat x e.op) refl (sym (any-late (λ f. changes_stat x f.op) low e high) ∙ h))
  where
    go : (v : Bool) → changes_stat x e.op ≡ v → (v || list_any (λ f. changes_stat x f.op) (low ++ high)) ≡ true → IsMadeStat x (low ++ high)
    go true v k = known.stat x v
    go false v k = was.changed x k

-- ---- under each name

-- a name that an edit doesn't touch
left-beside : FieldsHoldTheLatest → (b : BoardId) (e : Edit) (low high : List Edit) (o : Option LiveBoard) → IsRising (low ++ e ∷ high)
    → touches b e ≡ false → IsLeft b (low ++ high) o
    → IsLeft b (low ++ e ∷ high) (option_map (stat_changed e.stamp e.op) o)
left-beside fields b e low high None rises h was = all-insert (λ f. touches b f ≡ false) low e high h was
left-beside fields b e low high (Some x) rises h was =
    (any-insert (λ f. makes f (thing.Board b)) low e high was.0, board_passes_others fields b e low high x rises h was.1)

-- a name whose board an edit is of
left-changed : CellsHoldTheLatest → (b : BoardId) (e : Edit) (low high : List Edit) (o : Option LiveBoard) → IsRising (low ++ e ∷ high)
    → HasSizes e → MakesNewStats e (low ++ high) → is_of b e.op ≡ true → IsMade b (low ++ high) → IsLeft b (low ++ high) o
    → IsLeft b (low ++ e ∷ high) (option_map (board_after e.stamp e.op) o)
left-changed latest b e low high None rises sizes new h made was = absurd (true≢false (sym made ∙ untouched-unmade b (low ++ high) was))
left-changed latest b e low high (Some x) rises sizes new h made was =
    (any-insert (λ f. makes f (thing.Board b)) low e high was.0, board_takes latest b e low high x rises sizes new h was.1)

-- a name whose board an edit makes
left-made : ReadIsNormal → (b : BoardId) (e : Edit) (made : Board) (low high : List Edit) (o : Option LiveBoard)
    → IsRising (low ++ e ∷ high) → MakesNewStats e (low ++ high) → find_board b (made_boards e.stamp e.op) ≡ Some made
    → IsLeft b (low ++ high) o
    → IsLeft b (low ++ e ∷ high) (option_or o (Some (as_made e.stamp made)))
left-made normal b e made low high o rises new is was = go o was
  where
    makes_it : makes e (thing.Board b) ≡ true
    makes_it = sym (find-any (λ x. same_board x.id b) (made_boards e.stamp e.op)) ∙ ap is_some is

    go : (p : Option LiveBoard) → IsLeft b (low ++ high) p → IsLeft b (low ++ e ∷ high) (option_or p (Some (as_made e.stamp made)))
    go (Some x) k = absurd (true≢false (sym k.0 ∙ made-once b e low high rises makes_it))
    go None k = (
      any-here (λ f. makes f (thing.Board b)) low e high makes_it,
      board_is_made b e made low high rises is (found-holds IsWholeBoard (λ x. same_board x.id b) (made_boards e.stamp e.op) (made_whole normal e.stamp e.op) made is) k new,
    )

-- what is found among boards as they are made
in-made : (b : BoardId) (s : Stamp) (bs : List Board) → board_in b (all_as_made s bs) ≡ option_map (as_made s) (find_board b bs)
in-made b s [] = refl
in-made b s (x ∷ bs) = go (same_board b x.id) refl (in-made b s bs)
  where
    go : (v : Bool) → same_board b x.id ≡ v → board_in b (all_as_made s bs) ≡ option_map (as_made s) (find_board b bs)
        → cond v (Some (as_made s x)) (board_in b (all_as_made s bs))
        ≡ option_map (as_made s) (cond (same_board x.id b) (Some x) (find_board b bs))
    go true v more =
        let w : same_board x.id b ≡ true = ap (λ d. same_board d b) (sym (same_board-true b x.id v)) ∙ same_name-itself b.name in
        rw w refl
    go false v more =
        let w : same_board x.id b ≡ false = apart board_name b x.id v in
        rw w more

-- ---- every edit

module _ (normal : ReadIsNormal) (latest : CellsHoldTheLatest) (fields : FieldsHoldTheLatest) (e : Edit) (low high : List Edit) (ys : Boards) (rises : IsRising (low ++ e ∷ high)) (sizes : HasSizes e) (known : ChangesMade (low ++ high) e) (was : BoardsShow (low ++ high) ys) where
  new : MakesNewStats e (low ++ high)
  new = new-stats e low high ys rises was

  -- one that changes no stat leaves the boards that it doesn't touch
  left-same : (b : BoardId) → ((x : LiveBoard) → stat_changed e.stamp e.op x ≡ x) → touches b e ≡ false
      → IsLeft b (low ++ e ∷ high) (board_in b ys)
  left-same b same h =
      subst (IsLeft b (low ++ e ∷ high)) (stays (board_in b ys)) (left-beside fields b e low high (board_in b ys) rises h (was.each b))
    where
      stays : (o : Option LiveBoard) → option_map (stat_changed e.stamp e.op) o ≡ o
      stays None = refl
      stays (Some x) = ap Some (same x)

  -- one that is of the board of a name
  changed-show : (c : BoardId) → ((x : LiveBoard) → stat_changed e.stamp e.op x ≡ x) → ((b : BoardId) → touches b e ≡ same_board c b)
      → ((b : BoardId) → is_of b e.op ≡ same_board c b)
      → BoardsShow (low ++ e ∷ high) (change c (board_after e.stamp e.op) ys)
  changed-show c same touch changes = record {
    rise = rise-change board_name only_board c (board_after e.stamp e.op) ys was.rise;
    each = λ b. subst (IsLeft b (low ++ e ∷ high)) (sym (in-change board_name only_board b c (board_after e.stamp e.op) ys)) (go b (same_board b c) refl);
    changed = changed-made e low high ys known was;
  }
    where
      go : (b : BoardId) (v : Bool) → same_board b c ≡ v
          → IsLeft b (low ++ e ∷ high) (cond v (option_map (board_after e.stamp e.op) (board_in b ys)) (board_in b ys))
      go b true v =
          let w : same_board c b ≡ true = ap (λ d. same_board d b) (sym (same_board-true b c v)) ∙ same_name-itself b.name in
          let k : is_of b e.op ≡ true = changes b ∙ w in
          left-changed latest b e low high (board_in b ys) rises sizes new k (known.board b k) (was.each b)
      go b false v = left-same b same (touch b ∙ apart board_name b c v)

  -- one of a stat
  passed-show : ((b : BoardId) → touches b e ≡ false) → BoardsShow (low ++ e ∷ high) (change_all (stat_changed e.stamp e.op) ys)
  passed-show beside = record {
    rise = rise-change_all (stat_changed e.stamp e.op) ys was.rise;
    each = λ b. subst (IsLeft b (low ++ e ∷ high)) (sym (in-change_all b (stat_changed e.stamp e.op) ys)) (left-beside fields b e low high (board_in b ys) rises (beside b) (was.each b));
    changed = changed-made e low high ys known was;
  }

  -- one that is of none
  made-show : ((x : LiveBoard) → stat_changed e.stamp e.op x ≡ x) → ((b : BoardId) → is_of b e.op ≡ false)
      → BoardsShow (low ++ e ∷ high) (add_all (all_as_made e.stamp (made_boards e.stamp e.op)) ys)
  made-show same changes = record {
    rise = rise-add_all board_name only_board (all_as_made e.stamp (made_boards e.stamp e.op)) ys was.rise;
    each = λ b.
        subst (IsLeft b (low ++ e ∷ high))
        (sym (in-add_all board_name only_board b (all_as_made e.stamp (made_boards e.stamp e.op)) ys ∙ ap (option_or (board_in b ys)) (in-made b e.stamp (made_boards e.stamp e.op))))
        (go b (find_board b (made_boards e.stamp e.op)) refl);
    changed = changed-made e low high ys known was;
  }
    where
      or-none : (o : Option LiveBoard) → o ≡ option_or o None
      or-none None = refl
      or-none (Some x) = refl

      go : (b : BoardId) (m : Option Board) → find_board b (made_boards e.stamp e.op) ≡ m
          → IsLeft b (low ++ e ∷ high) (option_or (board_in b ys) (option_map (as_made e.stamp) m))
      go b (Some made) is = left-made normal b e made low high (board_in b ys) rises new is (was.each b)
      go b None is =
          subst (IsLeft b (low ++ e ∷ high)) (or-none (board_in b ys))
          (left-same b same (ap (λ m. is_some m || is_of b e.op) is ∙ changes b))

abbrev edit_of : Stamp → Op → Edit
edit_of s op = record { stamp = s; op = op }

op-show : ReadIsNormal → CellsHoldTheLatest → FieldsHoldTheLatest → (s : Stamp) (op : Op) (low high : List Edit) (ys : Boards)
    → IsRising (low ++ edit_of s op ∷ high) → HasSizes (edit_of s op) → ChangesMade (low ++ high) (edit_of s op)
    → BoardsShow (low ++ high) ys
    → BoardsShow (low ++ edit_of s op ∷ high) (boards_after s op ys)
op-show normal latest fields s (BoardRemove c) low high ys rises sizes known was =
    changed-show normal latest fields (edit_of s (BoardRemove c)) low high ys rises sizes known was c (λ x. refl) (λ b. refl) (λ b. refl)
op-show normal latest fields s (SetBoard c setting) low high ys rises sizes known was = changed-show normal latest fields (edit_of s (SetBoard c setting)) low high ys rises sizes known was c (λ x. refl) (λ b. refl) (λ b. refl)
op-show normal latest fields s (SetCells c cells tile) low high ys rises sizes known was = changed-show normal latest fields (edit_of s (SetCells c cells tile)) low high ys rises sizes known was c (λ x. refl) (λ b. refl) (λ b. refl)
op-show normal latest fields s (StatAdd c new) low high ys rises sizes known was =
    changed-show normal latest fields (edit_of s (StatAdd c new)) low high ys rises sizes known was c (λ x. refl) (λ b. refl) (λ b. refl)
op-show normal latest fields s (StatRemove x) low high ys rises sizes known was =
    passed-show normal latest fields (edit_of s (StatRemove x)) low high ys rises sizes known was (λ b. refl)
op-show normal latest fields s (SetStat x setting) low high ys rises sizes known was =
    passed-show normal latest fields (edit_of s (SetStat x setting)) low high ys rises sizes known was (λ b. refl)
op-show normal latest fields s op low high ys rises sizes known was =
    made-show normal latest fields (edit_of s op) low high ys rises sizes known was (λ x. refl) (λ b. refl)

pub boards_take : ReadIsNormal → CellsHoldTheLatest → FieldsHoldTheLatest → BoardsTake
boards_take normal latest fields e low high ys rises sizes known was =
    op-show normal latest fields e.stamp e.op low high ys rises sizes known was

pub no_board_is_made : NoBoardIsMade
no_board_is_made = record { rise = tt; each = λ b. tt; changed = λ x h. absurd (true≢false (sym h)) }
