-- A document takes each edit as if it had come at its place.
use Rattle.std.proofs.Common.{◌≡◌, ◌∙◌, true, List, [], ◌++◌, ap, sym, true≢false}
use Rattle.std.specs.List.{list_any}
use Rattle.std.proofs.lemmas.Bool.{and_parts}
use Rattle.zed_types.specs.declared.names.BoardId.{BoardId}
use Rattle.zed_types.specs.declared.names.StatId.{StatId}
use Rattle.zed_types.proofs.StampOrder.{same_board-true}
use Rattle.zed_op.specs.declared.op.Op.{Op}
use Rattle.zed_op.specs.declared.op.Op.TheVariants.{BoardRemove, SetBoard, SetCells, StatAdd, StatRemove, SetStat}
use Rattle.zed_op.specs.declared.op.Edit.{Edit}
use Rattle.zed_op.specs.declared.thing.Thing.{Thing}
use Rattle.zed_op.specs.declared.thing.Thing.TheVariants as thing
use Rattle.zed_op.specs.Names.{names_of, board_names, stat_names, target_named, text_named}
use Rattle.zed_op.specs.Set.{IsRising}
use Rattle.zed_edit.specs.declared.plain.Plain.{Plain}
use Rattle.zed_edit.specs.Document.{empty_document, has}
use Rattle.zed_edit.specs.Replay.{can, has_all, replay, held}
use Rattle.zed_laws.proofs.RegularSteps.{ReadIsNormal}
use Rattle.zed_laws.specs.Making.{makes}
use Rattle.zed_laws.specs.Winners.{changes_stat}
use Rattle.zed_laws.proofs.Making.{taken_make, all-taken, rising-without}
use Rattle.zed_cells.specs.Cells.{CellsHoldTheLatest}
use Rattle.zed_stats.specs.Arrivals.{FieldsHoldTheLatest}
use Rattle.zed_live.specs.Board.{is_of}
use Rattle.zed_live.specs.Boards.{ChangesMade}
use Rattle.zed_live.specs.Document.{NoneIsEmpty, DocumentTakes, ReplayedDocumentIsShown}
use Rattle.zed_live.proofs.BoardsShown.{replayed_boards_are_shown}
use Rattle.zed_live.proofs.BoardsTake.{boards_take, no_board_is_made}
use Rattle.zed_live.proofs.HeaderTakes.{header_takes, none_is_unwritten}
use Rattle.zed_live.proofs.Shown.{replay_is_shown}
use Rattle.zed_live.proofs.StatsByName.{stat-true}

-- an edit that can be done is of no board but one that is there
board_there : (p : Plain) (op : Op) (b : BoardId) → has_all p (names_of op) ≡ true → is_of b op ≡ true → has p (thing.Board b) ≡ true
board_there p (BoardRemove c) b h k =
    ap (λ d. has p (thing.Board d)) (sym (same_board-true c b k)) ∙ (and_parts (has p (thing.Board c)) true h).0
board_there p (SetBoard c setting) b h k =
    ap (λ d. has p (thing.Board d)) (sym (same_board-true c b k))
    ∙ (and_parts (has p (thing.Board c)) (has_all p (board_names setting)) h).0
board_there p (SetCells c cells tile) b h k =
    ap (λ d. has p (thing.Board d)) (sym (same_board-true c b k)) ∙ (and_parts (has p (thing.Board c)) true h).0
board_there p (StatAdd c fields) b h k =
    ap (λ d. has p (thing.Board d)) (sym (same_board-true c b k))
    ∙ (and_parts (has p (thing.Board c)) (has_all p (target_named fields.p3 ++ text_named fields.text)) h).0
board_there p _ b h k = absurd (true≢false (sym k))

-- nor does it change a stat but one that is there
stat_there : (p : Plain) (op : Op) (x : StatId) → has_all p (names_of op) ≡ true → changes_stat x op ≡ true → has p (thing.Stat x) ≡ true
stat_there p (StatRemove y) x h k = ap (λ d. has p (thing.Stat d)) (sym (stat-true y x k)) ∙ (and_parts (has p (thing.Stat y)) true h).0
stat_there p (SetStat y setting) x h k =
    ap (λ d. has p (thing.Stat d)) (sym (stat-true y x k)) ∙ (and_parts (has p (thing.Stat y)) (has_all p (stat_names setting)) h).0
stat_there p _ x h k = absurd (true≢false (sym k))

-- where no edit is held all made what is there
all_made : (es : List Edit) (x : Thing) → IsRising es → held es ≡ [] → has (replay es) x ≡ true → list_any (λ f. makes f x) es ≡ true
all_made es x rises none h = ap (list_any (λ f. makes f x)) (sym (all-taken empty_document es none)) ∙ sym (taken_make es x rises) ∙ h

changes_made : (es : List Edit) (e : Edit) → IsRising es → held es ≡ [] → can (replay es) e ≡ true → ChangesMade es e
changes_made es e rises none h = record {
  board = λ b k. all_made es (thing.Board b) rises none (board_there (replay es) e.op b h k);
  stat = λ x k. all_made es (thing.Stat x) rises none (stat_there (replay es) e.op x h k);
}

pub document_takes : ReadIsNormal → CellsHoldTheLatest → FieldsHoldTheLatest → DocumentTakes
document_takes normal latest fields e low high d rises sizes none h was = record {
  header = header_takes normal e low high d.header rises was.header;
  boards = boards_take normal latest fields e low high d.boards rises sizes (changes_made (low ++ high) e (rising-without e low high rises) none h) was.boards;
}

pub none_is_empty : NoneIsEmpty
none_is_empty = record { header = none_is_unwritten; boards = no_board_is_made }

pub replayed_document_is_shown : ReadIsNormal → ReplayedDocumentIsShown
replayed_document_is_shown normal es d rises fits sizes was =
    (replay_is_shown normal es d.header rises sizes was.header, replayed_boards_are_shown normal es d.boards rises fits sizes was.boards)
