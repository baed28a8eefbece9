-- A live document: its header and its boards, put in edit by edit.
use Rattle.std.specs.Prelude.{◌≡◌, true, List, [], ◌∷◌, ◌++◌}
use Rattle.zed_types.specs.declared.stamp.Stamp.{Stamp}
use Rattle.zed_op.specs.declared.op.Edit.{Edit}
use Rattle.zed_op.specs.Set.{IsRising, AllFit}
use Rattle.zed_op.specs.Sizes.{HasSizes, HaveSizes}
use Rattle.zed_edit.specs.declared.plain.Plain.{Plain}
use Rattle.zed_edit.specs.Replay.{can, replay, taken, held}
use Rattle.zed_live.specs.declared.document.LiveDocument.{LiveDocument}
use Rattle.zed_live.specs.Header.{unwritten, write_all, header_after}
use Rattle.zed_live.specs.Shows.{HeaderShows}
use Rattle.zed_live.specs.Shown.{shown}
use Rattle.zed_live.specs.Boards.{add_all, all_as_made, boards_after, BoardsShow, shown_boards}

-- a document that took no edit
abbrev pub empty_live : LiveDocument
empty_live = record { header = unwritten; boards = [] }

-- the document after an edit, whenever it comes
abbrev pub document_after : Edit → LiveDocument → LiveDocument
document_after e d = record {
  header = header_after e.stamp e.op d.header;
  boards = boards_after e.stamp e.op d.boards;
}

-- the header and the boards of what an edit with this stamp makes are put in
abbrev pub with_world : Stamp → Plain → LiveDocument → LiveDocument
with_world s made d = record {
  header = write_all s made.header d.header;
  boards = add_all (all_as_made s made.boards) d.boards;
}

-- each register of the header and of the boards has the latest write of these edits
pub record DocumentShows (es : List Edit) (d : LiveDocument) : Type 0 where
  pub header : HeaderShows es d.header
  pub boards : BoardsShow es d.boards

-- the document of no edit
abbrev pub NoneIsEmpty : Type 0
NoneIsEmpty = DocumentShows [] empty_live

-- an edit that comes late and can be done is put in as if it had come at its place
abbrev pub DocumentTakes : Type 0
DocumentTakes =
    (e : Edit) (low high : List Edit) (d : LiveDocument)
    → IsRising (low ++ e ∷ high)
    → HasSizes e
    → held (low ++ high) ≡ []
    → can (replay (low ++ high)) e ≡ true
    → DocumentShows (low ++ high) d
    → DocumentShows (low ++ e ∷ high) (document_after e d)

-- a document that took the edits that the replay takes shows its header and its boards
abbrev pub ReplayedDocumentIsShown : Type 0
ReplayedDocumentIsShown =
    (es : List Edit) (d : LiveDocument)
    → IsRising es
    → AllFit es
    → HaveSizes es
    → DocumentShows (taken es) d
    → (shown d.header ≡ (replay es).header) × (shown_boards d.boards ≡ (replay es).boards)
