-- What live parts show to one author: the plain document.
use Rattle.std.specs.Prelude.{◌≡◌, List, [], Option, Some, None}
use Rattle.zed_types.specs.declared.names.TextId.{TextId}
use Rattle.zed_types.specs.declared.text.TextByte.{TextByte}
use Rattle.zed_code.specs.Pieces.{Shown as LiveText}
use Rattle.zed_code.specs.Text.{elements}
use Rattle.zed_op.specs.declared.op.Edit.{Edit}
use Rattle.zed_op.specs.Set.{IsRising, AllFit, stamps_of}
use Rattle.zed_op.specs.Sizes.{HaveSizes}
use Rattle.zed_edit.specs.declared.plain.Text.{Text}
use Rattle.zed_edit.specs.declared.plain.Plain.{Plain}
use Rattle.zed_edit.specs.Replay.{replay, taken, held}
use Rattle.zed_live.specs.declared.document.LiveDocument.{LiveDocument}
use Rattle.zed_live.specs.Document.{DocumentShows}
use Rattle.zed_live.specs.Shown.{shown as shown_header}
use Rattle.zed_live.specs.Boards.{shown_boards}
use Rattle.zed_texts.specs.Texts.{Texts, elements_of}
use Rattle.zed_texts.specs.Shows.{TextsShow, shown_texts}

-- the document as one author sees it: what the live parts show, and the stamps of the edits that wait
abbrev pub shown : LiveDocument → Texts → List Edit → Plain
shown live texts waiting = record {
  header = shown_header live.header;
  boards = shown_boards live.boards;
  texts = shown_texts (elements_of texts);
  held = stamps_of waiting;
}

-- a text as one author sees it
abbrev pub shown_text : TextId → LiveText → Text
shown_text t v = record { id = t; elements = elements v }

-- the elements of a live text; none where there is no such text
abbrev pub spelled : Option LiveText → List TextByte
spelled None = []
spelled (Some v) = elements v

-- live parts that show the edits taken, beside those held, show the replay
abbrev pub ReplayedPartsAreShown : Type 0
ReplayedPartsAreShown =
    (es : List Edit) (live : LiveDocument) (texts : Texts) (waiting : List Edit)
    → IsRising es
    → AllFit es
    → HaveSizes es
    → DocumentShows (taken es) live
    → TextsShow (taken es) (elements_of texts)
    → waiting ≡ held es
    → shown live texts waiting ≡ replay es
