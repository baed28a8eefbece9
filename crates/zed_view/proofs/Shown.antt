use Rattle.std.specs.Prelude.{◌≡◌, refl, List}
use Rattle.zed_types.specs.declared.stamp.Stamp.{Stamp}
use Rattle.zed_op.specs.Set.{stamps_of}
use Rattle.zed_edit.specs.declared.plain.Header.{Header}
use Rattle.zed_edit.specs.declared.plain.Board.{Board}
use Rattle.zed_edit.specs.declared.plain.Text.{Text}
use Rattle.zed_edit.specs.declared.plain.Plain.{Plain}
use Rattle.zed_edit.specs.Replay.{replay}
use Rattle.zed_laws.specs.Laws.{HeldAreRemembered}
use Rattle.zed_live.specs.Document.{ReplayedDocumentIsShown}
use Rattle.zed_texts.specs.Texts.{elements_of}
use Rattle.zed_texts.specs.Shows.{ReplayedTextsAreShown}
use Rattle.zed_view.specs.Shown.{shown, ReplayedPartsAreShown}

-- four equal fields make equal documents
same_plain : (a b : Plain) → a.header ≡ b.header → a.boards ≡ b.boards → a.texts ≡ b.texts → a.held ≡ b.held → a ≡ b
same_plain a b h k t w =
    let make : Header → List Board → List Text → List Stamp → Plain = λ x y z u. record { header = x; boards = y; texts = z; held = u } in
    let path : make a.header a.boards a.texts a.held ≡ make b.header b.boards b.texts b.held = rw (h, k, t, w) refl in
    path

pub replayed_parts_are_shown : ReplayedDocumentIsShown → ReplayedTextsAreShown → HeldAreRemembered → ReplayedPartsAreShown
replayed_parts_are_shown document text remembered es live texts waiting rises fits sizes was spelled waits =
    let both = document es live rises fits sizes was in
    let stamps : stamps_of waiting ≡ (replay es).held = rw waits (remembered es) in
    same_plain (shown live texts waiting) (replay es) both.0 both.1 (text es (elements_of texts) rises spelled) stamps
