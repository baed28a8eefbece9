-- What a body has: the things that the edits done made.
use Rattle.std.specs.Prelude.{◌≡◌, Bool, is_some}
use Rattle.std.specs.List.{list_any, list_all}
use Rattle.zed_types.specs.Names.{same_element}
use Rattle.zed_op.specs.declared.op.Edit.{Edit}
use Rattle.zed_op.specs.declared.thing.Thing.{Thing}
use Rattle.zed_op.specs.declared.thing.Thing.TheVariants as thing
use Rattle.zed_op.specs.Names.{names_of}
use Rattle.zed_live.specs.declared.document.LiveDocument.{LiveDocument}
use Rattle.zed_live.specs.Boards.{Boards, board_in, home_in}
use Rattle.zed_live.specs.Document.{document_after}
use Rattle.zed_texts.specs.ByName.{text_in}
use Rattle.zed_texts.specs.Texts.{Texts, elements_of, elements_or_none, texts_after}
use Rattle.zed_delivery.specs.Counts.{AreWorkedBy}

-- whether boards and texts have a thing, removed or not, dead or not
abbrev pub has_thing : Boards → Texts → Thing → Bool
has_thing ys ts (thing.Board b) = is_some (board_in b ys)
has_thing ys ts (thing.Stat x) = is_some (home_in x ys)
has_thing ys ts (thing.Text t) = is_some (text_in t ts)
has_thing ys ts (thing.Element t a) = list_any (λ x. same_element x.id a) (elements_or_none (text_in t (elements_of ts)))

-- whether they have all that an edit names
abbrev pub can_do : Boards → Texts → Edit → Bool
can_do ys ts e = list_all (has_thing ys ts) (names_of e.op)

-- an edit is put into the live document and into the texts, of which it changes the runs of its own alone
abbrev pub IsPutIn : Edit → LiveDocument → Texts → LiveDocument → Texts → Type 0
IsPutIn e live texts live' texts' =
    (live' ≡ document_after e live)
    × (elements_of texts' ≡ texts_after e.stamp e.op (elements_of texts))
    × AreWorkedBy e texts texts'
