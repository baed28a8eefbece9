-- What a body shows of edits: those taken are in its live parts, and those held wait.
use Rattle.std.specs.Prelude.{◌≡◌, Bool, List, []}
use Rattle.zed_op.specs.declared.op.Edit.{Edit}
use Rattle.zed_op.specs.declared.thing.Thing.{Thing}
use Rattle.zed_op.specs.Set.{IsRising}
use Rattle.zed_edit.specs.Document.{has}
use Rattle.zed_edit.specs.Replay.{can, replay, taken, held}
use Rattle.zed_live.specs.declared.document.LiveDocument.{LiveDocument}
use Rattle.zed_live.specs.Document.{DocumentShows}
use Rattle.zed_texts.specs.Texts.{Texts, elements_of}
use Rattle.zed_texts.specs.Shows.{TextsShow}
use Rattle.zed_delivery.specs.declared.body.Body.{Body}
use Rattle.zed_delivery.specs.Cascade.{IsHalfway}
use Rattle.zed_delivery.specs.Counts.{HaveFew}
use Rattle.zed_delivery.specs.Things.{has_thing, can_do}

-- a live document and texts show these edits, all of them done, and the texts have few runs for them
pub record ContentShows (done : List Edit) (d : LiveDocument) (ts : Texts) : Type 0 where
  pub live : DocumentShows done d
  pub texts : TextsShow done (elements_of ts)
  pub few : HaveFew done ts

-- a body shows edits: its live parts those taken, and those held wait
pub record BodyShows (es : List Edit) (b : Body) : Type 0 where
  pub content : ContentShows (taken es) b.live b.texts
  pub waiting : b.inbox ≡ held es

-- a body halfway through a cascade: some of all these edits are done, others in hand, and the rest waits
abbrev pub IsBodyHalfway : List Edit → List Edit → (Thing → Bool) → Body → Type 0
IsBodyHalfway all hand to_come b = (done : List Edit) × ContentShows done b.live b.texts × IsHalfway all done b.inbox hand to_come

-- live parts that show edits, all done, have what their replay has
abbrev pub ContentHasAll : Type 0
ContentHasAll =
    (done : List Edit) (live : LiveDocument) (texts : Texts) (x : Thing)
    → IsRising done
    → held done ≡ []
    → ContentShows done live texts
    → has_thing live.boards texts x ≡ has (replay done) x

-- and tell whether an edit can be done
abbrev pub ContentTellsCan : Type 0
ContentTellsCan =
    (done : List Edit) (live : LiveDocument) (texts : Texts) (e : Edit)
    → IsRising done
    → held done ≡ []
    → ContentShows done live texts
    → can_do live.boards texts e ≡ can (replay done) e

-- so does a body, of all edits that it shows
abbrev pub BodyHasAll : Type 0
BodyHasAll =
    (es : List Edit) (b : Body) (x : Thing)
    → IsRising es
    → BodyShows es b
    → has_thing b.live.boards b.texts x ≡ has (replay es) x

-- a body tells what can be done after its edits
abbrev pub BodyTellsCan : Type 0
BodyTellsCan =
    (es : List Edit) (b : Body) (e : Edit)
    → IsRising es
    → BodyShows es b
    → can_do b.live.boards b.texts e ≡ can (replay es) e
