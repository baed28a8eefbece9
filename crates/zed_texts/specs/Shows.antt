-- What live texts show of the edits that they took.
use Rattle.std.specs.Prelude.{◌≡◌, true, List, [], ◌∷◌, ◌++◌, map}
use Rattle.zed_types.specs.declared.names.TextId.{TextId}
use Rattle.zed_types.specs.Names.{NamesRise}
use Rattle.zed_op.specs.declared.op.Edit.{Edit}
use Rattle.zed_op.specs.Set.{IsRising, AllFit}
use Rattle.zed_edit.specs.declared.plain.Text.{Text}
use Rattle.zed_edit.specs.Document.{made_elements}
use Rattle.zed_edit.specs.Replay.{can, replay, taken, held}
use Rattle.zed_texts.specs.ByName.{text_in}
use Rattle.zed_texts.specs.Texts.{Elements, texts_after, IsReady}

-- texts in the order of their names, each with the elements that it has in the replay
pub record TextsShow (es : List Edit) (xs : Elements) : Type 0 where
  pub rise : NamesRise (λ x. (x.0).name) xs
  pub each : (t : TextId) → text_in t xs ≡ made_elements (replay es) t

-- no edit makes no text
abbrev pub NoneIsEmpty : Type 0
NoneIsEmpty = TextsShow [] []

-- an edit that comes late and can be done is put in as if it had come at its place
abbrev pub TextsTake : Type 0
TextsTake =
    (e : Edit) (low high : List Edit) (xs : Elements)
    → IsRising (low ++ e ∷ high)
    → AllFit (e ∷ high)
    → held (low ++ high) ≡ []
    → can (replay (low ++ high)) e ≡ true
    → TextsShow (low ++ high) xs
    → TextsShow (low ++ e ∷ high) (texts_after e.stamp e.op xs)

-- texts are ready for an edit that can be done and isn't there
abbrev pub TextsAreReady : Type 0
TextsAreReady =
    (e : Edit) (low high : List Edit) (xs : Elements)
    → IsRising (low ++ e ∷ high)
    → AllFit (e ∷ high)
    → can (replay (low ++ high)) e ≡ true
    → TextsShow (low ++ high) xs
    → IsReady e.stamp e.op xs

-- the texts as one author has them
abbrev pub shown_texts : Elements → List Text
shown_texts xs = map (λ x. record { id = x.0; elements = x.1 }) xs

-- texts that show the edits taken are those of the replay
abbrev pub ReplayedTextsAreShown : Type 0
ReplayedTextsAreShown =
    (es : List Edit) (xs : Elements)
    → IsRising es
    → TextsShow (taken es) xs
    → shown_texts xs ≡ (replay es).texts
