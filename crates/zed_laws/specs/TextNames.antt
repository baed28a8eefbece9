-- The names in texts.
use Rattle.std.specs.Prelude.{◌≡◌, Bool, true, false, List, [], ◌∷◌}
use Rattle.std.specs.List.{AllByRecursion}
use Rattle.zed_types.specs.declared.stamp.Stamp.{Stamp}
use Rattle.zed_types.specs.declared.names.TextId.{TextId}
use Rattle.zed_types.specs.declared.text.TextByte.{TextByte}
use Rattle.zed_types.specs.Names.{same_element}
use Rattle.zed_op.specs.declared.op.Edit.{Edit}
use Rattle.zed_op.specs.declared.thing.Thing.TheVariants as thing
use Rattle.zed_edit.specs.Document.{elements, has}
use Rattle.zed_op.specs.Set.{IsRising}
use Rattle.zed_edit.specs.Replay.{replay}

-- no two elements have one name
abbrev pub HaveOwnNames : List TextByte → Type 0
HaveOwnNames [] = Unit {0}
HaveOwnNames (x ∷ xs) = AllByRecursion (λ y. same_element x.id y.id ≡ false) xs × HaveOwnNames xs

-- the elements of a text have names of their own
abbrev pub ElementsHaveOwnNames : Type 0
ElementsHaveOwnNames = (es : List Edit) (t : TextId) → IsRising es → HaveOwnNames (elements (replay es) t)

-- the stamps of these edits pass a test
abbrev pub StampsPass : (Stamp → Bool) → List Edit → Type 0
StampsPass test es = AllByRecursion (λ e. test e.stamp ≡ true) es

-- each element of a text has the stamp of an edit: whatever test those of all edits pass, it passes
abbrev pub ElementsAreOfEdits : Type 0
ElementsAreOfEdits =
    (test : Stamp → Bool) (es : List Edit) (t : TextId)
    → StampsPass test es
    → AllByRecursion (λ x. test x.id.name.stamp ≡ true) (elements (replay es) t)

-- and so has each text that was made
abbrev pub TextsAreOfEdits : Type 0
TextsAreOfEdits =
    (test : Stamp → Bool) (es : List Edit) (t : TextId)
    → StampsPass test es
    → has (replay es) (thing.Text t) ≡ true
    → test t.name.stamp ≡ true
