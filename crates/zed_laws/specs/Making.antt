-- What edits make: what a replay has is what the edits taken made.
use Rattle.std.specs.Prelude.{◌≡◌, Bool, true, ◌||◌, if◌then◌else◌, List, [], ◌∷◌, ◌++◌, Result, Ok, Err}
use Rattle.std.specs.List.{list_any}
use Rattle.zed_types.specs.declared.stamp.Stamp.{Stamp}
use Rattle.zed_types.specs.declared.names.TextId.{TextId}
use Rattle.zed_types.specs.declared.text.TextByte.{TextByte}
use Rattle.zed_types.specs.Names.{text_of, same_board, same_stat, same_text, same_element}
use Rattle.zed_types.specs.Text.{run_from}
use Rattle.zed_world.specs.Contents.{Contents}
use Rattle.zed_world.specs.Reading.{world_at}
use Rattle.zed_world.specs.declared.error.WorldError.{WorldError}
use Rattle.zed_op.specs.declared.op.Op.{Op}
use Rattle.zed_op.specs.declared.op.Op.TheVariants.{Genesis, TextAdd, TextInsert}
use Rattle.zed_op.specs.declared.op.Edit.{Edit}
use Rattle.zed_op.specs.declared.thing.Thing.{Thing}
use Rattle.zed_op.specs.declared.thing.Thing.TheVariants as thing
use Rattle.zed_op.specs.Names.{stamp_of}
use Rattle.zed_op.specs.Set.{IsRising}
use Rattle.zed_edit.specs.declared.plain.Text.{Text}
use Rattle.zed_edit.specs.Document.{find_text, elements_in, has}
use Rattle.zed_edit.specs.Genesis.{opened_texts}
use Rattle.zed_edit.specs.Replay.{replay, taken, held}
use Rattle.zed_laws.specs.TextNames.{StampsPass}
use Rattle.zed_laws.specs.Winners.{made_boards, made_stats}

-- the texts of a world file, if it is one
abbrev pub texts_from : Stamp → Result Contents WorldError → List Text
texts_from s (Ok w) = opened_texts s w.boards
texts_from s (Err e) = []

-- the texts that an edit makes
abbrev pub made_texts : Stamp → Op → List Text
made_texts s (Genesis bytes) = texts_from s (world_at bytes)
made_texts s TextAdd = record { id = text_of s 0; elements = [] } ∷ []
made_texts s _ = []

-- the bytes that an edit makes in a text
abbrev pub made_bytes : Stamp → Op → TextId → List TextByte
made_bytes s (TextInsert u after bytes) t = if same_text u t then run_from s 0 bytes else []
made_bytes s op t = elements_in (find_text t (made_texts s op))

-- whether an op makes a thing
abbrev pub op_makes : Stamp → Op → Thing → Bool
op_makes s op (thing.Board b) = list_any (λ x. same_board x.id b) (made_boards s op)
op_makes s op (thing.Stat x) = list_any (λ y. same_stat y.id x) (made_stats s op)
op_makes s op (thing.Text t) = list_any (λ x. same_text x.id t) (made_texts s op)
op_makes s op (thing.Element t a) = list_any (λ x. same_element x.id a) (made_bytes s op t)

-- whether an edit makes a thing
abbrev pub makes : Edit → Thing → Bool
makes e x = op_makes e.stamp e.op x

-- what a replay has is what the edits taken made
abbrev pub TakenMake : Type 0
TakenMake =
    (es : List Edit) (x : Thing)
    → IsRising es
    → has (replay es) x ≡ list_any (λ e. makes e x) (taken es)

-- a late edit adds just what it makes, a Genesis too, where no edit is held with it or without it
abbrev pub LateEditMakes : Type 0
LateEditMakes =
    (e : Edit) (low high : List Edit) (x : Thing)
    → IsRising (low ++ e ∷ high)
    → held (low ++ high) ≡ []
    → held (low ++ e ∷ high) ≡ []
    → has (replay (low ++ e ∷ high)) x ≡ (makes e x || has (replay (low ++ high)) x)

-- each thing has the stamp of an edit: whatever test those of all edits pass, it passes
abbrev pub ThingsAreOfEdits : Type 0
ThingsAreOfEdits =
    (test : Stamp → Bool) (es : List Edit) (x : Thing)
    → StampsPass test es
    → has (replay es) x ≡ true
    → test (stamp_of x) ≡ true
