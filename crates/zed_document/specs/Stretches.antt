-- The stretches of a text's bytes, as they are found from the left.
use Rattle.std.specs.Prelude.{◌≡◌, true, ◌++◌, ℕ, ◌+◌, ◌==◌, Bool, ◌&&◌, if◌then◌else◌, List, [], ◌∷◌, Option, Some, None}
use Rattle.zed_types.specs.declared.names.ElemId.{ElemId}
use Rattle.zed_types.specs.declared.text.ByteRange.{ByteRange}
use Rattle.zed_types.specs.Stamp.{same_stamp}
use Rattle.zed_op.specs.declared.op.Edit.{Edit}
use Rattle.zed_op.specs.Fit.{Fits}
use Rattle.zed_edit.specs.Replay.{replay, can}
use Rattle.zed_history.specs.Finding.{AllBelow}
use Rattle.zed_document.specs.Authoring.{alone}

-- whether a byte stands directly behind a stretch, in the same insertion
abbrev pub ends_before : ByteRange → ElemId → Bool
ends_before r a = same_stamp r.stamp a.name.stamp && (r.last + 1) == a.name.index

-- a stretch that goes on to a byte
abbrev pub stretched : ByteRange → ElemId → ByteRange
stretched r a = record { stamp = a.name.stamp; first = r.first; last = a.name.index }

-- one more byte behind stretches: part of the last, or a stretch of its own
abbrev pub with_last : List ByteRange → ElemId → List ByteRange
with_last [] a = alone a ∷ []
with_last (r ∷ []) a = if ends_before r a then stretched r a ∷ [] else r ∷ alone a ∷ []
with_last (r ∷ s ∷ rs) a = r ∷ with_last (s ∷ rs) a

-- how many stretches a byte begins behind the byte before it
abbrev pub begun : Option ElemId → ElemId → ℕ
begun None a = 1
begun (Some b) a = if ends_before (alone b) a then 0 else 1

-- an edit that comes after all others, fits and can be done
abbrev pub IsNext : List Edit → Edit → Type 0
IsNext es e = AllBelow e.stamp es × Fits e × (can (replay es) e ≡ true)

-- edits each of which can be done when its turn comes
abbrev pub CanFollow : List Edit → List Edit → Type 0
CanFollow es [] = Unit {0}
CanFollow es (f ∷ fs) = IsNext es f × CanFollow (es ++ f ∷ []) fs
