-- What holds of the replay, whatever the edits.
use Rattle.std.specs.Prelude.{◌≡◌, ℕ, true, if◌then◌else◌, List, [], ◌∷◌, ◌++◌, map, Option, ◌⊎◌, Contains}
use Rattle.zed_types.specs.declared.stamp.Stamp.{Stamp}
use Rattle.zed_types.specs.declared.names.TextId.{TextId}
use Rattle.zed_types.specs.declared.names.ElemId.{ElemId}
use Rattle.zed_types.specs.declared.text.ByteRange.{ByteRange}
use Rattle.zed_types.specs.Text.{run_from, put_late, kill}
use Rattle.zed_op.specs.declared.op.Op.TheVariants.{TextInsert, TextDelete}
use Rattle.zed_op.specs.declared.op.Edit.{Edit}
use Rattle.zed_op.specs.declared.thing.Thing.{Thing}
use Rattle.zed_edit.specs.declared.plain.Plain.{Plain}
use Rattle.zed_edit.specs.Document.{has, elements}
use Rattle.zed_op.specs.Set.{IsRising, AllFit}
use Rattle.zed_edit.specs.Replay.{can, step, replay_on, replay, taken_on, taken, held_on, held}

-- one more edit at the end is one step more
abbrev pub OneMoreIsOneStep : Type 0
OneMoreIsOneStep = (es : List Edit) (e : Edit) → replay (es ++ e ∷ []) ≡ step (replay es) e

-- the replay of a list goes on with the edits behind it
abbrev pub ReplayGoesOn : Type 0
ReplayGoesOn = (es fs : List Edit) → replay (es ++ fs) ≡ replay_on (replay es) fs

-- one more edit at the end is taken where it can be done
abbrev pub OneMoreIsTaken : Type 0
OneMoreIsTaken = (es : List Edit) (e : Edit) → taken (es ++ e ∷ []) ≡ (if can (replay es) e then taken es ++ e ∷ [] else taken es)

-- and is held where it can't
abbrev pub OneMoreIsHeld : Type 0
OneMoreIsHeld = (es : List Edit) (e : Edit) → held (es ++ e ∷ []) ≡ (if can (replay es) e then held es else held es ++ e ∷ [])

-- a document remembers just the stamps of the edits that are held
abbrev pub HeldAreRemembered : Type 0
HeldAreRemembered = (es : List Edit) → map (λ e. e.stamp) (held es) ≡ (replay es).held

-- what is made stays made, whatever edit comes
abbrev pub MadeStaysMade : Type 0
MadeStaysMade = (p : Plain) (e : Edit) (x : Thing) → has p x ≡ true → has (step p e) x ≡ true

-- and whatever edits come
abbrev pub MadeOutlastsEdits : Type 0
MadeOutlastsEdits = (p : Plain) (es : List Edit) (x : Thing) → has p x ≡ true → has (replay_on p es) x ≡ true

-- two documents in which the same things were made
abbrev pub MadeTheSame : Plain → Plain → Type 0
MadeTheSame p q = (x : Thing) → has p x ≡ has q x

-- what was made decides alone which edits are taken
abbrev pub TakenByWhatIsMade : Type 0
TakenByWhatIsMade = (p q : Plain) (es : List Edit) → MadeTheSame p q → taken_on p es ≡ taken_on q es

-- and which are held
abbrev pub HeldByWhatIsMade : Type 0
HeldByWhatIsMade = (p q : Plain) (es : List Edit) → MadeTheSame p q → held_on p es ≡ held_on q es

-- and what is made after them
abbrev pub MadeByWhatIsMade : Type 0
MadeByWhatIsMade = (p q : Plain) (es : List Edit) → MadeTheSame p q → MadeTheSame (replay_on p es) (replay_on q es)

-- an edit that puts bytes into a text
abbrev pub insertion : Stamp → TextId → Option ElemId → List ℕ → Edit
insertion s t after bytes = record { stamp = s; op = TextInsert t after bytes }

-- an edit that deletes bytes of a text
abbrev pub deletion : Stamp → TextId → ByteRange → Edit
deletion s t range = record { stamp = s; op = TextDelete t range }

-- the edits taken make by themselves all that the replay shows but the stamps of those held, and none of them is held
abbrev pub TakenMakeAll : Type 0
TakenMakeAll = (es : List Edit) → (replay (taken es) ≡ record (replay es) { held = [] }) × (held (taken es) ≡ [])

-- a late edit that can be done at its place leaves no edit held that was not
abbrev pub LateEditHoldsNone : Type 0
LateEditHoldsNone =
    (e : Edit) (low high : List Edit)
    → IsRising (low ++ e ∷ high)
    → AllFit (e ∷ high)
    → held (low ++ high) ≡ []
    → can (replay low) e ≡ true
    → held (low ++ e ∷ high) ≡ []

-- a late edit leaves no other edit held that was not
abbrev pub LateEditHoldsNoOther : Type 0
LateEditHoldsNoOther =
    (e f : Edit) (low high : List Edit)
    → IsRising (low ++ e ∷ high)
    → AllFit (e ∷ high)
    → Contains (held (low ++ e ∷ high)) f
    → (f ≡ e) ⊎ Contains (held (low ++ high)) f

-- an insertion that comes late and can be done at its place, put in by the skip rule, gives the text of the replay that has it there
abbrev pub LateInsertion : Type 0
LateInsertion =
    (s : Stamp) (t : TextId) (after : Option ElemId) (bytes : List ℕ) (low high : List Edit)
    → IsRising (low ++ insertion s t after bytes ∷ high)
    → AllFit (insertion s t after bytes ∷ high)
    → held (low ++ high) ≡ []
    → can (replay low) (insertion s t after bytes) ≡ true
    → elements (replay (low ++ insertion s t after bytes ∷ high)) t
    ≡ put_late after s (run_from s 0 bytes) (elements (replay (low ++ high)) t)

-- and a deletion that comes late marks its bytes dead
abbrev pub LateDeletion : Type 0
LateDeletion =
    (s : Stamp) (t : TextId) (range : ByteRange) (low high : List Edit)
    → IsRising (low ++ deletion s t range ∷ high)
    → AllFit (deletion s t range ∷ high)
    → held (low ++ high) ≡ []
    → can (replay low) (deletion s t range) ≡ true
    → elements (replay (low ++ deletion s t range ∷ high)) t ≡ kill range (elements (replay (low ++ high)) t)
