-- What an author makes: edits later than all that a document has.
use Rattle.std.specs.Prelude.{◌≡◌, ◌≢◌, ◌⊎◌, ℕ, zero, suc, ◌+◌, ◌≤◌, ◌==◌, nat_lt, nat_le, Bool, true, false, not, ◌&&◌, if◌then◌else◌, List, [], ◌∷◌, ◌++◌, length, take, drop, slice_get, Option, Some, None, option_map, Result, Ok, Err, MatchBool}
use Rattle.zed_types.specs.declared.names.ElemId.{ElemId}
use Rattle.zed_types.specs.declared.names.TextId.{TextId}
use Rattle.zed_types.specs.declared.text.ByteRange.{ByteRange}
use Rattle.zed_types.specs.declared.text.TextByte.{TextByte}
use Rattle.zed_types.specs.Stamp.{same_stamp}
use Rattle.zed_types.specs.Text.{alive}
use Rattle.zed_op.specs.declared.cause.Cause.{Cause}
use Rattle.zed_op.specs.declared.op.Op.{Op}
use Rattle.zed_op.specs.declared.op.Op.TheVariants.{TextInsert, TextDelete}
use Rattle.zed_op.specs.declared.op.Edit.{Edit}
use Rattle.zed_edit.specs.Document.{elements, text}
use Rattle.zed_op.specs.Fit.{Fits, fault}
use Rattle.zed_edit.specs.Replay.{replay, can}
use Rattle.zed_op.specs.Verdict.{is_genesis, HangsOnItsWorld}
use Rattle.zed_history.specs.Clock.{is_spent, next_time}
use Rattle.zed_history.specs.Finding.{AllBelow, edit_with}
use Rattle.zed_document.specs.declared.error.DocumentError.{DocumentError}
use Rattle.zed_document.specs.declared.error.DocumentError.TheVariants.{Stale, NoSuch, OutOfRange, ClockSpent, BadEdit, Clash}
use Rattle.zed_document.specs.Reading.{has_text}
use Rattle.zed_document.specs.Replica.{Replica}

-- the world is made at time 1, all else at the next time
abbrev pub time_of : List Edit → Op → ℕ
time_of es op = if is_genesis op then 1 else next_time es

-- the edit that a replica makes of an op
abbrev pub authored : List Edit → ℕ → Op → Edit
authored es replica op = record { stamp = record { time = time_of es op; replica = replica }; op = op }

-- whether no time is left for an op; the world needs none
abbrev pub is_spent_for : List Edit → Op → Bool
is_spent_for es op = not (is_genesis op) && is_spent es 1

-- an edit that was made: there is no edit of its stamp, or just this one
abbrev pub AnswersMade : Option Edit → Edit → Result Edit DocumentError → Type 0
AnswersMade None e r = r ≡ Ok e
AnswersMade (Some f) e r = ((f ≡ e) × (r ≡ Ok e)) ⊎ ((f ≢ e) × (r ≡ Err (Clash e.stamp)))

-- an edit that is to be done: a fault, then a thing that isn't made, then another edit of its stamp
abbrev pub AnswersToDo : Option Cause → List Edit → Edit → Result Edit DocumentError → Type 0
AnswersToDo (Some c) es e r = r ≡ Err (BadEdit c)
AnswersToDo None es e r = MatchBool (can (replay es) e) (AnswersMade (edit_with e.stamp es) e r) (r ≡ Err NoSuch)

-- what authoring an op answers, want of memory aside: Stale, then a spent clock, then as above
abbrev pub AnswersAuthor : Replica → ℕ → Op → Result Edit DocumentError → Type 0
AnswersAuthor d replica op r =
    MatchBool d.is_stale (r ≡ Err Stale)
    (MatchBool (is_spent_for d.edits op) (r ≡ Err ClockSpent)
    (AnswersToDo (fault (authored d.edits replica op)) d.edits (authored d.edits replica op) r))

-- an edit that makes the world, or is later than all that there are
abbrev pub IsLate : List Edit → Edit → Type 0
IsLate es e = is_genesis e.op ≡ false → AllBelow e.stamp es

-- making an edit takes memory where it has no fault, can be done and its stamp is new; of the world its bytes may take memory before
abbrev pub MayTakeMemory : List Edit → Edit → Type 0
MayTakeMemory es e = HangsOnItsWorld e ⊎ (Fits e × (can (replay es) e ≡ true) × (edit_with e.stamp es ≡ None))

-- the name of the alive byte before a position, none at the head
abbrev pub byte_before : List TextByte → ℕ → Option ElemId
byte_before xs zero = None
byte_before xs (suc p) = option_map (λ x. x.id) (slice_get (alive xs) p)

-- the op that puts bytes at a position of a text
abbrev pub insertion_at : List Edit → TextId → ℕ → List ℕ → Op
insertion_at es t p bytes = TextInsert t (byte_before (elements (replay es) t) p) bytes

-- a fault, else the edit
abbrev pub AnswersFault : Option Cause → Edit → Result Edit DocumentError → Type 0
AnswersFault (Some c) e r = r ≡ Err (BadEdit c)
AnswersFault None e r = r ≡ Ok e

-- what inserting into a text answers: Stale, no such text, no such position, a spent clock, a fault, else the edit
abbrev pub AnswersInsertion : Replica → ℕ → TextId → ℕ → List ℕ → Result Edit DocumentError → Type 0
AnswersInsertion d replica t p bytes r =
    MatchBool d.is_stale (r ≡ Err Stale)
    (MatchBool (has_text d t)
    (MatchBool (nat_le p (length (text (replay d.edits) t)))
    (MatchBool (is_spent d.edits 1) (r ≡ Err ClockSpent)
    (AnswersFault (fault (authored d.edits replica (insertion_at d.edits t p bytes)))
    (authored d.edits replica (insertion_at d.edits t p bytes)) r))
    (r ≡ Err OutOfRange))
    (r ≡ Err NoSuch))

-- putting bytes into a text takes memory where nothing stands against it
pub record MayTakeMemoryAt (d : Replica) (replica : ℕ) (t : TextId) (p : ℕ) (bytes : List ℕ) : Type 0 where
  pub sound : d.is_stale ≡ false
  pub made : has_text d t ≡ true
  pub within : p ≤ length (text (replay d.edits) t)
  pub left : is_spent d.edits 1 ≡ false
  pub fits : Fits (authored d.edits replica (insertion_at d.edits t p bytes))

-- whether an element stands directly before a stretch in one insertion
abbrev pub goes_before : ElemId → ByteRange → Bool
goes_before a r = same_stamp a.name.stamp r.stamp && (a.name.index + 1) == r.first

-- the stretch that holds this one byte
abbrev pub alone : ElemId → ByteRange
alone a = record { stamp = a.name.stamp; first = a.name.index; last = a.name.index }

-- one more byte in front of stretches: part of the first, or a stretch of its own
abbrev pub with_byte : ElemId → List ByteRange → List ByteRange
with_byte a [] = alone a ∷ []
with_byte a (r ∷ rs) = if goes_before a r then record r { first = a.name.index } ∷ rs else alone a ∷ r ∷ rs

-- bytes cut into the longest stretches of one insertion with indices that rise by one
abbrev pub stretches : List TextByte → List ByteRange
stretches [] = []
stretches (x ∷ xs) = with_byte x.id (stretches xs)

-- one deletion a stretch, at times that rise by one
abbrev pub deletions : ℕ → ℕ → TextId → List ByteRange → List Edit
deletions time replica t [] = []
deletions time replica t (r ∷ rs) =
    record { stamp = record { time = time; replica = replica }; op = TextDelete t r } ∷ deletions (time + 1) replica t rs

-- a part of a list, without its end
abbrev pub part : {X : Type 0} → ℕ → ℕ → List X → List X
part from to xs = drop from (take to xs)

-- whether there is such a part, of one member at least
abbrev pub is_part : ℕ → ℕ → ℕ → Bool
is_part from to len = nat_lt from to && nat_le to len

-- a text with bytes put in at a position
abbrev pub with_bytes : ℕ → List ℕ → List ℕ → List ℕ
with_bytes p bytes text = take p text ++ (bytes ++ drop p text)

-- a text without a part
abbrev pub without : ℕ → ℕ → List ℕ → List ℕ
without from to text = take from text ++ drop to text

-- the stretches of the alive bytes of a text from one position to another
abbrev pub stretches_of : List Edit → TextId → ℕ → ℕ → List ByteRange
stretches_of es t from to = stretches (part from to (alive (elements (replay es) t)))

-- the deletions of these bytes
abbrev pub deletions_of : List Edit → ℕ → TextId → ℕ → ℕ → List Edit
deletions_of es replica t from to = deletions (next_time es) replica t (stretches_of es t from to)

-- what deleting bytes of a text answers: Stale, no such text, no such range, times that don't suffice, else what P says
abbrev pub AnswersDeletion : Replica → TextId → ℕ → ℕ → {X : Type 0} → (Result X DocumentError → Type 0) → Result X DocumentError → Type 0
AnswersDeletion d t from to P r =
    MatchBool d.is_stale (r ≡ Err Stale)
    (MatchBool (has_text d t)
    (MatchBool (is_part from to (length (text (replay d.edits) t)))
    (MatchBool (is_spent d.edits (length (stretches_of d.edits t from to))) (r ≡ Err ClockSpent) (P r))
    (r ≡ Err OutOfRange))
    (r ≡ Err NoSuch))

-- deleting a part of a text takes memory where nothing stands against it
pub record MayTakeMemoryToDelete (d : Replica) (t : TextId) (from to : ℕ) : Type 0 where
  pub sound : d.is_stale ≡ false
  pub made : has_text d t ≡ true
  pub part : is_part from to (length (text (replay d.edits) t)) ≡ true
  pub left : is_spent d.edits (length (stretches_of d.edits t from to)) ≡ false
