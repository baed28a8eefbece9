-- What an action does to a document.
use Rattle.std.specs.Prelude.{◌≡◌, ◌⊎◌, false, ℕ, zero, suc, ℤ, pos, List, [], ◌∷◌, ◌++◌, Option, Some, None, Result, Ok, Err, MatchResult, take}
use Rattle.zed_types.specs.declared.names.BoardId.{BoardId}
use Rattle.zed_types.specs.declared.names.StatId.{StatId}
use Rattle.zed_types.specs.declared.names.TextId.{TextId}
use Rattle.zed_types.specs.declared.property.Side.{Side}
use Rattle.zed_types.specs.declared.property.BoardText.TheVariants.{Name}
use Rattle.zed_types.specs.declared.property.BoardSetting.TheVariants as board_setting
use Rattle.zed_types.specs.declared.stat_field.StatFields.{StatFields}
use Rattle.zed_types.specs.declared.stat_field.ThirdParameter.TheVariants as third
use Rattle.zed_types.specs.declared.stat_field.StatSetting.TheVariants as stat_setting
use Rattle.zed_op.specs.declared.op.Op.{Op}
use Rattle.zed_op.specs.declared.op.Op.TheVariants as op
use Rattle.zed_op.specs.declared.op.Edit.{Edit}
use Rattle.zed_edit.specs.declared.plain.Plain.{Plain}
use Rattle.zed_types.specs.Names as names
use Rattle.zed_edit.specs.Numbers.{board_numbered, stat_numbered}
use Rattle.zed_edit.specs.Replay.{replay}
use Rattle.zed_op.specs.Set.{with_edit}
use Rattle.zed_document.specs.declared.error.DocumentError.{DocumentError}
use Rattle.zed_document.specs.declared.error.DocumentError.TheVariants as document
use Rattle.zed_document.specs.Authoring.{AnswersAuthor, AnswersDeletion, AnswersInsertion, MayTakeMemory, MayTakeMemoryAt, MayTakeMemoryToDelete, authored, deletions_of, insertion_at, is_spent_for}
use Rattle.zed_document.specs.Reading.{text_of}
use Rattle.zed_document.specs.Replica.{Replica}
use Rattle.zed_action.specs.declared.error.ActionError.{ActionError}
use Rattle.zed_action.specs.declared.error.ActionError.TheVariants.{BadAction}
use Rattle.zed_action.specs.declared.action.Action.{Action}
use Rattle.zed_action.specs.declared.action.Action.TheVariants as action
use Rattle.zed_action.specs.declared.deed.Deed.{Deed}
use Rattle.zed_action.specs.declared.deed.Deed.TheVariants.{Make, Insert, Start, Delete}
use Rattle.zed_action.specs.Refusals.{memory, refusal_of}
use Rattle.zed_action.specs.Words.{KeepsBytes, Word, action_of}

-- ---- what the numbers of an action name

infixl 10 ◌>>=◌
-- what follows of a value; a refusal stays
abbrev pub ◌>>=◌ : {A B : Type 0} → Result A DocumentError → (A → Result B DocumentError) → Result B DocumentError
(Ok x) >>= f = f x
(Err e) >>= f = Err e

-- what is there, or NoSuch
abbrev pub found : {X : Type 0} → Option X → Result X DocumentError
found None = Err document.NoSuch
found (Some x) = Ok x

-- the board of number n, or NoSuch
abbrev pub board_in : Plain → ℕ → Result BoardId DocumentError
board_in p n = found (board_numbered p n)

-- stat n of board b
abbrev pub stat_in : Plain → ℕ → ℕ → Result StatId DocumentError
stat_in p b n = do
  board ← board_in p b
  found (stat_numbered p board n)

-- the board that an exit leads to; 0 is none
abbrev pub target_in : Plain → ℕ → Result (Option BoardId) DocumentError
target_in p zero = Ok None
target_in p (suc n) = do
  board ← board_in p (suc n)
  Ok (Some board)

-- a board gets a name
abbrev pub name_in : Plain → ℕ → List ℕ → Result Deed DocumentError
name_in p b name = do
  board ← board_in p b
  Ok (Make (op.SetBoard board (board_setting.Text Name name)))

-- a board gets an exit
abbrev pub exit_in : Plain → ℕ → Side → ℕ → Result Deed DocumentError
exit_in p b side to = do
  board ← board_in p b
  target ← target_in p to
  Ok (Make (op.SetBoard board (board_setting.Exit side target)))

-- a board gets a rank
abbrev pub rank_in : Plain → ℕ → ℕ → Result Deed DocumentError
rank_in p b rank = do
  board ← board_in p b
  Ok (Make (op.SetBoard board (board_setting.Rank rank)))

-- a new stat at a place, with a cycle, and without a text
abbrev pub fields_of : ℕ → ℕ → ℤ → StatFields
fields_of x y cycle = record {
  bytes = x ∷ y ∷ 0 ∷ 0 ∷ 0 ∷ 0 ∷ [];
  numbers = pos 0 ∷ pos 0 ∷ cycle ∷ [];
  p3 = third.Byte 0;
  text = None;
}

-- bytes go into the text of a stat; a stat without one gets one, and then they stand at 0
abbrev pub insertion_of : StatId → Option TextId → ℕ → List ℕ → Result Deed DocumentError
insertion_of s (Some text) position bytes = Ok (Insert text position bytes)
insertion_of s None zero bytes = Ok (Start s bytes)
insertion_of s None (suc n) bytes = Err document.OutOfRange

-- bytes go out of the text of a stat; NoSuch where it has none
abbrev pub deletion_of : Option TextId → ℕ → ℕ → Result Deed DocumentError
deletion_of None from to = Err document.NoSuch
deletion_of (Some text) from to = Ok (Delete text from to)

-- the same by the numbers of board and stat
abbrev pub insertion_in : Plain → ℕ → ℕ → ℕ → List ℕ → Result Deed DocumentError
insertion_in p b s position bytes = do
  it ← stat_in p b s
  insertion_of it (text_of p it) position bytes

-- bytes go out of the text of a stat, by the numbers of board and stat
abbrev pub deletion_in : Plain → ℕ → ℕ → ℕ → ℕ → Result Deed DocumentError
deletion_in p b s from to = do
  it ← stat_in p b s
  deletion_of (text_of p it) from to

-- what an action comes to where this is shown
abbrev pub deed_of : Plain → Action → Result Deed DocumentError
deed_of p (action.BoardAdd name) = Ok (Make (op.BoardAdd name))
deed_of p (action.BoardRemove b) = do
  board ← board_in p b
  Ok (Make (op.BoardRemove board))
deed_of p (action.BoardName b name) = name_in p b name
deed_of p (action.Exit b side to) = exit_in p b side to
deed_of p (action.Rank b rank) = rank_in p b rank
deed_of p (action.Cells b cells tile) = do
  board ← board_in p b
  Ok (Make (op.SetCells board cells tile))
deed_of p (action.StatAdd b x y cycle) = do
  board ← board_in p b
  Ok (Make (op.StatAdd board (fields_of x y cycle)))
deed_of p (action.StatRemove b s) = do
  it ← stat_in p b s
  Ok (Make (op.StatRemove it))
deed_of p (action.Insert b s position bytes) = insertion_in p b s position bytes
deed_of p (action.Delete b s from to) = deletion_in p b s from to

-- ---- what is made of a document's edits

-- the edits of a document after a call, or why there are none
abbrev pub Made : Type 0
Made = Result (List Edit) ActionError

-- these edits where a call was done, else its refusal
abbrev pub told : {X : Type 0} → List Edit → Result X DocumentError → Made
told es (Ok x) = Ok es
told es (Err e) = Err (refusal_of e)

-- a replica with these edits in place of its own
abbrev pub with_edits : List Edit → Replica → Replica
with_edits es d = record d { edits = es }

-- an edit is authored
abbrev pub Authors : Replica → ℕ → Op → Made → Type 0
Authors d replica o made = (answer : Result Edit DocumentError) × AnswersAuthor d replica o answer × (made ≡ told (with_edit (authored d.edits replica o) d.edits) answer)

-- bytes are inserted
abbrev pub Inserts : Replica → ℕ → TextId → ℕ → List ℕ → Made → Type 0
Inserts d replica t position bytes made =
    (answer : Result Edit DocumentError) × AnswersInsertion d replica t position bytes answer
    × (made ≡ told (d.edits ++ authored d.edits replica (insertion_at d.edits t position bytes) ∷ []) answer)

-- bytes are deleted
abbrev pub Deletes : Replica → ℕ → TextId → ℕ → ℕ → Made → Type 0
Deletes d replica t from to made =
    (answer : Result (List Edit) DocumentError) × AnswersDeletion d t from to (λ a. a ≡ Ok (deletions_of d.edits replica t from to)) answer
    × (made ≡ told (d.edits ++ deletions_of d.edits replica t from to) answer)

-- a call, and another on what it made, unless it was refused
abbrev pub InTurn : (Made → Type 0) → (List Edit → Made → Type 0) → Made → Type 0
InTurn First Next made = ((es : List Edit) × First (Ok es) × Next es made) ⊎ ((e : ActionError) × First (Err e) × (made ≡ Err e))

-- the text that is authored next
abbrev pub next_text : Replica → ℕ → TextId
next_text d replica = names.text_of (authored d.edits replica op.TextAdd).stamp 0

-- a stat gets a text, which gets these bytes: three edits
abbrev pub Starts : Replica → ℕ → StatId → List ℕ → Made → Type 0
Starts d replica s bytes made =
    InTurn (Authors d replica op.TextAdd)
    (λ es. InTurn (Inserts (with_edits es d) replica (next_text d replica) 0 bytes)
    (λ fs. Authors (with_edits fs d) replica (op.SetStat s (stat_setting.Text (Some (next_text d replica)))))) made

-- what is made by a deed: an edit, bytes inserted, a text with its first bytes, or bytes deleted
abbrev pub Performs : Replica → ℕ → Deed → Made → Type 0
Performs d replica (Make o) made = Authors d replica o made
Performs d replica (Insert t position bytes) made = Inserts d replica t position bytes made
Performs d replica (Start s bytes) made = Starts d replica s bytes made
Performs d replica (Delete t from to) made = Deletes d replica t from to made

-- what is made by a deed, or a refusal in place of it
abbrev pub Does : Replica → ℕ → Result Deed DocumentError → Made → Type 0
Does d replica (Err e) made = made ≡ Err (refusal_of e)
Does d replica (Ok deed) made = Performs d replica deed made

-- what is made by an action on what the document shows; words that are none are a BadAction
abbrev pub ActsOn : Replica → ℕ → Option Action → Made → Type 0
ActsOn d replica None made = made ≡ Err BadAction
ActsOn d replica (Some a) made = Does d replica (deed_of (replay d.edits) a) made

-- what the words do to a document, as a replica: words that are no action come before numbers without a thing, and these before the calls' own refusals
abbrev pub Acts : Replica → ℕ → List Word → Made → Type 0
Acts d replica words made = ActsOn d replica (action_of words) made

-- a call ends so with these edits, or memory runs out
abbrev pub Ends : {X : Type 0} → (Made → Type 0) → Result X ActionError → List Edit → Type 0
Ends P result edits = MatchResult result (λ _. P (Ok edits)) (λ e. (e ≡ memory) ⊎ P (Err e))

-- ---- what a refused action leaves of a document's edits

-- the edits with a new text
abbrev pub with_text : Replica → ℕ → List Edit
with_text d replica = with_edit (authored d.edits replica op.TextAdd) d.edits

-- the edit that puts bytes into that text
abbrev pub first_bytes : Replica → ℕ → List ℕ → Edit
first_bytes d replica bytes = authored (with_text d replica) replica (insertion_at (with_text d replica) (next_text d replica) 0 bytes)

-- nothing was made of a stat's program, or its text, or that text with its bytes
abbrev pub LeavesStart : Replica → ℕ → List ℕ → List Edit → Type 0
LeavesStart d replica bytes left =
    (left ≡ d.edits) ⊎ ((left ≡ with_text d replica) ⊎ (left ≡ with_text d replica ++ first_bytes d replica bytes ∷ []))

-- no byte was deleted; where memory ran out, the first of several deletions may have been made
abbrev pub LeavesDeletion : Replica → ℕ → TextId → ℕ → ℕ → ActionError → List Edit → Type 0
LeavesDeletion d replica t from to e left =
    (left ≡ d.edits) ⊎ ((e ≡ memory) × ((n : ℕ) × (left ≡ d.edits ++ take n (deletions_of d.edits replica t from to))))

-- what is left where a deed is refused
abbrev pub Leaves : Replica → ℕ → Deed → ActionError → List Edit → Type 0
Leaves d replica (Make o) e left = left ≡ d.edits
Leaves d replica (Insert t position bytes) e left = left ≡ d.edits
Leaves d replica (Start s bytes) e left = LeavesStart d replica bytes left
Leaves d replica (Delete t from to) e left = LeavesDeletion d replica t from to e left

-- the same of an action that comes to a deed, or to none
abbrev pub LeavesDeed : Replica → ℕ → Result Deed DocumentError → ActionError → List Edit → Type 0
LeavesDeed d replica (Err none) e left = left ≡ d.edits
LeavesDeed d replica (Ok deed) e left = Leaves d replica deed e left

-- and of words that are an action, or none
abbrev pub LeavesAction : Replica → ℕ → Option Action → ActionError → List Edit → Type 0
LeavesAction d replica None e left = left ≡ d.edits
LeavesAction d replica (Some a) e left = LeavesDeed d replica (deed_of (replay d.edits) a) e left

-- what is left where the words are refused
abbrev pub LeavesWords : Replica → ℕ → List Word → ActionError → List Edit → Type 0
LeavesWords d replica words e left = LeavesAction d replica (action_of words) e left

-- ---- where memory may be wanted

-- authoring an edit may take memory
abbrev pub MayTakeToAuthor : Replica → ℕ → Op → Type 0
MayTakeToAuthor d replica o = (is_spent_for d.edits o ≡ false) × MayTakeMemory d.edits (authored d.edits replica o)

-- a deed may take memory; a stat's new text may as long as a time is left
abbrev pub DeedMayTake : Replica → ℕ → Deed → Type 0
DeedMayTake d replica (Make o) = MayTakeToAuthor d replica o
DeedMayTake d replica (Insert t position bytes) = MayTakeMemoryAt d replica t position bytes
DeedMayTake d replica (Start s bytes) = is_spent_for d.edits op.TextAdd ≡ false
DeedMayTake d replica (Delete t from to) = MayTakeMemoryToDelete d t from to

-- a deed that an action comes to may take memory; what is refused in its place is nothing that does
abbrev pub AnyMayTake : Replica → ℕ → Result Deed DocumentError → Type 0
AnyMayTake d replica (Err none) = ⊥
AnyMayTake d replica (Ok deed) = DeedMayTake d replica deed

-- an action may take memory, by the deed that it comes to
abbrev pub ActionMayTake : Replica → ℕ → Option Action → Type 0
ActionMayTake d replica None = ⊥
ActionMayTake d replica (Some a) = AnyMayTake d replica (deed_of (replay d.edits) a)

-- words may take memory: to keep their bytes, or for what they do
abbrev pub WordsMayTake : Replica → ℕ → List Word → Type 0
WordsMayTake d replica words = KeepsBytes (action_of words) ⊎ ActionMayTake d replica (action_of words)
