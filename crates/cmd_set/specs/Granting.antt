-- What a wish makes of a document.
use Rattle.std.specs.Prelude.{◌≡◌, ◌⊎◌, ◌<◌, false, ℕ, List, Result, Ok, Err, length}
use Rattle.zed_op.specs.declared.op.Edit.{Edit}
use Rattle.zed_edit.specs.Replay.{replay}
use Rattle.zed_document.specs.declared.error.DocumentError.{DocumentError}
use Rattle.zed_op.specs.Set.{with_edit}
use Rattle.zed_document.specs.Authoring.{authored, is_spent_for}
use Rattle.zed_document.specs.Replica.{Replica}
use Rattle.zed_action.specs.Deeds.{Authors, InTurn, Made, MayTakeToAuthor, with_edits}
use Rattle.zed_action.specs.Refusals.{refusal_of}
use Rattle.zed_set_words.specs.declared.wishes.Wish.{Wish}
use Rattle.cmd_set.specs.declared.deed.Deed.{Deed}
use Rattle.cmd_set.specs.declared.deed.Deed.TheVariants.{One, Two}
use Rattle.cmd_set.specs.Deeds.{deed_of, kept_in}

-- an op is authored, or two, one after the other
abbrev pub Performs : Replica → ℕ → Deed → Made → Type 0
Performs d replica (One o) made = Authors d replica o made
Performs d replica (Two o n) made = InTurn (Authors d replica o) (λ es. Authors (with_edits es d) replica n) made

-- a deed is performed, or refused in place of it
abbrev pub Does : Replica → ℕ → Result Deed DocumentError → Made → Type 0
Does d replica (Err e) made = made ≡ Err (refusal_of e)
Does d replica (Ok deed) made = Performs d replica deed made

-- a deed may take memory; two edits may as long as a time is left
abbrev pub DeedMayTake : Replica → ℕ → Deed → Type 0
DeedMayTake d replica (One o) = MayTakeToAuthor d replica o
DeedMayTake d replica (Two o n) = is_spent_for d.edits o ≡ false

-- a deed that a wish comes to may take memory; what is refused in its place is nothing that does
abbrev pub AnyMayTake : Replica → ℕ → Result Deed DocumentError → Type 0
AnyMayTake d replica (Err none) = ⊥
AnyMayTake d replica (Ok deed) = DeedMayTake d replica deed

-- a wish may take memory: to keep its bytes, or for what it comes to
abbrev pub WishMayTake : Replica → ℕ → Wish → Type 0
WishMayTake d replica w = (0 < length (kept_in w)) ⊎ AnyMayTake d replica (deed_of (replay d.edits) w)

-- what a wish does to a document, as a replica
abbrev pub Sets : Replica → ℕ → Wish → Made → Type 0
Sets d replica w made = Does d replica (deed_of (replay d.edits) w) made

-- what is left where a deed is refused: all as it was, or of two edits the first
abbrev pub Leaves : Replica → ℕ → Deed → List Edit → Type 0
Leaves d replica (One o) left = left ≡ d.edits
Leaves d replica (Two o n) left = (left ≡ d.edits) ⊎ (left ≡ with_edit (authored d.edits replica o) d.edits)

-- the same of a deed that a wish comes to, or of none
abbrev pub LeavesDeed : Replica → ℕ → Result Deed DocumentError → List Edit → Type 0
LeavesDeed d replica (Err none) left = left ≡ d.edits
LeavesDeed d replica (Ok deed) left = Leaves d replica deed left

-- what is left where a wish is refused
abbrev pub LeavesWish : Replica → ℕ → Wish → List Edit → Type 0
LeavesWish d replica w left = LeavesDeed d replica (deed_of (replay d.edits) w) left
