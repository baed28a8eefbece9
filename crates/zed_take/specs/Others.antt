-- What becomes of what others made: a register that no new edit writes is as it was.
use Rattle.std.specs.Prelude.{◌≡◌, ℕ, List, None}
use Rattle.std.specs.List.{AllByRecursion}
use Rattle.zed_op.specs.declared.op.Edit.{Edit}
use Rattle.zed_op.specs.Set.{IsRising, union}
use Rattle.zed_op.specs.Sizes.{HaveSizes}
use Rattle.zed_edit.specs.Replay.{replay}
use Rattle.zed_laws.specs.Winners.{Register}
use Rattle.zed_take.specs.Taken.{AreFrom, next_stamp}

-- no edit writes into a register
abbrev pub WriteNone : {V : Type 0} → Register V → List Edit → Type 0
WriteNone r edits = AllByRecursion (λ e. r.writes e ≡ None) edits

-- where edits with the next stamps write nothing into a register of a document, it shows there what it showed without them
abbrev pub StaysUnwritten : {V : Type 0} → Register V → Type 0
StaysUnwritten r =
    (es edits : List Edit) (replica : ℕ)
    → IsRising es
    → HaveSizes (union es edits)
    → AreFrom (next_stamp es replica) edits
    → WriteNone r edits
    → r.read (replay (union es edits)) ≡ r.read (replay es)
