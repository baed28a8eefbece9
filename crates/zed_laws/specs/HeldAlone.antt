-- An edit that can't be done at its place changes nothing but which edits are held.
use Rattle.std.specs.Prelude.{◌≡◌, false, List, ◌∷◌, ◌++◌}
use Rattle.zed_op.specs.declared.op.Edit.{Edit}
use Rattle.zed_op.specs.Set.{IsRising, with_edit}
use Rattle.zed_edit.specs.Document.{HaveSameContent}
use Rattle.zed_edit.specs.Replay.{can, replay, taken, held}

-- the content is what it would be without the edit
abbrev pub HeldChangesNothing : Type 0
HeldChangesNothing =
    (e : Edit) (low high : List Edit)
    → can (replay low) e ≡ false
    → HaveSameContent (replay (low ++ e ∷ high)) (replay (low ++ high))

-- the other edits are taken or not as they would be
abbrev pub HeldTakesNothing : Type 0
HeldTakesNothing =
    (e : Edit) (low high : List Edit)
    → can (replay low) e ≡ false
    → taken (low ++ e ∷ high) ≡ taken (low ++ high)

-- and it is one more of those held, at its place among them
abbrev pub HeldIsOneMore : Type 0
HeldIsOneMore =
    (e : Edit) (low high : List Edit)
    → IsRising (low ++ e ∷ high)
    → can (replay low) e ≡ false
    → held (low ++ e ∷ high) ≡ with_edit e (held (low ++ high))
