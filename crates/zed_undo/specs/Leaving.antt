-- The edits that are left, and those that need others.
use Rattle.std.specs.Prelude.{ℕ, ◌==◌, Bool, not, ◌&&◌, if◌then◌else◌, List, [], ◌∷◌, filter, Option}
use Rattle.std.specs.List.{find}
use Rattle.zed_op.specs.declared.op.Edit.{Edit}
use Rattle.zed_document.specs.Held.{held_stamps, is_among}

-- edits without those that are marked
abbrev pub left_by : List Bool → List Edit → List Edit
left_by ms [] = []
left_by [] (e ∷ es) = []
left_by (m ∷ ms) (e ∷ es) = if m then left_by ms es else e ∷ left_by ms es

-- edits without those that pass a test
abbrev pub without : (Edit → Bool) → List Edit → List Edit
without gone es = filter (λ e. not (gone e)) es

-- whether an edit of those that are left needs one that isn't: it is held only without that
abbrev pub needs : List Edit → List Edit → Edit → Bool
needs es left e = is_among (held_stamps left) e.stamp && not (is_among (held_stamps es) e.stamp)

-- the first one of another author than this that does
abbrev pub first_needed : List Edit → List Edit → ℕ → Option Edit
first_needed es left replica = find (λ e. needs es left e && not (e.stamp.replica == replica)) left
