-- The times of edits, and those that are left for more.
use Rattle.std.specs.Prelude.{ℕ, ◌+◌, max, nat_lt, Bool, List, [], ◌∷◌}
use Rattle.zed_types.specs.Limits.{last_time}
use Rattle.zed_op.specs.declared.op.Edit.{Edit}

-- the greatest time of some edits, 0 where there is none
abbrev pub greatest_time : List Edit → ℕ
greatest_time [] = 0
greatest_time (e ∷ es) = max e.stamp.time (greatest_time es)

-- the time of the next edit: one more than the greatest, and at least 2
abbrev pub next_time : List Edit → ℕ
next_time es = max 2 (greatest_time es + 1)

-- whether fewer times are left than so many edits need
abbrev pub is_spent : List Edit → ℕ → Bool
is_spent es count = nat_lt (last_time + 1) (next_time es + count)
