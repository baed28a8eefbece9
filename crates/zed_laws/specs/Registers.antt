-- What edits write into registers, and what is kept of it.
use Rattle.std.specs.Prelude.{◌≡◌, ℤ, pos, slice_index_or, List, ◌∷◌, ◌++◌, filter_map, Option, Some, None, option_map}
use Rattle.zed_types.specs.declared.stamp.Stamp.{Stamp}
use Rattle.zed_types.specs.declared.written.Written.{Written}
use Rattle.zed_types.specs.Register.{keep_later, latest_of, written_at}
use Rattle.zed_types.specs.declared.header.HeaderNumber.{HeaderNumber}
use Rattle.zed_types.specs.Header.{header_number_index}
use Rattle.zed_op.specs.declared.op.Edit.{Edit}
use Rattle.zed_edit.specs.declared.plain.Header.{Header}
use Rattle.zed_op.specs.Set.{IsRising}

-- what edits write into a register, each write with its stamp
abbrev pub writes_of : {V : Type 0} → (Edit → Option V) → List Edit → List (Written V)
writes_of writes es = filter_map (λ e. option_map (written_at e.stamp) (writes e)) es

-- the value that stands after an edit that writes or doesn't
abbrev pub overwritten : {V : Type 0} → V → Option V → V
overwritten v None = v
overwritten v (Some w) = w

-- what is kept after an edit that writes or doesn't
abbrev pub kept_after : {V : Type 0} → Stamp → Option (Written V) → Option V → Option (Written V)
kept_after s kept None = kept
kept_after s kept (Some v) = keep_later kept (written_at s v)

-- a late write stands where it is later than what is kept
abbrev pub LateWriteIsCompared : Type 0 → Type 0
LateWriteIsCompared V =
    (writes : Edit → Option V) (e : Edit) (low high : List Edit)
    → IsRising (low ++ e ∷ high)
    → latest_of None (writes_of writes (low ++ e ∷ high)) ≡ kept_after e.stamp (latest_of None (writes_of writes (low ++ high))) (writes e)

-- a number of the header
abbrev pub header_number : HeaderNumber → Header → ℤ
header_number f h = slice_index_or h.numbers (header_number_index f) (pos 0)
