-- How much edits change of a board.
use Rattle.std.proofs.Common.{◌≡◌, ℕ, ◌+◌, List, count_by, filter, length, refl, sum_by}
use Rattle.zed_types.specs.declared.names.BoardId.{BoardId}
use Rattle.zed_op.specs.declared.op.Edit.{Edit}
use Rattle.zed_edit.specs.declared.plain.Board.{Board}
use Rattle.cmd_take.specs.declared.changes.Counts.{Counts}
use Rattle.cmd_take.specs.Changes.{adds_stat, cells_set, counts, is_changed, is_reprogrammed, sets_property}

abbrev pub counts_as : ℕ → ℕ → ℕ → ℕ → Counts
counts_as cells properties stats programs = record { cells = cells; properties = properties; stats = stats; programs = programs }

-- the counts of a board of this name
pub counted_so : (b : Board) (es : List Edit) (id : BoardId) (cells properties added changed stats programs : ℕ)
    → stats ≡ added + changed → added ≡ count_by (λ e. adds_stat id e.op) es → changed ≡ length (filter (is_changed es) b.stats)
    → cells ≡ sum_by (λ e. cells_set id e.op) es → properties ≡ count_by (λ e. sets_property id e.op) es
    → programs ≡ length (filter (is_reprogrammed es) b.stats) → id ≡ b.id
    → counts_as cells properties stats programs ≡ counts b es
unfolding counts
counted_so b es id cells properties added changed stats programs all added_is changed_is cells_are properties_are programs_are named =
    rw (all, added_is, changed_is, cells_are, properties_are, programs_are, named) refl
