-- How many edits only one of two sets has.
use Rattle.std.proofs.Common.{◌≡◌, List, length, not, sym}
use Rattle.std.specs.Prelude.{count_by}
use Rattle.std.proofs.lemmas.List.Sums.{length-filter}
use Rattle.zed_op.specs.declared.op.Edit.{Edit}
use Rattle.zed_sides.specs.Sides.{knows, own}

pub own_counted : (es fs : List Edit) → count_by (λ e. not (knows fs e)) es ≡ length (own es fs)
own_counted es fs = sym (length-filter (λ e. not (knows fs e)) es)
