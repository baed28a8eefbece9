use Rattle.std.proofs.Common.{◌≡◌, ◌-◌, length, ap, sym, ◌∙◌, arith}
use Rattle.zed_op.specs.declared.op.Edit.{Edit}
use Rattle.zed_history.specs.Clock.{greatest_time}
use Rattle.zed_history.proofs.Times.{greatest-last}
use Rattle.zed_history.proofs.clock.last_time.Goals as goal

pub returns-else-count-eq0 : goal.returns-else-count-eq0
returns-else-count-eq0 c =
    let g : greatest_time c.args.edits.now ≡ c.index-edits-count.result.stamp.time = greatest-last c.args.edits.now (length c.args.edits.now - 1) c.index-edits-count.result c.requires (omega arith) c.index-edits-count.is in
    ap (λ (e : Edit). e.stamp.time) (sym c.index-edits-count.is) ∙ sym g
