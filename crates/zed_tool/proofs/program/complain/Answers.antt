use Rattle.std.proofs.Common.{is_err}
use Rattle.zed_host.proofs.Counts.{counted_up}
use Rattle.zed_tool.proofs.Endings.{complained}
use Rattle.zed_tool.proofs.program.complain.Goals as goal

pub returns : goal.returns
returns g c = record {
  told = λ t at. complained c.complain.result _ _ c.args.text.now t _ _ at (rw at at c.complain.ensures.complained) c.complain.ensures.half c.complain.ensures.faults;
  asked = (is_err c.complain.result, c.complain.ensures.asked);
  failures = (counted_up _ _ _ c.complain.ensures.faults, counted_up _ _ _ c.complain.ensures.failures);
}
