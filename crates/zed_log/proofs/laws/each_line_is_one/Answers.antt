use Rattle.zed_log.proofs.Printed.{one_line}
use Rattle.zed_log.proofs.laws.each_line_is_one.Goals as goal

pub returns : goal.returns
returns c = one_line
