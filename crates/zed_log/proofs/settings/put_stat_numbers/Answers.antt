use Rattle.std.proofs.Common.{rules, append_assoc}
use Rattle.std.proofs.lemmas.Result.{IfOk-equal}
use Rattle.zed_log.specs.Line.{stat_numbers}
use Rattle.zed_log.proofs.settings.put_stat_numbers.Goals as goal

pub returns : goal.returns
unfolding stat_numbers
returns c = search (rules, IfOk-equal, append_assoc)
