use Rattle.std.proofs.Common.{rules, append_assoc}
use Rattle.std.proofs.lemmas.Result.{IfOk-equal}
use Rattle.zed_log.specs.Line.{stat_bytes}
use Rattle.zed_log.proofs.settings.put_stat_bytes.Goals as goal

pub returns : goal.returns
unfolding stat_bytes
returns c = search (rules, IfOk-equal, append_assoc)
