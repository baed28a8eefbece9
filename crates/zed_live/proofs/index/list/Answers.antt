use Rattle.std.proofs.Common.{subst}
use Rattle.zed_live.specs.Listed.{StayListed}
use Rattle.zed_live.proofs.index.list.Goals as goal

pub returns-clause-kept : goal.returns-clause-kept
returns-clause-kept c = subst (λ o. StayListed o c.put.new.pairs.keys) c.homes.view_is c.put.ensures.kept
