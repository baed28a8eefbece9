use Rattle.zed_files.proofs.Deliveries.{begun_first, begun_none}
use Rattle.zed_files.proofs.gathering.feed_for.Goals as goal

pub returns-in-None-clause-first : goal.returns-in-None-clause-first
returns-in-None-clause-first c = λ none.
    begun_first c.world_ahead.result c.args.bytes.now c.begun.result c.begun.ensures.world c.begun.ensures.nothing c.world_ahead.ensures.some

pub returns-in-None-clause-none : goal.returns-in-None-clause-none
returns-in-None-clause-none c =
    begun_none c.world_ahead.result c.args.bytes.now c.args.feed c.begun.result c.in-None.is c.begun.ensures.world c.world_ahead.ensures.none
