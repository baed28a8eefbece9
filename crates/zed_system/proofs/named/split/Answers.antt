use Rattle.zed_system.proofs.Names.{last_slash, no_slash}
use Rattle.zed_system.proofs.named.split.Goals as goal

pub returns-in-Some : goal.returns-in-Some
returns-in-Some c =
    let at = c.in-Some.ensures.cases in
    rw (c.split_at.ensures.front, c.split_at.ensures.back) (last_slash c.args.path.now c.in-Some.slash at.0 at.1)

pub returns-in-None : goal.returns-in-None
returns-in-None c = no_slash c.args.path.now c.in-None.ensures.cases
