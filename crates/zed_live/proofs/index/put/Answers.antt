use Rattle.zed_live.proofs.Kept.{now_listed, stay_with}
use Rattle.zed_live.proofs.index.put.Goals as goal

pub returns-clause-ok : goal.returns-clause-ok
returns-clause-ok c = now_listed c.args.stat c.args.board c.args.pairs.now.keys c.insert.new.self.keys c.in_ok-insert.ensures.updates.0

pub returns-clause-kept : goal.returns-clause-kept
returns-clause-kept c = stay_with c.args.stat c.args.board c.args.pairs.now.keys c.insert.new.self.keys c.in_ok-insert.ensures.updates.0
