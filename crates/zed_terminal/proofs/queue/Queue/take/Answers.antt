use Rattle.zed_terminal.proofs.Queued.{got, missed, takes_kept, takes_typed}
use Rattle.zed_terminal.proofs.queue.Queue.take.Goals as goal

pub returns-in-Some-clause-ok : goal.returns-in-Some-clause-ok
returns-in-Some-clause-ok g c =
    let kept = c.args.self.now.kept.items in
    let taken = c.args.self.now.taken in
    let key = c.in-Some.kept.now in
    let there = c.in-Some.ensures.lookup.3 in
    takes_kept kept taken key (g.I.Inputs.left c.args.self.now.source) (got kept c.deref.result.now taken key c.deref.ensures.value there.0 (there.1 key))

pub returns-clause-ok : goal.returns-clause-ok
returns-clause-ok g c =
    let kept = c.args.self.now.kept.items in
    let taken = c.args.self.now.taken in
    takes_typed kept taken c.in_ok-typed.typed (g.I.Inputs.left c.args.self.now.source) (g.I.Inputs.left c.next.new.self)
    (missed kept c.deref.result.now taken c.deref.ensures.value c.in_default.ensures.lookup.0) c.in_ok-typed.ensures.ok
