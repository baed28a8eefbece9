use Rattle.std.proofs.Common.{[]}
use Rattle.zed_delivery.proofs.ManyArrive.{all_come_to_none}
use Rattle.zed_delivery.proofs.body.Body.of.Goals as goal

pub take_all-requires-clause-new : goal.take_all-requires-clause-new
take_all-requires-clause-new c =
    let e = c.new-body.ensures in
    ([], all_come_to_none c.empty_bodies_show_none.ensures c.args.edits.now c.new-body.result (e.live, e.texts, e.inbox) c.requires.apart)

pub returns-clause-ok : goal.returns-clause-ok
returns-clause-ok c =
    let e = c.new-body.ensures in
    c.in_ok-take_all.ensures.ok [] (all_come_to_none c.empty_bodies_show_none.ensures c.args.edits.now c.new-body.result (e.live, e.texts, e.inbox) c.requires.apart)
