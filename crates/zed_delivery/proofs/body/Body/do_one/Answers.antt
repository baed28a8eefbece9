use Rattle.zed_delivery.proofs.BodySteps.{is_done}
use Rattle.zed_delivery.proofs.body.Body.do_one.Goals as goal

pub put_in-requires-clause-fits : goal.put_in-requires-clause-fits
put_in-requires-clause-fits c = (c.bodies_begin_and_end.ensures.ready c.args.edit.now c.args.self.now c.requires.hand c.requires.can).0

pub returns-clause-ok : goal.returns-clause-ok
returns-clause-ok c =
    let ready = c.bodies_begin_and_end.ensures.ready c.args.edit.now c.args.self.now c.requires.hand c.requires.can in
    is_done c.document_shows_its_edits.ensures.takes c.texts_show_their_edits.ensures.takes c.args.edit.now c.args.self.now c.put_in.new.self
    (c.edit_has_sizes.ensures ready.0) c.requires.can c.in_ok-put_in.ensures.ok c.put_in.ensures.inbox
