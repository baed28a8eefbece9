use Rattle.zed_delivery.proofs.BodySteps.{body_begins, hand_is_ready, body_ends}
use Rattle.zed_delivery.proofs.laws.bodies_begin_and_end.Goals as goal

pub returns-clause-begin : goal.returns-clause-begin
returns-clause-begin c = body_begins

pub returns-clause-ready : goal.returns-clause-ready
returns-clause-ready c = hand_is_ready c.texts_are_ready.ensures

pub returns-clause-end : goal.returns-clause-end
returns-clause-end c = body_ends
