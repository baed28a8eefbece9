use Rattle.zed_document.proofs.document.Document.take_new.Goals as goal

pub returns-clause-visits : goal.returns-clause-visits
returns-clause-visits c = c.in_ok-accept.ensures.visits.falls
