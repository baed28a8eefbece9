use Rattle.zed_delivery.proofs.HasThings.{content_has, content_can, body_has, body_can}
use Rattle.zed_delivery.proofs.laws.bodies_have_what_is_made.Goals as goal

pub returns-clause-parts : goal.returns-clause-parts
returns-clause-parts c = content_has

pub returns-clause-parts_can : goal.returns-clause-parts_can
returns-clause-parts_can c = content_can

pub returns-clause-body : goal.returns-clause-body
returns-clause-body c = body_has

pub returns-clause-body_can : goal.returns-clause-body_can
returns-clause-body_can c = body_can
