use Rattle.std.proofs.Common.{◌∙◌}
use Rattle.zed_document.proofs.document.Document.has_all_of.Goals as goal

pub returns : goal.returns
returns c =
    c.can.ensures ∙ c.bodies_have_what_is_made.ensures.body_can c.args.self.now.edits c.body.result.now c.args.edit.now c.body.ensures.rising c.body.ensures.shows
