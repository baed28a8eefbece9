use Rattle.std.proofs.Common.{◌≡◌, ◌∙◌}
use Rattle.zed_editfile.specs.Spelling.{file_text}
use Rattle.zed_session.proofs.session.Session.push.Goals as goal

-- the link took the file
pub returns-in-Ok-clause-ok : goal.returns-in-Ok-clause-ok
returns-in-Ok-clause-ok g c =
    let d = c.args.self.now.document in
    let text : c.as_slice.result.now ≡ file_text d.world d.edits = c.as_slice.ensures.value ∙ c.in_ok-file.ensures.ok in
    rw text at c.in-Ok.ensures.ok

pub returns-in-Ok-clause-wrote : goal.returns-in-Ok-clause-wrote
returns-in-Ok-clause-wrote g c =
    let d = c.args.self.now.document in
    let text : c.as_slice.result.now ≡ file_text d.world d.edits = c.as_slice.ensures.value ∙ c.in_ok-file.ensures.ok in
    rw text at c.in-Ok.ensures.wrote
