use Rattle.std.proofs.Common.{rules, ◌≡◌, [], sym, ap, ◌∙◌}
use Rattle.std.proofs.lemmas.List.{nil_from_length}
use Rattle.zed_code.specs.Text.{elements}
use Rattle.zed_code.proofs.PutBytes.{put_late-nothing}
use Rattle.zed_code.proofs.text.Text.insert.Goals as goal

pub returns-then-is_empty-clause-ok : goal.returns-then-is_empty-clause-ok
returns-then-is_empty-clause-ok c =
    let empty : c.args.bytes.now ≡ [] = nil_from_length c.args.bytes.now (search rules) in
    rw empty (ap elements c.self.view_is ∙ sym (put_late-nothing c.args.after c.args.stamp (elements c.args.self.now)))
