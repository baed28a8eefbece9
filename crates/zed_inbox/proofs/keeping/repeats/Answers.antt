use Rattle.std.proofs.Common.{sym, ◌∙◌}
use Rattle.std.specs.Map.{values_of}
use Rattle.zed_inbox.proofs.Stamped.{with_edit_there}
use Rattle.zed_inbox.proofs.keeping.repeats.Goals as goal

pub returns-clause-kept : goal.returns-clause-kept
returns-clause-kept c =
    λ there. sym (with_edit_there c.args.edit.now (values_of c.args.edits.now.entries) c.requires.rising (sym c.has.ensures ∙ there))
