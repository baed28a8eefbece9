use Rattle.std.proofs.Common.{ap, ◌∙◌}
use Rattle.std.specs.BTreeMap.{is_at}
use Rattle.std.specs.List.{find}
use Rattle.std.specs.Map.{lookup, values_of}
use Rattle.zed_types.specs.Stamp.{stamp_cmp}
use Rattle.zed_inbox.specs.Waiting.{without}
use Rattle.zed_inbox.proofs.Stamped.{has_stamp, lookup_stamped}
use Rattle.zed_inbox.proofs.Whole.{edits_less, whole_less}
use Rattle.zed_inbox.proofs.inbox.Inbox.take.Goals as goal

pub returns-in-Some-clause-result : goal.returns-in-Some-clause-result
returns-in-Some-clause-result c =
    let s = c.args.stamp in
    c.in-Some.ensures.value ∙ ap (lookup (is_at (stamp_cmp s))) c.self.invariant.under ∙ lookup_stamped s (values_of c.self.inside.edits.entries) ∙ ap (find (has_stamp s)) c.self.view_is

pub returns-in-Some-clause-others : goal.returns-in-Some-clause-others
returns-in-Some-clause-others c =
    edits_less c.self.inside.edits.entries c.remove.new.self.entries c.self.inside.waits.keys c.self.inside.waits.keys c.self.invariant c.args.stamp c.remove.ensures.entries ∙ ap (without c.args.stamp) c.self.view_is

pub returns-in-None-clause-result : goal.returns-in-None-clause-result
returns-in-None-clause-result c =
    let s = c.args.stamp in
    c.in-None.ensures.value ∙ ap (lookup (is_at (stamp_cmp s))) c.self.invariant.under ∙ lookup_stamped s (values_of c.self.inside.edits.entries) ∙ ap (find (has_stamp s)) c.self.view_is

pub returns-in-None-clause-others : goal.returns-in-None-clause-others
returns-in-None-clause-others c =
    edits_less c.self.inside.edits.entries c.remove.new.self.entries c.self.inside.waits.keys c.self.inside.waits.keys c.self.invariant c.args.stamp c.remove.ensures.entries ∙ ap (without c.args.stamp) c.self.view_is

pub invariant_of-self : goal.invariant_of-self
invariant_of-self c =
    whole_less c.self.inside.edits.entries c.remove.new.self.entries c.self.inside.waits.keys c.unlist.new.waits.keys c.self.invariant c.args.stamp c.remove.ensures.entries c.remove.result c.in-Some.edit
    c.remove.ensures.value c.in-Some.is c.unlist.ensures
