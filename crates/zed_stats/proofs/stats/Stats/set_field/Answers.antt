use Rattle.std.proofs.Common.{◌≡◌, ◌∙◌, IsSorted, ap, sym, subst, is_some}
use Rattle.indexmap.proofs.CallerLemmas.{keys-with_value_at}
use Rattle.zed_stats.specs.Fields as fields
use Rattle.zed_stats.specs.Stats.{stat_name, stat_cmp, change}
use Rattle.zed_stats.proofs.Changed.{changed, change-none}
use Rattle.zed_stats.proofs.stats.Stats.set_field.Goals as goal

pub invariant_of-self : goal.invariant_of-self
invariant_of-self c =
    subst (IsSorted stat_cmp) (sym (keys-with_value_at c.self.inside.entries c.in-Some.i c.write.new.self)) c.self.invariant

pub returns-in-Some-get_index_mut : goal.returns-in-Some-get_index_mut
returns-in-Some-get_index_mut c =
    changed stat_name c.args.id (fields.write c.args.stamp c.args.setting) c.self.inside.entries.entries c.in-Some.i c.in-Some-get_index_mut.stat.now c.write.new.self c.in-Some.ensures.index c.in-Some-get_index_mut.ensures.value c.write.ensures
    ∙ ap (change c.args.id (fields.write c.args.stamp c.args.setting)) c.self.view_is

pub returns-in_default : goal.returns-in_default
returns-in_default c =
    let none = sym c.seek.ensures.found ∙ ap is_some c.in_default.is in
    subst (λ es. es ≡ change c.args.id (fields.write c.args.stamp c.args.setting) es) c.self.view_is (change-none stat_name c.args.id (fields.write c.args.stamp c.args.setting) c.self.inside.entries.entries none)
