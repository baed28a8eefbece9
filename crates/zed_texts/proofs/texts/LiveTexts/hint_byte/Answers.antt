use Rattle.std.proofs.Common.{◌∙◌, IsSorted, ap, sym, subst}
use Rattle.indexmap.proofs.CallerLemmas.{keys-with_value_at}
use Rattle.indexmap.specs.IndexMap.{set_value_at}
use Rattle.zed_texts.specs.Looks.{looks_of}
use Rattle.zed_texts.specs.ByName.{text_cmp, text_name}
use Rattle.zed_stats.proofs.Changed.{unchanged}
use Rattle.zed_texts.proofs.texts.LiveTexts.hint_byte.Goals as goal

pub invariant_of-self : goal.invariant_of-self
invariant_of-self c = (
  subst (IsSorted text_cmp) (sym (keys-with_value_at c.self.inside.entries c.in-Some.i c.hint.new.self)) c.self.invariant.0,
  c.self.invariant.1 ∙ ap looks_of (sym (ap (set_value_at c.self.inside.entries.entries c.in-Some.i) c.hint.ensures ∙ unchanged text_name c.self.inside.entries.entries c.in-Some.i c.in-Some-get_index_mut.text.now (sym c.in-Some-get_index_mut.ensures.value))),
)

pub returns-in-Some-get_index_mut : goal.returns-in-Some-get_index_mut
returns-in-Some-get_index_mut c =
    ap (set_value_at c.self.inside.entries.entries c.in-Some.i) c.hint.ensures ∙ unchanged text_name c.self.inside.entries.entries c.in-Some.i c.in-Some-get_index_mut.text.now (sym c.in-Some-get_index_mut.ensures.value) ∙ c.self.view_is
