-- The text of the name is found by its place, and written back there.
use Rattle.std.proofs.Common.{◌≡◌, ◌∙◌, ◌+◌, true, min, IsSorted, ap, sym, subst, is_some}
use Rattle.std.specs.Option.{option_map}
use Rattle.indexmap.proofs.CallerLemmas.{keys-with_value_at}
use Rattle.indexmap.specs.IndexMap.{set_value_at}
use Rattle.zed_types.specs.Text.{run_from, put_late}
use Rattle.zed_code.specs.Text.{elements, StandsAfter, IsNewStamp}
use Rattle.zed_types.specs.Names.{same_text}
use Rattle.zed_texts.specs.Looks.{greatest_sum, looks_of}
use Rattle.zed_texts.specs.ByName.{text_cmp, text_name, change, text_in}
use Rattle.zed_texts.specs.Texts.{Texts, elements_of, elements_or_none, AllGrow}
use Rattle.zed_stats.proofs.Changed.{unchanged}
use Rattle.zed_texts.proofs.Answered.{any_err}
use Rattle.zed_texts.proofs.Looks.{looks-rise}
use Rattle.zed_texts.proofs.TextElements.{elements-at, found-at, in-elements, changed-elements, changed-grow, none-elements, none-grow}
use Rattle.zed_texts.proofs.texts.LiveTexts.insert.Goals as goal

pub put_into-requires-clause-there : goal.put_into-requires-clause-there
put_into-requires-clause-there c =
    let here = elements-at c.args.id c.self.inside.entries.entries c.in-Some.i c.in-Some-get_index_mut.text.now c.in-Some.ensures.index c.in-Some-get_index_mut.ensures.value in
    subst (StandsAfter c.args.after c.args.stamp) (ap (λ ys. elements_or_none (text_in c.args.id (elements_of ys))) (sym c.self.view_is) ∙ here) c.requires.there

pub put_into-requires-clause-new : goal.put_into-requires-clause-new
put_into-requires-clause-new c =
    let here = elements-at c.args.id c.self.inside.entries.entries c.in-Some.i c.in-Some-get_index_mut.text.now c.in-Some.ensures.index c.in-Some-get_index_mut.ensures.value in
    subst (IsNewStamp c.args.stamp) (ap (λ ys. elements_or_none (text_in c.args.id (elements_of ys))) (sym c.self.view_is) ∙ here) c.requires.new

pub invariant_of-self : goal.invariant_of-self
invariant_of-self c = (
  subst (IsSorted text_cmp) (sym (keys-with_value_at c.self.inside.entries c.in-Some.i c.put_into.new.text)) c.self.invariant.0,
  c.self.invariant.1 ∙ ap looks_of (sym (ap (set_value_at c.self.inside.entries.entries c.in-Some.i) c.in_err-looked.ensures.kept ∙ unchanged text_name c.self.inside.entries.entries c.in-Some.i c.in-Some-get_index_mut.text.now (sym c.in-Some-get_index_mut.ensures.value))),
)

pub invariant_of-self-in-Some-get_index_mut : goal.invariant_of-self-in-Some-get_index_mut
invariant_of-self-in-Some-get_index_mut c = (
  subst (IsSorted text_cmp) (sym (keys-with_value_at c.self.inside.entries c.in-Some.i c.put_into.new.text)) c.self.invariant.0,
  c.saturating_add-self-inside.ensures
      ∙ ap (λ n. min (c.self.inside.looks + n) greatest_sum) c.from.ensures
      ∙ ap (λ n. min (n + c.in_ok-looked.looked) greatest_sum) c.self.invariant.1
      ∙ looks-rise c.self.inside.entries.entries c.in-Some.i c.in_ok-looked.looked c.in-Some-get_index_mut.text.now c.put_into.new.text c.in-Some-get_index_mut.ensures.value c.in_ok-looked.ensures.visits,
)

pub returns-in_err-looked-clause-kept : goal.returns-in_err-looked-clause-kept
returns-in_err-looked-clause-kept c =
    any_err c.from_residual.result
    (ap (set_value_at c.self.inside.entries.entries c.in-Some.i) c.in_err-looked.ensures.kept ∙ unchanged text_name c.self.inside.entries.entries c.in-Some.i c.in-Some-get_index_mut.text.now (sym c.in-Some-get_index_mut.ensures.value) ∙ c.self.view_is)

pub returns-in-Some-get_index_mut-clause-ok : goal.returns-in-Some-get_index_mut-clause-ok
returns-in-Some-get_index_mut-clause-ok c =
    let f = put_late c.args.after c.args.stamp (run_from c.args.stamp 0 c.args.bytes.now) in
    changed-elements c.args.id f c.self.inside.entries.entries c.in-Some.i c.in-Some-get_index_mut.text.now c.put_into.new.text c.in-Some.ensures.index c.in-Some-get_index_mut.ensures.value c.in_ok-looked.ensures.ok
    ∙ ap (λ ys. change c.args.id f (elements_of ys)) c.self.view_is

pub returns-in-Some-get_index_mut-clause-runs : goal.returns-in-Some-get_index_mut-clause-runs
returns-in-Some-get_index_mut-clause-runs c =
    subst (λ ys. AllGrow (λ t. same_text c.args.id t) ys (set_value_at c.self.inside.entries.entries c.in-Some.i c.put_into.new.text)) c.self.view_is
    (changed-grow c.args.id c.self.inside.entries.entries c.in-Some.i c.in-Some-get_index_mut.text.now c.put_into.new.text c.in-Some.ensures.index c.in-Some-get_index_mut.ensures.value c.in_ok-looked.ensures.runs)

pub returns-in_default-clause-ok : goal.returns-in_default-clause-ok
returns-in_default-clause-ok c =
    let f = put_late c.args.after c.args.stamp (run_from c.args.stamp 0 c.args.bytes.now) in
    let none = sym c.seek.ensures.found ∙ ap is_some c.in_default.is in
    subst (λ ys. elements_of ys ≡ change c.args.id f (elements_of ys)) c.self.view_is (none-elements c.args.id f c.self.inside.entries.entries none)

pub returns-in_default-clause-runs : goal.returns-in_default-clause-runs
returns-in_default-clause-runs c =
    let none = sym c.seek.ensures.found ∙ ap is_some c.in_default.is in
    subst (λ (ys : Texts). AllGrow (λ t. same_text c.args.id t) ys ys) c.self.view_is (none-grow c.args.id c.self.inside.entries.entries none)

pub returns-in_err-looked-clause-memory_only_when : goal.returns-in_err-looked-clause-memory_only_when
returns-in_err-looked-clause-memory_only_when c =
    let ys = c.self.inside.entries.entries in
    let found =
    found-at c.args.id ys c.in-Some.i c.in-Some-get_index_mut.text.now c.in-Some.ensures.index c.in-Some-get_index_mut.ensures.value in
    let there : is_some (text_in c.args.id (elements_of ys)) ≡ true =
    ap is_some (in-elements c.args.id ys ∙ ap (option_map elements) found) in
    any_err c.from_residual.result (subst (λ zs. is_some (text_in c.args.id (elements_of zs)) ≡ true) c.self.view_is there, c.in_err-looked.ensures.memory_only_when)
