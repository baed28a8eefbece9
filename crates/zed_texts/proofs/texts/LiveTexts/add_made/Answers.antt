use Rattle.std.proofs.Common.{◌∙◌, ap, sym, subst, false}
use Rattle.zed_texts.specs.Looks.{looks_of}
use Rattle.zed_texts.specs.Texts.{AllGrow, elements_of}
use Rattle.zed_texts.specs.ByName.{add_all}
use Rattle.zed_texts.proofs.Looks.{add_all-looks}
use Rattle.zed_texts.proofs.TextElements.{add_all-elements, add_all-grow}
use Rattle.zed_texts.proofs.texts.LiveTexts.add_made.Goals as goal

pub invariant_of-self-2 : goal.invariant_of-self-2
invariant_of-self-2 c = (
  c.add_each.ensures.sorted,
  sym
      (ap looks_of (c.add_each.ensures.entries ∙ ap (add_all c.in_ok-made.made.items) c.reserve.ensures.entries)
      ∙ add_all-looks c.in_ok-made.made.items c.self.inside.entries.entries c.in_ok-made.ensures.unworked
      ∙ sym c.self.invariant.1),
)

pub returns-clause-ok : goal.returns-clause-ok
returns-clause-ok c =
    ap elements_of (c.add_each.ensures.entries ∙ ap (add_all c.in_ok-made.made.items) (c.reserve.ensures.entries ∙ c.self.view_is))
    ∙ add_all-elements c.in_ok-made.made.items c.args.self.now ∙ ap (λ xs. add_all xs (elements_of c.args.self.now)) c.in_ok-made.ensures.ok

pub returns-clause-runs : goal.returns-clause-runs
returns-clause-runs c =
    subst (AllGrow (λ t. false) c.args.self.now)
    (sym (c.add_each.ensures.entries ∙ ap (add_all c.in_ok-made.made.items) (c.reserve.ensures.entries ∙ c.self.view_is)))
    (add_all-grow c.in_ok-made.made.items c.args.self.now c.in_ok-made.ensures.unworked)
