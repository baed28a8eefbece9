-- A text without a run has no element.
use Rattle.std.proofs.Common.{◌∙◌, refl, ap, sym, subst, [], false, arith}
use Rattle.zed_code.specs.Pieces.{Shown}
use Rattle.zed_texts.specs.Looks.{looks_of}
use Rattle.zed_texts.specs.Texts.{AllGrow, elements_of}
use Rattle.zed_texts.specs.ByName.{add}
use Rattle.zed_texts.proofs.Looks.{add-looks}
use Rattle.zed_texts.proofs.TextElements.{add-elements, add-grow}
use Rattle.zed_texts.proofs.texts.LiveTexts.add_empty.Goals as goal

abbrev empty : Shown
empty = record { cutting = []; visits = 0 }

pub invariant_of-self-2 : goal.invariant_of-self-2
invariant_of-self-2 c = (
  c.add.ensures.sorted,
  sym
      (ap looks_of (c.in_ok-add.ensures.ok ∙ ap (λ x. add c.args.id x c.self.inside.entries.entries) c.new.ensures)
      ∙ add-looks c.args.id empty c.self.inside.entries.entries refl
      ∙ sym c.self.invariant.1),
)

pub returns-clause-ok : goal.returns-clause-ok
returns-clause-ok c =
    ap elements_of (c.in_ok-add.ensures.ok ∙ ap (λ x. add c.args.id x c.self.inside.entries.entries) c.new.ensures ∙ ap (add c.args.id empty) c.self.view_is)
    ∙ add-elements c.args.id empty c.args.self.now

pub returns-clause-runs : goal.returns-clause-runs
returns-clause-runs c =
    subst (AllGrow (λ t. false) c.args.self.now)
    (sym (c.in_ok-add.ensures.ok ∙ ap (λ x. add c.args.id x c.self.inside.entries.entries) c.new.ensures ∙ ap (add c.args.id empty) c.self.view_is))
    (add-grow c.args.id empty c.args.self.now (omega arith, refl))
