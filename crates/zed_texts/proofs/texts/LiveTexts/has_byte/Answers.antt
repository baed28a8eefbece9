use Rattle.std.proofs.Common.{◌≡◌, ◌∙◌, Some, sym, ap, rules}
use Rattle.std.specs.List.{list_any}
use Rattle.zed_types.specs.Names.{same_element}
use Rattle.zed_texts.specs.ByName.{text_in}
use Rattle.zed_texts.proofs.TextElements.{of_some_text}
use Rattle.zed_texts.proofs.texts.LiveTexts.has_byte.Goals as goal

pub returns-in-Some : goal.returns-in-Some
returns-in-Some c =
    let there : text_in c.args.id c.args.self.now ≡ Some c.in-Some.text.now = search rules in
    c.has.ensures ∙ ap (list_any (λ x. same_element x.id c.args.byte)) (sym (of_some_text c.args.id c.args.self.now c.in-Some.text.now there))
