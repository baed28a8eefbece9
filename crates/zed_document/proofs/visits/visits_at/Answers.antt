use Rattle.std.proofs.Common.{◌≡◌, ◌∙◌, Some, None, rules, ap, sym}
use Rattle.zed_texts.specs.ByName.{text_in}
use Rattle.zed_document.proofs.Looks.{count-is, looks}
use Rattle.zed_document.proofs.visits.visits_at.Goals as goal

pub returns-in-Some : goal.returns-in-Some
returns-in-Some c =
    let there : Some c.in-Some.text.now ≡ text_in c.args.text c.args.texts.now = search rules in
    c.visits.ensures ∙ ap looks there ∙ sym (count-is c.args.text c.args.texts.now)

pub returns-in-None : goal.returns-in-None
returns-in-None c =
    let none : None ≡ text_in c.args.text c.args.texts.now = search rules in
    ap looks none ∙ sym (count-is c.args.text c.args.texts.now)
