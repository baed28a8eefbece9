use Rattle.zed_editfile.proofs.Edits.{edit_takes}
use Rattle.zed_editfile.proofs.laws.one_spelling.Goals as goal

pub returns-clause-found : goal.returns-clause-found
returns-clause-found c = λ v e h. edit_takes v c.args.body.now e (λ i. (c.type_inv.body i).fits) h
