use Rattle.std.proofs.Common.{ℕ, List, subst}
use Rattle.zed_types.specs.declared.names.ElemId.{ElemId}
use Rattle.zed_code.specs.Kept.{IsOne}
use Rattle.zed_code.proofs.Entries.{adds-one}
use Rattle.zed_code.proofs.hints.set_hint.Goals as goal

pub returns-in-Ok-clause-hints : goal.returns-in-Ok-clause-hints
returns-in-Ok-clause-hints c hint one =
    let P : List (ElemId × ℕ) → Type 0 = λ es. IsOne es hint in
    adds-one c.args.id c.args.number hint c.args.hints.now.entries (subst P c.in-Ok.ensures.entries one)
