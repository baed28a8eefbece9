use Rattle.std.proofs.Common.{◌≡◌, ◌∙◌, Some, sym, subst}
use Rattle.zed_history.specs.Finding.{edit_with}
use Rattle.zed_system.proofs.Gathered.{known}
use Rattle.zed_system.proofs.loss.gather.Goals as goal

pub returns-in-Some : goal.returns-in-Some
returns-in-Some c =
    let same = c.seek.ensures in
    let found = subst (λ es. edit_with c.args.edit.stamp es ≡ Some c.in-Some.field-0.now) same c.in-Some.ensures.some in
    same ∙ sym (known c.args.edit c.in-Some.field-0.now c.args.history.now c.requires found)
