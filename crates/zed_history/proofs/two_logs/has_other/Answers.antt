use Rattle.std.proofs.Common.{◌≡◌, false, Some, None, sym, ◌∙◌}
use Rattle.std.specs.Prelude.{slice_get}
use Rattle.zed_types.specs.Stamp.{same_stamp}
use Rattle.zed_history.specs.Finding.{edit_with}
use Rattle.zed_history.proofs.Clashing.{none-begun-by}
use Rattle.zed_history.proofs.two_logs.has_other.Goals as goal

pub returns-else-eq-clause-no : goal.returns-else-eq-clause-no
returns-else-eq-clause-no c =
    let g : slice_get c.args.log.now 0 ≡ Some c.in-Some.first.now = sym (c.in-Some.ensures.value) in
    let other : same_stamp c.in-Some.first.now.stamp c.args.edit.now.stamp ≡ false = sym c.eq.ensures ∙ c.if-eq.false in
    let none : edit_with c.args.edit.now.stamp c.args.log.now ≡ None =
    none-begun-by c.args.edit.now.stamp c.args.log.now c.in-Some.first.now c.requires.rising c.requires.above g other in
    let f = c.if-eq.false in rw (f, none) tt
