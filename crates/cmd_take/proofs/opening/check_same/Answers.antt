use Rattle.std.proofs.Common.{◌≡◌, Err, ap, inl, inr}
use Rattle.std.proofs.lemmas.Result.{err_from_is_err_and}
use Rattle.cmd_take.specs.Opening.{IsSaved}
use Rattle.cmd_take.proofs.Comparing.{other_world, same_world, unsaved_gives}
use Rattle.cmd_take.proofs.opening.check_same.Goals as goal

pub returns-in_err-file-clause-same : goal.returns-in_err-file-clause-same
returns-in_err-file-clause-same c =
    let p = err_from_is_err_and c.from_residual.result c.from_residual.ensures.1 in
    let same : p.0 ≡ c.in_err-file.field-0.0 = p.2 in
    rw (p.1, same) (unsaved_gives c.args.document.now.edits c.args.world.now c.in_err-file.field-0.0 c.in_err-file.ensures.exported)

pub returns-in_err-is_same-clause-same : goal.returns-in_err-is_same-clause-same
returns-in_err-is_same-clause-same c =
    let p = err_from_is_err_and c.from_residual-in_err-is_same.result c.from_residual-in_err-is_same.ensures.1 in
    rw p.1 (inl p.2)

pub returns-then-is_same-clause-same : goal.returns-then-is_same-clause-same
returns-then-is_same-clause-same c =
    let back : IsSaved c.args.document.now.edits c.as_slice.result.now = rw c.as_slice.ensures.value c.in_ok-file.ensures.back in
    let tells = rw c.if-is_same.true at (c.in_ok-is_same.ensures.is c.args.document.now.edits back) in
    same_world c.args.document.now.edits c.args.world.now tells

pub returns-clause-same : goal.returns-clause-same
returns-clause-same c =
    let back : IsSaved c.args.document.now.edits c.as_slice.result.now = rw c.as_slice.ensures.value c.in_ok-file.ensures.back in
    let tells = rw c.if-is_same.false at (c.in_ok-is_same.ensures.is c.args.document.now.edits back) in
    inr (other_world c.args.document.now.edits c.as_slice.result.now c.args.world.now back tells)

pub returns-in_err-file-clause-limits : goal.returns-in_err-file-clause-limits
returns-in_err-file-clause-limits c = λ e is.
    let p = err_from_is_err_and c.from_residual.result c.from_residual.ensures.1 in
    let same : p.0 ≡ c.in_err-file.field-0.0 = p.2 in
    let first : c.in_err-file.field-0.0 ≡ e = (let both = c.in_err-file.ensures.limits e is in cc) in
    rw (p.1, same) (ap (λ y. Err y) first)

pub returns-in_err-is_same-clause-limits : goal.returns-in_err-is_same-clause-limits
returns-in_err-is_same-clause-limits c = λ e is. absurd (let no = c.in_ok-file.ensures.limits e is in cc)

pub returns-then-is_same-clause-limits : goal.returns-then-is_same-clause-limits
returns-then-is_same-clause-limits c = λ e is. absurd (let no = c.in_ok-file.ensures.limits e is in cc)

pub returns-clause-limits : goal.returns-clause-limits
returns-clause-limits c = λ e is. absurd (let no = c.in_ok-file.ensures.limits e is in cc)
