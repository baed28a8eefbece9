use Rattle.std.proofs.Common.{◌≡◌, ◌∙◌, sym}
use Rattle.std.proofs.lemmas.Result.{err_from_is_err_and}
use Rattle.zed_action.specs.Refusals.{refusal_of}
use Rattle.zed_action.proofs.Calls.{memory_is}
use Rattle.zed_action.proofs.Wants.{is_lack}
use Rattle.cmd_set.proofs.Turns.{deed_leaves, found_ends, leaves_all, not_found}
use Rattle.cmd_set.proofs.Wants.{deed_wants, perform_wants}
use Rattle.cmd_set.proofs.performing.grant.Goals as goal

pub returns-in_err-deed-clause-ends : goal.returns-in_err-deed-clause-ends
returns-in_err-deed-clause-ends c =
    let p = err_from_is_err_and c.from_residual.result c.from_residual.ensures.1 in
    rw p.1 (not_found c.args.document.now c.args.replica _ c.in_err-deed.field-0.0 p.0 _ p.2 c.in_err-deed.ensures)

pub returns-clause-ends : goal.returns-clause-ends
returns-clause-ends c =
    found_ends c.args.document.now c.args.replica _ c.in_ok-deed.deed c.perform.result _ c.in_ok-deed.ensures c.perform.ensures.ends

pub returns-in_err-deed-clause-memory_only_when : goal.returns-in_err-deed-clause-memory_only_when
returns-in_err-deed-clause-memory_only_when c = λ lack.
    let p = err_from_is_err_and c.from_residual.result c.from_residual.ensures.1 in
    let same : p.0 ≡ refusal_of c.in_err-deed.field-0.0 = p.2 in
    deed_wants c.args.document.now c.args.replica c.args.wish c.in_err-deed.field-0.0 (memory_is _ (sym same ∙ is_lack _ _ p.1 lack)) c.in_err-deed.ensures

pub returns-clause-memory_only_when : goal.returns-clause-memory_only_when
returns-clause-memory_only_when c = λ lack.
    perform_wants c.args.document.now c.args.replica c.args.wish c.in_ok-deed.deed c.in_ok-deed.ensures (c.perform.ensures.memory_only_when lack)

pub returns-in_err-deed-clause-kept : goal.returns-in_err-deed-clause-kept
returns-in_err-deed-clause-kept c =
    let p = err_from_is_err_and c.from_residual.result c.from_residual.ensures.1 in
    rw p.1 (leaves_all c.args.document.now c.args.replica _)

pub returns-clause-kept : goal.returns-clause-kept
returns-clause-kept c =
    deed_leaves c.args.document.now c.args.replica _ c.in_ok-deed.deed c.perform.result _ c.in_ok-deed.ensures c.perform.ensures.kept
