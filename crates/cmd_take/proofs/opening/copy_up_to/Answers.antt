use Rattle.std.proofs.Common.{◌≡◌, ◌∙◌, ap, Some}
use Rattle.zed_op.specs.Set.{set_of}
use Rattle.cmd_take.specs.Opening.{up_to}
use Rattle.cmd_take.proofs.Earlier.{early_fit, early_rising}
use Rattle.cmd_take.proofs.opening.copy_up_to.Goals as goal

pub deliver_all-requires-clause-fit : goal.deliver_all-requires-clause-fit
deliver_all-requires-clause-fit c =
    rw (c.in_ok-edits.ensures, c.edits.ensures.all) (early_fit c.args.last c.args.document.now.edits c.edits.ensures.fit)

pub returns-in-Ok-clause-edits : goal.returns-in-Ok-clause-edits
returns-in-Ok-clause-edits c =
    let es = up_to (Some c.args.last) c.args.document.now.edits in
    let copied : c.in_ok-edits.edits.items ≡ es = c.in_ok-edits.ensures ∙ ap (up_to (Some c.args.last)) c.edits.ensures.all in
    c.in-Ok.ensures.set ∙ ap set_of copied ∙ c.rising_lists_are_sets.ensures.own es (early_rising c.args.last c.args.document.now.edits c.edits.ensures.rising)
