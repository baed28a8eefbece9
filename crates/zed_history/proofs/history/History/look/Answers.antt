use Rattle.std.proofs.Common.{◌≡◌, None, rules}
use Rattle.zed_op.specs.Set.{IsRising}
use Rattle.zed_history.specs.Finding.{edit_with}
use Rattle.zed_history.specs.Runs.{found_in}
use Rattle.zed_history.proofs.Opened.{SetsHold}
use Rattle.zed_history.proofs.Runs.{found-behind, last-rises}
use Rattle.zed_history.proofs.history.History.look.Goals as goal

pub find_last-requires : goal.find_last-requires
find_last-requires c =
    let rises : IsRising c.self.inside.run.items = last-rises c.self.inside.settled.items c.self.inside.run.items c.self.invariant.0.2 in
    search rules

pub returns-clause-none : goal.returns-clause-none
returns-clause-none c =
    let laws : SetsHold =
    record { rises = c.sets_rise.ensures.edit; joins = c.sets_rise.ensures.union; known = c.rising_lists_are_sets.ensures.known } in
    let log = c.self.inside.log.items in
    let settled = c.self.inside.settled.items in
    let none : edit_with c.args.stamp log ≡ None = search rules in
    let others : found_in c.args.stamp settled ≡ None = search rules in
    rw (found-behind laws c.args.stamp log c.self.inside.run.items c.args.self.now settled c.self.invariant.0 c.self.view_is none others) (search rules)
