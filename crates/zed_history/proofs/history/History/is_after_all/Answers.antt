use Rattle.std.proofs.Common.{◌≡◌, ◌∙◌, ◌≤◌, ◌++◌, ◌∷◌, [], sym, arith, rules}
use Rattle.std.specs.Bool.{OnTrue}
use Rattle.zed_history.specs.Finding.{AllBelow}
use Rattle.zed_history.specs.Runs.{count_in}
use Rattle.zed_history.proofs.Runs.{none-more}
use Rattle.zed_history.proofs.Spots.{none-after}
use Rattle.zed_history.proofs.history.History.is_after_all.Goals as goal

pub returns-then-self-eq0 : goal.returns-then-self-eq0
returns-then-self-eq0 c =
    let log = c.self.inside.log.items in
    let late = c.self.inside.settled.items ++ c.self.inside.run.items ∷ [] in
    let few : count_in late ≤ 0 = let most = c.self.invariant.2 in omega (arith, most) in
    let whole : log ≡ c.args.self.now = sym (none-more log late few) ∙ c.self.view_is in
    let below : OnTrue c.is_latest.result (AllBelow c.args.stamp log) = search rules in
    none-after c.is_latest.result c.args.stamp log c.args.self.now whole below
