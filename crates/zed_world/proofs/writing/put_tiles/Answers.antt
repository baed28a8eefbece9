use Rattle.std.proofs.Common.{◌≡◌, ◌++◌, List, ℕ, ap, ◌∙◌}
use Rattle.zed_world.proofs.writing.put_tiles.Goals as goal

pub returns-clause-result : goal.returns-clause-result
returns-clause-result c =
    let a = c.in_ok-write_runs.ensures.result in
    a.appended ∙ ap (λ (b : List ℕ). c.args.out.now.items ++ b) (c.greedy_is_the_one.ensures.alone c.args.tiles.now a.bytes a.is_greedy)
