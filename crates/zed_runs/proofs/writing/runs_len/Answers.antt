use Rattle.std.proofs.Common.{◌≡◌, ◌<◌, ◌≤◌, ◌+◌, ◌++◌, ℕ, List, [], ◌∷◌, length, drop, ap, sym, ◌∙◌, length-drop, arith}
use Rattle.std.proofs.lemmas.List.{take_rest}
use Rattle.zed_runs.specs.Runs.{greedy}
use Rattle.zed_runs.proofs.Greedy.{greedy_step, greedy_end, some_tile}
use Rattle.zed_runs.proofs.writing.runs_len.Goals as goal

pub loop-tile-preserved : goal.loop-tile-preserved
loop-tile-preserved c =
    let rest = c.loop-tile.rest.now in
    let t = c.in-Some.tile.now in
    let run = c.run_len-len.ensures in
    let n = c.run_len-len.result in
    let step = greedy_step rest n t c.in-Some.ensures.value run.longest run.same run.stops in
    let some : 1 ≤ n = some_tile rest n t c.in-Some.ensures.value run.stops in
    let counted : (c.loop-tile.bytes + 3) + length (greedy (drop n rest)) ≡ length (greedy c.args.tiles.now) =
    omega (arith, ap length step, c.loop-tile.invariant.counted) in
    record {
      counted = rw take_rest counted;
      within = rw take_rest (omega (arith, length-drop n rest, c.loop-tile.invariant.within));
    }

pub returns-clause-result : goal.returns-clause-result
returns-clause-result c =
    omega (arith, ap length (greedy_end c.loop-tile.rest.now c.in_default.ensures.value), c.loop-tile.invariant.counted)
