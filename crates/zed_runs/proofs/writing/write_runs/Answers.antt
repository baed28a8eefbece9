use Rattle.std.proofs.Common.{◌<◌, ◌+◌, ℕ, List, length, subst, sym}
use Rattle.std.specs.Vec.{vec_capacity}
use Rattle.std.proofs.Common.{vec_len}
use Rattle.zed_runs.specs.Runs.{greedy}
use Rattle.zed_runs.proofs.Greedy.{greedy_holds, greedy_alone}
use Rattle.zed_runs.proofs.writing.write_runs.Goals as goal

pub returns-in-Ok-clause-result : goal.returns-in-Ok-clause-result
returns-in-Ok-clause-result c = record {
  bytes = greedy c.args.tiles.now;
  is_greedy = greedy_holds c.args.tiles.now;
  appended = c.in-Ok.ensures.ok;
}

pub returns-in-Err-clause-memory_only_when : goal.returns-in-Err-clause-memory_only_when
returns-in-Err-clause-memory_only_when c bytes g =
    let Lacks : List ℕ → Type 0 = λ text. vec_capacity c.args.out.now < vec_len c.args.out.now + length text in
    subst Lacks (sym (greedy_alone c.args.tiles.now bytes g)) c.in-Err.ensures.full
