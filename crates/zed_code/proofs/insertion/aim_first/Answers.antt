use Rattle.std.proofs.Common.{◌≡◌, ap, ◌∙◌, arith}
use Rattle.zed_code.specs.Blocks.{lists, joined, before_spot}
use Rattle.zed_code.specs.Runs.{passed, put_in}
use Rattle.zed_code.proofs.Puts.{put_in-passed}
use Rattle.zed_code.proofs.insertion.aim_first.Goals as goal

pub returns-clause-runs : goal.returns-clause-runs
returns-clause-runs c =
    let ls = lists c.args.blocks.now in
    let place : before_spot c.pass-at.result ls ≡ passed c.args.run.stamp (joined ls) = omega (arith, c.pass-at.ensures.place) in
    ap (λ n. put_in n 0 c.args.run (joined ls)) place ∙ put_in-passed c.args.run (joined ls)

pub returns-clause-looks : goal.returns-clause-looks
returns-clause-looks c =
    let ls = lists c.args.blocks.now in
    let place : before_spot c.pass-at.result ls ≡ passed c.args.run.stamp (joined ls) = omega (arith, c.pass-at.ensures.place) in
    omega (arith, place, c.pass-at.ensures.visits)
