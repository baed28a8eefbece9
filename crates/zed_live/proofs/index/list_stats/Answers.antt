use Rattle.std.proofs.Common.{◌≡◌, true}
use Rattle.zed_live.specs.Listed.{is_listed}
use Rattle.zed_live.proofs.Kept.{stay_through, one_back}
use Rattle.zed_live.proofs.index.list_stats.Goals as goal

pub loop-stat-preserved : goal.loop-stat-preserved
loop-stat-preserved c =
    let b = c.args.board in
    let new = c.list.new.homes in
    record {
      kept = stay_through c.args.homes.now c.loop-stat.homes new c.loop-stat.invariant.kept c.list.ensures.kept;
      left = λ more stay on.
          c.loop-stat.invariant.left more (stay_through c.loop-stat.homes new more c.list.ensures.kept stay)
          (one_back (λ x. is_listed x.id b more ≡ true) c.args.stats.now c.loop-stat.stat-index _ c.loop-stat-test.true (stay.each _ b c.in_ok-list.ensures.ok) on);
    }
