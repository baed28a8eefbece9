use Rattle.std.proofs.Common.{◌≡◌, ◌+◌, ◌∷◌, [], ◌++◌, List, Ok, length, ap, sym, ◌∙◌, subst}
use Rattle.std.proofs.lemmas.Result.{err_from_is_err_and}
use Rattle.std.proofs.lemmas.List.{length_push}
use Rattle.zed_world.specs.declared.stat.StatData.{StatData}
use Rattle.zed_world.specs.Reading.{stat_at}
use Rattle.zed_world.proofs.Steps.{Fails, items_on, items_end, items_done}
use Rattle.zed_world.proofs.stats.stats_of.Goals as goal

pub returns-in_err-stat : goal.returns-in_err-stat
returns-in_err-stat c =
    let p = err_from_is_err_and c.from_residual.result c.from_residual.ensures.1 in
    let fails = subst (λ (d : List StatData). Fails c.in_err-stat.field-0.0 (stat_at c.args.boards c.args.stats c.args.tiles.now d c.loop.rest.now)) c.deref.ensures.value c.in_err-stat.ensures in
    rw (p.1, p.2) (items_end c.in_err-stat.field-0.0 (stat_at c.args.boards c.args.stats c.args.tiles.now) c.args.stats c.loop.counter c.loop.done.items c.loop.rest.now _ c.loop-test.true fails c.loop.invariant.so_far)

pub loop-preserved : goal.loop-preserved
loop-preserved c =
    let found = subst (λ (d : List StatData). stat_at c.args.boards c.args.stats c.args.tiles.now d c.loop.rest.now ≡ Ok (c.in_ok-stat.stat, c.in_ok-stat.after.now)) c.deref.ensures.value c.in_ok-stat.ensures in
    let pushed : c.push.new.self.items ≡ c.loop.done.items ++ c.in_ok-stat.stat ∷ [] = c.in_ok-push.ensures.items in
    record {
      counted = ap length pushed ∙ length_push c.loop.done.items c.in_ok-stat.stat ∙ ap (λ k. k + 1) c.loop.invariant.counted;
      so_far = rw pushed (items_on (stat_at c.args.boards c.args.stats c.args.tiles.now) c.args.stats c.loop.counter c.loop.done.items c.loop.rest.now c.in_ok-stat.stat c.in_ok-stat.after.now _ c.loop-test.true found c.loop.invariant.so_far);
    }

pub returns : goal.returns
returns c = items_done (stat_at c.args.boards c.args.stats c.args.tiles.now) c.args.stats c.loop.counter c.loop.done.items c.loop.rest.now _ c.loop-test.false c.loop.invariant.so_far ∙ ap (λ (d : List StatData). Ok d) (sym c.from_vec.ensures)
