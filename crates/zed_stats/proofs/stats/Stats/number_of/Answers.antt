use Rattle.std.proofs.Common.{◌∙◌, ◌++◌, filter, ap, sym, length, arith}
use Rattle.zed_stats.specs.Stats.{is_alive_other, is_alive_player}
use Rattle.zed_stats.proofs.Numbers.{few-numbered, number_from, number_of-start}
use Rattle.zed_stats.proofs.stats.Stats.number_of.Goals as goal

pub loop-name-init : goal.loop-name-init
loop-name-init c =
    let entries = c.into_iter-name-iterator.ensures.into_iter_gives ∙ c.iter-name-items.ensures.rest ∙ c.self.view_is in
    let same = ap (λ es. filter is_alive_player es ++ filter is_alive_other c.args.self.now) entries in
    record {
      number = number_of-start c.args.id c.args.self.now ∙ ap (number_from c.args.id 0) (sym same);
      room = omega (arith, ap length same, few-numbered c.args.self.now);
    }
