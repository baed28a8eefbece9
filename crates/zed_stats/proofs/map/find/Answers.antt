use Rattle.std.proofs.Common.{◌∙◌, sym}
use Rattle.zed_stats.proofs.Places.{value_at}
use Rattle.zed_stats.proofs.map.find.Goals as goal

pub returns-in_ok-value-in-Some : goal.returns-in_ok-value-in-Some
returns-in_ok-value-in-Some g c =
    sym (value_at c.args.entries.now.entries c.in-Some.i _ c.in_ok-value-in-Some.value.now c.in_ok-value-in-Some.ensures.entry) ∙ c.in-Some.ensures.value
