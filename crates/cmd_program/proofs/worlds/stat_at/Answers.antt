use Rattle.std.proofs.Common.{◌∙◌, ap, Bor}
use Rattle.std.specs.Prelude.{slice_get}
use Rattle.zed_world.specs.declared.stat.StatData.{StatData}
use Rattle.cmd_program.proofs.Lists.{got}
use Rattle.cmd_program.proofs.worlds.stat_at.Goals as goal

pub returns : goal.returns
returns c =
    got (λ (s : Bor StatData). s.now) c.as_slice.result.now c.from.result c.get.result c.get.ensures.lookup
    ∙ ap (λ n. slice_get c.as_slice.result.now n) c.from.ensures ∙ ap (λ ss. slice_get ss c.args.number) c.as_slice.ensures
