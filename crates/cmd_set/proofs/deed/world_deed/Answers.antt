use Rattle.std.proofs.Common.{◌≡◌, Ok}
use Rattle.std.proofs.lemmas.Result.{err_from_is_err_and}
use Rattle.zed_op.specs.declared.op.Op.TheVariants.{SetHeader}
use Rattle.cmd_set.specs.declared.deed.Deed.TheVariants.{One}
use Rattle.cmd_set.specs.Deeds.{kept_in_world}
use Rattle.cmd_set.proofs.Coming.{refused_comes}
use Rattle.cmd_set.proofs.deed.world_deed.Goals as goal

pub returns-in_err-setting : goal.returns-in_err-setting
returns-in_err-setting c =
    let p = err_from_is_err_and c.from_residual.result c.from_residual.ensures.1 in
    let same : p.0 ≡ c.in_err-setting.field-0.0 = p.2 in
    rw (p.1, same) (refused_comes (kept_in_world c.args.wish) _ c.in_err-setting.field-0.0 (λ setting. Ok (One (SetHeader setting))) c.in_err-setting.ensures)
