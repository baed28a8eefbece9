use Rattle.std.proofs.Common.{refl}
use Rattle.zed_files.specs.declared.refusal.Refusal.TheVariants.{File}
use Rattle.cmd_play.proofs.Asking.{one_unwritten}
use Rattle.cmd_play.proofs.keeping.keep_in.Goals as goal

pub returns-in-Err-clause-asked : goal.returns-in-Err-clause-asked
returns-in-Err-clause-asked g c =
    one_unwritten g.H.Host.called c.args.name.now File c.args.host.now c.write.new.self refl c.in-Err.ensures.asked
