use Rattle.zed_op.proofs.FitParts.{fit_is_each_part}
use Rattle.zed_edit.proofs.author.step.Goals as goal

pub do_edit-requires : goal.do_edit-requires
do_edit-requires c = ((fit_is_each_part c.args.edit.now).0 c.requires).1
