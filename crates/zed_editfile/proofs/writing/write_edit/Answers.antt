use Rattle.zed_editfile.proofs.Fitting.{passes}
use Rattle.zed_editfile.proofs.writing.write_edit.Goals as goal

pub put_record-requires-clause-range : goal.put_record-requires-clause-range
put_record-requires-clause-range c = (passes c.args.edit.now c.requires).range
