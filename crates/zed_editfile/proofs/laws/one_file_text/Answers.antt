use Rattle.std.proofs.Common.{arith}
use Rattle.zed_editfile.proofs.laws.one_file_text.Goals as goal

pub returns : goal.returns
returns c = λ fit others. c.fitting_edits_make_a_file.ensures.one fit c.args.other c.args.others.now (omega arith) (c.fitting_edits_make_a_file-2.ensures.records others)
