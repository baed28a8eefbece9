use Rattle.zed_log.proofs.Ops.{line_code, one_line}
use Rattle.zed_log.proofs.laws.edit_is_known_by_its_line.Goals as goal

pub returns : goal.returns
returns c = record {
  line = one_line c.args.edit.now c.args.other.now c.op_is_whole.ensures c.op_is_whole-2.ensures;
  alone = λ x y. line_code c.args.edit.now c.args.other.now x y c.op_is_whole.ensures c.op_is_whole-2.ensures;
}
