use Rattle.zed_log.proofs.Ops.{one_log, one_marked_log}
use Rattle.zed_log.proofs.laws.edits_are_known_by_their_lines.Goals as goal

pub returns : goal.returns
returns c = record {
  plain = one_log c.args.edits.now c.args.others.now c.edits_are_whole.ensures c.edits_are_whole-2.ensures;
  marked = one_marked_log c.args.edits.now c.args.others.now c.edits_are_whole.ensures c.edits_are_whole-2.ensures;
}
