use Rattle.std.proofs.Common.{arith}
use Rattle.zed_editfile.proofs.Once.{one_file}
use Rattle.zed_editfile.proofs.Records.{records_more, are_records, file_has}
use Rattle.zed_editfile.proofs.laws.fitting_edits_make_a_file.Goals as goal

pub loop-edit-preserved : goal.loop-edit-preserved
loop-edit-preserved c = records_more c.args.edits.now c.loop-edit.edit-index c.edit-item.result c.loop-edit-test.true c.edit-item.is c.fitting_edits_are_records.ensures.record c.loop-edit.invariant

pub returns-clause-records : goal.returns-clause-records
returns-clause-records c = are_records c.args.edits.now c.loop-edit.edit-index (omega arith) c.loop-edit.invariant

pub returns-clause-one : goal.returns-clause-one
returns-clause-one c = λ fit n es lt good. one_file c.args.world n c.args.edits.now es (omega arith) lt (returns-clause-records c fit) good

pub returns-clause-read : goal.returns-clause-read
returns-clause-read c = λ fit bytes file es p other whole reads. file_has c.args.world c.args.edits.now bytes file es p (omega arith) (returns-clause-records c fit) other whole reads
