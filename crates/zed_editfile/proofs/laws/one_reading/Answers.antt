use Rattle.zed_editfile.proofs.Once.{one_reading, file_reads, written_is_text}
use Rattle.zed_editfile.proofs.laws.one_reading.Goals as goal

pub returns-clause-one : goal.returns-clause-one
returns-clause-one c = one_reading

pub returns-clause-file : goal.returns-clause-file
returns-clause-file c = file_reads

pub returns-clause-written : goal.returns-clause-written
returns-clause-written c = written_is_text
