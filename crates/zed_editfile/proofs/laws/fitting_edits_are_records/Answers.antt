use Rattle.zed_editfile.proofs.Edits.{edit_again}
use Rattle.zed_editfile.proofs.Once.{one_record}
use Rattle.zed_editfile.proofs.Records.{is_record}
use Rattle.zed_editfile.proofs.laws.fitting_edits_are_records.Goals as goal

pub returns-clause-record : goal.returns-clause-record
returns-clause-record c = is_record c.canonical_files_are_short.ensures c.args.edit.now c.edit_has_sizes.ensures

pub returns-clause-back : goal.returns-clause-back
returns-clause-back c = λ fits v of. edit_again v c.args.edit.now (returns-clause-record c fits).1 fits of

pub returns-clause-alone : goal.returns-clause-alone
returns-clause-alone c = λ fits f x y good same. one_record c.args.edit.now f x y (returns-clause-record c fits) good same
