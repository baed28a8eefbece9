use Rattle.zed_editfile.proofs.laws.no_record_begins_another.Goals as goal

pub returns : goal.returns
returns c = λ fits others x y. c.fitting_edits_are_records.ensures.alone fits c.args.other.now x y (c.fitting_edits_are_records-2.ensures.record others)
