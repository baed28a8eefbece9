use Rattle.std.proofs.Common.{◌∙◌, ap}
use Rattle.zed_editfile.specs.Stream.{Progress}
use Rattle.zed_files.proofs.FilesRead.{past_wants, read_to_end, told_lack}
use Rattle.zed_files.proofs.gathering.read_past.Goals as goal

pub returns-clause-file : goal.returns-clause-file
returns-clause-file c =
    read_to_end c.args.asked c.args.bytes.now _ _ c.new-reader.result c.feed.new.self c.finish.result c.fault_at.result c.new-edits.ensures.items c.new-reader.ensures.reads
    (c.feed.ensures.asked ∙ ap (λ (q : Progress). q.asked) c.new-reader.ensures.new) c.feed.ensures.feeds c.finish.ensures.result c.fault_at.ensures

pub returns-clause-memory_only_when : goal.returns-clause-memory_only_when
returns-clause-memory_only_when c =
    past_wants c.args.asked c.args.bytes.now _ _ c.new-reader.result c.feed.new.self c.finish.result c.fault_at.result c.new-reader.ensures.reads
    (c.feed.ensures.asked ∙ ap (λ (q : Progress). q.asked) c.new-reader.ensures.new) c.feed.ensures.feeds c.finish.ensures.result c.fault_at.ensures

pub returns-clause-err : goal.returns-clause-err
returns-clause-err c = told_lack c.finish.result c.fault_at.result c.fault_at.ensures
