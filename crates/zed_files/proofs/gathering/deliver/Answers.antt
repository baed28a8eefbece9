use Rattle.zed_files.proofs.Feeds.{put_lacks, put_refused, put_sound, told_memory}
use Rattle.zed_files.proofs.gathering.deliver.Goals as goal

pub returns-in-Err-clause-took : goal.returns-in-Err-clause-took
returns-in-Err-clause-took c =
    put_refused c.args.feed.now.document c.args.bytes.now c.args.feed.now.progress c.put.new.self.progress c.in-Err.refusal c.put.new.self.document.edits c.clash_in.result c.clash_in.ensures c.in-Err.ensures.result

pub returns-in-Err-clause-sound : goal.returns-in-Err-clause-sound
returns-in-Err-clause-sound c =
    put_sound c.in-Err.refusal c.put.new.self.document.is_stale c.args.feed.now.document.is_stale c.clash_in.result c.clash_in.ensures c.in-Err.ensures.stale c.requires.sound

pub returns-in-Err-clause-err : goal.returns-in-Err-clause-err
returns-in-Err-clause-err c = told_memory c.in-Err.refusal c.clash_in.result c.clash_in.ensures

pub returns-in-Err-clause-memory_only_when : goal.returns-in-Err-clause-memory_only_when
returns-in-Err-clause-memory_only_when c =
    put_lacks c.args.feed.now.document c.args.bytes.now c.args.feed.now.progress c.put.new.self.progress c.in-Err.refusal c.put.new.self.document.edits c.clash_in.result c.clash_in.ensures c.in-Err.ensures.result
