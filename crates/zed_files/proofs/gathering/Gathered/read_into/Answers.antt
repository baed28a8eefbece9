use Rattle.std.proofs.Common.{◌∙◌, [], Some, ap, arith, refl, sym}
use Rattle.zed_document.specs.Replica.{Replica}
use Rattle.zed_editfile.specs.Stream.{Progress}
use Rattle.zed_files.proofs.Deliveries.{delivers_to}
use Rattle.zed_files.proofs.FilesRead.{file_of, file_read}
use Rattle.zed_files.proofs.Wanting.{end_wants, feed_wants, on_err}
use Rattle.zed_files.proofs.gathering.Gathered.read_into.Goals as goal

pub deliver-requires-clause-small : goal.deliver-requires-clause-small
deliver-requires-clause-small c = ([], [], c.begin.ensures.reads, omega arith)

pub returns-clause-took : goal.returns-clause-took
returns-clause-took c =
    let k = c.in_ok-self.ensures.took in
    let w = c.args.feed.document.world in
    let told = c.in_ok-fault.ensures in
    let same = c.begin.ensures.document in (
      k.0,
      file_of w c.args.bytes.now k.0 c.in_ok-fault.fault _ (file_read (Some w) c.args.bytes.now [] k.0 c.begin.new.self.progress c.deliver.new.feed.progress c.in_ok-fault.fault refl c.begin.ensures.reads
          (c.in_ok-self.ensures.asked ∙ ap (λ (p : Progress). p.asked) c.begin.ensures.begins) k.1 (sym c.finish.ensures.result ∙ told.0) told.1),
      (c.in_ok-self.ensures.world ∙ ap (λ (d : Replica). d.world) same, c.in_ok-self.ensures.sound, delivers_to _ _ k.0 _ _ same k.2),
    )

pub returns-in_err-self-clause-memory_only_when : goal.returns-in_err-self-clause-memory_only_when
returns-in_err-self-clause-memory_only_when c =
    on_err c.from_residual.result _ (feed_wants (Some c.args.feed.document.world) c.begin.new.self.document c.args.bytes.now c.begin.new.self.progress c.deliver.new.feed.progress c.deliver.new.feed.document.edits c.begin.ensures.reads
    (c.in_err-self.ensures.asked ∙ ap (λ (p : Progress). p.asked) c.begin.ensures.begins) c.in_err-self.ensures.memory_only_when)

pub returns-in_err-fault-clause-memory_only_when : goal.returns-in_err-fault-clause-memory_only_when
returns-in_err-fault-clause-memory_only_when c =
    let k = c.in_ok-self.ensures.took in
    on_err c.from_residual-in_err-fault.result _ (end_wants (Some c.args.feed.document.world) c.args.bytes.now [] k.0 c.begin.new.self.progress c.deliver.new.feed.progress c.finish.result c.begin.ensures.reads
    (c.in_ok-self.ensures.asked ∙ ap (λ (p : Progress). p.asked) c.begin.ensures.begins) k.1 c.finish.ensures.result c.in_err-fault.ensures.1)
