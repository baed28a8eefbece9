use Rattle.std.proofs.Common.{◌≡◌}
use Rattle.zed_files.specs.Asked.{reading}
use Rattle.zed_files.specs.Collected.{FirstIsThere}
use Rattle.zed_files.specs.declared.refusal.Refusal.TheVariants.{Memory}
use Rattle.zed_files.specs.Texts.{texts_of}
use Rattle.zed_files.proofs.Wanting.{if_err}
use Rattle.zed_files.proofs.Settled.{came_into, settled_ample, settled_asks, settled_collects, settled_off, settled_sound, settled_tells}
use Rattle.zed_files.proofs.collect.load.Goals as goal

pub returns-clause-collected : goal.returns-clause-collected
returns-clause-collected g c = λ t at.
    let read = c.in_ok-gathered.ensures.stream in
    let all = c.in_ok-gathered.gathered in
    let into = came_into all.feed read.0 all.clash c.settle.result read.2 c.settle.ensures.document in
    settled_collects c.deliveries_come_to_sets.ensures _ t (texts_of c.args.names.now) read.0 into.0 all.clash all.refusal c.settle.result
    read.1 into.1 (read.3 t at) c.settle.ensures.refusal into.2

pub returns-clause-sound : goal.returns-clause-sound
returns-clause-sound g c =
    let read = c.in_ok-gathered.ensures.stream in
    let all = c.in_ok-gathered.gathered in
    let into = came_into all.feed read.0 all.clash c.settle.result read.2 c.settle.ensures.document in
    settled_sound read.0 into.0 all.clash all.refusal c.settle.result into.1 c.settle.ensures.refusal into.2

pub returns-clause-err : goal.returns-clause-err
returns-clause-err g c =
    let all = c.in_ok-gathered.gathered in
    settled_off all.clash all.refusal c.settle.result c.in_ok-gathered.ensures.refusal c.settle.ensures.refusal

pub returns-clause-asked : goal.returns-clause-asked
returns-clause-asked g c =
    let all = c.in_ok-gathered.gathered in
    settled_asks g.H.Host.called (reading (texts_of c.args.names.now)) all.clash all.refusal c.settle.result _ _ c.in_ok-gathered.ensures.asked c.settle.ensures.refusal

pub returns-clause-failures : goal.returns-clause-failures
returns-clause-failures g c =
    let all = c.in_ok-gathered.gathered in
    settled_tells g.H.Host.faults g.H.Host.failed all.clash all.refusal c.settle.result _ _ c.in_ok-gathered.ensures.failures c.in_ok-gathered.ensures.file_only_when c.settle.ensures.refusal

pub returns-clause-memory_only_when : goal.returns-clause-memory_only_when
returns-clause-memory_only_when g c = λ t at.
    let all = c.in_ok-gathered.gathered in
    settled_ample _ all.clash all.refusal c.settle.result c.in_ok-gathered.ensures.ample c.settle.ensures.refusal

pub returns-in_err-gathered-clause-memory_only_when : goal.returns-in_err-gathered-clause-memory_only_when
returns-in_err-gathered-clause-memory_only_when g c = λ t at.
    if_err c.from_residual.result (λ e. e ≡ Memory → FirstIsThere t (texts_of c.args.names.now)) (λ e lack. c.in_err-gathered.ensures.memory_only_when t at)
