use Rattle.std.proofs.Common.{map, string_bytes}
use Rattle.zed_driver.specs.Hosts.{hosts}
use Rattle.zed_tool.proofs.Endings.{run_accepted, run_calmly, run_helped, run_refused, run_versioned}
use Rattle.zed_tool_words.specs.Commands.{Take}
use Rattle.zed_tool.proofs.Made.{run_calm}
use Rattle.zed_tool.proofs.Taken.{run_takes, written_is_read}
use Rattle.zed_tool.proofs.program.run.Goals as goal

pub returns-clause-calm : goal.returns-clause-calm
returns-clause-calm g c = λ within calm.
    let h = hosts g.H.Host.contents g.H.Host.called g.H.Host.failed g.H.Host.faults in
    run_calm h g.met.H.Host.counts_failures g.met.H.Host.counts_no_fault _ (map string_bytes c.args.words.now) c.run_words.result _ _ c.run_words.ensures.runs within calm

pub returns-clause-ends_calmly : goal.returns-clause-ends_calmly
returns-clause-ends_calmly g c = λ t command asked at calm.
    let h = hosts g.H.Host.contents g.H.Host.called g.H.Host.failed g.H.Host.faults in
    run_calmly h _ (map string_bytes c.args.words.now) command t c.run_words.result _ _ asked at calm c.run_words.ensures.runs

pub returns-clause-helped : goal.returns-clause-helped
returns-clause-helped g c = λ help.
    let h = hosts g.H.Host.contents g.H.Host.called g.H.Host.failed g.H.Host.faults in
    run_helped h _ (map string_bytes c.args.words.now) c.run_words.result _ _ help c.run_words.ensures.runs

pub returns-clause-versioned : goal.returns-clause-versioned
returns-clause-versioned g c = λ version.
    let h = hosts g.H.Host.contents g.H.Host.called g.H.Host.failed g.H.Host.faults in
    run_versioned h _ (map string_bytes c.args.words.now) c.run_words.result _ _ version c.run_words.ensures.runs

pub returns-clause-accepted : goal.returns-clause-accepted
returns-clause-accepted g c = λ some.
    let h = hosts g.H.Host.contents g.H.Host.called g.H.Host.failed g.H.Host.faults in
    run_accepted h _ (map string_bytes c.args.words.now) c.run_words.result _ _ some c.run_words.ensures.runs

pub returns-clause-refused : goal.returns-clause-refused
returns-clause-refused g c = λ two.
    let h = hosts g.H.Host.contents g.H.Host.called g.H.Host.failed g.H.Host.faults in
    run_refused h _ (map string_bytes c.args.words.now) c.run_words.result _ _ two c.run_words.ensures.runs

pub returns-clause-takes_sets : goal.returns-clause-takes_sets
returns-clause-takes_sets g c = λ t name file forcing replica number own based shown asks at calm.
    run_takes (written_is_read c.one_reading.ensures.one c.one_reading.ensures.file) (map string_bytes c.args.words.now) t name file forcing replica number own based shown c.run_words.result _ asks
    (returns-clause-ends_calmly g c t (Take asks.base forcing file replica asks.world) asks.asks at calm)
