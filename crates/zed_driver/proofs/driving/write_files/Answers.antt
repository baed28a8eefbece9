use Rattle.std.proofs.lemmas.Result.{err_from_is_err_and}
use Rattle.zed_host.specs.Calls.{Writing}
use Rattle.zed_host.specs.HostContents.{HalfWritten, with_file}
use Rattle.zed_driver.specs.Hosts.{hosts}
use Rattle.zed_driver.specs.Writes.{Broke, Passed}
use Rattle.zed_driver.proofs.Outputs.{broke_at, broke_on, wrote_on}
use Rattle.zed_driver.proofs.driving.write_files.Goals as goal

pub returns-in_err-write-clause-err : goal.returns-in_err-write-clause-err
returns-in_err-write-clause-err g c =
    let h = hosts g.H.Host.contents g.H.Host.called g.H.Host.failed g.H.Host.faults in
    let p = err_from_is_err_and c.from_residual.result c.from_residual.ensures.1 in
    let f = c.file-item.result in
    let broke : Broke h (Writing f.name) (HalfWritten f.name f.bytes) c.loop-file.host c.write.new.self =
    rw (← c.name.ensures, ← c.bytes.ensures) (record {
      half = c.in_err-write.ensures.half;
      asked = c.in_err-write.ensures.asked;
      failed = c.in_err-write.ensures.failures;
      faults = c.in_err-write.ensures.faults;
    }) in
    rw p.1 (broke_at h c.args.files.now c.loop-file.file-index f _ _ _ c.loop-file-test.true c.file-item.is broke c.loop-file.invariant.broke)

pub loop-file-preserved : goal.loop-file-preserved
loop-file-preserved g c =
    let h = hosts g.H.Host.contents g.H.Host.called g.H.Host.failed g.H.Host.faults in
    let f = c.file-item.result in
    let wrote : Passed h (Writing f.name) (with_file f.name f.bytes) c.loop-file.host c.write.new.self =
    rw (← c.name.ensures, ← c.bytes.ensures) (record {
      left = c.in_ok-write.ensures.written;
      asked = c.in_ok-write.ensures.asked;
      failed = c.in_ok-write.ensures.failures;
      faults = c.in_ok-write.ensures.faults;
    }) in
    record {
      wrote = wrote_on h c.args.files.now c.loop-file.file-index f _ _ _ c.loop-file-test.true c.file-item.is wrote c.loop-file.invariant.wrote;
      broke = broke_on h c.args.files.now c.loop-file.file-index f _ _ _ c.loop-file-test.true c.file-item.is wrote c.loop-file.invariant.broke;
    }
