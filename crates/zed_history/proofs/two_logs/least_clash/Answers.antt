use Rattle.std.proofs.Common.{◌≡◌, length, arith, add-one}
use Rattle.std.proofs.Math.Seq.{take-length}
use Rattle.std.specs.List.{AllByRecursion}
use Rattle.zed_history.proofs.Clashing.{IsFine, first-clash, serve-step, fine-step, all-fine}
use Rattle.zed_history.proofs.two_logs.least_clash.Goals as goal

pub returns-then-has_other-clause-clash : goal.returns-then-has_other-clause-clash
returns-then-has_other-clause-clash c =
    let more = serve-step c.args.own.now c.args.other.now c.loop-edit.rest.now c.from_stamp-rest.result.now c.edit-item.result c.loop-edit.edit-index c.requires.other (omega arith) c.edit-item.is c.loop-edit.invariant.1 c.from_stamp-rest.ensures.there in
    first-clash c.args.own.now c.args.other.now c.from_stamp-rest.result.now c.edit-item.result c.loop-edit.edit-index c.requires.own c.requires.other more.cut more.here c.loop-edit.invariant.2 c.if-has_other.ensures.yes

pub loop-edit-preserved : goal.loop-edit-preserved
loop-edit-preserved c =
    let more = serve-step c.args.own.now c.args.other.now c.loop-edit.rest.now c.from_stamp-rest.result.now c.edit-item.result c.loop-edit.edit-index c.requires.other (omega arith) c.edit-item.is c.loop-edit.invariant.1 c.from_stamp-rest.ensures.there in
    rw add-one (
      c.from_stamp-rest.ensures.rising,
      more.serves,
      fine-step c.args.own.now c.args.other.now c.from_stamp-rest.result.now c.edit-item.result c.loop-edit.edit-index more.seen c.loop-edit.invariant.2 more.here c.if-has_other.ensures.no,
    )

pub returns-clause-agree : goal.returns-clause-agree
returns-clause-agree c =
    let i : c.loop-edit.edit-index ≡ length c.args.other.now = omega arith in
    let fine : AllByRecursion (IsFine c.args.own.now) c.args.other.now = (let a = c.loop-edit.invariant.2 in let b = rw (i, take-length) at a in b) in
    all-fine c.args.own.now c.args.other.now c.requires.own fine
