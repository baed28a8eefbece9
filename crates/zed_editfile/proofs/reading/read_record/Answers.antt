use Rattle.std.proofs.Common.{arith, refl, inl}
use Rattle.std.proofs.lemmas.Result.{err_from_is_err_and}
use Rattle.zed_editfile.proofs.Cuts.{frame_fault, frame_edit, frame_after, frame_shorter, one_gain}
use Rattle.zed_editfile.proofs.reading.read_record.Goals as goal

pub returns-in_err-edit_of-in-Some-clause-err : goal.returns-in_err-edit_of-in-Some-clause-err
returns-in_err-edit_of-in-Some-clause-err c =
    let p = err_from_is_err_and c.from_residual-in_err-edit_of-in-Some.result c.from_residual-in_err-edit_of-in-Some.ensures.1 in
    let frame = rw c.in-Some.is at c.in_ok-split_record.ensures.some in
    rw (p.1, p.2) (refl, frame_fault c.args.version c.args.bytes.now c.in-Some.body.now c.in-Some.rest.now c.in_err-edit_of-in-Some.field-0.0 frame c.in_err-edit_of-in-Some.ensures)

pub returns-in_ok-push-in-Some-clause-some : goal.returns-in_ok-push-in-Some-clause-some
returns-in_ok-push-in-Some-clause-some c =
    let frame = rw c.in-Some.is at c.in_ok-split_record.ensures.some in (
      one_gain c.args.version c.args.out.now.items c.push.new.self.items c.args.bytes.now c.in-Some.body.now c.in-Some.rest.now c.in_ok-edit_of-in-Some.field-0 (λ i. omega (arith, c.type_inv.bytes i)) frame c.in_ok-edit_of-in-Some.ensures c.in_ok-push-in-Some.ensures.items,
      frame_after c.args.bytes.now c.in-Some.body.now c.in-Some.rest.now frame,
      frame_shorter c.args.bytes.now c.in-Some.body.now c.in-Some.rest.now frame,
    )

pub returns-in_err-push-in-Some-clause-err : goal.returns-in_err-push-in-Some-clause-err
returns-in_err-push-in-Some-clause-err c =
    let p = err_from_is_err_and c.from_residual-in_err-push-in-Some.result c.from_residual-in_err-push-in-Some.ensures.1 in
    let frame = rw c.in-Some.is at c.in_ok-split_record.ensures.some in
    let wants = frame_edit c.args.version c.args.bytes.now c.in-Some.body.now c.in-Some.rest.now c.in_ok-edit_of-in-Some.field-0 frame c.in_ok-edit_of-in-Some.ensures in
    rw (p.1, p.2) (c.in_err-push-in-Some.ensures.items, inl (refl, wants))
