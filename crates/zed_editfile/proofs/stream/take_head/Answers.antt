use Rattle.std.proofs.lemmas.Result.{err_from_is_err_and}
use Rattle.zed_editfile.proofs.Heads.{head_fault, head_short, head_done}
use Rattle.zed_editfile.proofs.stream.take_head.Goals as goal

pub returns-in_err-head_of-clause-err : goal.returns-in_err-head_of-clause-err
returns-in_err-head_of-clause-err c =
    let p = err_from_is_err_and c.from_residual-in_err-head_of.result c.from_residual-in_err-head_of.ensures.1 in
    rw (p.1, p.2) (head_fault c.args.asked _ c.fill.new.kept.items c.in_ok-left.left.now c.in_err-head_of.field-0.0 c.in_ok-left.ensures.all (rw c.as_slice.ensures at c.in_err-head_of.ensures.err))

pub returns-in-None-clause-none : goal.returns-in-None-clause-none
returns-in-None-clause-none c =
    let h = rw c.in-None.is at c.in_ok-head_of.ensures.none in
    let s = rw c.as_slice.ensures at h in
    head_short c.args.asked _ c.fill.new.kept.items c.in_ok-left.left.now c.in_ok-left.ensures.all c.in_ok-left.ensures.none s

pub returns-in-Some-clause-some : goal.returns-in-Some-clause-some
returns-in-Some-clause-some c =
    let h = rw c.in-Some.is at c.in_ok-head_of.ensures.some in
    let s = rw c.as_slice.ensures at h in
    let bytes = rw c.as_slice.ensures at c.in_ok-head_of.ensures.bytes in
    let d = head_done c.args.asked c.args.kept.now.items _ c.fill.new.kept.items c.in_ok-left.left.now c.in-Some.head.0 c.in-Some.head.1 c.in_ok-left.ensures.all bytes c.requires c.in_ok-left.ensures.size s in
    (c.clear.ensures.items, d.0, d.1, d.2, d.3)
