use Rattle.std.proofs.Common.{◌++◌, ◌<◌, length, arith, refl, inl, inr}
use Rattle.std.proofs.lemmas.Result.{err_from_is_err_and}
use Rattle.zed_editfile.proofs.Cuts.{no_gain, gain_on, waits_wants, began_fault, behind_fault}
use Rattle.zed_editfile.proofs.stream.take_records.Goals as goal

pub returns-in_err-take_cut-clause-err : goal.returns-in_err-take_cut-clause-err
returns-in_err-take_cut-clause-err c =
    let p = err_from_is_err_and c.from_residual.result c.from_residual.ensures.1 in
    let h = c.in_err-take_cut.ensures.err in
    rw (p.1, p.2) (c.args.kept.now.items ++ c.args.piece.now, no_gain c.args.version c.args.out.now.items c.take_cut.new.out.items _ h.0, began_fault c.args.version c.args.kept.now.items _ _ h.1)

pub returns-in_err-keep-in-Some-clause-err : goal.returns-in_err-keep-in-Some-clause-err
returns-in_err-keep-in-Some-clause-err c =
    let p = err_from_is_err_and c.from_residual-in_err-keep-in-Some.result c.from_residual-in_err-keep-in-Some.ensures.1 in
    let h = rw c.in-Some.is at c.in_ok-take_cut.ensures.some in
    let room = rw h.0 at c.in_err-keep-in-Some.ensures.memory_only_when in
    let past : 12 < length c.in_ok-tail-in-Some.tail.now = omega (arith, room.1) in
    rw (p.1, p.2) (c.in_ok-tail-in-Some.tail.now, gain_on c.args.version c.args.out.now.items c.take_cut.new.out.items c.read_records.new.out.items _ c.in-Some.left.now c.in_ok-tail-in-Some.tail.now h.1 c.in_ok-tail-in-Some.ensures.ok.0, inl (refl, inr (waits_wants c.args.version c.in_ok-tail-in-Some.tail.now c.in_ok-tail-in-Some.ensures.ok.1 past)))

pub returns-in_err-tail-in-Some-clause-err : goal.returns-in_err-tail-in-Some-clause-err
returns-in_err-tail-in-Some-clause-err c =
    let p = err_from_is_err_and c.from_residual-in_err-tail-in-Some.result c.from_residual-in_err-tail-in-Some.ensures.1 in
    let h = rw c.in-Some.is at c.in_ok-take_cut.ensures.some in
    let r = c.in_err-tail-in-Some.ensures.err in
    rw (p.1, p.2) (r.0, gain_on c.args.version c.args.out.now.items c.take_cut.new.out.items c.read_records.new.out.items _ c.in-Some.left.now r.0 h.1 r.1, behind_fault c.args.version c.args.kept.now.items _ r.0 _ r.2)
