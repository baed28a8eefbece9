use Rattle.std.proofs.Common.{◌≡◌, ◌<◌, ◌++◌, length, arith, [], refl, ap, sym, ◌∙◌, inl, inr}
use Rattle.std.proofs.lemmas.List.{length-append, nil_from_length}
use Rattle.std.proofs.lemmas.Result.{err_from_is_err_and}
use Rattle.zed_editfile.specs.Stream.{is_length}
use Rattle.zed_editfile.proofs.Cuts.{bad_on, length_on, fault_on, short_on, cut_on, nothing_left, within_size, taken_on, no_gain}
use Rattle.zed_editfile.proofs.stream.take_cut.Goals as goal

pub returns-in_err-length_of-clause-err : goal.returns-in_err-length_of-clause-err
returns-in_err-length_of-clause-err c =
    let p = err_from_is_err_and c.from_residual-in_err-length_of.result c.from_residual-in_err-length_of.ensures.1 in
    rw (p.1, p.2) (refl, inr (bad_on c.args.version _ c.fill.new.kept.items c.in_ok-piece.piece.now c.in_err-length_of.field-0.0 c.in_ok-piece.ensures.all (rw c.as_slice.ensures at c.in_err-length_of.ensures.err)))

pub returns-in_err-read_record-in-Some-clause-err : goal.returns-in_err-read_record-in-Some-clause-err
returns-in_err-read_record-in-Some-clause-err c =
    let p = err_from_is_err_and c.from_residual-in_err-read_record-in-Some.result c.from_residual-in_err-read_record-in-Some.ensures.1 in
    let h = rw c.as_slice-in-Some.ensures at c.in_err-read_record-in-Some.ensures.err in
    let some : 0 < length c.args.kept.now.items = grind arith in
    rw (p.1, p.2) (h.0, fault_on c.args.version _ c.fill-in-Some.new.kept.items c.in_ok-left-in-Some.left.now c.args.kept.now.items c.in_err-read_record-in-Some.field-0.0 (c.in_ok-left-in-Some.ensures.all ∙ c.in_ok-piece.ensures.all) some h.1)

pub returns-in-None-clause-none : goal.returns-in-None-clause-none
returns-in-None-clause-none c =
    let h = rw c.in-None.is at c.in_ok-length_of.ensures.none in
    let s = rw c.as_slice.ensures at h in
    let d =
    short_on c.args.version _ c.fill.new.kept.items c.in_ok-piece.piece.now c.in_ok-piece.ensures.all c.in_ok-piece.ensures.none s in
    (refl, d.0, d.1)

pub returns-in-None-2-clause-none : goal.returns-in-None-2-clause-none
returns-in-None-2-clause-none c =
    let h = rw c.in-None-2.is at c.in_ok-read_record-in-Some.ensures.none in
    let stop = rw c.as_slice-in-Some.ensures at h.1 in
    let l = rw c.in-Some.is at c.in_ok-length_of.ensures.some in
    let len = rw c.as_slice.ensures at l in
    let whole = cut_on c.args.version c.fill-in-Some.new.kept.items c.in_ok-left-in-Some.left.now c.fill.new.kept.items c.in_ok-piece.piece.now c.in-Some.len c.in_ok-left-in-Some.ensures.all len stop c.in_ok-left-in-Some.ensures.none in
    (h.0, whole ∙ c.in_ok-piece.ensures.all, stop)

pub returns-in-Some-2-clause-some : goal.returns-in-Some-2-clause-some
returns-in-Some-2-clause-some c =
    let h = rw c.in-Some-2.is at c.in_ok-read_record-in-Some.ensures.some in
    let g = rw c.as_slice-in-Some.ensures at h in
    let l = rw c.in-Some.is at c.in_ok-length_of.ensures.some in
    let len = rw c.as_slice.ensures at l in
    let size = within_size c.args.version c.args.kept.now.items c.fill.new.kept.items c.in-Some.len c.requires c.in_ok-piece.ensures.size c.in_ok-piece.ensures.full len in
    let nothing = nothing_left c.fill-in-Some.new.kept.items c.in_ok-left-in-Some.left.now c.fill.new.kept.items c.in_ok-piece.piece.now c.in-Some-2.field-0.now c.in-Some.len c.in_ok-left-in-Some.ensures.all len (c.in_ok-left-in-Some.ensures.size size) g.1 in
    (c.clear.ensures.items, taken_on c.args.version c.args.out.now.items c.read_record.new.out.items _ c.fill-in-Some.new.kept.items c.in_ok-left-in-Some.left.now c.in-Some-2.field-0.now (c.in_ok-left-in-Some.ensures.all ∙ c.in_ok-piece.ensures.all) nothing g.0)

pub returns-then-is_empty-clause-some : goal.returns-then-is_empty-clause-some
returns-then-is_empty-clause-some c =
    let none : length c.args.kept.now.items ≡ 0 = grind arith in
    let nil : c.args.kept.now.items ≡ [] = nil_from_length c.args.kept.now.items none in
    (nil, rw nil (no_gain c.args.version c.args.out.now.items c.args.out.now.items c.args.piece.now refl))

pub returns-in_err-left-in-Some-clause-err : goal.returns-in_err-left-in-Some-clause-err
returns-in_err-left-in-Some-clause-err c =
    let p = err_from_is_err_and c.from_residual-in_err-left-in-Some.result c.from_residual-in_err-left-in-Some.ensures.1 in
    let l = rw c.in-Some.is at c.in_ok-length_of.ensures.some in
    let len = rw c.as_slice.ensures at l in
    let some : 0 < length c.args.kept.now.items = grind arith in
    let good = ap is_length (sym len.1) ∙ len.2 in
    let all = c.in_ok-piece.ensures.all in
    let past : 12 < length (c.args.kept.now.items ++ c.args.piece.now) =
    omega (arith, c.in_err-left-in-Some.ensures.memory_only_when.1, length-append c.fill.new.kept.items c.in_ok-piece.piece.now, ap length all) in
    rw (p.1, p.2) (refl, inl (refl, some, (length_on _ c.fill.new.kept.items c.in_ok-piece.piece.now all (len.0, good), past)))
