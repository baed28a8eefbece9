use Rattle.std.proofs.Common.{arith, rules, sym}
use Rattle.zed_edit.proofs.Places.{put_after-position, put_after-no_position}
use Rattle.zed_edit.proofs.text.put_run.Goals as goal

pub returns-in-Some-place_of : goal.returns-in-Some-place_of
returns-in-Some-place_of c =
    let h =
    put_after-position c.in-Some.a c.args.run.items c.args.elements.now c.in-Some-place_of.i (sym c.in-Some-place_of.ensures.place) in
    rw (c.in-Some.is, ← h.1) (search rules)

pub insert_all-requires-in-Some-place_of : goal.insert_all-requires-in-Some-place_of
insert_all-requires-in-Some-place_of c =
    let h =
    put_after-position c.in-Some.a c.args.run.items c.args.elements.now c.in-Some-place_of.i (sym c.in-Some-place_of.ensures.place) in
    omega (arith, h.0)

pub returns-in-None-place_of : goal.returns-in-None-place_of
returns-in-None-place_of c =
    let h = put_after-no_position c.in-Some.a c.args.run.items c.args.elements.now (sym c.in-None-place_of.ensures.place) in
    rw (c.in-Some.is) (sym h)
