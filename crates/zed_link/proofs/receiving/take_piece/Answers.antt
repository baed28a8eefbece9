use Rattle.std.proofs.Common.{◌∙◌, arith, refl, sym, subst}
use Rattle.zed_document.specs.Replica.{Replica}
use Rattle.zed_link.proofs.Feeding.{Taking, nothing_taken, one_passed, more_taken, record_lacks, record_refused, room, room_one}
use Rattle.zed_link.proofs.receiving.take_piece.Goals as goal

pub loop-rest-init : goal.loop-rest-init
loop-rest-init c =
    nothing_taken c.args.intake.now c.args.piece.now c.args.reader.now (record { taken = 0; held = 0; known = 0 }) c.requires.calm refl

pub count-requires-clause-taken : goal.count-requires-clause-taken
count-requires-clause-taken c =
    let k = c.in-Some.ensures.some in
    (room_one _ _ _ _ _ _ _ _ _ _ c.loop-rest.invariant c.requires.small k.2).0

pub count-requires-clause-held : goal.count-requires-clause-held
count-requires-clause-held c =
    let k = c.in-Some.ensures.some in
    (room_one _ _ _ _ _ _ _ _ _ _ c.loop-rest.invariant c.requires.small k.2).1

pub count-requires-clause-known : goal.count-requires-clause-known
count-requires-clause-known c =
    let k = c.in-Some.ensures.some in
    (room_one _ _ _ _ _ _ _ _ _ _ c.loop-rest.invariant c.requires.small k.2).2

pub loop-rest-preserved-in-Some : goal.loop-rest-preserved-in-Some
loop-rest-preserved-in-Some c =
    let k = c.in-Some.ensures.some in
    let P : Replica → Type 0 =
    λ m. Taking c.args.intake.now c.args.piece.now c.args.reader.now c.loop-rest.reader c.in-Some.after.now m c.count.new.self in
    subst P (sym c.in-Some.ensures.kept) (one_passed _ _ _ _ _ _ _ _ _ _ c.count.new.self c.loop-rest.invariant k.2 c.count.ensures)

pub plus-pulled-requires-clause-taken : goal.plus-pulled-requires-clause-taken
plus-pulled-requires-clause-taken c =
    let P : Replica → Type 0 =
    λ m. Taking c.args.intake.now c.args.piece.now c.args.reader.now c.loop-rest.reader c.loop-rest.rest.now m c.loop-rest.pulled in
    let t = subst P (sym c.pass_known.ensures.kept) c.loop-rest.invariant in
    let k = c.in-Ok.ensures.result in
    let r = room _ _ _ _ _ _ _ _ _ _ _ c.in-Ok.more t c.requires.small c.first.ensures.whole k.1 k.2.2 in
    let a = r.0 in
    omega arith

pub plus-pulled-requires-clause-held : goal.plus-pulled-requires-clause-held
plus-pulled-requires-clause-held c =
    let P : Replica → Type 0 =
    λ m. Taking c.args.intake.now c.args.piece.now c.args.reader.now c.loop-rest.reader c.loop-rest.rest.now m c.loop-rest.pulled in
    let t = subst P (sym c.pass_known.ensures.kept) c.loop-rest.invariant in
    let k = c.in-Ok.ensures.result in
    let r = room _ _ _ _ _ _ _ _ _ _ _ c.in-Ok.more t c.requires.small c.first.ensures.whole k.1 k.2.2 in
    let a = r.1 in
    omega arith

pub plus-pulled-requires-clause-known : goal.plus-pulled-requires-clause-known
plus-pulled-requires-clause-known c =
    let P : Replica → Type 0 =
    λ m. Taking c.args.intake.now c.args.piece.now c.args.reader.now c.loop-rest.reader c.loop-rest.rest.now m c.loop-rest.pulled in
    let t = subst P (sym c.pass_known.ensures.kept) c.loop-rest.invariant in
    let k = c.in-Ok.ensures.result in
    let r = room _ _ _ _ _ _ _ _ _ _ _ c.in-Ok.more t c.requires.small c.first.ensures.whole k.1 k.2.2 in
    let a = r.2 in
    omega arith

pub returns-in-Err-clause-result : goal.returns-in-Err-clause-result
returns-in-Err-clause-result c =
    let P : Replica → Type 0 =
    λ m. Taking c.args.intake.now c.args.piece.now c.args.reader.now c.loop-rest.reader c.loop-rest.rest.now m c.loop-rest.pulled in
    let t = subst P (sym c.pass_known.ensures.kept) c.loop-rest.invariant in
    let k = c.in-Err.ensures.result in
    let d = c.drain.ensures.feeds in
    record_refused _ _ _ _ _ _ _ _ _ _ k.0 d.0 _ _ c.in-Err.error t c.first.ensures.whole k.1 k.2 d.1 d.2

pub returns-in-Err-clause-stale_only_when : goal.returns-in-Err-clause-stale_only_when
returns-in-Err-clause-stale_only_when c = λ other.
    let P : Replica → Type 0 =
    λ m. Taking c.args.intake.now c.args.piece.now c.args.reader.now c.loop-rest.reader c.loop-rest.rest.now m c.loop-rest.pulled in
    let t = subst P (sym c.pass_known.ensures.kept) c.loop-rest.invariant in
    let lack = c.in-Err.ensures.stale_only_when (λ same. other (same ∙ t.sound)) in
    let d = c.drain.ensures.feeds in
    record_lacks _ _ _ _ _ _ _ _ _ _ d.0 _ _ t c.first.ensures.whole lack d.1

pub loop-rest-preserved : goal.loop-rest-preserved
loop-rest-preserved c =
    let P : Replica → Type 0 =
    λ m. Taking c.args.intake.now c.args.piece.now c.args.reader.now c.loop-rest.reader c.loop-rest.rest.now m c.loop-rest.pulled in
    let t = subst P (sym c.pass_known.ensures.kept) c.loop-rest.invariant in
    let o = c.in-Ok.ensures in
    let k = o.result in
    more_taken _ _ _ _ _ _ _ _ _ c.take_records.new.intake k.0 _ c.in-Ok.more c.plus-pulled.result t c.first.ensures.whole k.1 k.2.0 o.asked k.2.1 k.2.2 c.plus-pulled.ensures o.world (o.stale (λ bad. cc)) (o.visits (λ bad. cc))
