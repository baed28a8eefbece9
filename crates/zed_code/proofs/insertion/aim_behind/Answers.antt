use Rattle.std.proofs.Common.{◌≡◌, ◌≤◌, ◌<◌, ◌+◌, ◌-◌, suc, min, length-drop, length, true, false, drop, sym, ap, ◌∙◌, subst, arith, ltb}
use Rattle.zed_code.specs.declared.run.Run.{Run}
use Rattle.zed_code.specs.Blocks.{lists, joined, before_spot}
use Rattle.zed_code.specs.Runs.{behind, found, passed, up_to, put_in}
use Rattle.zed_code.specs.Kept.{IsSound}
use Rattle.zed_code.specs.Visits.{raised}
use Rattle.zed_code.proofs.Places.{all-behind, held-bounds, raised-twice}
use Rattle.zed_code.proofs.Passing.{behind-inside, behind-whole, drop-rest, passed-most}
use Rattle.zed_code.proofs.Puts.{put_in-inside, put_in-behind}
use Rattle.zed_code.proofs.Hinting.{spot-looked, found-run, first-is}
use Rattle.zed_code.proofs.insertion.aim_behind.Goals as goal

pub up_to-bytes-requires-clause-from : goal.up_to-bytes-requires-clause-from
up_to-bytes-requires-clause-from c =
    let ls = lists c.args.blocks.now in
    let r = c.look-there.result in
    let there = spot-looked c.args.at ls c.runs_at.result.now r c.requires.within c.runs_at.ensures c.look-there.ensures.run in
    let h = found-run c.args.a r (joined ls) _ c.requires.there (ap (λ n. drop n (joined ls)) (sym c.requires.found) ∙ there) in
    (held-bounds c.args.a r h).0

pub up_to-bytes-requires-clause-below : goal.up_to-bytes-requires-clause-below
up_to-bytes-requires-clause-below c =
    let ls = lists c.args.blocks.now in
    let r = c.look-there.result in
    let there = spot-looked c.args.at ls c.runs_at.result.now r c.requires.within c.runs_at.ensures c.look-there.ensures.run in
    let h = found-run c.args.a r (joined ls) _ c.requires.there (ap (λ n. drop n (joined ls)) (sym c.requires.found) ∙ there) in
    let s = all-behind IsSound (joined ls) (before_spot c.args.at ls) r _ c.requires.each there in
    omega (arith, (held-bounds c.args.a r h).1, s.numbered)

pub returns-then-bytes-there-clause-runs : goal.returns-then-bytes-there-clause-runs
returns-then-bytes-there-clause-runs c =
    let ls = lists c.args.blocks.now in
    let r = c.look-there.result in
    let there = spot-looked c.args.at ls c.runs_at.result.now r c.requires.within c.runs_at.ensures c.look-there.ensures.run in
    let n : c.up_to-bytes.result ≡ up_to c.args.a r = c.up_to-bytes.ensures in
    let l : up_to c.args.a r < r.len = omega (arith, n, c.if-bytes-there.true) in
    let cut : ltb (up_to c.args.a r) r.len ≡ true = grind (arith) in
    ap (λ k. put_in k c.up_to-bytes.result c.args.run (joined ls)) c.requires.found ∙ ap (λ k. put_in (found c.args.a (joined ls)) k c.args.run (joined ls)) n
    ∙ put_in-inside c.args.a c.args.run r (joined ls) _ c.requires.there (ap (λ k. drop k (joined ls)) (sym c.requires.found) ∙ there) cut

pub returns-then-bytes-there-clause-aim : goal.returns-then-bytes-there-clause-aim
returns-then-bytes-there-clause-aim c =
    let ls = lists c.args.blocks.now in
    let r = c.look-there.result in
    let there = spot-looked c.args.at ls c.runs_at.result.now r c.requires.within c.runs_at.ensures c.look-there.ensures.run in
    record {
      within = record { block = c.requires.within.block; place = omega (arith, c.requires.within.place) };
      cut = λ q qs e. let P : Run → Type 0 = λ x. c.up_to-bytes.result < x.len in subst P (first-is r q _ qs (sym there ∙ e)) c.if-bytes-there.true;
      there = (omega (arith, c.up_to-bytes.ensures), λ q qs e. sym (first-is r q _ qs (sym there ∙ e)));
    }

pub returns-clause-runs : goal.returns-clause-runs
returns-clause-runs c =
    let ls = lists c.args.blocks.now in
    let r = c.look-there.result in
    let there = spot-looked c.args.at ls c.runs_at.result.now r c.requires.within c.runs_at.ensures c.look-there.ensures.run in
    let n : c.up_to-bytes.result ≡ up_to c.args.a r = c.up_to-bytes.ensures in
    let l : r.len ≤ up_to c.args.a r = omega (arith, n, c.if-bytes-there.false) in
    let cut : ltb (up_to c.args.a r) r.len ≡ false = grind (arith) in
    let from : before_spot (record { block = c.args.at.block; place = c.args.at.place + 1 }) ls ≡ suc (found c.args.a (joined ls)) =
    omega (arith, c.requires.found) in
    let p = c.pass-at.ensures.place ∙ ap (λ k. k + passed c.args.run.stamp (drop k (joined ls))) from in
    put_in-behind c.args.a c.args.run r (joined ls) _ (before_spot c.pass-at.result ls) c.requires.there (ap (λ k. drop k (joined ls)) (sym c.requires.found) ∙ there) cut (omega (arith, p))

pub returns-then-bytes-there-clause-visits : goal.returns-then-bytes-there-clause-visits
returns-then-bytes-there-clause-visits c =
    let l : found c.args.a (joined (lists c.args.blocks.now)) < length (joined (lists c.args.blocks.now)) = c.requires.there in
    (1, c.look-there.ensures.visits, omega (arith, l, c.requires.found))

pub returns-clause-visits : goal.returns-clause-visits
returns-clause-visits c =
    let ls = lists c.args.blocks.now in
    let l : found c.args.a (joined ls) < length (joined ls) = c.requires.there in
    let from : before_spot (record { block = c.args.at.block; place = c.args.at.place + 1 }) ls ≡ before_spot c.args.at ls + 1 =
    omega arith in
    let k = min (before_spot c.pass-at.result ls + 1) (length (joined ls)) - (before_spot c.args.at ls + 1) in
    let passed : c.pass-at.new.visits ≡ raised c.look-there.new.visits k =
    c.pass-at.ensures.visits
    ∙ ap (λ n. raised c.look-there.new.visits (min (before_spot c.pass-at.result ls + 1) (length (joined ls)) - n)) from in
    (1 + k, passed ∙ ap (λ v. raised v k) c.look-there.ensures.visits ∙ raised-twice c.args.visits.now 1 k, omega (arith, l, c.requires.found))

pub returns-then-bytes-there-clause-looks : goal.returns-then-bytes-there-clause-looks
returns-then-bytes-there-clause-looks c =
    let ls = lists c.args.blocks.now in
    let r = c.look-there.result in
    let there = spot-looked c.args.at ls c.runs_at.result.now r c.requires.within c.runs_at.ensures c.look-there.ensures.run in
    let n : c.up_to-bytes.result ≡ up_to c.args.a r = c.up_to-bytes.ensures in
    let l : up_to c.args.a r < r.len = omega (arith, n, c.if-bytes-there.true) in
    let cut : ltb (up_to c.args.a r) r.len ≡ true = grind (arith) in
    let none : passed c.args.run.stamp (behind c.args.a (joined ls)) ≡ 0 = ap (passed c.args.run.stamp) (behind-inside c.args.a r (joined ls) _ c.requires.there (ap (λ k. drop k (joined ls)) (sym c.requires.found) ∙ there) cut) in
    omega (arith, none, c.look-there.ensures.visits)

pub returns-clause-looks : goal.returns-clause-looks
returns-clause-looks c =
    let ls = lists c.args.blocks.now in
    let r = c.look-there.result in
    let there = spot-looked c.args.at ls c.runs_at.result.now r c.requires.within c.runs_at.ensures c.look-there.ensures.run in
    let n : c.up_to-bytes.result ≡ up_to c.args.a r = c.up_to-bytes.ensures in
    let l : r.len ≤ up_to c.args.a r = omega (arith, n, c.if-bytes-there.false) in
    let cut : ltb (up_to c.args.a r) r.len ≡ false = grind (arith) in
    let here = ap (λ k. drop k (joined ls)) (sym c.requires.found) ∙ there in
    let rest = drop-rest (joined ls) _ r (found c.args.a (joined ls)) here in
    let all : behind c.args.a (joined ls) ≡ drop (suc (found c.args.a (joined ls))) (joined ls) =
    behind-whole c.args.a r (joined ls) _ c.requires.there here cut ∙ sym rest in
    let count : passed c.args.run.stamp (behind c.args.a (joined ls)) ≡ passed c.args.run.stamp (drop (suc (found c.args.a (joined ls))) (joined ls)) = ap (passed c.args.run.stamp) all in
    let most = passed-most c.args.run.stamp (drop (suc (found c.args.a (joined ls))) (joined ls)) in
    let from : before_spot (record { block = c.args.at.block; place = c.args.at.place + 1 }) ls ≡ suc (found c.args.a (joined ls)) =
    omega (arith, c.requires.found) in
    let place = c.pass-at.ensures.place ∙ ap (λ k. k + passed c.args.run.stamp (drop k (joined ls))) from in
    let k = min (before_spot c.pass-at.result ls + 1) (length (joined ls)) - suc (found c.args.a (joined ls)) in
    let seen : c.pass-at.new.visits ≡ raised c.look-there.new.visits k =
    c.pass-at.ensures.visits
    ∙ ap (λ n. raised c.look-there.new.visits (min (before_spot c.pass-at.result ls + 1) (length (joined ls)) - n)) from in
    let there : found c.args.a (joined ls) < length (joined ls) = c.requires.there in
    omega (arith, count, most, place, seen, there, c.look-there.ensures.visits, length-drop (suc (found c.args.a (joined ls))) (joined ls))
