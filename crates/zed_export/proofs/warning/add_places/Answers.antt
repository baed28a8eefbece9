use Rattle.std.proofs.Common.{◌≡◌, ◌∙◌, ◌<◌, ◌+◌, List, [], ◌∷◌, length, take, drop, get_or, ap, sym, subst, arith, vec_len}
use Rattle.std.specs.Vec.{vec_capacity}
use Rattle.std.proofs.lemmas.List.{drop_more}
use Rattle.std.proofs.lemmas.Result.{err_from_is_err_and}
use Rattle.zed_world.specs.declared.stat.StatData.{StatData}
use Rattle.zed_export.specs.Warnings.{place_warnings}
use Rattle.zed_export.proofs.Warned.{lacks, warned_off, warned_same}
use Rattle.zed_export.proofs.warning.add_places.Goals as goal

pub returns-in_err-push-clause-memory_only_when : goal.returns-in_err-push-clause-memory_only_when
returns-in_err-push-clause-memory_only_when c =
    let p = err_from_is_err_and c.from_residual.result c.from_residual.ensures.1 in
    let n = c.args.number in
    let ss = c.args.stats.now in
    let s = c.index-stats-j.result in
    let j = c.loop-j.j in
    let is : get_or ss j s ≡ s = cc (c.index-stats-j.is) in
    let step : drop j ss ≡ s ∷ drop (j + 1) ss = drop_more ss j s c.loop-j-test.true ∙ ap (λ (y : StatData). y ∷ drop (j + 1) ss) is in
    let off = sym c.has_tile.ensures ∙ c.if-not-has_tile.true in
    let some = subst (λ (l : List StatData). 0 < length (place_warnings n (take j ss) l)) (sym step) (warned_off n (take j ss) s (drop (j + 1) ss) off) in
    let none = lacks c.args.out.now.items c.loop-j.out.items (place_warnings n [] ss) (place_warnings n (take j ss) (drop j ss)) (vec_capacity c.args.out.now) (vec_capacity c.loop-j.out)
    c.loop-j.invariant.made some c.loop-j.invariant.roomy (omega (arith, c.in_err-push.ensures.full)) in
    let lacking : vec_capacity c.args.out.now < vec_len c.args.out.now + length (place_warnings n [] ss) = omega (arith, none) in
    rw p.1 lacking

pub returns-in_err-push-2-clause-memory_only_when : goal.returns-in_err-push-2-clause-memory_only_when
returns-in_err-push-2-clause-memory_only_when c =
    let p = err_from_is_err_and c.from_residual-in_err-push-2.result c.from_residual-in_err-push-2.ensures.1 in
    let n = c.args.number in
    let ss = c.args.stats.now in
    let s = c.index-stats-j.result in
    let j = c.loop-j.j in
    let is : get_or ss j s ≡ s = cc (c.index-stats-j.is) in
    let step : drop j ss ≡ s ∷ drop (j + 1) ss = drop_more ss j s c.loop-j-test.true ∙ ap (λ (y : StatData). y ∷ drop (j + 1) ss) is in
    let on = sym c.has_tile.ensures ∙ c.if-not-has_tile.false in
    let same = sym c.is_taken.ensures ∙ c.if-is_taken.true in
    let some = subst (λ (l : List StatData). 0 < length (place_warnings n (take j ss) l)) (sym step) (warned_same n (take j ss) s (drop (j + 1) ss) on same) in
    let none = lacks c.args.out.now.items c.loop-j.out.items (place_warnings n [] ss) (place_warnings n (take j ss) (drop j ss)) (vec_capacity c.args.out.now) (vec_capacity c.loop-j.out)
    c.loop-j.invariant.made some c.loop-j.invariant.roomy (omega (arith, c.in_err-push-2.ensures.full)) in
    let lacking : vec_capacity c.args.out.now < vec_len c.args.out.now + length (place_warnings n [] ss) = omega (arith, none) in
    rw p.1 lacking
