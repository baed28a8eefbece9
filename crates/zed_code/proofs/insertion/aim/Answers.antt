use Rattle.std.proofs.Common.{◌<◌, ◌+◌, Option, length, ap, ◌∙◌, sym, subst, arith}
use Rattle.zed_types.specs.declared.names.ElemId.{ElemId}
use Rattle.zed_code.specs.Blocks.{lists, joined}
use Rattle.zed_code.specs.Visits.{raised, LooksAtLeast}
use Rattle.zed_code.specs.There.{IsThere}
use Rattle.zed_code.specs.Runs.{found, looks_to_put}
use Rattle.zed_code.proofs.Places.{raised-twice}
use Rattle.zed_code.proofs.Hinting.{found-sought, found-any, is-inside}
use Rattle.zed_code.proofs.insertion.aim.Goals as goal

pub aim_behind-requires-clause-found : goal.aim_behind-requires-clause-found
aim_behind-requires-clause-found c =
    let ls = lists c.args.blocks.now in
    let P : Option ElemId → Type 0 = λ o. IsThere o (joined ls) in
    let there : found c.in-Some.a (joined ls) < length (joined ls) = subst P c.in-Some.is c.requires.there in
    c.in_ok-at-in-Some.ensures.place ∙ found-sought c.in-Some.a (joined ls) c.requires.ordered (found-any c.in-Some.a (joined ls) there)

pub aim_behind-requires-clause-within : goal.aim_behind-requires-clause-within
aim_behind-requires-clause-within c =
    let ls = lists c.args.blocks.now in
    let P : Option ElemId → Type 0 = λ o. IsThere o (joined ls) in
    let there : found c.in-Some.a (joined ls) < length (joined ls) = subst P c.in-Some.is c.requires.there in
    let place =
    c.in_ok-at-in-Some.ensures.place
    ∙ found-sought c.in-Some.a (joined ls) c.requires.ordered (found-any c.in-Some.a (joined ls) there) in
    is-inside c.in_ok-at-in-Some.at ls (length c.args.blocks.now) (omega (arith, place, there)) c.in_ok-at-in-Some.ensures.inside c.in_ok-at-in-Some.ensures.end

pub returns-in_ok-at-in-Some-clause-visits : goal.returns-in_ok-at-in-Some-clause-visits
returns-in_ok-at-in-Some-clause-visits c =
    let k = c.in_ok-at-in-Some.ensures.visits in
    let m = c.aim_behind.ensures.visits in
    (k.0 + m.0, m.1 ∙ ap (λ v. raised v m.0) k.1 ∙ raised-twice c.args.visits.now k.0 m.0, omega (arith, k.2, k.3, m.2), λ some. let l = k.4 some in omega (arith, l))

pub returns-in_ok-at-in-Some-clause-looks : goal.returns-in_ok-at-in-Some-clause-looks
returns-in_ok-at-in-Some-clause-looks c =
    let k = c.in_ok-at-in-Some.ensures.visits in
    let P : Option ElemId → Type 0 =
    λ o. LooksAtLeast (looks_to_put o c.args.run.stamp (joined (lists c.args.blocks.now))) c.args.visits.now c.aim_behind.new.visits in
    subst P (sym c.in-Some.is) (omega (arith, k.1, c.aim_behind.ensures.looks))
