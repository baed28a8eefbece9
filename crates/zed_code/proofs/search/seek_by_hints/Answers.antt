use Rattle.std.proofs.Common.{ℕ, List, subst, arith}
use Rattle.zed_types.specs.declared.names.ElemId.{ElemId}
use Rattle.zed_code.specs.Blocks.{lists}
use Rattle.zed_code.specs.Kept.{IsOne}
use Rattle.zed_code.proofs.Deaths.{any_err}
use Rattle.zed_code.proofs.Joins.{length-lists}
use Rattle.zed_code.proofs.Hinting.{hint-holds, inside-runs, looks}
use Rattle.zed_code.proofs.search.seek_by_hints.Goals as goal

pub returns-in_err-keep_hint-clause-hints : goal.returns-in_err-keep_hint-clause-hints
returns-in_err-keep_hint-clause-hints c hint one =
    let P : List (ElemId × ℕ) → Type 0 = λ es. IsOne es hint in
    c.requires.hints hint (subst P c.in_err-keep_hint.ensures.err one)

pub returns-in_ok-keep_hint-clause-visits : goal.returns-in_ok-keep_hint-clause-visits
returns-in_ok-keep_hint-clause-visits c =
    let n = length-lists c.args.blocks.now in
    looks (lists c.args.blocks.now) c.start_of-start.result c.args.visits.now c.find-at.new.visits c.find-at.result c.requires.full (λ l. let m = c.start_of-start.ensures.some (omega (arith, l, n)) in omega (arith, m, n)) c.find-at.ensures.from c.find-at.ensures.visits

pub returns-in_ok-keep_hint-clause-hints : goal.returns-in_ok-keep_hint-clause-hints
returns-in_ok-keep_hint-clause-hints c =
    hint-holds c.args.hints.now.entries c.keep_hint.new.hints.entries c.args.places.now (lists c.args.blocks.now) c.find-at.result c.args.id (c.find-at.ensures.inside c.if-at-blocks.true) c.find-at.ensures.place c.requires.hints c.keep_hint.ensures.hints

pub returns-else-start-at-clause-visits : goal.returns-else-start-at-clause-visits
returns-else-start-at-clause-visits c =
    let n = length-lists c.args.blocks.now in
    looks (lists c.args.blocks.now) c.start_of-start.result c.args.visits.now c.find-at.new.visits c.find-at.result c.requires.full (λ l. let m = c.start_of-start.ensures.some (omega (arith, l, n)) in omega (arith, m, n)) c.find-at.ensures.from c.find-at.ensures.visits

pub returns-in_err-keep_hint-clause-memory_only_when : goal.returns-in_err-keep_hint-clause-memory_only_when
returns-in_err-keep_hint-clause-memory_only_when c =
    let few = inside-runs c.find-at.result (lists c.args.blocks.now) (c.find-at.ensures.inside c.if-at-blocks.true) in
    any_err c.from_residual.result (omega (arith, few, c.find-at.ensures.place))
