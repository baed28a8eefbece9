use Rattle.std.proofs.Common.{◌≡◌, ◌++◌, ◌∙◌, append-nil, sym, ap, arith}
use Rattle.zed_types.specs.declared.names.ElemId.{ElemId}
use Rattle.zed_code.specs.Reading.{between, positions_behind}
use Rattle.zed_code.proofs.Names.{between-none, between-run, behind-none, dead-run-live, dead-run-names, live-run}
use Rattle.zed_code.proofs.readers.push_names_of.Goals as goal

pub push_run-requires-clause-room : goal.push_run-requires-clause-room
push_run-requires-clause-room c = omega (arith, c.within-from.ensures, c.within-to.ensures, c.requires.room)

pub returns-then-run-clause-items : goal.returns-then-run-clause-items
returns-then-run-clause-items c =
    c.push_run.ensures.items
    ∙ ap (λ xs. c.args.out.now.items ++ xs) (between-run c.args.at c.args.run c.within-from.result c.within-to.result c.if-run.true c.within-from.ensures c.within-to.ensures)

pub returns-then-run-clause-left : goal.returns-then-run-clause-left
returns-then-run-clause-left c = c.behind.ensures ∙ ap (λ n. positions_behind n c.args.at) (sym (live-run c.args.run c.if-run.true))

pub returns-then-run-clause-room : goal.returns-then-run-clause-room
returns-then-run-clause-room c =
    let from = ap (λ p. p.from) c.behind.ensures in
    let to = ap (λ p. p.to) c.behind.ensures in
    omega (arith, from, to, c.within-from.ensures, c.within-to.ensures, c.push_run.ensures.len, c.push_run.ensures.capacity, c.requires.room)

pub returns-clause-items : goal.returns-clause-items
returns-clause-items c =
    let none = ap (between c.args.at) (dead-run-names c.args.run c.if-run.false) ∙ between-none ElemId c.args.at in
    sym (append-nil c.args.out.now.items) ∙ ap (λ xs. c.args.out.now.items ++ xs) (sym none)

pub returns-clause-left : goal.returns-clause-left
returns-clause-left c = behind-none c.args.at ∙ ap (λ n. positions_behind n c.args.at) (sym (dead-run-live c.args.run c.if-run.false))
