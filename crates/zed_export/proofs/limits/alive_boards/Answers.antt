use Rattle.std.proofs.Common.{◌≡◌, not, [], length, drop, ap, arith}
use Rattle.std.specs.Prelude.{filter}
use Rattle.std.proofs.lemmas.List.{drop_all}
use Rattle.zed_edit.specs.declared.plain.Board.{Board}
use Rattle.zed_export.proofs.ByNumber.{as_many}
use Rattle.zed_export.proofs.limits.alive_boards.Goals as goal

pub returns : goal.returns
returns c =
    let p = c.args.view.now in
    let is_live = λ (b : Board). not b.removed in
    let none : filter is_live (drop c.loop-i.i p.boards) ≡ [] =
    ap (filter is_live) (drop_all c.loop-i.i p.boards (omega (arith, c.boards-i-end.ensures))) in
    omega (arith, ap length none, c.loop-i.invariant.counts, as_many p c.requires)
