use Rattle.std.proofs.Common.{◌≡◌, ◌∙◌, ◌-◌, ◌+◌, ◌<◌, ℕ, not, List, length, filter, take, drop, sym, ap, subst, arith}
use Rattle.zed_edit.specs.declared.plain.Board.{Board}
use Rattle.zed_view.specs.First.{IsInOrder, first_of, is_behind, put}
use Rattle.zed_view.specs.View.{board_at, no_board}
use Rattle.zed_view.proofs.Firsts.{first-in_order, left_out, taken_in}
use Rattle.zed_view.proofs.view.View.first_boards.Goals as goal

pub put-requires-clause-order : goal.put-requires-clause-order
put-requires-clause-order c =
    subst IsInOrder (sym c.loop-i.invariant.boards) (first-in_order 101 (is_behind c.args.after) (filter (λ b. not b.removed) (drop c.loop-i.i c.args.self.now.boards)))

pub loop-i-preserved-then-passes : goal.loop-i-preserved-then-passes
loop-i-preserved-then-passes c =
    let bs = c.args.self.now.boards in
    let q = is_behind c.args.after in
    let i = c.loop-i.i - 1 in
    let b = board_at c.args.self.now i in
    let back : c.loop-i.i ≡ i + 1 = omega arith in
    let below : i < length bs = omega (arith, c.boards-i.ensures) in
    let first = λ (n : ℕ). first_of 101 q (filter (λ (x : Board). not x.removed) (drop n bs)) in
    record {
      boards =
          c.put.ensures.boards ∙ ap (λ (xs : List Board). take 101 (put b xs)) (c.loop-i.invariant.boards ∙ ap first back)
          ∙ sym (taken_in 101 q bs i no_board below (sym c.passes.ensures ∙ c.if-passes.true));
      within = c.put.ensures.within;
      few = c.put.ensures.few;
      inline = c.put.ensures.inline;
    }

pub loop-i-preserved : goal.loop-i-preserved
loop-i-preserved c =
    let bs = c.args.self.now.boards in
    let q = is_behind c.args.after in
    let i = c.loop-i.i - 1 in
    let back : c.loop-i.i ≡ i + 1 = omega arith in
    let below : i < length bs = omega (arith, c.boards-i.ensures) in
    let first = λ (n : ℕ). first_of 101 q (filter (λ (x : Board). not x.removed) (drop n bs)) in
    record {
      boards =
          c.loop-i.invariant.boards ∙ ap first back ∙ sym (left_out 101 q bs i no_board below (sym c.passes.ensures ∙ c.if-passes.false));
      within = c.loop-i.invariant.within;
      few = c.loop-i.invariant.few;
      inline = c.loop-i.invariant.inline;
    }
