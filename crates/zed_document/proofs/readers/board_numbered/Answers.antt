use Rattle.std.proofs.Common.{◌≡◌, ◌∙◌, ◌+◌, ◌*◌, ◌%◌, ◌<◌, ℕ, length, take, drop, Some, ap, arith}
use Rattle.zed_edit.specs.declared.numbers.Standing.{Standing}
use Rattle.zed_edit.specs.declared.plain.Board.{Board}
use Rattle.zed_edit.specs.Numbers.{alive_boards, boards_there}
use Rattle.zed_view.specs.First.{first_of, is_behind}
use Rattle.zed_view.specs.View.{board_at}
use Rattle.zed_document.proofs.BoardWalks.{got, holds_at, is-told, missed, not-told, told-first, told-next}
use Rattle.zed_document.proofs.readers.board_numbered.Goals as goal

pub loop-walk-init : goal.loop-walk-init
loop-walk-init c = record {
  boards = c.first_boards-first.ensures.boards ∙ told-first c.args.view.now c.requires;
  within = c.first_boards-first.ensures.within;
}

pub returns-in_default : goal.returns-in_default
returns-in_default c =
    not-told c.args.view.now c.requires (board_at c.args.view.now) c.loop-walk.first.items (101 * c.loop-walk._walk) c.loop-walk.invariant.boards c.args.n 100 (omega arith) (omega (arith, c.loop-walk-test.true))
    (missed c.loop-walk.first.items c.as_slice.result.now 100 c.as_slice.ensures c.in_default.ensures.lookup.0)

pub standing_of-requires : goal.standing_of-requires
standing_of-requires c =
    let there = c.in-Some.ensures.lookup.3 in
    holds_at (λ i. i < length c.args.view.now.boards) c.loop-walk.first.items 100 c.in-Some.last.now c.loop-walk.invariant.within (got c.loop-walk.first.items c.as_slice.result.now 100 c.in-Some.last.now c.as_slice.ensures there.0 (there.1 0))

pub loop-walk-preserved : goal.loop-walk-preserved
loop-walk-preserved c =
    let p = c.args.view.now in
    let there = c.in-Some.ensures.lookup.3 in
    let last = got c.loop-walk.first.items c.as_slice.result.now 100 c.in-Some.last.now c.as_slice.ensures there.0 (there.1 0) in
    let from : 101 * c.loop-walk._walk + 101 ≡ 101 * (c.loop-walk._walk + 1) = omega arith in
    record {
      boards = c.first_boards-first-in-loop-walk.ensures.boards
          ∙ ap (λ (s : Standing). first_of 101 (is_behind (Some s)) (boards_there p)) c.standing_of.ensures
          ∙ told-next p c.requires (board_at p) c.loop-walk.first.items (101 * c.loop-walk._walk) c.loop-walk.invariant.boards c.in-Some.last.now last
          ∙ ap (λ (n : ℕ). take 101 (drop n (alive_boards p))) from;
      within = c.first_boards-first-in-loop-walk.ensures.within;
    }

pub board-requires : goal.board-requires
board-requires c =
    let there = c.in-Some-get.ensures.lookup.3 in
    holds_at (λ i. i < length c.args.view.now.boards) c.loop-walk.first.items (c.args.n % 101) c.in-Some-get.i.now c.loop-walk.invariant.within (got c.loop-walk.first.items c.as_slice-2.result.now (c.args.n % 101) c.in-Some-get.i.now c.as_slice-2.ensures there.0 (there.1 0))

pub returns-in-Some-get : goal.returns-in-Some-get
returns-in-Some-get c =
    let there = c.in-Some-get.ensures.lookup.3 in
    ap (λ (b : Board). Some b.id) c.board.ensures
    ∙ is-told c.args.view.now c.requires (board_at c.args.view.now) c.loop-walk.first.items (101 * c.loop-walk._walk) c.loop-walk.invariant.boards c.args.n (c.args.n % 101) c.in-Some-get.i.now (omega arith) (omega (arith, c.loop-walk-test.false))
    (got c.loop-walk.first.items c.as_slice-2.result.now (c.args.n % 101) c.in-Some-get.i.now c.as_slice-2.ensures there.0 (there.1 0))

pub returns : goal.returns
returns c =
    not-told c.args.view.now c.requires (board_at c.args.view.now) c.loop-walk.first.items (101 * c.loop-walk._walk) c.loop-walk.invariant.boards c.args.n (c.args.n % 101) (omega arith) (omega (arith, c.loop-walk-test.false))
    (missed c.loop-walk.first.items c.as_slice-2.result.now (c.args.n % 101) c.as_slice-2.ensures c.in-None.ensures.lookup.0)
