use Rattle.std.proofs.Common.{◌≡◌, ◌-◌, []}
use Rattle.zed_world.specs.Reading.{next_board_at, items_at}
use Rattle.zed_world.proofs.boards.boards_of.Given as goal

abbrev pub invariant-loop : goal.invariant-loop
invariant-loop l =
    items_at (next_board_at l.boards) (l.boards - l.counter) l.done.items l.rest ≡ items_at (next_board_at l.boards) l.boards [] l.bytes
