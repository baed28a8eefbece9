use Rattle.std.proofs.Common.{◌≡◌, map, take}
use Rattle.zed_view.specs.View.{board_at}
use Rattle.zed_export.proofs.numbers.names_at.Given as goal

-- the names of the places so far
abbrev pub invariant-loop-i : goal.invariant-loop-i
invariant-loop-i l = l.names.items ≡ map (λ i. (board_at l.view i).id.name) (take l.i-index l.places)
