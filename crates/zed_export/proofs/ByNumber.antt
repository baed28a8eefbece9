-- How many boards have numbers.
use Rattle.std.proofs.Common.{◌≡◌, length}
use Rattle.zed_edit.specs.declared.plain.Plain.{Plain}
use Rattle.zed_edit.specs.Numbers.{alive_boards, boards_there}
use Rattle.zed_edit.proofs.Numbering.{long-so}
use Rattle.zed_laws.proofs.ApartBoards.{boards_there_are_apart}
use Rattle.zed_laws.specs.NameOrder.{IsOrdered}

-- as many boards have numbers as aren't removed
pub as_many : (p : Plain) → IsOrdered p → length (alive_boards p) ≡ length (boards_there p)
as_many p h = long-so (boards_there p) (boards_there_are_apart p h)
