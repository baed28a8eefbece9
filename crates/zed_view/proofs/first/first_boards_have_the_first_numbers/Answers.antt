use Rattle.zed_view.proofs.Firsts.{first-so, next-so}
use Rattle.zed_view.proofs.first.first_boards_have_the_first_numbers.Goals as goal

pub returns : goal.returns
returns c = record { first = first-so; next = next-so }
