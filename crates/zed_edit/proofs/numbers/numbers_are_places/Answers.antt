use Rattle.zed_edit.proofs.Numbering.{long-so, numbered-so, places-so, sorted-so}
use Rattle.zed_edit.proofs.numbers.numbers_are_places.Goals as goal

pub returns : goal.returns
returns c = record { sorted = sorted-so; places = places-so; numbered = numbered-so; all = long-so }
