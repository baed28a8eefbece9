use Rattle.zed_editfile.proofs.Found.{no_record}
use Rattle.zed_editfile.proofs.stream.advance.Goals as goal

pub take_records-requires-in-Some-found : goal.take_records-requires-in-Some-found
take_records-requires-in-Some-found c =
    let h = rw c.in-Some-found.is at c.in_ok-found-in-None.ensures.some in
    rw h.0 (no_record _)
