-- What follows for an answer from what it promises.
use Rattle.std.proofs.Common.{Result, Ok, Err, OnOk, OnErr}

-- what follows where an answer is Ok, or is Err
pub on_ok : {A E P Q : Type 0} (r : Result A E) → (P → Q) → OnOk r P → OnOk r Q
on_ok (Ok x) f p = f p
on_ok (Err e) f p = tt

pub on_err : {A E P Q : Type 0} (r : Result A E) → (P → Q) → OnErr r P → OnErr r Q
on_err (Ok x) f p = tt
on_err (Err e) f p = f p
