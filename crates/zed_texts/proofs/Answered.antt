-- What holds of an answer, whatever it is.
use Rattle.std.proofs.Common.{Result, Ok, Err, OnErr}

-- what holds whatever the answer is, holds where it is Err
pub any_err : {A E P : Type 0} (r : Result A E) → P → OnErr r P
any_err (Ok x) p = tt
any_err (Err e) p = p
