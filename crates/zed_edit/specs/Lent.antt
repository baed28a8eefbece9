-- What is lent.
use Rattle.std.specs.Prelude.{Option, Some, None}
use Rattle.std.specs.Borrow.{Bor}

-- the value behind a reference, if there is one
abbrev pub lent : {X : Type 0} → Option (Bor X) → Option X
lent None = None
lent (Some x) = Some x.now
