-- One text appended behind the other.
use Rattle.std.proofs.Common.{◌∙◌, ℕ, List, ◌++◌, Vec, ap, append_assoc, length-append, arith}
use Rattle.zed_editfile.specs.Room.{Appends}

pub appends_both : {Z : Type 0} (a b : List ℕ) (old mid new : Vec ℕ Z) → Appends a old mid → Appends b mid new → Appends (a ++ b) old new
appends_both a b old mid new h k =
    (k.0 ∙ ap (λ xs. xs ++ b) h.0 ∙ append_assoc old.items a b, omega (arith, length-append a b, h.1, k.1), omega (arith, h.2, k.2))
