-- What is written piece after piece.
use Rattle.std.proofs.Common.{◌≡◌, ◌∙◌, List, ℕ, ◌++◌, ap, append_assoc}

-- a piece behind what was written before
pub adds : (o p q a b : List ℕ) → p ≡ o ++ a → q ≡ p ++ b → q ≡ o ++ (a ++ b)
adds o p q a b e f = f ∙ ap (λ (t : List ℕ). t ++ b) e ∙ append_assoc o a b
