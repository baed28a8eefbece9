-- What is written piece after piece.
use Rattle.std.proofs.Common.{◌≡◌, ℕ, List, ◌++◌, ap, ◌∙◌, append_assoc}

-- two pieces are one
pub adds : (o p q a b : List ℕ) → p ≡ o ++ a → q ≡ p ++ b → q ≡ o ++ (a ++ b)
adds o p q a b first second = second ∙ ap (λ (t : List ℕ). t ++ b) first ∙ append_assoc o a b
