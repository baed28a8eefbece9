-- Lines that are put piece by piece.
use Rattle.std.proofs.Common.{◌≡◌, ◌∙◌, ℕ, List, ◌++◌, append_assoc, Result, Ok, Err, ap}
use Rattle.std.specs.Prelude.{OnOk}

-- what was put, and a piece behind it
adds : (o p q a b : List ℕ) → p ≡ o ++ a → q ≡ p ++ b → q ≡ o ++ (a ++ b)
adds o p q a b first next = next ∙ ap (λ x. x ++ b) first ∙ append_assoc o a b

-- seven pieces, the last of which may be refused
pub puts_seven : {X E : Type 0} (last : Result X E) (o a b c d e f g p q r s t u v : List ℕ)
    → p ≡ o ++ a → q ≡ p ++ b → r ≡ q ++ c → s ≡ r ++ d → t ≡ s ++ e → u ≡ t ++ f → OnOk last (v ≡ u ++ g)
    → OnOk last (v ≡ o ++ (a ++ b ++ c ++ d ++ e ++ f ++ g))
puts_seven (Ok x) o a b c d e f g p q r s t u v i j k l m n is =
    let two = adds o p q a b i j in
    let three = adds o q r (a ++ b) c two k in
    let four = adds o r s (a ++ b ++ c) d three l in
    let five = adds o s t (a ++ b ++ c ++ d) e four m in
    let six = adds o t u (a ++ b ++ c ++ d ++ e) f five n in
    adds o u v (a ++ b ++ c ++ d ++ e ++ f) g six is
puts_seven (Err x) o a b c d e f g p q r s t u v i j k l m n is = tt
