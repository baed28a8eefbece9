-- Texts that are written several times.
use Rattle.std.proofs.Common.{◌≡◌, ◌∙◌, ◌+◌, ◌-◌, ◌<◌, ℕ, suc, List, ◌++◌, ap, arith, append_assoc}
use Rattle.zed_look.specs.Svg.{copies}

-- with one more written, one less is left to be written
pub one_less : (n k : ℕ) (t o p w : List ℕ) → k < n → o ++ copies (n - k) t ≡ w → p ≡ o ++ t → p ++ copies (n - (k + 1)) t ≡ w
one_less n k t o p w below h e =
    let left : suc (n - (k + 1)) ≡ n - k = omega arith in
    ap (λ text. text ++ copies (n - (k + 1)) t) e ∙ append_assoc o t (copies (n - (k + 1)) t) ∙ ap (λ m. o ++ copies m t) left ∙ h
