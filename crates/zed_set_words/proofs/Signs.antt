-- Numbers with a sign.
use Rattle.std.proofs.Common.{◌≡◌, ◌≢◌, ℕ, Bool, true, false, ◌==◌, cond, List, [], ◌∷◌, pos, refl, ap, arith}
use Rattle.std.specs.Prelude.{option_map}
use Rattle.std.proofs.lemmas.Bool.Decides.{nat_tests}
use Rattle.zed_set_words.specs.Values.{Word, below_zero, integer_of, number_of}

pub integer_minus : (word digits : Word) → word ≡ 45 ∷ digits → integer_of word ≡ below_zero (number_of 32768 digits)
unfolding integer_of
integer_minus word digits is = rw is refl

pub integer_plain : (word : Word) → ((rest : List ℕ) → word ≢ 45 ∷ rest) → integer_of word ≡ option_map pos (number_of 32767 word)
unfolding integer_of number_of
integer_plain [] none = refl
integer_plain (c ∷ cs) none = go (c == 45) refl
  where
    go : (b : Bool) → (c == 45) ≡ b
        → cond b (below_zero (number_of 32768 cs)) (option_map pos (number_of 32767 (c ∷ cs))) ≡ option_map pos (number_of 32767 (c ∷ cs))
    go false is = refl
    go true is =
        let same : c ≡ 45 = grind (arith, nat_tests) in
        absurd (none cs (ap (λ (x : ℕ). x ∷ cs) same))
