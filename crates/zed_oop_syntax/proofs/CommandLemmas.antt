-- Words of commands.
use borrow.Author.Tests.{ltb-true, ltb-false}
use Rattle.std.proofs.Common.{◌≡◌, ◌∙◌, ℕ, ◌<◌, Bool, true, false, List, [], refl, sym, subst, ap, nat_lt, codes}
use Rattle.std.specs.Str.{bytes_eq}
use Rattle.zed_oop_syntax.specs.Text.{word_at, word_end}
use Rattle.zed_oop_syntax.specs.Command.{BehindThen, is_then, passed}
use Rattle.zed_oop_syntax.proofs.TextLemmas.{empty_word}

-- whether a word that was read is THEN
pub then_read : (p w : List ℕ) (from : ℕ) (said b : Bool) → w ≡ word_at p from → said ≡ bytes_eq w (codes "THEN") → said ≡ b
    → is_then p from ≡ b
then_read p w from said b is says which = ap (λ x. bytes_eq x (codes "THEN")) (sym is) ∙ sym says ∙ which

-- behind THEN the program goes on
pub then_moves : (p : List ℕ) (at : ℕ) → is_then p at ≡ true → at < word_end p at
then_moves p at said = by_place (nat_lt at (word_end p at)) refl
  where
    by_place : (b : Bool) → nat_lt at (word_end p at) ≡ b → at < word_end p at
    by_place true e = ltb-true at (word_end p at) e
    by_place false e =
        let none : is_then p at ≡ false = ap (λ x. bytes_eq x (codes "THEN")) (empty_word p at (ltb-false at (word_end p at) e)) in
        let n = said in
        absurd (cc)

-- one THEN more
pub then_passed : (p : List ℕ) (at end from : ℕ) → is_then p at ≡ true → end ≡ word_end p at → BehindThen p end from → BehindThen p at from
then_passed p at end from said is rest = passed at from said (let P : ℕ → Type 0 = λ n. BehindThen p n from in subst P is rest)
