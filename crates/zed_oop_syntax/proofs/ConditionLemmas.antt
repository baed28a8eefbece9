-- Conditions, word by word.
use borrow.Author.Tests.{ltb-true, ltb-false}
use Rattle.std.proofs.Common.{◌≡◌, ◌∙◌, ℕ, ◌<◌, Bool, true, false, not, List, [], length, Option, Some, None, refl, arith, sym, subst, nat_lt, codes}
use Rattle.zed_oop_syntax.specs.declared.conditions.Query.{Query}
use Rattle.zed_oop_syntax.specs.declared.conditions.Test.{Test}
use Rattle.zed_oop_syntax.specs.declared.conditions.Test.TheVariants.{Blocked, Flag}
use Rattle.std.specs.Char.{to_ascii_uppercase}
use Rattle.std.proofs.lemmas.List.{length-map}
use Rattle.zed_oop_syntax.specs.Heading.{DirectionTakes}
use Rattle.zed_oop_syntax.specs.Text.{upper, word_at, word_end}
use Rattle.zed_oop_syntax.specs.Condition.{ConditionAt, PartAt, QueryTakes, TestTakes, flipped, is_question, plain, negation}
use Rattle.zed_oop_syntax.proofs.TextLemmas.{empty_word}

empty_is_no_not : [] ≡ codes "NOT" → ⊥
empty_is_no_not e = cc

-- behind NOT the program goes on
pub not_moves : (p : List ℕ) (at : ℕ) (o : Option Test) (m : ℕ) → PartAt p at o m → o ≡ None → at < m
not_moves p at o m w h = by_place (nat_lt at (word_end p at)) refl
  where
    is_not : PartAt p at None m
    is_not = let P : Option Test → Type 0 = λ x. PartAt p at x m in subst P h w

    by_place : (b : Bool) → nat_lt at (word_end p at) ≡ b → at < m
    by_place true e = let l = ltb-true at (word_end p at) e in let i = is_not.1 in omega arith
    by_place false e =
        absurd (empty_is_no_not (sym (empty_word p at (ltb-false at (word_end p at) e)) ∙ is_not.0))

-- a test without a NOT is the last
pub last_test : (p : List ℕ) (at : ℕ) (o : Option Test) (t : Test) (e : ℕ) → PartAt p at o e → o ≡ Some t → ConditionAt p at false t e
last_test p at o t e w h = plain at t e (let P : Option Test → Type 0 = λ x. PartAt p at x e in subst P h w)

-- before a condition stands a NOT
pub first_not : (p : List ℕ) (at : ℕ) (o : Option Test) (m : ℕ) (b : Bool) (t : Test) (e : ℕ) → PartAt p at o m → o ≡ None
    → ConditionAt p m b t e
    → ConditionAt p at (not b) t e
first_not p at o m b t e w h rest = negation at b t m e (let P : Option Test → Type 0 = λ x. PartAt p at x m in subst P h w) rest

pub flipped_not : (a b : Bool) → flipped a (not b) ≡ flipped (not a) b
flipped_not true true = refl
flipped_not true false = refl
flipped_not false true = refl
flipped_not false false = refl

pub flipped_false : (a : Bool) → flipped a false ≡ a
flipped_false true = refl
flipped_false false = refl

-- behind NOTs a test that takes memory
pub test_takes : (p : List ℕ) (at to : ℕ) (negated : Bool)
    → ((b : Bool) (t : Test) (e : ℕ) → ConditionAt p to b t e → ConditionAt p at (flipped negated b) t e)
    → TestTakes p (word_at p to) (word_end p to)
    → QueryTakes p at
test_takes p at to negated so_far (t, (end, (stands, keeps))) =
    let make : Bool → Test → Query = λ b u. record { negated = b; test = u } in
    (make (flipped negated false) t, (end, (so_far false t end (plain to t end stands), keeps)))

-- a turned direction behind BLOCKED
pub blocked_takes : (p w : List ℕ) (at : ℕ) → w ≡ codes "BLOCKED" → DirectionTakes p at → TestTakes p w at
blocked_takes p w at said (h, (end, (stands, keeps))) = (Blocked h, (end, ((said, stands), keeps)))

-- a word that no question is, written with bytes
pub flag_takes : (p w : List ℕ) (at : ℕ) → is_question (upper w) ≡ false → 0 < length w → TestTakes p (upper w) at
flag_takes p w at none named =
    let long = length-map w to_ascii_uppercase in
    let keeps : 0 < length (upper w) = omega arith in
    (Flag (upper w), (at, ((none, refl, refl), keeps)))
