-- Directions, word by word.
use borrow.Author.Tests.{ltb-true, ltb-false}
use Rattle.std.proofs.Common.{◌≡◌, ℕ, ◌<◌, Bool, true, false, List, [], Option, Some, None, refl, arith, ap, sym, subst, ◌∷◌, ◌∙◌, nat_lt}
use Rattle.zed_oop_syntax.specs.declared.heading.Turning.{Turning}
use Rattle.zed_oop_syntax.specs.declared.heading.Course.{Course}
use Rattle.zed_oop_syntax.specs.Text.{word_at, word_end}
use Rattle.zed_oop_syntax.specs.Heading.{HeadingAt, IsPiece, turning_of}
use Rattle.zed_oop_syntax.proofs.TextLemmas.{empty_word}

no_turning : turning_of [] ≡ None
unfolding turning_of
no_turning = refl

-- behind a word that turns the program goes on
pub turning_moves : (p : List ℕ) (at : ℕ) (t : Turning) → turning_of (word_at p at) ≡ Some t → at < word_end p at
turning_moves p at t e = by_place (nat_lt at (word_end p at)) refl
  where
    by_place : (b : Bool) → nat_lt at (word_end p at) ≡ b → at < word_end p at
    by_place true h = ltb-true at (word_end p at) h
    by_place false h =
        let none : turning_of (word_at p at) ≡ None = ap turning_of (empty_word p at (ltb-false at (word_end p at) h)) ∙ no_turning in
        absurd (cc)

-- a word that doesn't turn is the last
pub last_piece : (p : List ℕ) (at : ℕ) (o : Option Turning) (c : Option Course) (e : ℕ) → IsPiece p at o c e → o ≡ None
    → HeadingAt p at [] c e
last_piece p at o c e w h = (w.turns ∙ h, sym w.leads, sym w.ends)

-- before a direction stands a word that turns it
pub first_piece : (p : List ℕ) (at : ℕ) (o : Option Turning) (t : Turning) (d : Option Course) (m : ℕ) (ts : List Turning) (c : Option Course) (e : ℕ)
    → IsPiece p at o d m → o ≡ Some t → HeadingAt p m ts c e
    → HeadingAt p at (t ∷ ts) c e
first_piece p at o t d m ts c e w h rest = (w.turns ∙ h, (let P : ℕ → Type 0 = λ n. HeadingAt p n ts c e in subst P (sym w.ends) rest))

pub piece_moves : (p : List ℕ) (at : ℕ) (o : Option Turning) (t : Turning) (d : Option Course) (m : ℕ) → IsPiece p at o d m → o ≡ Some t
    → at < m
piece_moves p at o t d m w h = let n = turning_moves p at t (w.turns ∙ h) in let e = w.ends in omega arith

-- a piece that turns is a word that does
pub piece_turns : (p : List ℕ) (at : ℕ) (o : Option Turning) (t : Turning) (d : Option Course) (m : ℕ) → IsPiece p at o d m → o ≡ Some t
    → turning_of (word_at p at) ≡ Some t
piece_turns p at o t d m w h = w.turns ∙ h
