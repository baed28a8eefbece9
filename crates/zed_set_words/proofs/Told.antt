-- The first wrong word is told of, whatever stands behind it.
use Rattle.std.proofs.Common.{◌≡◌, ℕ, ◌+◌, List, [], ◌∷◌, ◌++◌, length, Option, Some, None, Result, Ok, Err, refl, ap, arith}
use Rattle.zed_set_words.specs.declared.bad.BadWord.{BadWord}
use Rattle.zed_set_words.specs.declared.reading.State.{State}
use Rattle.zed_set_words.specs.declared.reading.State.TheVariants.{Thing}
use Rattle.zed_set_words.specs.declared.wishes.Wish.{Wish}
use Rattle.zed_set_words.specs.Laws.{IsNotMended, WrongWordIsTold}
use Rattle.zed_set_words.specs.Rows.{ended, goes_on, next, reading, said, wish_of}
use Rattle.zed_set_words.specs.Values.{Word}

abbrev word_in : Result Wish BadWord → ℕ
word_in (Ok w) = 0
word_in (Err b) = b.at

-- whatever stands behind the wrong word, the same is told
abbrev IsFirm : List Word → List Word → ℕ → State → BadWord → Type 0
IsFirm front [] at s b = Unit {0}
IsFirm front (wrong ∷ rest) at s b = (others : List Word) → reading (front ++ wrong ∷ others) at s ≡ Err b

-- where the words from here on are wrong
abbrev Told : List Word → ℕ → State → BadWord → Type 0
Told words at s b =
    (front : List Word) × (back : List Word) × (words ≡ front ++ back) × (at + length front ≡ b.at) × IsFirm front back at s b

no_bad : (w : Wish) (b : BadWord) → Ok w ≡ Err b → ⊥
no_bad w b h = cc

told : (words : List Word) (at : ℕ) (s : State) (b : BadWord) → reading words at s ≡ Err b → Told words at s b
unfolding reading
told [] at s b h = let place : at ≡ b.at = ap word_in h in ([], [], refl, omega (arith, place), tt)
told (word ∷ words) at s b h = go (told words (at + 1)) (said s word) refl (next s word) refl h
  where
    -- a wrong word behind this one is told of from here on too
    firm : (t : State) (front back : List Word) → said s word ≡ None → next s word ≡ Some t → IsFirm front back (at + 1) t b
        → IsFirm (word ∷ front) back at s b
    firm t front [] unsaid leads is = tt
    firm t front (wrong ∷ rest) unsaid leads is = λ others. rw (unsaid, leads) (is others)

    too_many : (w : Wish) (ws : List Word) → said s word ≡ Some w → ended ws (at + 1) w ≡ Err b → Told (word ∷ ws) at s b
    too_many w [] is h = absurd (no_bad w b h)
    too_many w (v ∷ vs) is h = let place : at + 1 ≡ b.at = ap word_in h in (word ∷ [], v ∷ vs, refl, place, λ others. rw is h)

    go : ((t : State) (b : BadWord) → reading words (at + 1) t ≡ Err b → Told words (at + 1) t b)
        → (o : Option Wish) → said s word ≡ o → (n : Option State) → next s word ≡ n
        → goes_on words at s o n (reading words (at + 1)) ≡ Err b → Told (word ∷ words) at s b
    go later (Some w) is n leads h = too_many w words is h
    go later None unsaid (Some t) leads h =
        let p = later t b h in
        let place : at + length (word ∷ p.0) ≡ b.at = omega (arith, p.3) in
        (word ∷ p.0, p.1, ap (λ l. word ∷ l) p.2, place, firm t p.0 p.1 unsaid leads p.4)
    go later None unsaid None leads h = ([], word ∷ words, refl, let place : at ≡ b.at = ap word_in h in omega (arith, place), λ others. rw (unsaid, leads) h)

mended : (front back : List Word) (b : BadWord) → IsFirm front back 0 Thing b → IsNotMended front back b
unfolding wish_of
mended front [] b is = tt
mended front (wrong ∷ rest) b is = is

pub wrong_word_is_told : WrongWordIsTold
unfolding wish_of
wrong_word_is_told words b h =
    let p = told words 0 Thing b h in
    (p.0, p.1, p.2, omega (arith, p.3), mended p.0 p.1 b p.4)
