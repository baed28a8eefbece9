-- What is kept of a playtest is read back.
use Rattle.std.proofs.Common.{◌≡◌, ◌∙◌, ◌+◌, ◌-◌, ◌*◌, ◌/◌, ◌%◌, ◌<◌, ◌≤◌, ◌==◌, ◌||◌, ℕ, Bool, true, false, List, [], ◌∷◌, ◌++◌, ap, ap₂, append_assoc, arith, cond, drop, length, refl, slice_index, sym, take}
use Rattle.std.specs.Prelude.{nat_le, nat_lt}
use Rattle.std.proofs.lemmas.Bool.Decides.{nat_tests}
use Rattle.std.proofs.lemmas.Bool.{leb-false}
use Rattle.zed_play.specs.declared.key.Key.TheVariants.{Wait, North, South, West, East, ShootNorth, ShootSouth, ShootWest, ShootEast}
use Rattle.zed_terminal.specs.declared.moves.Move.{Move}
use Rattle.zed_terminal.specs.declared.moves.Move.TheVariants as move
use Rattle.zed_terminal.specs.declared.record.Taken.{Taken}
use Rattle.zed_terminal.specs.declared.record.Spelt.{Spelt}
use Rattle.zed_terminal.specs.declared.record.Spelt.TheVariants.{Nothing, Scroll, Line}
use Rattle.zed_terminal.specs.Record.{MovesAreReadBack, WordsAreReadBack, begun, chosen, figure, is_figure, listed, moves_from, on, read, spelled_moves, spelled_number, with_figure, words_in}

-- a figure goes on with the number that is read
abbrev Reads : (ℕ → Spelt) → Type 0
Reads st = (a b : ℕ) → is_figure b ≡ true → read (st a) b ≡ on (st (with_figure a b))

in_scroll : Reads Scroll
in_scroll a b is = ap (λ t. cond t (on (Scroll (with_figure a b))) (cond (b == 46) (on (Line a 0)) (begun b))) is

in_line : (n : ℕ) → Reads (Line n)
in_line n a b is = ap (λ t. cond t (on (Line n (with_figure a b))) (cond (b == 59) (chosen n a) (begun b))) is

is_figure_of : (d : ℕ) → d < 10 → is_figure (48 + d) ≡ true
is_figure_of d below = grind (arith, nat_tests)

longer : (a d n : ℕ) → a < 100000 → 10 * a + d ≡ n → with_figure a (48 + d) ≡ n
longer a d n below is =
    let less : nat_lt a 100000 ≡ true = grind (arith, nat_tests) in
    let same : 10 * a + (48 + d - 48) ≡ n = omega (arith, is) in
    ap (λ t. cond t (10 * a + (48 + d - 48)) a) less ∙ same

-- the moves behind what was read
abbrev after : List ℕ → Taken → List Move
after tail r = listed r.made ++ moves_from r.spelt tail

-- a figure of a number is read, or there is none of this unit
figure_read : (st : ℕ → Spelt) → Reads st
    → (is_there : Bool) (q v u : ℕ) (tail : List ℕ) → q < 100000 → 10 * q + u % 10 ≡ u → (is_there ≡ false → q ≡ u) → v ≡ u
    → moves_from (st q) (cond is_there ((48 + v % 10) ∷ []) [] ++ tail) ≡ moves_from (st u) tail
figure_read st reads true q v u tail below whole none is =
    let digit : v % 10 < 10 = omega arith in
    let value : 10 * q + v % 10 ≡ u = ap (λ n. 10 * q + n % 10) is ∙ whole in
    let step : read (st q) (48 + v % 10) ≡ on (st u) =
    reads q (48 + v % 10) (is_figure_of (v % 10) digit) ∙ ap (λ n. on (st n)) (longer q (v % 10) u below value) in
    ap (after tail) step
figure_read st reads false q v u tail below whole none is = ap (λ n. moves_from (st n) tail) (none refl)

-- the figures of a number below a million are read as it
number_read : (st : ℕ → Spelt) → Reads st → (n : ℕ) (tail : List ℕ) → n < 1000000
    → moves_from (st 0) (spelled_number n ++ tail) ≡ moves_from (st n) tail
unfolding spelled_number
number_read st reads n tail below =
    let f = figure n in
    let t1 = f 1 ++ tail in
    let t2 = f 10 ++ t1 in
    let t3 = f 100 ++ t2 in
    let t4 = f 1000 ++ t3 in
    let t5 = f 10000 ++ t4 in
    let whole : spelled_number n ++ tail ≡ f 100000 ++ t5 =
    append_assoc (f 100000 ++ f 10000 ++ f 1000 ++ f 100 ++ f 10) (f 1) tail ∙ append_assoc (f 100000 ++ f 10000 ++ f 1000 ++ f 100) (f 10) t1
    ∙ append_assoc (f 100000 ++ f 10000 ++ f 1000) (f 100) t2 ∙ append_assoc (f 100000 ++ f 10000) (f 1000) t3 ∙ append_assoc (f 100000) (f 10000) t4 in
    let s1 = figure_read st reads (nat_le 100000 n) 0 (n / 100000) (n / 100000) t5 (omega arith) (omega (arith, below))
    (λ is. let less = leb-false 100000 n is in omega (arith, less)) refl in
    let s2 = figure_read st reads (nat_le 10000 n) (n / 100000) (n / 10000) (n / 10000) t4 (omega (arith, below)) (omega arith)
    (λ is. let less = leb-false 10000 n is in omega (arith, less)) refl in
    let s3 = figure_read st reads (nat_le 1000 n) (n / 10000) (n / 1000) (n / 1000) t3 (omega (arith, below)) (omega arith)
    (λ is. let less = leb-false 1000 n is in omega (arith, less)) refl in
    let s4 = figure_read st reads (nat_le 100 n) (n / 1000) (n / 100) (n / 100) t2 (omega (arith, below)) (omega arith)
    (λ is. let less = leb-false 100 n is in omega (arith, less)) refl in
    let s5 = figure_read st reads (nat_le 10 n) (n / 100) (n / 10) (n / 10) t1 (omega (arith, below)) (omega arith)
    (λ is. let less = leb-false 10 n is in omega (arith, less)) refl in
    let s6 = figure_read st reads true (n / 10) (n / 1) n tail (omega (arith, below)) (omega arith)
    (λ is. absurd (let no = is in cc)) (omega arith) in
    ap (moves_from (st 0)) whole ∙ s1 ∙ s2 ∙ s3 ∙ s4 ∙ s5 ∙ s6

-- a choice is read
choice_read : (s l : ℕ) (rest : List ℕ) → s < 1000000 → l < 1000000
    → moves_from Nothing ((33 ∷ spelled_number s ++ 46 ∷ spelled_number l ++ 59 ∷ []) ++ rest) ≡ move.Choice (record { scroll = s; line = l }) ∷ moves_from Nothing rest
choice_read s l rest few short =
    let whole : (33 ∷ spelled_number s ++ 46 ∷ spelled_number l ++ 59 ∷ []) ++ rest ≡ 33 ∷ (spelled_number s ++ (46 ∷ (spelled_number l ++ (59 ∷ rest)))) =
    append_assoc ((33 ∷ spelled_number s) ++ (46 ∷ spelled_number l)) (59 ∷ []) rest
    ∙ append_assoc (33 ∷ spelled_number s) (46 ∷ spelled_number l) (59 ∷ rest) in
    ap (moves_from Nothing) whole ∙ number_read Scroll in_scroll s (46 ∷ (spelled_number l ++ (59 ∷ rest))) few
    ∙ number_read (Line s) (in_line s) l (59 ∷ rest) short

pub moves_back : MovesAreReadBack
moves_back [] are = refl
moves_back (move.Key Wait ∷ moves) are = ap (λ l. move.Key Wait ∷ l) (moves_back moves are)
moves_back (move.Key North ∷ moves) are = ap (λ l. move.Key North ∷ l) (moves_back moves are)
moves_back (move.Key South ∷ moves) are = ap (λ l. move.Key South ∷ l) (moves_back moves are)
moves_back (move.Key West ∷ moves) are = ap (λ l. move.Key West ∷ l) (moves_back moves are)
moves_back (move.Key East ∷ moves) are = ap (λ l. move.Key East ∷ l) (moves_back moves are)
moves_back (move.Key ShootNorth ∷ moves) are = ap (λ l. move.Key ShootNorth ∷ l) (moves_back moves are)
moves_back (move.Key ShootSouth ∷ moves) are = ap (λ l. move.Key ShootSouth ∷ l) (moves_back moves are)
moves_back (move.Key ShootWest ∷ moves) are = ap (λ l. move.Key ShootWest ∷ l) (moves_back moves are)
moves_back (move.Key ShootEast ∷ moves) are = ap (λ l. move.Key ShootEast ∷ l) (moves_back moves are)
moves_back (move.Choice c ∷ moves) are =
    choice_read c.scroll c.line (spelled_moves moves) are.0 are.1 ∙ ap (λ l. move.Choice c ∷ l) (moves_back moves are.2)

pub words_back : WordsAreReadBack
words_back [] are = refl
words_back (word ∷ words) are =
    let whole : word % 256 + 256 * (word / 256) ≡ word = omega arith in
    ap₂ (λ w l. w ∷ l) whole (words_back words are.1)

-- two bytes are a word
pub next_word : (bytes : List ℕ) → 2 ≤ length bytes
    → words_in bytes ≡ (slice_index (take 2 bytes) 0 + 256 * slice_index (take 2 bytes) 1) ∷ words_in (drop 2 bytes)
next_word [] two = absurd (omega (arith, two))
next_word (low ∷ []) two = absurd (omega (arith, two))
next_word (low ∷ high ∷ bytes) two = refl

-- less than two bytes are none
pub no_word : (bytes : List ℕ) → length bytes < 2 → words_in bytes ≡ []
no_word [] few = refl
no_word (low ∷ []) few = refl
no_word (low ∷ high ∷ bytes) few = absurd (omega (arith, few))
