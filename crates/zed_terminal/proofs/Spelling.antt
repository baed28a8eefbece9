-- Moves that are read byte by byte.
use Rattle.std.proofs.Common.{◌≡◌, ◌∙◌, ◌<◌, ◌+◌, ◌++◌, ℕ, suc, List, [], ◌∷◌, ap, append_assoc, arith, drop, get_or, length, length-append, sym}
use Rattle.std.proofs.Math.Seq.{drop-cons}
use Rattle.zed_terminal.specs.declared.moves.Move.{Move}
use Rattle.zed_terminal.specs.declared.record.Taken.{Taken}
use Rattle.zed_terminal.specs.declared.record.Spelt.{Spelt}
use Rattle.zed_terminal.specs.Record.{listed, moves_from, read}

-- the moves from a byte on are its own, if it completes one, and those behind it
from_here : (spelt : Spelt) (bytes : List ℕ) (i d : ℕ) → i < length bytes
    → moves_from spelt (drop i bytes) ≡ listed (read spelt (get_or bytes i d)).made ++ moves_from (read spelt (get_or bytes i d)).spelt (drop (i + 1) bytes)
from_here spelt bytes i d within =
    let here : drop i bytes ≡ get_or bytes i d ∷ drop (suc i) bytes = drop-cons bytes i d within in
    let same : suc i ≡ i + 1 = omega arith in
    ap (moves_from spelt) here
    ∙ ap (λ n. listed (read spelt (get_or bytes i d)).made ++ moves_from (read spelt (get_or bytes i d)).spelt (drop n bytes)) same

-- one byte more was read
pub read_more : (spelt : Spelt) (bytes : List ℕ) (i d : ℕ) (before after all : List Move) (r : Taken) → i < length bytes
    → r ≡ read spelt (get_or bytes i d)
    → after ≡ before ++ listed r.made → before ++ moves_from spelt (drop i bytes) ≡ all
    → after ++ moves_from r.spelt (drop (i + 1) bytes) ≡ all
read_more spelt bytes i d before after all r within is e whole =
    let rest = moves_from r.spelt (drop (i + 1) bytes) in
    ap (λ ms. ms ++ rest) e ∙ append_assoc before (listed r.made) rest
    ∙ ap (λ (x : Taken). before ++ (listed x.made ++ moves_from x.spelt (drop (i + 1) bytes))) is
    ∙ ap (λ ms. before ++ ms) (sym (from_here spelt bytes i d within)) ∙ whole

-- a move that wants room is one of all
pub some_of : (spelt : Spelt) (bytes : List ℕ) (i d : ℕ) (before all : List Move) (r : Taken) → i < length bytes
    → r ≡ read spelt (get_or bytes i d)
    → before ++ moves_from spelt (drop i bytes) ≡ all → 0 < length (listed r.made)
    → 0 < length all
some_of spelt bytes i d before all r within is whole some =
    let rest = moves_from r.spelt (drop (i + 1) bytes) in
    let split : before ++ (listed r.made ++ rest) ≡ all =
    ap (λ (x : Taken). before ++ (listed x.made ++ moves_from x.spelt (drop (i + 1) bytes))) is
    ∙ ap (λ ms. before ++ ms) (sym (from_here spelt bytes i d within)) ∙ whole in
    let outer : length all ≡ length before + length (listed r.made ++ rest) = ap length (sym split) ∙ length-append before (listed r.made ++ rest) in
    let inner = length-append (listed r.made) rest in
    omega (arith, outer, inner, some)

-- appended one behind the other, they were appended
adds : (o p q a b : List ℕ) → p ≡ o ++ a → q ≡ p ++ b → q ≡ o ++ (a ++ b)
adds o p q a b first next = next ∙ ap (λ t. t ++ b) first ∙ append_assoc o a b

pub six : (o a b c d e f p q r s t u : List ℕ) → p ≡ o ++ a → q ≡ p ++ b → r ≡ q ++ c → s ≡ r ++ d → t ≡ s ++ e → u ≡ t ++ f
    → u ≡ o ++ (a ++ b ++ c ++ d ++ e ++ f)
six o a b c d e f p q r s t u i j k l m n =
    let two = adds o p q a b i j in
    let three = adds o q r (a ++ b) c two k in
    let four = adds o r s (a ++ b ++ c) d three l in
    let five = adds o s t (a ++ b ++ c ++ d) e four m in
    adds o t u (a ++ b ++ c ++ d ++ e) f five n
