-- Comparing what a reader has left with bytes, one piece after the other.
use Rattle.std.proofs.Common.{◌≡◌, ◌∙◌, ◌++◌, [], List, None, Option, Some, ap, sym, ℕ}
use Rattle.std.specs.Prelude.{IfSome}
use Rattle.std.specs.Io.KnownBytes.{Consumes, IsAtEnd}
use Rattle.zed_system.specs.Same.{MayEnd}

-- nothing was read yet
pub nothing_read : (old : Option (List ℕ)) (bytes : List ℕ) → MayEnd old old bytes bytes
nothing_read None bytes = tt
nothing_read (Some xs) bytes = λ is. is

-- the next piece was read
pub piece_read : (old now next : Option (List ℕ)) (front rest left bytes : List ℕ) → MayEnd old now left bytes → Consumes now next front
    → left ≡ front ++ rest → MayEnd old next rest bytes
piece_read None now next front rest left bytes may read whole = tt
piece_read (Some xs) None next front rest left bytes may read whole = absurd may
piece_read (Some xs) (Some ys) None front rest left bytes may read whole = absurd read
piece_read (Some xs) (Some ys) (Some zs) front rest left bytes may read whole =
    λ is. may (read ∙ ap (λ (more : List ℕ). front ++ more) is ∙ sym whole)

-- the reader has ended, and so have the bytes
pub all_read : (old now next : Option (List ℕ)) (bytes : List ℕ) → MayEnd old now [] bytes → Consumes now next [] → IsAtEnd next
    → IfSome old (λ xs. xs ≡ bytes)
all_read None now next bytes may read end = tt
all_read (Some xs) None next bytes may read end = absurd may
all_read (Some xs) (Some ys) None bytes may read end = absurd read
all_read (Some xs) (Some ys) (Some zs) bytes may read end = may (read ∙ end)
