-- How many writes were made, call by call.
use Rattle.std.proofs.Common.{◌≡◌, ◌∙◌, ◌++◌, ◌+◌, ◌<◌, ◌≤◌, ℕ, List, ap, arith, length}
use Rattle.std.proofs.lemmas.List.{length-append}
use Rattle.zed_link.specs.Writing.{WritesAtMost}
use Rattle.zed_link.specs.declared.writes.Writes.{Writes}

-- one write more, which took some bytes
pub one_write_more : (done front : List ℕ) (a b c : Writes) → 0 < length front → WritesAtMost (length done) a b → WritesAtMost 1 b c
    → WritesAtMost (length (done ++ front)) a c
one_write_more done front a b c some before one =
    let sum = length-append done front in
    let first : b.made ≤ a.made + length done = before.0 in
    let last : c.made ≤ b.made + 1 = one.0 in
    (omega arith, one.1 ∙ before.1)

-- so many and some more are no more than there are bytes, where what is left has as many
pub within_bytes : (m : ℕ) (done rest bytes : List ℕ) (a b c : Writes) → bytes ≡ done ++ rest → m ≤ length rest
    → WritesAtMost (length done) a b → WritesAtMost m b c → WritesAtMost (length bytes) a c
within_bytes m done rest bytes a b c whole few before more =
    let sum = length-append done rest in
    let same : length bytes ≡ length (done ++ rest) = ap length whole in
    let first : b.made ≤ a.made + length done = before.0 in
    let last : c.made ≤ b.made + m = more.0 in
    (omega arith, more.1 ∙ before.1)

-- so many are no more than there are bytes
pub all_within : (done rest bytes : List ℕ) (a b : Writes) → bytes ≡ done ++ rest → WritesAtMost (length done) a b
    → WritesAtMost (length bytes) a b
all_within done rest bytes a b whole before =
    let sum = length-append done rest in
    let same : length bytes ≡ length (done ++ rest) = ap length whole in
    let first : b.made ≤ a.made + length done = before.0 in
    (omega arith, before.1)
