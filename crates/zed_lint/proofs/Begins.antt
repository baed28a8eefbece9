-- Where the line of a place begins.
use Rattle.std.proofs.Common.{◌≡◌, ℕ, List, zero, suc, ◌-◌, ◌<◌, true, false, arith, refl}
use Rattle.zed_oop_syntax.specs.Label.{byte_is}
use Rattle.zed_lint.specs.Labels.{begins_commands, is_in_commands}

-- one step back within a line
pub step_back : (p : List ℕ) (n : ℕ) → 0 < n → byte_is p (n - 1) 13 ≡ false → is_in_commands p (n - 1) ≡ is_in_commands p n
step_back p zero some is = absurd (omega arith)
step_back p (suc n) some is = let e : suc n - 1 ≡ n = omega arith in let here : byte_is p n 13 ≡ false = rw e at is in rw (e, here) refl

-- a line begins behind a byte 13
pub begins : (p : List ℕ) (n : ℕ) → 0 < n → byte_is p (n - 1) 13 ≡ true → is_in_commands p n ≡ begins_commands p n
begins p zero some is = absurd (omega arith)
begins p (suc n) some is = let e : suc n - 1 ≡ n = omega arith in let here : byte_is p n 13 ≡ true = rw e at is in rw here refl
