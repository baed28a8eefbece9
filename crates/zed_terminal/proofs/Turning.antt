-- Turns made one after the other.
use Rattle.std.proofs.Common.{◌≡◌, ◌+◌, ℕ, zero, suc, Bool, true, false, Option, Ok, arith, refl, subst}
use Rattle.zed_world.specs.Contents.{Contents}
use Rattle.zed_terminal.specs.Course.{Advances, Course, Plays, Turns, is_over}

-- one turn more
one_after : (w : Option Contents) (n : ℕ) (first c d : Course) → Plays w n first c → is_over c.at ≡ false → Advances w false c d
    → Plays w (suc n) first d
one_after w zero first c d is going on =
    (d, subst (λ (x : Course). is_over x.at ≡ false) is going, subst (λ (x : Course). Advances w false x d) is on, refl)
one_after w (suc n) first c d (next, goes, advances, rest) going on = (next, goes, advances, one_after w n next c d rest going on)

-- a turn that was made, as the loop counts it
pub one_more : (w : Option Contents) (n : ℕ) (made : Bool) (first c d : Course) → Plays w n first c → is_over c.at ≡ false → made ≡ true
    → Turns w (Ok made) c d
    → Plays w (n + 1) first d
one_more w n made first c d plays going is turns =
    let next : suc n ≡ n + 1 = omega arith in
    subst (λ k. Plays w k first d) next (one_after w n first c d plays going (subst (λ b. Turns w (Ok b) c d) is turns))
