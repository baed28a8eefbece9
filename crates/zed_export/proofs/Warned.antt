-- The room that warnings want.
use Rattle.std.proofs.Common.{◌≡◌, ◌∙◌, ◌<◌, ◌≤◌, ◌+◌, ◌++◌, ℕ, List, ◌∷◌, length, ap, sym, arith, true, false, length-append}
use Rattle.zed_world.specs.declared.stat.StatData.{StatData}
use Rattle.zed_export.specs.Warnings.{has_place, place_warnings}
use Rattle.zed_types.specs.Table.{has_tile}

-- a full vector that gets more had no room for all
pub lacks : {X : Type 0} (before out all rest : List X) (room now : ℕ) → out ++ rest ≡ before ++ all → 0 < length rest → room ≤ now
    → now ≤ length out
    → room < length before + length all
lacks before out all rest room now whole some grows full =
    let lengths : length out + length rest ≡ length before + length all =
    sym (length-append out rest) ∙ ap length whole ∙ length-append before all in
    omega (arith)

-- a vector that lacked room for the next part had none for all
pub lacks_part : {X : Type 0} (before out all part rest : List X) (room now : ℕ) → out ++ (part ++ rest) ≡ before ++ all → room ≤ now
    → now < length out + length part
    → room < length before + length all
lacks_part before out all part rest room now whole grows full =
    let lengths : length out + length (part ++ rest) ≡ length before + length all =
    sym (length-append out (part ++ rest)) ∙ ap length whole ∙ length-append before all in
    let parts : length (part ++ rest) ≡ length part + length rest = length-append part rest in
    omega (arith)

-- a stat outside the table has a warning
pub warned_off : (n : ℕ) (lower : List StatData) (s : StatData) (ss : List StatData) → has_tile s.x s.y ≡ false
    → 0 < length (place_warnings n lower (s ∷ ss))
warned_off n lower s ss off = rw off (omega arith)

-- and so has one at the place of a lower one
pub warned_same : (n : ℕ) (lower : List StatData) (s : StatData) (ss : List StatData) → has_tile s.x s.y ≡ true
    → has_place s.x s.y lower ≡ true
    → 0 < length (place_warnings n lower (s ∷ ss))
warned_same n lower s ss on same = rw (on, same) (omega arith)
