-- Lines far below the last one.
use Rattle.std.proofs.Common.{◌≡◌, ◌∙◌, ◌+◌, ◌-◌, ◌<◌, ◌≤◌, ◌==◌, ℕ, Bool, false, List, None, ap, arith, length, slice_get}
use Rattle.std.proofs.lemmas.Bool.Decides.{nat_tests}
use Rattle.std.proofs.lemmas.Option.{slice_get_past}
use Rattle.zed_look.specs.declared.look.Spot.{Spot}
use Rattle.zed_scroll.specs.Window.{line_or_dots}

-- so far below there is nothing
pub far_below : (lines : List (List ℕ)) (line d column : ℕ) (ground : Spot) → line ≤ length lines → length lines - line < d
    → line_or_dots (slice_get lines (line + d)) (line + d == length lines) column ground ≡ ground
far_below lines line d column ground within far =
    let past : length lines ≤ line + d = omega (arith, within, far) in
    let more : length lines < line + d = omega (arith, within, far) in
    let no : (line + d == length lines) ≡ false = grind (arith, nat_tests) in
    ap (λ o. line_or_dots o (line + d == length lines) column ground) (slice_get_past lines (line + d) past)
    ∙ ap (λ b. line_or_dots None b column ground) no
