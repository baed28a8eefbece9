-- The search for the last passage of a colour.
use Rattle.std.proofs.Common.{◌≡◌, ◌∙◌, ◌<◌, ◌-◌, ℕ, zero, suc, true, false, if◌then◌else◌, List, Option, Some, arith, sym, ap}
use Rattle.zed_types.specs.declared.tile.Place.{Place}
use Rattle.zed_types.specs.declared.tile.Tile.{Tile}
use Rattle.zed_scene.specs.Scene.{tile_at}
use Rattle.zed_play.specs.Entering.{is_passage, passage_among, place_of}

-- the last place that is left has one
pub passage_here : (n k colour : ℕ) (tiles : List Tile) (p : Place) (t : Tile) (r : Option Place) → 0 < n → k ≡ n - 1 → p ≡ place_of k
    → t ≡ tile_at tiles p
    → is_passage colour t ≡ true → passage_among n colour tiles ≡ r → Some p ≡ r
passage_here zero k colour tiles p t r some down place tile is among = absurd (omega (arith, some))
passage_here (suc m) k colour tiles p t r some down place tile is among =
    let same : k ≡ m = omega (arith, down) in
    let here : p ≡ place_of m = place ∙ ap place_of same in
    let at : is_passage colour (tile_at tiles (place_of m)) ≡ true =
    ap (λ q. is_passage colour (tile_at tiles q)) (sym here) ∙ ap (is_passage colour) (sym tile) ∙ is in
    ap (λ q. Some q) here ∙ sym (ap (λ b. if b then Some (place_of m) else passage_among m colour tiles) at) ∙ among

-- or it has none
pub passage_before : (n k colour : ℕ) (tiles : List Tile) (p : Place) (t : Tile) (r : Option Place) → 0 < n → k ≡ n - 1 → p ≡ place_of k
    → t ≡ tile_at tiles p
    → is_passage colour t ≡ false → passage_among n colour tiles ≡ r → passage_among k colour tiles ≡ r
passage_before zero k colour tiles p t r some down place tile is among = absurd (omega (arith, some))
passage_before (suc m) k colour tiles p t r some down place tile is among =
    let same : k ≡ m = omega (arith, down) in
    let here : p ≡ place_of m = place ∙ ap place_of same in
    let at : is_passage colour (tile_at tiles (place_of m)) ≡ false =
    ap (λ q. is_passage colour (tile_at tiles q)) (sym here) ∙ ap (is_passage colour) (sym tile) ∙ is in
    ap (λ j. passage_among j colour tiles) same ∙ sym (ap (λ b. if b then Some (place_of m) else passage_among m colour tiles) at) ∙ among
