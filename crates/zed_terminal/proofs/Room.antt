-- The room that keys and words want.
use Rattle.std.proofs.Common.{◌≡◌, ◌∙◌, ◌<◌, ◌≤◌, ◌+◌, ◌++◌, ℕ, List, ap, arith, get_or, length, length-append, take}
use Rattle.std.specs.List.{flat_map}
use Rattle.std.proofs.lemmas.List.Folds.{length-flat_map-take}

-- what an item of a list comes to is some of what all come to
pub some_of : {X Y : Type 0} (f : X → List Y) (xs : List X) (i : ℕ) (d : X) → i < length xs → 0 < length (f (get_or xs i d))
    → 0 < length (flat_map f xs)
some_of f xs i d within some =
    let least : length (flat_map f (take i xs)) + length (f (get_or xs i d)) ≤ length (flat_map f xs) = length-flat_map-take f xs i d within in
    omega (arith, least, some)

-- a vector that lacked room for what one comes to had none for all
pub lacks_all : {X Y : Type 0} (f : X → List Y) (xs : List X) (i : ℕ) (d : X) (before out : List Y) (room now : ℕ) → i < length xs
    → out ≡ before ++ flat_map f (take i xs) → room ≤ now → now < length out + length (f (get_or xs i d))
    → room < length before + length (flat_map f xs)
lacks_all f xs i d before out room now within made grows lacks =
    let least : length (flat_map f (take i xs)) + length (f (get_or xs i d)) ≤ length (flat_map f xs) = length-flat_map-take f xs i d within in
    let so_far : length out ≡ length before + length (flat_map f (take i xs)) =
    ap length made ∙ length-append before (flat_map f (take i xs)) in
    omega (arith, least, so_far, grows, lacks)
