-- Lists in the order of names are told by their members.
use Rattle.std.specs.Prelude.{◌≡◌, List, find}
use Rattle.zed_types.specs.declared.names.Name.{Name}
use Rattle.zed_types.specs.Names.{same_name, NamesRise}

-- two lists in the order of names in which each name finds the same are equal
abbrev pub OrderedAreTheirMembers : Type 0 → Type 0
OrderedAreTheirMembers X =
    (name : X → Name) (xs ys : List X)
    → NamesRise name xs
    → NamesRise name ys
    → ((n : Name) → find (λ x. same_name (name x) n) xs ≡ find (λ x. same_name (name x) n) ys)
    → xs ≡ ys
