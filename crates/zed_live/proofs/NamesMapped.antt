-- What keeps names keeps their order.
use Rattle.std.proofs.Common.{◌≡◌, ◌∙◌, true, List, [], ◌∷◌, map, ap, sym, subst}
use Rattle.std.specs.List.{AllByRecursion}
use Rattle.zed_types.specs.declared.names.Name.{Name}
use Rattle.zed_types.specs.Names.{NamesRise, is_earlier}

all-mapped : {X Y : Type 0} (name : X → Name) (other : Y → Name) (f : X → Y) (n : Name) → ((x : X) → other (f x) ≡ name x) → (xs : List X)
    → AllByRecursion (λ x. is_earlier n (name x) ≡ true) xs
    → AllByRecursion (λ y. is_earlier n (other y) ≡ true) (map f xs)
all-mapped name other f n same [] a = tt
all-mapped name other f n same (x ∷ xs) a = (ap (is_earlier n) (same x) ∙ a.0, all-mapped name other f n same xs a.1)

pub rise-mapped : {X Y : Type 0} (name : X → Name) (other : Y → Name) (f : X → Y) → ((x : X) → other (f x) ≡ name x) → (xs : List X)
    → NamesRise name xs
    → NamesRise other (map f xs)
rise-mapped name other f same [] r = tt
rise-mapped {Y = Y} name other f same (x ∷ xs) r = (
  subst (λ n. AllByRecursion (λ y. is_earlier n (other y) ≡ true) (map f xs)) (sym (same x)) (all-mapped name other f (name x) same xs r.0),
  rise-mapped name other f same xs r.1,
)
