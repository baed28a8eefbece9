-- What holds of each of a list, when some are left out.
use Rattle.std.proofs.Common.{Bool, true, false, cond, List, [], ◌∷◌}
use Rattle.std.specs.Prelude.{filter}
use Rattle.std.specs.List.{AllByRecursion}

pub each_filtered : {X : Type 0} (P : X → Type 0) (test : X → Bool) (xs : List X) → AllByRecursion P xs → AllByRecursion P (filter test xs)
each_filtered P test [] h = tt
each_filtered P test (x ∷ xs) h = go (each_filtered P test xs h.1) (test x)
  where
    go : AllByRecursion P (filter test xs) → (t : Bool) → AllByRecursion P (cond t (x ∷ filter test xs) (filter test xs))
    go rest true = (h.0, rest)
    go rest false = rest
