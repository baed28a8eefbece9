use Rattle.std.proofs.Common.{◌≡◌, Bool, false, List, [], ◌∷◌, length, get_or, refl, arith}
use Rattle.zed_live.specs.Shown.{shown}
use Rattle.zed_export.proofs.header.keys_of.Goals as goal

-- a list of seven, written out
seven : (xs : List Bool) → length xs ≡ 7
    → get_or xs 0 false ∷ get_or xs 1 false ∷ get_or xs 2 false ∷ get_or xs 3 false ∷ get_or xs 4 false ∷ get_or xs 5 false ∷ get_or xs 6 false ∷ []
    ≡ xs
seven (a ∷ b ∷ c ∷ d ∷ e ∷ f ∷ g ∷ []) h = refl
seven _ h = absurd (omega arith)

pub returns : goal.returns
returns c = rw (c.key.ensures, c.key-2.ensures, c.key-3.ensures, c.key-4.ensures, c.key-5.ensures, c.key-6.ensures, c.key-7.ensures) (seven (shown c.args.header.now).keys c.requires)
