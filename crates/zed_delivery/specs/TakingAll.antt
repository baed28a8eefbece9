-- What a body shows after many edits more.
use Rattle.std.specs.Prelude.{◌≡◌, List, [], ◌∷◌}
use Rattle.std.specs.List.{AllByRecursion}
use Rattle.zed_op.specs.declared.op.Edit.{Edit}
use Rattle.zed_op.specs.Set.{IsRising, AllFit, union}
use Rattle.zed_delivery.specs.declared.body.Body.{Body}
use Rattle.zed_delivery.specs.Shows.{BodyShows}
use Rattle.zed_delivery.specs.Taking.{IsEmpty, IsApart}

-- no two of these edits have one stamp
abbrev pub AreApart : List Edit → Type 0
AreApart [] = Unit {0}
AreApart (e ∷ es) = IsApart e es × AreApart es

-- edits come to a body that shows others, and no two of them all have one stamp
pub record AllComeTo (more es : List Edit) (b : Body) : Type 0 where
  pub rising : IsRising es
  pub fit : AllFit es
  pub shows : BodyShows es b
  pub apart : AllByRecursion (λ e. IsApart e es) more
  pub among : AreApart more

-- a body shows edits, none of which has the stamp of one of these
abbrev pub AreNewTo : List Edit → Body → Type 0
AreNewTo more b = (es : List Edit) × AllComeTo more es b

-- whatever edits a body showed, now it shows these too
abbrev pub ShowsAll : List Edit → Body → Body → Type 0
ShowsAll more b c = (es : List Edit) → AllComeTo more es b → BodyShows (union es more) c

-- some of these edits came, and the rest is new to the body as it is now
abbrev pub ComeOneByOne : List Edit → Body → List Edit → Body → Type 0
ComeOneByOne more b rest c =
    (es : List Edit)
    → AllComeTo more es b
    → (now : List Edit) × AllComeTo rest now c × (union now rest ≡ union es more)

-- a body that took no edit shows none
abbrev pub EmptyShowsNone : Type 0
EmptyShowsNone = (b : Body) → IsEmpty b → BodyShows [] b

-- no two edits of a rising list have one stamp
abbrev pub RisingAreApart : Type 0
RisingAreApart = (es : List Edit) → IsRising es → AreApart es
