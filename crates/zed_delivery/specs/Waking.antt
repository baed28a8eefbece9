-- What waits for things is tried, each of which goes from halfway to halfway.
use Rattle.std.specs.Prelude.{◌≡◌, ◌⊎◌, Bool, true, ◌||◌, List, [], ◌∷◌, ◌++◌}
use Rattle.zed_op.specs.declared.op.Edit.{Edit}
use Rattle.zed_op.specs.declared.thing.Thing.{Thing}
use Rattle.zed_delivery.specs.declared.body.Body.{Body}
use Rattle.zed_delivery.specs.Made.{is_among}
use Rattle.zed_delivery.specs.Shows.{IsBodyHalfway}
use Rattle.zed_delivery.specs.Steps.{awaited}

-- a thing is one of others, or among these
abbrev pub or_among : (Thing → Bool) → List Thing → Thing → Bool
or_among others things x = others x || is_among things x

-- a body is halfway through some cascade, with none in hand, and the release of these things is to come
abbrev pub AreToWake : List Thing → List Edit → Body → Type 0
AreToWake things done b = (all : List Edit) × (others : (Thing → Bool)) × IsBodyHalfway all [] (awaited (or_among others things) done) b

-- a body in which what waited for a thing is tried
abbrev pub IsWoken : Thing → Body → List Edit → Body → List Edit → Type 0
IsWoken x b old c new =
    (all : List Edit) (before after : Thing → Bool)
    → IsBodyHalfway all [] (awaited before old) b
    → ((y : Thing) → before y ≡ true → (y ≡ x) ⊎ (after y ≡ true))
    → IsBodyHalfway all [] (awaited after new) c

-- a body in which what waited for things is tried, the release of the rest being still to come
abbrev pub AreWoken : List Thing → Body → List Edit → List Thing → Body → List Edit → Type 0
AreWoken things b old rest c new =
    (all : List Edit) (others : Thing → Bool)
    → IsBodyHalfway all [] (awaited (or_among others things) old) b
    → IsBodyHalfway all [] (awaited (or_among others rest) new) c

-- a body in which what waited for the things of an edit, the last of those done, is tried
abbrev pub IsFollowed : Edit → Body → List Edit → Body → List Edit → Type 0
IsFollowed e b old c new =
    (all : List Edit) (others : Thing → Bool)
    → IsBodyHalfway all [] (awaited others (old ++ e ∷ [])) b
    → IsBodyHalfway all [] (awaited others new) c
