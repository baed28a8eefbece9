-- The steps of a cascade in a body, each of which goes from halfway to halfway.
use Rattle.std.specs.Prelude.{◌≡◌, ◌⊎◌, Bool, true, false, ◌||◌, List, [], ◌∷◌}
use Rattle.std.specs.List.{AllByRecursion, list_any}
use Rattle.zed_types.specs.Stamp.{same_stamp}
use Rattle.zed_op.specs.declared.op.Edit.{Edit}
use Rattle.zed_op.specs.declared.thing.Thing.{Thing}
use Rattle.zed_op.specs.Fit.{Fits}
use Rattle.zed_op.specs.Set.{IsRising, AllFit, with_edit}
use Rattle.zed_laws.specs.Making.{makes}
use Rattle.zed_texts.specs.Texts.{elements_of, IsReady}
use Rattle.zed_delivery.specs.declared.body.Body.{Body}
use Rattle.zed_delivery.specs.Cascade.{nothing}
use Rattle.zed_delivery.specs.Things.{can_do}
use Rattle.zed_delivery.specs.Shows.{BodyShows, IsBodyHalfway}

-- a body is halfway through some cascade, with this edit first in hand
abbrev pub IsInHand : Edit → Body → Type 0
IsInHand e b = (all : List Edit) × (hand : List Edit) × (to_come : (Thing → Bool)) × IsBodyHalfway all (e ∷ hand) to_come b

-- a body in which an edit in hand is done: what it makes is to come, beside what was
abbrev pub IsDone : Edit → Body → Body → Type 0
IsDone e b c =
    (all hand : List Edit) (before after : Thing → Bool)
    → IsBodyHalfway all (e ∷ hand) before b
    → ((x : Thing) → before x ≡ true → after x ≡ true)
    → ((x : Thing) → makes e x ≡ true → after x ≡ true)
    → IsBodyHalfway all hand after c

-- a body in which an edit in hand waits
abbrev pub IsHeldBack : Edit → Body → Body → Type 0
IsHeldBack e b c =
    (all hand : List Edit) (to_come : Thing → Bool)
    → IsBodyHalfway all (e ∷ hand) to_come b
    → IsBodyHalfway all hand to_come c

-- what is to come after these edits are done, beside other things
abbrev pub awaited : (Thing → Bool) → List Edit → Thing → Bool
awaited others done x = others x || list_any (λ e. makes e x) done

-- a body in which an edit in hand is done or waits, and the edits done whose things are to come
abbrev pub IsTried : Edit → Body → List Edit → Body → List Edit → Type 0
IsTried e b old c new =
    (all hand : List Edit) (others : Thing → Bool)
    → IsBodyHalfway all (e ∷ hand) (awaited others old) b
    → IsBodyHalfway all hand (awaited others new) c

-- a body from which the edits that wait for a thing are taken in hand
abbrev pub IsReleased : Thing → List Edit → Body → Body → Type 0
IsReleased x released b c =
    (all : List Edit) (before after : Thing → Bool)
    → IsBodyHalfway all [] before b
    → ((y : Thing) → before y ≡ true → (y ≡ x) ⊎ (after y ≡ true))
    → IsBodyHalfway all released after c

-- a body is halfway through some cascade, with these edits in hand, and what those done made to come
abbrev pub AreInHand : List Edit → List Edit → Body → Type 0
AreInHand es done b = (all : List Edit) × (others : (Thing → Bool)) × IsBodyHalfway all es (awaited others done) b

-- a body in which edits in hand were tried, one after the other, the rest still being in hand
abbrev pub AreTried : List Edit → Body → List Edit → List Edit → Body → List Edit → Type 0
AreTried es b old rest c new =
    (all : List Edit) (others : Thing → Bool)
    → IsBodyHalfway all es (awaited others old) b
    → IsBodyHalfway all rest (awaited others new) c

-- an edit in hand that can be done is ready for the texts
abbrev pub HandIsReady : Type 0
HandIsReady =
    (e : Edit) (b : Body)
    → IsInHand e b
    → can_do b.live.boards b.texts e ≡ true
    → Fits e × IsReady e.stamp e.op (elements_of b.texts)

-- a new edit that comes to a body that shows others is in hand
abbrev pub BodyBegins : Type 0
BodyBegins =
    (e : Edit) (es : List Edit) (b : Body)
    → IsRising es
    → AllFit es
    → BodyShows es b
    → Fits e
    → AllByRecursion (λ f. same_stamp e.stamp f.stamp ≡ false) es
    → IsBodyHalfway (with_edit e es) (e ∷ []) nothing b

-- where no release is to come, a body shows all edits
abbrev pub BodyEnds : Type 0
BodyEnds =
    (all : List Edit) (to_come : Thing → Bool) (b : Body)
    → IsBodyHalfway all [] to_come b
    → ((x : Thing) → to_come x ≡ false)
    → BodyShows all b
