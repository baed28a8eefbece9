-- A cascade: an edit that is done makes things, for which others wait, which may then be done, and so on.
use Rattle.std.specs.Prelude.{◌≡◌, ◌⊎◌, Bool, true, false, List, [], ◌∷◌}
use Rattle.zed_types.specs.Stamp.{same_stamp}
use Rattle.std.specs.List.{AllByRecursion}
use Rattle.zed_op.specs.declared.op.Edit.{Edit}
use Rattle.zed_op.specs.declared.thing.Thing.{Thing}
use Rattle.zed_op.specs.Fit.{Fits}
use Rattle.zed_op.specs.Set.{IsRising, AllFit, with_edit}
use Rattle.zed_op.proofs.Sets.{Member}
use Rattle.zed_edit.specs.Replay.{can, replay, taken, held}
use Rattle.zed_laws.specs.Making.{makes}
use Rattle.zed_inbox.specs.Waiting.{names, naming, not_naming}

-- an edit can't be done after those done, or it names a thing whose release is still to come
abbrev pub Waits : List Edit → (Thing → Bool) → Edit → Type 0
Waits done to_come e = (can (replay done) e ≡ false) ⊎ ((x : Thing) × (names x e ≡ true) × (to_come x ≡ true))

-- of all edits these are done, these wait, and these are in hand, to be tried; the release of some things is to come
pub record IsHalfway (all done waits hand : List Edit) (to_come : Thing → Bool) : Type 0 where
  pub rising : IsRising all
  pub fit : AllFit all
  pub done_rise : IsRising done
  pub waits_rise : IsRising waits
  pub hand_rise : IsRising hand
  pub none_held : held done ≡ []
  pub each : (e : Edit) → Member e all → Member e done ⊎ (Member e waits ⊎ Member e hand)
  pub done_in : (e : Edit) → Member e done → Member e all
  pub waits_in : (e : Edit) → Member e waits → Member e all
  pub hand_in : (e : Edit) → Member e hand → Member e all
  pub waits_apart : (e : Edit) → Member e waits → Member e done → ⊥
  pub hand_apart : (e : Edit) → Member e hand → Member e done → ⊥
  pub hand_new : (e : Edit) → Member e hand → Member e waits → ⊥
  pub waiting : (e : Edit) → Member e waits → Waits done to_come e

-- no thing is to come
abbrev pub nothing : Thing → Bool
nothing x = false

-- before a cascade the edits taken are done, and those held wait
abbrev pub CascadesBegin : Type 0
CascadesBegin =
    (es : List Edit)
    → IsRising es
    → AllFit es
    → IsHalfway es (taken es) (held es) [] nothing

-- an edit that comes is in hand
abbrev pub EditsArrive : Type 0
EditsArrive =
    (e : Edit) (all done waits : List Edit) (to_come : Thing → Bool)
    → IsHalfway all done waits [] to_come
    → Fits e
    → AllByRecursion (λ f. same_stamp e.stamp f.stamp ≡ false) all
    → IsHalfway (with_edit e all) done waits (e ∷ []) to_come

-- one in hand that can be done is done, and the release of what it makes is to come
abbrev pub EditsAreDone : Type 0
EditsAreDone =
    (e : Edit) (all done waits hand : List Edit) (before after : Thing → Bool)
    → IsHalfway all done waits (e ∷ hand) before
    → can (replay done) e ≡ true
    → ((x : Thing) → before x ≡ true → after x ≡ true)
    → ((x : Thing) → makes e x ≡ true → after x ≡ true)
    → IsHalfway all (with_edit e done) waits hand after

-- one in hand that can't be done waits
abbrev pub EditsAreHeld : Type 0
EditsAreHeld =
    (e : Edit) (all done waits hand : List Edit) (to_come : Thing → Bool)
    → IsHalfway all done waits (e ∷ hand) to_come
    → can (replay done) e ≡ false
    → IsHalfway all done (with_edit e waits) hand to_come

-- where a thing is released, all that wait for it are in hand
abbrev pub ThingsAreReleased : Type 0
ThingsAreReleased =
    (x : Thing) (all done waits : List Edit) (before after : Thing → Bool)
    → IsHalfway all done waits [] before
    → ((y : Thing) → before y ≡ true → (y ≡ x) ⊎ (after y ≡ true))
    → IsHalfway all done (not_naming x waits) (naming x waits) after

-- where no release is to come, the edits done are those taken, and those that wait are those held
abbrev pub CascadesEnd : Type 0
CascadesEnd =
    (all done waits : List Edit) (to_come : Thing → Bool)
    → IsHalfway all done waits [] to_come
    → ((x : Thing) → to_come x ≡ false)
    → (done ≡ taken all) × (waits ≡ held all)
