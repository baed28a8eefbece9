-- What a body shows after one edit more, and what it tells of it.
use Rattle.std.specs.Prelude.{◌≡◌, ℕ, Bool, false, not, List, [], count_by}
use Rattle.std.specs.List.{AllByRecursion, list_any}
use Rattle.zed_types.specs.declared.stamp.Stamp.{Stamp}
use Rattle.zed_types.specs.Stamp.{same_stamp}
use Rattle.zed_op.specs.declared.op.Edit.{Edit}
use Rattle.zed_op.specs.Fit.{Fits}
use Rattle.zed_op.specs.Set.{IsRising, AllFit, with_edit}
use Rattle.zed_edit.specs.Replay.{replay}
use Rattle.zed_live.specs.Document.{empty_live}
use Rattle.zed_delivery.specs.declared.body.Body.{Body}
use Rattle.zed_delivery.specs.declared.take.Taken.{Taken}
use Rattle.zed_delivery.specs.Shows.{BodyShows}

-- a body that took no edit
abbrev pub IsEmpty : Body → Type 0
IsEmpty b = (b.live ≡ empty_live) × (b.texts ≡ []) × (b.inbox ≡ [])

-- none of these edits has the stamp of this one
abbrev pub IsApart : Edit → List Edit → Type 0
IsApart e es = AllByRecursion (λ f. same_stamp e.stamp f.stamp ≡ false) es

-- an edit comes to a body that shows these edits, none of which has its stamp
pub record ComesTo (e : Edit) (es : List Edit) (b : Body) : Type 0 where
  pub rising : IsRising es
  pub fit : AllFit es
  pub shows : BodyShows es b
  pub apart : IsApart e es

-- a body shows edits, none of which has the stamp of this one
abbrev pub IsNewTo : Edit → Body → Type 0
IsNewTo e b = (es : List Edit) × ComesTo e es b

-- whatever edits a body showed, now it shows one more
abbrev pub ShowsOneMore : Edit → Body → Body → Type 0
ShowsOneMore e b c = (es : List Edit) → ComesTo e es b → BodyShows (with_edit e es) c

-- the stamps of the edits that are held, rising
abbrev pub held_stamps : List Edit → List Stamp
held_stamps es = (replay es).held

-- whether the edit of a stamp is held
abbrev pub is_held : List Edit → Stamp → Bool
is_held es s = list_any (λ t. same_stamp t s) (held_stamps es)

-- how many edits are held before and not after
abbrev pub woken : List Edit → List Edit → ℕ
woken old new = count_by (λ s. not (is_held new s)) (held_stamps old)

-- whatever edits a body showed, it tells whether one more is held, and how many others no longer are
abbrev pub Tells : Edit → Body → Taken → Type 0
Tells e b t =
    (es : List Edit)
    → ComesTo e es b
    → (t.held ≡ is_held (with_edit e es) e.stamp) × (t.woken ≡ woken es (with_edit e es))

-- where one edit more isn't held itself and wakes no other, the same edits are held as before
abbrev pub CalmEditsHoldTheSame : Type 0
CalmEditsHoldTheSame =
    (e : Edit) (es : List Edit)
    → IsRising es
    → AllFit es
    → Fits e
    → IsApart e es
    → is_held (with_edit e es) e.stamp ≡ false
    → woken es (with_edit e es) ≡ 0
    → held_stamps (with_edit e es) ≡ held_stamps es
