-- What refuses a taking is one thing, and nothing else is answered then.
use Rattle.std.proofs.Common.{◌≡◌, ◌⊎◌, inl, inr, ℕ, Bool, true, false, List, Option, Some, None, Result, Ok, Err, refl, sym, ap, ◌∙◌, arith}
use Rattle.std.specs.Global.{Vec}
use Rattle.std.specs.Prelude.{IfErr, IfOk, OnOk}
use Rattle.zed_types.specs.declared.stamp.Stamp.{Stamp}
use Rattle.zed_world.specs.Contents.{Contents}
use Rattle.zed_world.specs.Writing.{HasText}
use Rattle.zed_world.specs.declared.error.WorldError.{WorldError}
use Rattle.zed_world.specs.declared.error.WorldError.TheVariants as world
use Rattle.zed_op.specs.declared.op.Edit.{Edit}
use Rattle.zed_history.specs.Clock.{is_spent}
use Rattle.zed_document.specs.Replica.{Replica}
use Rattle.zed_export.specs.declared.error.ExportError.{ExportError}
use Rattle.zed_export.specs.Limits.{IsRefusal}
use Rattle.zed_take.specs.Refusals.{CanBegin, IsBase, IsLate, IsOver, IsOverFirst, IsRefused, IsWithin, is_out_of_time}
use Rattle.zed_take.specs.Taken.{AreTaken, Joins, next_stamp}
use Rattle.zed_take.proofs.Deliveries.{next_join}
use Rattle.zed_take.specs.declared.error.TakeError.{TakeError}
use Rattle.zed_take.specs.declared.error.TakeError.TheVariants.{Base, ClockSpent, WorldOver}

abbrev told : ExportError → Option ExportError
told e = Some e

abbrev untold : Option ExportError
untold = None

abbrev over : WorldError → Option WorldError
over e = Some e

abbrev not_over : Option WorldError
not_over = None

yes_no : (b : Bool) → b ≡ true → b ≡ false → ⊥
yes_no b y n = absurd (let no : true ≡ false = sym y ∙ n in cc)

-- a base is refused for one thing
why_one : (b : Replica) (why other : ExportError) → IsRefusal 32767 b why → IsRefusal 32767 b other → why ≡ other
why_one b why other one two =
    elim one [
      | inl stale ↦ elim two [
        | inl again ↦ stale.1 ∙ sym again.1
        | inr not ↦ absurd (yes_no b.is_stale stale.0 not.0)
      ]
      | inr not ↦ elim two [
        | inl stale ↦ absurd (yes_no b.is_stale stale.0 not.0)
        | inr again ↦ (let same : told why ≡ told other = sym not.1 ∙ again.1 in cc)
      ]
    ]

-- and not where it is within the limits
why_none : (b : Replica) (why : ExportError) → IsWithin b → IsRefusal 32767 b why → ⊥
why_none b why fine one =
    elim one [
      | inl stale ↦ yes_no b.is_stale stale.0 fine.0
      | inr not ↦ absurd (let no : told why ≡ untold = sym not.1 ∙ fine.1 in cc)
    ]

over_none : (w : Contents) (e : TakeError) → HasText 32767 w → IsOver w e → ⊥
over_none w e text is = absurd (let no : not_over ≡ over (world.BoardOver is.0 is.1) = sym text ∙ is.2 in cc)

over_one : (w : Contents) (e f : TakeError) → IsOver w e → IsOver w f → e ≡ f
over_one w e f one two =
    let same : over (world.BoardOver one.0 one.1) ≡ over (world.BoardOver two.0 two.1) = sym one.2 ∙ two.2 in
    let first : e ≡ WorldOver one.0 one.1 = one.3 in
    let second : f ≡ WorldOver two.0 two.1 = two.3 in
    let board : one.0 ≡ two.0 = cc in
    let bytes : one.1 ≡ two.1 = cc in
    cc

base_one : (b : Replica) (e f : TakeError) → IsBase b e → IsBase b f → e ≡ f
base_one b e f one two = one.2 ∙ ap Base (why_one b one.0 two.0 one.1 two.1) ∙ sym two.2

first_one : (b : Replica) (w : Contents) (e f : TakeError) → IsOverFirst b w e → IsOverFirst b w f → e ≡ f
first_one b w e f one two =
    elim one [
      | inl is ↦ elim two [
        | inl again ↦ over_one w e f is again
        | inr not ↦ absurd (over_none w e not.0 is)
      ]
      | inr is ↦ elim two [
        | inl again ↦ absurd (over_none w f is.0 again)
        | inr again ↦ base_one b e f is.1 again.1
      ]
    ]

first_none : (b : Replica) (w : Contents) (e : TakeError) → HasText 32767 w → IsWithin b → IsOverFirst b w e → ⊥
first_none b w e text fine one =
    elim one [
      | inl is ↦ over_none w e text is
      | inr is ↦ why_none b is.1.0 fine is.1.1
    ]

pub refused_one : (d b : Replica) (w : Contents) (e f : TakeError) → IsRefused d b w e → IsRefused d b w f → e ≡ f
refused_one d b w e f one two =
    elim one [
      | inl is ↦ elim two [
        | inl again ↦ is.1 ∙ sym again.1
        | inr not ↦ absurd (yes_no (is_out_of_time d.edits) is.0 not.0)
      ]
      | inr is ↦ elim two [
        | inl again ↦ absurd (yes_no (is_out_of_time d.edits) again.0 is.0)
        | inr again ↦ first_one b w e f is.1 again.1
      ]
    ]

pub refused_none : (d b : Replica) (w : Contents) (e : TakeError) → CanBegin d b w → IsRefused d b w e → ⊥
refused_none d b w e can one =
    elim one [
      | inl is ↦ yes_no (is_out_of_time d.edits) is.0 can.time
      | inr is ↦ first_none b w e can.text can.within is.1
    ]

-- the clock as limits tell it
pub out_of_time : (es : List Edit) (b : Bool) → is_spent es 1 ≡ b → is_out_of_time es ≡ b
out_of_time es true h = grind (arith)
out_of_time es false h = grind (arith)

-- what is answered once there is time: just what refuses first, where it does
pub settled : {X : Type 0} (d b : Replica) (w : Contents) (r : Result X TakeError) → is_out_of_time d.edits ≡ false
    → OnOk r (HasText 32767 w × IsWithin b)
    → IfErr r (λ e. IsOverFirst b w e ⊎ (HasText 32767 w × IsWithin b × IsLate b.edits w e))
    → (e : TakeError) → IsRefused d b w e → r ≡ Err e
settled d b w (Ok x) time fine late e refused =
    absurd (refused_none d b w e (record { time = time; text = fine.0; within = fine.1 }) refused)
settled d b w (Err f) time fine late e refused =
    elim late [
      | inl first ↦ ap Err (refused_one d b w f e (inr (time, first)) refused)
      | inr more ↦ absurd (refused_none d b w e (record { time = time; text = more.0; within = more.1 }) refused)
    ]

pub came : {X : Type 0} (d b : Replica) (w : Contents) (r : Result X TakeError) → is_out_of_time d.edits ≡ false
    → IfErr r (λ e. IsOverFirst b w e ⊎ (HasText 32767 w × IsWithin b × IsLate b.edits w e))
    → IfErr r (λ e. IsRefused d b w e ⊎ (CanBegin d b w × IsLate b.edits w e))
came d b w (Ok x) time late = tt
came d b w (Err f) time late =
    elim late [
      | inl first ↦ inl (inr (time, first))
      | inr more ↦ inr (record { time = time; text = more.0; within = more.1 }, more.2)
    ]

-- where no time is left only that is told
pub spent : (d b : Replica) (w : Contents) → is_out_of_time d.edits ≡ true → (e : TakeError) → IsRefused d b w e → ClockSpent ≡ e
spent d b w out e refused = refused_one d b w ClockSpent e (inl (out, refl)) refused

-- edits that are taken join the document whose next stamps they have
pub takes_join : (log base : List Edit) (w : Contents) (replica : ℕ) (first : Stamp) (r : Result (Vec Edit) TakeError)
    → first ≡ next_stamp log replica
    → IfOk r (λ edits. AreTaken base w first edits.items) → IfOk r (λ edits. Joins log edits.items)
takes_join log base w replica first (Ok edits) is taken = next_join log edits.items replica (rw is at taken.lead.from)
takes_join log base w replica first (Err e) is taken = tt
