-- When edits show a world, seen from the files of both.
use Rattle.std.proofs.Common.{◌≡◌, inl, inr, arith, List, ℕ, Option, Some, None, Result, Ok, Err, refl, ap, sym, ◌∙◌}
use Rattle.std.specs.Prelude.{◌≢◌}
use Rattle.zed_world.specs.Contents.{Contents}
use Rattle.zed_world.specs.Reading.{world_at}
use Rattle.zed_world.specs.Writing.{world_text}
use Rattle.zed_world.specs.declared.error.WorldError.{WorldError}
use Rattle.zed_edit.specs.declared.plain.Plain.{Plain}
use Rattle.zed_export.specs.declared.error.ExportError.{ExportError}
use Rattle.zed_export.specs.Limits.{exported, refusal_of, saved, unless_over}
use Rattle.zed_export.specs.World.{world_of}
use Rattle.zed_export.specs.Headline.{AreAuthored, AuthoredIsRead}
use Rattle.zed_op.specs.declared.op.Edit.{Edit}
use Rattle.zed_op.specs.Set.{set_of}
use Rattle.zed_op.specs.SetLaws.{RisingAgrees, RisingIsItsSet}
use Rattle.zed_edit.specs.Replay.{replay}
use Rattle.zed_take.specs.Laws.{NothingIsTakenUnchanged}
use Rattle.zed_take.specs.Refusals.{IsLate, of_plan}
use Rattle.zed_take.specs.Taken.{Shows}
use Rattle.zed_take.specs.declared.plan_error.PlanError.{PlanError}
use Rattle.zed_take.specs.declared.plan_error.PlanError.TheVariants as plan

abbrev read_as : Contents → Result Contents WorldError
read_as w = Ok w

abbrev file_as : List ℕ → Result (List ℕ) ExportError
file_as file = Ok file

abbrev over_as : {Y : Type 0} → ExportError → Result Y ExportError
over_as e = Err e

abbrev shown_as : Contents → Result Contents ExportError
shown_as w = Ok w

-- what can be saved can be exported
within : (over : Option ExportError) (file text : List ℕ) (w : Contents) → unless_over over text ≡ Ok file → unless_over over w ≡ Ok w
within None file text w h = refl
within (Some e) file text w h = absurd (let no : over_as e ≡ file_as file = h in cc)

-- a file that is read both as what is exported and as a world: the world is what is exported
pub shown : (p : Plain) (w : Contents) (file : List ℕ) → saved 32767 p ≡ Ok file → world_at file ≡ Ok (world_of p) → world_at file ≡ Ok w
    → exported 32767 p ≡ Ok w
shown p w file s back is =
    let same : read_as (world_of p) ≡ read_as w = sym back ∙ is in
    let one : world_of p ≡ w = cc in
    within (refusal_of 32767 p) file (world_text (world_of p)) (world_of p) s ∙ ap shown_as one

-- a saved file is the one text of the world that is shown
file_is : (over : Option ExportError) (w v : Contents) (file : List ℕ) → unless_over over (world_text w) ≡ Ok file
    → unless_over over w ≡ Ok v
    → file ≡ world_text v
file_is None w v file s e =
    let same : file_as (world_text w) ≡ file_as file = s in
    let one : shown_as w ≡ shown_as v = e in
    let is : w ≡ v = cc in
    let text : world_text w ≡ file = cc in
    sym text ∙ ap world_text is
file_is (Some x) w v file s e = absurd (let no : over_as x ≡ shown_as v = e in cc)

-- where the file isn't the text of a world, that world isn't shown
pub not_shown : (p : Plain) (w : Contents) (file : List ℕ) → saved 32767 p ≡ Ok file → file ≢ world_text w → exported 32767 p ≡ Ok w → ⊥
not_shown p w file s other e = other (file_is (refusal_of 32767 p) (world_of p) w file s e)

-- what planning is refused for comes late
pub late : (base : List Edit) (w : Contents) (p : PlanError) → (Shows base w → ⊥) → IsLate base w (of_plan p)
late base w plan.Memory not = inl refl
late base w plan.ClockSpent not = inr (not, inl refl)
late base w plan.NotTaken not = inr (not, inr refl)

-- what was saved and is read as it is: nothing is taken
pub unchanged : AuthoredIsRead → RisingAgrees → RisingIsItsSet → NothingIsTakenUnchanged
unchanged law agrees own base edits file w first fit sizes rises s is taken =
    let own_set : set_of base ≡ base = own base rises in
    let authored : AreAuthored base = record { fit = fit; sizes = sizes; agree = agrees base rises } in
    let of_set : saved 32767 (replay (set_of base)) ≡ Ok file = rw own_set s in
    let back : world_at file ≡ Ok (world_of (replay (set_of base))) = law 32767 base file authored (omega arith) of_set in
    let read : world_at file ≡ Ok (world_of (replay base)) = rw own_set at back in
    taken.nothing (shown (replay base) w file s read is)
