-- How `open` goes on by its files.
use Rattle.std.proofs.Common.{◌≡◌, ◌∙◌, ℕ, true, false, List, [], ◌∷◌, ◌++◌, append-nil, Option, Some, None, Result, Ok, Err, ap, refl, subst, sym, inl, inr}
use Rattle.std.specs.Prelude.{◌⊎◌, string_bytes}
use Rattle.std.specs.Str.{bytes_eq}
use Rattle.zed_types.specs.declared.stamp.Stamp.{Stamp}
use Rattle.zed_op.specs.declared.op.Edit.{Edit}
use Rattle.zed_world.specs.Contents.{Contents}
use Rattle.zed_edit.specs.Replay.{replay}
use Rattle.zed_export.specs.Limits.{exported}
use Rattle.zed_take.specs.Taken.{Shows}
use Rattle.zed_driver.specs.declared.command.Stop.TheVariants.{Memory}
use Rattle.zed_driver.specs.declared.input.Input.{Input}
use Rattle.zed_driver.specs.Effects.{Effect}
use Rattle.zed_driver.specs.Reading.{Wanting}
use Rattle.zed_files.specs.Gathers.{BeginsWithBytes}
use Rattle.zed_files.specs.Opened.{FileEdits}
use Rattle.cmd_take.specs.declared.base.Presence.TheVariants.{Optional}
use Rattle.cmd_take.specs.declared.opening.Forcing.{Forcing}
use Rattle.cmd_take.specs.declared.stages.OpenStage.{OpenStage}
use Rattle.cmd_take.specs.declared.stages.OpenStage.TheVariants.{Begun, Exported, Compared, Done}
use Rattle.cmd_take.specs.Base.{BaseAsks, BaseOf, BaseReads, beside, edits_of_base}
use Rattle.cmd_take.specs.Files.{OpensAs}
use Rattle.cmd_take.specs.OpenStages.{OpenComesNow, OpenLeads, OpenWantsNow, open_next}
use Rattle.cmd_take.specs.Opening.{FoundReads, IsExported, IsSame, IsWritten, LookAsks, NeedsBase, OpenComes, OpenWants, Replaces, TriedWorld, WritesOver, opened_as, up_to}
use Rattle.cmd_take.specs.Steps.{Asks, AsksNoMore, Coming, Ends, IsLed, OrMemory, Reads}
use Rattle.cmd_take.specs.Stops.{DrawingStop}
use Rattle.cmd_take.proofs.Files.{other_asks, other_reads, own_reads, there_too}
use Rattle.cmd_take.proofs.Steps.{led_by, read_led, read_led_last}

-- what goes on from a stage goes on so where that goes on from another
pub leads_by : (until : Option Stamp) (forcing : Forcing) (file world : List ℕ) (files : List Input) (Wants WantsNow : Wanting) (Comes ComesNow : Coming) (result : Result OpenStage DrawingStop)
    → IsLed files Wants Comes WantsNow ComesNow → OpenLeads until forcing file world [] WantsNow ComesNow result → OpenLeads until forcing file world files Wants Comes result
leads_by until forcing file world files Wants WantsNow Comes ComesNow (Ok s) led is =
    (is.0, led_by files Wants WantsNow (OpenWantsNow until forcing file world s) Comes ComesNow (OpenComesNow until forcing file world s) led is.1)
leads_by until forcing file world files Wants WantsNow Comes ComesNow (Err e) led is = subst (λ fs. Comes fs (Err e)) (append-nil files) (led.comes [] (Err e) is)

-- ---- what is written

pub written_led : (world : List ℕ) (f : FileEdits) (bytes : List ℕ) (x : Effect) → x ≡ opened_as world f bytes
    → IsLed [] AsksNoMore (OrMemory (Ends (IsWritten world f bytes))) (λ rest name. ⊥) (λ rest r. (rest ≡ []) × (r ≡ Ok x))
written_led world f bytes x is = record {
  wants = λ rest name none. absurd none;
  comes = λ rest r done. inr (done.0, done.1 ∙ ap (λ y. Ok y) is);
}

-- ---- FILE

-- it was refused, or memory is lacking for it
pub opened_not : (until : Option Stamp) (forcing : Forcing) (file world : List ℕ) (i : Input) (e : DrawingStop)
    → (e ≡ Memory → BeginsWithBytes (i ∷ [])) → (e ≡ Memory) ⊎ OpensAs None i (Err e)
    → OpenComes until forcing file world (i ∷ []) (Err e)
opened_not until forcing file world i e there why = elim why [
  | inl lack ↦ inl (ap (λ x. Err x) lack, there lack)
  | inr opens ↦ inr (Err e, opens, (refl, refl))
]

-- it can't be exported
pub exported_not : (until : Option Stamp) (forcing : Forcing) (file world : List ℕ) (i : Input) (f : FileEdits) (e : DrawingStop)
    → BeginsWithBytes (i ∷ []) → OpensAs None i (Ok f) → (e ≡ Memory) ⊎ IsExported (up_to until f.1) (Err e)
    → OpenComes until forcing file world (i ∷ []) (Err e)
exported_not until forcing file world i f e there opens why = elim why [
  | inl lack ↦ inl (ap (λ x. Err x) lack, there)
  | inr limit ↦ inr (Ok f, opens, (Err e, limit, (refl, refl)))
]

-- it was opened and exported
pub opened_led : (until : Option Stamp) (forcing : Forcing) (file world : List ℕ) (i : Input) (f : FileEdits) (text : List ℕ)
    → BeginsWithBytes (i ∷ []) → OpensAs None i (Ok f) → IsExported (up_to until f.1) (Ok text)
    → IsLed (i ∷ []) (OpenWants until forcing file world) (OpenComes until forcing file world)
    (LookAsks forcing f (up_to until f.1) file world) (OrMemory (Replaces forcing f (up_to until f.1) file world text))
opened_led until forcing file world i f text there opens is = record {
  wants = λ rest name asks. (f, opens, ((text, is), asks));
  comes = λ rest r comes. elim comes [
    | inl lack ↦ inl (lack, there_too i rest there)
    | inr next ↦ inr (Ok f, opens, (Ok text, is, next))
  ];
}

-- ---- WORLD

-- it isn't there
pub missing_led : (f : FileEdits) (shown : List Edit) (file world bytes : List ℕ) (i : Input) → TriedWorld i (Ok None)
    → IsLed (i ∷ []) (Asks world TriedWorld (NeedsBase f shown file world)) (OrMemory (Reads TriedWorld (FoundReads f shown file world bytes)))
    AsksNoMore (OrMemory (Ends (IsWritten world f bytes)))
missing_led f shown file world bytes i tried =
    read_led_last world TriedWorld (NeedsBase f shown file world) (FoundReads f shown file world bytes) i None tried

-- it is there
pub found_led : (f : FileEdits) (shown : List Edit) (file world bytes : List ℕ) (i : Input) (w : Contents) → TriedWorld i (Ok (Some w))
    → IsLed (i ∷ []) (Asks world TriedWorld (NeedsBase f shown file world)) (OrMemory (Reads TriedWorld (FoundReads f shown file world bytes)))
    (NeedsBase f shown file world (Some w)) (OrMemory (FoundReads f shown file world bytes (Some w)))
found_led f shown file world bytes i w tried =
    read_led world TriedWorld (NeedsBase f shown file world) (FoundReads f shown file world bytes) i (Some w) tried

-- it is the world that is to be written
pub shown_led : (f : FileEdits) (shown : List Edit) (file world bytes : List ℕ) (w : Contents) → Shows shown w
    → IsLed [] (NeedsBase f shown file world (Some w)) (OrMemory (FoundReads f shown file world bytes (Some w)))
    AsksNoMore (OrMemory (Ends (IsWritten world f bytes)))
shown_led f shown file world bytes w shows = record {
  wants = λ rest name none. absurd none;
  comes = λ rest r comes. elim comes [ inl lack ↦ inl lack | inr next ↦ inr (inl (shows, next)) ];
}

-- it is another one
pub drawn_led : (f : FileEdits) (shown : List Edit) (file world bytes : List ℕ) (w : Contents) → (Shows shown w → ⊥)
    → IsLed [] (NeedsBase f shown file world (Some w)) (OrMemory (FoundReads f shown file world bytes (Some w)))
    (BaseAsks Optional (beside world) file f.0 (λ b. AsksNoMore)) (OrMemory (BaseReads Optional (beside world) file f.0 (λ b. Ends (WritesOver world f bytes w b))))
drawn_led f shown file world bytes w other = record {
  wants = λ rest name asks. (other, asks);
  comes = λ rest r comes. elim comes [ inl lack ↦ inl lack | inr next ↦ inr (inr (other, next)) ];
}

-- ---- the base

-- FILE is its own
pub own_led : (f : FileEdits) (file world bytes : List ℕ) (w : Contents) (n : List ℕ) → n ≡ beside world → bytes_eq n file ≡ true
    → IsLed [] (BaseAsks Optional (beside world) file f.0 (λ b. AsksNoMore)) (OrMemory (BaseReads Optional (beside world) file f.0 (λ b. Ends (WritesOver world f bytes w b))))
    AsksNoMore (OrMemory (Ends (WritesOver world f bytes w None)))
own_led f file world bytes w n named own = record {
  wants = λ rest name none. absurd none;
  comes = λ rest r comes. elim comes [
    | inl lack ↦ inl lack
    | inr next ↦ inr (own_reads Optional (beside world) file f.0 (λ b. Ends (WritesOver world f bytes w b)) rest r (subst (λ m. bytes_eq m file ≡ true) named own) next)
  ];
}

-- it has another one, which is read
pub other_led : (f : FileEdits) (file world bytes : List ℕ) (w : Contents) (n : List ℕ) → n ≡ beside world → bytes_eq n file ≡ false
    → IsLed [] (BaseAsks Optional (beside world) file f.0 (λ b. AsksNoMore)) (OrMemory (BaseReads Optional (beside world) file f.0 (λ b. Ends (WritesOver world f bytes w b))))
    (λ rest name. Asks n (BaseOf Optional f.0) (λ o. AsksNoMore) rest name) (λ rest r. OrMemory (Reads (BaseOf Optional f.0) (λ o. Ends (WritesOver world f bytes w o))) rest r)
other_led f file world bytes w n named other =
    let differs : bytes_eq (beside world) file ≡ false = subst (λ m. bytes_eq m file ≡ false) named other in
    record {
      wants = λ rest name asks.
          other_asks Optional (beside world) file f.0 (λ b. AsksNoMore) rest name differs
          (subst (λ m. Asks m (BaseOf Optional f.0) (λ o. AsksNoMore) rest name) named asks);
      comes = λ rest r comes. elim comes [
        | inl lack ↦ inl lack
        | inr next ↦ inr (other_reads Optional (beside world) file f.0 (λ b. Ends (WritesOver world f bytes w b)) rest r differs next)
      ];
    }

-- what is compared is the world that FILE shows
pub same_led : (f : FileEdits) (world bytes : List ℕ) (w : Contents) → IsSame w (exported 32767 (replay f.1)) (Ok tt)
    → IsLed [] AsksNoMore (OrMemory (Ends (WritesOver world f bytes w None))) AsksNoMore (OrMemory (Ends (IsWritten world f bytes)))
same_led f world bytes w same = record {
  wants = λ rest name none. none;
  comes = λ rest r comes. elim comes [ inl lack ↦ inl lack | inr next ↦ inr (next.0, (Ok tt, same, next.1)) ];
}

pub same_not : (f : FileEdits) (world bytes : List ℕ) (w : Contents) (e : DrawingStop)
    → (e ≡ Memory) ⊎ IsSame w (exported 32767 (replay f.1)) (Err e)
    → OrMemory (Ends (WritesOver world f bytes w None)) [] (Err e)
same_not f world bytes w e why = elim why [
  | inl lack ↦ inl (ap (λ x. Err x) lack)
  | inr other ↦ inr (refl, (Err e, other, refl))
]

-- it is the one that the base shows
pub based_led : (f : FileEdits) (world bytes : List ℕ) (w : Contents) (n : List ℕ) (i : Input) (b : Option (List Edit))
    → BaseOf Optional f.0 i (Ok b) → IsSame w (exported 32767 (replay (edits_of_base b f.1))) (Ok tt)
    → IsLed (i ∷ []) (λ rest name. Asks n (BaseOf Optional f.0) (λ o. AsksNoMore) rest name) (λ rest r. OrMemory (Reads (BaseOf Optional f.0) (λ o. Ends (WritesOver world f bytes w o))) rest r)
    AsksNoMore (OrMemory (Ends (IsWritten world f bytes)))
based_led f world bytes w n i b is same = record {
  wants = λ rest name none. absurd none;
  comes = λ rest r comes. elim comes [ inl lack ↦ inl lack | inr next ↦ inr (Ok b, is, (next.0, (Ok tt, same, next.1))) ];
}

pub based_not : (f : FileEdits) (world bytes : List ℕ) (w : Contents) (i : Input) (b : Option (List Edit)) (e : DrawingStop)
    → BaseOf Optional f.0 i (Ok b) → (e ≡ Memory) ⊎ IsSame w (exported 32767 (replay (edits_of_base b f.1))) (Err e)
    → OrMemory (Reads (BaseOf Optional f.0) (λ o. Ends (WritesOver world f bytes w o))) (i ∷ []) (Err e)
based_not f world bytes w i b e is why = elim why [
  | inl lack ↦ inl (ap (λ x. Err x) lack)
  | inr other ↦ inr (Ok b, is, (refl, (Err e, other, refl)))
]

-- ---- the stages

abbrev named : List ℕ → Option (List ℕ)
named name = Some name

some_same : (a b : List ℕ) → named a ≡ named b → b ≡ a
some_same a b is = cc

-- the next file is asked for
pub next_is_wanted : (until : Option Stamp) (forcing : Forcing) (file world : List ℕ) (stage : OpenStage) (name : List ℕ)
    → open_next file world stage ≡ Some name
    → OpenWantsNow until forcing file world stage [] name
next_is_wanted until forcing file world Begun name is = some_same file name is
next_is_wanted until forcing file world (Exported d text) name is = some_same world name is
next_is_wanted until forcing file world (Compared d text found own) name is = some_same (string_bytes own) name is
next_is_wanted until forcing file world (Done x) name is = absurd (let no : None ≡ named name = is in cc)

-- a stage that asks for a file isn't the last
pub asks_yet : (file world : List ℕ) (at stage : OpenStage) (name : List ℕ) → at ≡ stage → open_next file world at ≡ Some name
    → open_next file world stage ≡ None
    → ⊥
asks_yet file world at stage name is some none =
    let no : Some name ≡ None = sym some ∙ ap (open_next file world) is ∙ none in cc

-- it comes to its effect
pub ends_done : (until : Option Stamp) (forcing : Forcing) (file world : List ℕ) (stage : OpenStage) (x : Effect) → Done x ≡ stage
    → OpenComesNow until forcing file world stage [] (Ok x)
ends_done until forcing file world stage x is =
    subst (λ s. OpenComesNow until forcing file world s [] (Ok x)) is (refl, refl)
