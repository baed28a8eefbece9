-- What undoing leaves.
use Rattle.std.proofs.Common.{◌≡◌, ◌∙◌, ℕ, List, Result, Ok, Err, ap, subst, sym, inl, inr, map}
use Rattle.zed_op.specs.declared.op.Edit.{Edit}
use Rattle.zed_op.specs.Set.{union}
use Rattle.zed_world.specs.Contents.{Contents}
use Rattle.zed_edit.specs.Replay.{replay}
use Rattle.zed_export.specs.declared.error.ExportError.{ExportError}
use Rattle.zed_export.specs.Limits.{exported}
use Rattle.zed_driver.specs.Effects.{Effect}
use Rattle.zed_files.specs.Opened.{FileEdits}
use Rattle.zed_take.specs.Taken.{AreTaken, next_stamp}
use Rattle.cmd_take.specs.Opening.{export_told}
use Rattle.cmd_take.specs.Stops.{DrawingStop, take_stop}
use Rattle.cmd_take.specs.Taking.{IsTaken}
use Rattle.cmd_take.proofs.Steps.{step_was}
use Rattle.zed_undo.specs.Leaving.{left_by, without}
use Rattle.zed_undo.proofs.Left.{left_map}
use Rattle.cmd_undo.specs.declared.manner.Trial.TheVariants.{Real}
use Rattle.cmd_undo.specs.Laws.{UndoingTakesBack}
use Rattle.cmd_undo.specs.Undoing.{GivesFile, IsGiven, IsShown, IsTakenBack, Takes}

world_shown : (es : List Edit) (w : Contents) → IsShown es (Ok w) → exported 32767 (replay es) ≡ Ok w
world_shown es w is = go (exported 32767 (replay es)) is
  where
    go : (r : Result Contents ExportError) → Ok w ≡ export_told r → r ≡ Ok w
    go (Ok v) same = cc
    go (Err e) same = cc

were_taken : (es : List Edit) (w : Contents) (replica : ℕ) (new : List Edit) → IsTaken es es w replica (Ok new) → AreTaken es w (next_stamp es replica) new
unfolding IsTaken
were_taken es w replica new is = elim is [
  | inl t ↦ (let same : t.0 ≡ new = (let whole = t.2 in cc) in subst (λ xs. AreTaken es w (next_stamp es replica) xs) same t.1)
  | inr bad ↦ absurd (let whole : Ok new ≡ Err (take_stop bad.0) = bad.2 in cc)
]

-- the effect that an answer is
abbrev did : Effect → Result Effect DrawingStop
did x = Ok x

given_is : (f : FileEdits) (file : List ℕ) (new : List Edit) (x y : Effect) → IsGiven Real file f new y → did x ≡ did y → IsGiven Real file f new x
given_is f file new x y given is = let same : y ≡ x = cc in subst (λ z. IsGiven Real file f new z) same given

pub undoing_takes_back : UndoingTakesBack
unfolding IsTakenBack
undoing_takes_back file replica number gone es x is =
    let f : FileEdits = (number, es) in
    let left = left_by (map gone es) es in
    let world = step_was (IsShown left) (λ w. Takes Real file replica f w) x is in
    let taken = step_was (IsTaken es es world.0 replica) (λ new. GivesFile Real file f new) x world.2 in
    let new = were_taken es world.0 replica taken.0 taken.1 in
    let given = given_is f file taken.0 x taken.2.0 taken.2.1 taken.2.2 in
    let shows : exported 32767 (replay (union es taken.0)) ≡ Ok world.0 = new.lead.shows in
    let wanted : exported 32767 (replay left) ≡ Ok world.0 = world_shown left world.0 world.1 in
    let others : exported 32767 (replay left) ≡ exported 32767 (replay (without gone es)) = ap (λ xs. exported 32767 (replay xs)) (left_map gone es) in (
      taken.0,
      record {
        shows = shows ∙ sym wanted ∙ others;
        fit = new.lead.fit;
        behind = new.lead.from;
        files = given.0;
      },
    )
