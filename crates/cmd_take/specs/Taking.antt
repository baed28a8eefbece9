-- What `take` comes to.
use Rattle.zed_types.specs.declared.stamp.Stamp.{Stamp}
use Rattle.zed_types.specs.Stamp.{same_stamp}
use Rattle.zed_op.specs.declared.op.Edit.{Edit}
use Rattle.zed_edit.specs.Replay.{replay}
use Rattle.zed_take.specs.declared.error.TakeError.{TakeError}
use Rattle.zed_refusal.specs.declared.reason.Reason.TheVariants as reason
use Rattle.cmd_take.specs.declared.base.Presence.{Presence}
use Rattle.cmd_take.specs.declared.opening.Forcing.{Forcing}
use Rattle.std.specs.Prelude.{◌≡◌, ◌⊎◌, ◌==◌, ℕ, false, List, [], ◌∷◌, ◌++◌, ◌-◌, codes, length, slice_get, if◌then◌else◌, Option, Some, None, Result, Ok, Err}
use Rattle.std.specs.Fmt.{decimal}
use Rattle.zed_world.specs.Contents.{Contents}
use Rattle.zed_op.specs.Set.{union}
use Rattle.zed_history.specs.Clash.{Agree, IsLeastClash}
use Rattle.zed_document.specs.Replica.{Replica}
use Rattle.zed_driver.specs.declared.input.Input.{Input}
use Rattle.zed_driver.specs.Effects.{Effect, Output, effect, output}
use Rattle.zed_driver.specs.Reading.{Wanting}
use Rattle.zed_editfile.specs.Spelling.{file_text}
use Rattle.zed_take.specs.Refusals.{CanBegin, IsLate, IsRefused}
use Rattle.zed_take.specs.Taken.{AreTaken, next_stamp}
use Rattle.zed_files.specs.Lines.{ended}
use Rattle.zed_files.specs.Opened.{FileEdits}
use Rattle.cmd_take.specs.Base.{BaseAsks, BaseReads, base_word, edits_of_base, presence_of}
use Rattle.cmd_take.specs.Files.{OpensAs, ReadsAs}
use Rattle.cmd_take.specs.Note.{told, with_told}
use Rattle.cmd_take.specs.Stops.{DrawingStop, refused_for, take_stop}
use Rattle.cmd_take.specs.Steps.{Asks, AsksNoMore, Authored, AuthorAsks, Coming, Ends, Reads, Steps}

-- what is read: the number of the world of FILE, its edits, those of a base of its own, and what WORLD shows
pub record Given : Type 0 where
  pub number : ℕ
  pub edits : List Edit
  pub base : Option (List Edit)
  pub shown : Contents

-- this was read
abbrev pub given : FileEdits → Option (List Edit) → Contents → Given
given f base w = record { number = f.0; edits = f.1; base = base; shown = w }

-- the edits of FILE with those of its base, or the least stamp at which they clash
unfoldable pub IsJoined : List Edit → Option (List Edit) → Result (List Edit) DrawingStop → Type 0
IsJoined own None r = r ≡ Ok own
IsJoined own (Some base) r =
    (Agree own base × (r ≡ Ok (union own base)))
    ⊎ ((s : Stamp) × IsLeastClash own base s × (r ≡ Err (refused_for (reason.Clash s))))

-- a document that isn't stale has these edits
abbrev pub HasJust : Replica → List Edit → Type 0
HasJust d es = (d.edits ≡ es) × (d.is_stale ≡ false)

-- why nothing is taken: what the planner of edits refuses
abbrev pub IsNotTaken : List Edit → List Edit → Contents → TakeError → Type 0
IsNotTaken all base w e =
    (d : Replica) × (b : Replica) × HasJust d all × HasJust b base
    × (IsRefused d b w e ⊎ (CanBegin d b w × IsLate base w e))

-- the edits that a replica takes, with stamps behind all these: they lead from what the base shows to the world
unfoldable pub IsTaken : List Edit → List Edit → Contents → ℕ → Result (List Edit) DrawingStop → Type 0
IsTaken all base w replica r =
    ((new : List Edit) × AreTaken base w (next_stamp all replica) new × (r ≡ Ok new))
    ⊎ ((e : TakeError) × IsNotTaken all base w e × (r ≡ Err (take_stop e)))

-- the edit file of a set that had so many edits; none where it has no more now
abbrev pub grown : List ℕ → ℕ → ℕ → List Edit → List Output
grown name number had es = if length es == had then [] else output name (file_text number es) ∷ []

-- the file of a base of its own with these edits beside, if they are any
abbrev pub base_grown : List ℕ → ℕ → Option (List Edit) → List Edit → List Output
base_grown base number None new = []
base_grown base number (Some es) new = grown base number (length es) (union es new)

-- a stamp: its time and its replica, with a dot between them
unfoldable pub stamp_told : Stamp → List ℕ
stamp_told s = decimal s.time ++ (codes "." ++ decimal s.replica)

-- one stamp
abbrev pub one_told : Stamp → List ℕ
one_told s = codes ": " ++ stamp_told s

-- two of them
abbrev pub both_told : Stamp → Stamp → List ℕ
both_told s t = codes ": " ++ (stamp_told s ++ (codes " to " ++ stamp_told t))

-- the stamps of edits that were made one after the other: one, or the first and the last
abbrev pub span_told : Stamp → Stamp → List ℕ
span_told s t = if same_stamp s t then one_told s else both_told s t

-- those of the first edit and the last one, where there are some
abbrev pub ends_told : Option Edit → Option Edit → List ℕ
ends_told (Some e) (Some f) = span_told e.stamp f.stamp
ends_told _ _ = []

-- those of edits; nothing where they are none
abbrev pub stamps_told : List Edit → List ℕ
stamps_told es = ends_told (slice_get es 0) (slice_get es (length es - 1))

-- how many edits were made, how many FILE has now, and the stamps of those that were made
abbrev pub made_line : ℕ → ℕ → List ℕ → List ℕ
made_line made edits stamps = decimal made ++ (codes " taken, " ++ (decimal edits ++ (codes " edits" ++ ended stamps)))

-- the same of edits that were taken
abbrev pub taken_line : List Edit → ℕ → List ℕ
taken_line new edits = made_line (length new) edits (stamps_told new)

-- the base gets the new edits, and behind it FILE all edits, where they haven't got them already
abbrev pub drawn : List ℕ → List ℕ → Given → List Edit → List Edit → Effect
drawn base file g all new =
    effect (base_grown base g.number g.base new ++ grown file g.number (length g.edits) (union all new))
    (Some (taken_line new (length (union all new)))) 0

-- edits that were found are taken, with a note; unless too many boards go
abbrev pub took : List ℕ → List ℕ → Forcing → Given → List Edit → List Edit → Result Effect DrawingStop
took base file forcing g all new = with_told (told forcing (replay (edits_of_base g.base g.edits)) new) (drawn base file g all new)

-- what `take` does with what was read
unfoldable pub Takes : List ℕ → List ℕ → ℕ → Forcing → Given → Result Effect DrawingStop → Type 0
Takes base file replica forcing g r =
    Steps (IsJoined g.edits g.base) (λ all.
    Steps (IsTaken all (edits_of_base g.base g.edits) g.shown replica) (λ new r. r ≡ took base file forcing g all new)) r

-- what is done with it, whatever goes, and without a note, by commands that change FILE by a world that they make
unfoldable pub Draws : List ℕ → List ℕ → ℕ → Given → Result Effect DrawingStop → Type 0
Draws base file replica g r =
    Steps (IsJoined g.edits g.base) (λ all.
    Steps (IsTaken all (edits_of_base g.base g.edits) g.shown replica) (λ new r. r ≡ Ok (drawn base file g all new))) r

-- WORLD is read last, and the edits are taken that lead to it
abbrev pub WorldTakes : List ℕ → List ℕ → ℕ → Forcing → FileEdits → Option (List Edit) → List Input → Result Effect DrawingStop → Type 0
WorldTakes base file replica forcing f b files r = Reads ReadsAs (λ w. Ends (Takes base file replica forcing (given f b w))) files r

-- the base of FILE is read, and then WORLD
abbrev pub BaseTakes : Presence → List ℕ → List ℕ → ℕ → Forcing → FileEdits → List Input → Result Effect DrawingStop → Type 0
BaseTakes presence base file replica forcing f files r =
    BaseReads presence base file f.0 (WorldTakes base file replica forcing f) files r

-- FILE is read, then its base, and then WORLD
abbrev pub FileTakes : Presence → List ℕ → List ℕ → ℕ → Forcing → List Input → Result Effect DrawingStop → Type 0
FileTakes presence base file replica forcing files r = Reads (OpensAs None) (BaseTakes presence base file replica forcing) files r

-- what `take` comes to: its effect, or the first refusal
abbrev pub TakeComes : Option (List ℕ) → Forcing → List ℕ → ℕ → List ℕ → List Input → Result Effect DrawingStop → Type 0
TakeComes base forcing file replica world files r =
    Authored replica (FileTakes (presence_of base) (base_word base world) file replica forcing) files r

-- WORLD is asked for
abbrev pub WorldAsks : List ℕ → List Input → List ℕ → Type 0
WorldAsks world files wanted = Asks world ReadsAs (λ w. AsksNoMore) files wanted

-- a base of FILE and then WORLD are asked for, unless that is refused
abbrev pub TakeBaseAsks : Presence → List ℕ → List ℕ → List ℕ → FileEdits → List Input → List ℕ → Type 0
TakeBaseAsks presence base file world f files wanted =
    BaseAsks presence base file f.0 (λ b. WorldAsks world) files wanted

-- what `take` asks for: FILE, a base of its own, and then WORLD; behind one that is refused nothing
abbrev pub TakeWants : Option (List ℕ) → List ℕ → ℕ → List ℕ → List Input → List ℕ → Type 0
TakeWants base file replica world files wanted =
    AuthorAsks replica (Asks file (OpensAs None) (TakeBaseAsks (presence_of base) (base_word base world) file world)) files wanted
