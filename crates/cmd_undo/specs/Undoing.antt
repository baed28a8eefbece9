-- What undoing comes to.
use Rattle.std.specs.Prelude.{◌≡◌, ℕ, Bool, true, List, [], length, map, is_some, Option, Some, None, Result, Ok, Err, MatchOption}
use Rattle.zed_types.specs.declared.stamp.Stamp.{Stamp}
use Rattle.zed_op.specs.declared.op.Edit.{Edit}
use Rattle.zed_op.specs.Set.{union}
use Rattle.zed_world.specs.Contents.{Contents}
use Rattle.zed_edit.specs.Replay.{replay}
use Rattle.zed_export.specs.Limits.{exported}
use Rattle.zed_driver.specs.declared.command.Stop.TheVariants.{Memory}
use Rattle.zed_driver.specs.declared.input.Input.{Input}
use Rattle.zed_driver.specs.Effects.{Effect, Output}
use Rattle.zed_refusal.specs.declared.reason.Reason.TheVariants as reason
use Rattle.zed_files.specs.Opened.{FileEdits}
use Rattle.zed_undo.specs.declared.error.ChoiceError.{ChoiceError}
use Rattle.zed_undo.specs.declared.error.ChoiceError.TheVariants as choosing
use Rattle.zed_undo.specs.Choosing.{Wanted, chosen_of, first_missing, is_between, wanted_of}
use Rattle.zed_undo.specs.Leaving.{first_needed, left_by}
use Rattle.cmd_take.specs.Files.{OpensAs}
use Rattle.cmd_take.specs.Opening.{export_told}
use Rattle.cmd_take.specs.Steps.{Asks, AsksNoMore, Authored, AuthorAsks, Ends, Reads, Steps}
use Rattle.cmd_take.specs.Stops.{DrawingStop, refused_for}
use Rattle.cmd_take.specs.Taking.{IsTaken, grown}
use Rattle.cmd_undo.specs.declared.manner.Manner.{Manner}
use Rattle.cmd_undo.specs.declared.manner.Others.{Others}
use Rattle.cmd_undo.specs.declared.manner.Others.TheVariants.{Spared, Included}
use Rattle.cmd_undo.specs.declared.manner.Source.{Source}
use Rattle.cmd_undo.specs.declared.manner.Source.TheVariants as source
use Rattle.cmd_undo.specs.declared.manner.Trial.{Trial}
use Rattle.cmd_undo.specs.declared.manner.Trial.TheVariants.{Real, Dry}
use Rattle.cmd_undo.specs.Declining.{declined, missing_text, needed_text}

-- ---- what is done with FILE

-- the world of a set of edits, of at most 32,767 bytes a body, or the refusal of the export
abbrev pub IsShown : List Edit → Result Contents DrawingStop → Type 0
IsShown es r = r ≡ export_told (exported 32767 (replay es))

-- what is written: FILE with the new edits, where there are some; nothing where that is only tried
abbrev pub written : Trial → List ℕ → FileEdits → List Edit → List Output
written Real file f new = grown file f.0 (length f.1) (union f.1 new)
written Dry file f new = []

-- FILE gets these edits, and something is printed
abbrev pub IsGiven : Trial → List ℕ → FileEdits → List Edit → Effect → Type 0
IsGiven trial file f new x = (x.files ≡ written trial file f new) × (is_some x.text ≡ true) × (x.note ≡ None) × (x.status ≡ 0)

-- the answer is such an effect
abbrev pub GivesFile : Trial → List ℕ → FileEdits → List Edit → Result Effect DrawingStop → Type 0
GivesFile trial file f new r = (x : Effect) × IsGiven trial file f new x × (r ≡ Ok x)

-- FILE gets edits of this replica that lead to a world, or it is refused as `take` refuses a world
abbrev pub Takes : Trial → List ℕ → ℕ → FileEdits → Contents → Result Effect DrawingStop → Type 0
Takes trial file replica f w r = Steps (IsTaken f.1 f.1 w replica) (λ new r. GivesFile trial file f new r) r

-- they lead to the world of the edits of FILE that aren't marked
unfoldable pub IsTakenBack : Trial → List ℕ → ℕ → List Bool → FileEdits → Result Effect DrawingStop → Type 0
IsTakenBack trial file replica marks f r = Steps (IsShown (left_by marks f.1)) (λ w. Takes trial file replica f w) r

-- the edit of another author that stops it: the first one that needs what is marked, unless these go with it
abbrev pub stopping : Others → ℕ → List Edit → List Edit → Option Edit
stopping Spared replica es left = first_needed es left replica
stopping Included replica es left = None

-- the edits that are marked are undone, unless another author's edit needs one of them
unfoldable pub Undoes : List ℕ → Manner → ℕ → List Bool → FileEdits → Result Effect DrawingStop → Type 0
Undoes file manner replica marks f r = MatchOption (stopping manner.others replica f.1 (left_by marks f.1))
    (IsTakenBack manner.trial file replica marks f r)
    (λ e. r ≡ Ok (declined (needed_text e)))

-- ---- what is undone

-- what is wanted: what passes filters and has stamps; or what the file of a name has and that of another one doesn't have
pub data Wish : Type 0 where
  Chosen : (w : Wanted) → Wish
  Pulled : (new old : List ℕ) → Wish

-- what a source means
abbrev pub meaning_of : Source → Wish
meaning_of (source.Chosen c) = Chosen (wanted_of c)
meaning_of (source.Pulled new old) = Pulled new.now old.now

-- why nothing can be chosen
abbrev pub choice_stop : ChoiceError → DrawingStop
choice_stop choosing.Memory = Memory
choice_stop choosing.NoBoard = refused_for reason.NoBoard
choice_stop choosing.OutOfRange = refused_for reason.OutOfRange

-- what is chosen, or why nothing can be
abbrev pub choice_told : Result (List Bool) ChoiceError → Result (List Bool) DrawingStop
choice_told (Ok marks) = Ok marks
choice_told (Err e) = Err (choice_stop e)

-- unless a stamp is one of no edit that can be undone, these are undone
abbrev pub UndoesThese : List ℕ → Manner → ℕ → List Stamp → FileEdits → List Bool → Result Effect DrawingStop → Type 0
UndoesThese file manner replica stamps f marks r = MatchOption (first_missing f.1 stamps)
    (Undoes file manner replica marks f r)
    (λ s. r ≡ Ok (declined (missing_text s)))

-- what is chosen is undone
unfoldable pub UndoesChosen : List ℕ → Manner → ℕ → Wanted → FileEdits → Result Effect DrawingStop → Type 0
UndoesChosen file manner replica w f r =
    Steps (λ m. m ≡ choice_told (chosen_of f.1 w)) (λ marks. UndoesThese file manner replica w.stamps f marks) r

-- marks at the edits that a newer set has and an older one doesn't have
abbrev pub between : FileEdits → FileEdits → List Edit → List Bool
between new old es = map (λ e. is_between new.1 old.1 e.stamp) es

-- ---- the files

-- OLD is read last
abbrev pub OldUndoes : List ℕ → Manner → ℕ → FileEdits → FileEdits → List Input → Result Effect DrawingStop → Type 0
OldUndoes file manner replica f new files r =
    Reads (OpensAs (Some f.0)) (λ old. Ends (Undoes file manner replica (between new old f.1) f)) files r

-- NEW is read, and then OLD, both of the world of FILE
abbrev pub NewUndoes : List ℕ → Manner → ℕ → FileEdits → List Input → Result Effect DrawingStop → Type 0
NewUndoes file manner replica f files r = Reads (OpensAs (Some f.0)) (OldUndoes file manner replica f) files r

-- FILE was read
abbrev pub WishUndoes : List ℕ → Manner → ℕ → Wish → FileEdits → List Input → Result Effect DrawingStop → Type 0
WishUndoes file manner replica (Chosen w) f files r = Ends (UndoesChosen file manner replica w f) files r
WishUndoes file manner replica (Pulled new old) f files r = NewUndoes file manner replica f files r

-- what `undo` comes to: its effect, or the first refusal
abbrev pub UndoComes : List ℕ → Manner → ℕ → Wish → List Input → Result Effect DrawingStop → Type 0
UndoComes file manner replica wish files r =
    Authored replica (Reads (OpensAs None) (WishUndoes file manner replica wish)) files r

-- OLD is asked for
abbrev pub OldAsks : List ℕ → FileEdits → List Input → List ℕ → Type 0
OldAsks old f files wanted = Asks old (OpensAs (Some f.0)) (λ o. AsksNoMore) files wanted

-- what is asked for behind FILE: NEW and then OLD, where a pull is undone
abbrev pub WishAsks : Wish → FileEdits → List Input → List ℕ → Type 0
WishAsks (Chosen w) f files wanted = AsksNoMore files wanted
WishAsks (Pulled new old) f files wanted = Asks new (OpensAs (Some f.0)) (λ n. OldAsks old f) files wanted

-- what `undo` asks for; behind a file that is refused nothing
abbrev pub UndoWants : List ℕ → ℕ → Wish → List Input → List ℕ → Type 0
UndoWants file replica wish files wanted = AuthorAsks replica (Asks file (OpensAs None) (WishAsks wish)) files wanted
