-- What setting a program comes to.
use Rattle.std.specs.Prelude.{◌≡◌, ℕ, List, [], ◌∷◌, None, Result, Ok, Err}
use Rattle.zed_op.specs.declared.op.Edit.{Edit}
use Rattle.zed_world.specs.Contents.{Contents}
use Rattle.zed_edit.specs.Replay.{replay}
use Rattle.zed_export.specs.Limits.{exported}
use Rattle.zed_driver.specs.declared.command.Stop.TheVariants.{Memory, Refused}
use Rattle.zed_driver.specs.declared.input.Input.{Input}
use Rattle.zed_driver.specs.Effects.{Effect}
use Rattle.zed_plaintext.specs.declared.error.BadText.{BadText as Place}
use Rattle.zed_plaintext.specs.declared.error.TextError.{TextError}
use Rattle.zed_plaintext.specs.declared.error.TextError.TheVariants as text
use Rattle.zed_plaintext.specs.Reading.{program_in}
use Rattle.zed_refusal.specs.declared.reason.Reason.TheVariants as reason
use Rattle.cmd_program.specs.declared.error.ReprogramError.{ReprogramError}
use Rattle.cmd_program.specs.declared.error.ReprogramError.TheVariants as reprogram
use Rattle.cmd_program.specs.Worlds.{IsReprogrammed}
use Rattle.zed_files.specs.Opened.{FileEdits}
use Rattle.cmd_take.specs.declared.reason.DrawingReason.TheVariants.{BadText}
use Rattle.cmd_take.specs.Files.{OfFile, OpensAs}
use Rattle.cmd_take.specs.Opening.{export_told}
use Rattle.cmd_take.specs.Steps.{Asks, AsksNoMore, Authored, AuthorAsks, Ends, Reads, Steps}
use Rattle.cmd_take.specs.Stops.{DrawingStop, refused_for}
use Rattle.cmd_take.specs.Taking.{Draws, given}

-- why the command stops at a world that gets a program
abbrev pub reprogram_stop : ReprogramError → DrawingStop
reprogram_stop reprogram.Memory = Memory
reprogram_stop reprogram.NoBoard = refused_for reason.NoBoard
reprogram_stop reprogram.NoSuch = refused_for reason.NoSuch
reprogram_stop (reprogram.BoardOver b n) = refused_for (reason.BoardOver b n)

-- why it stops at a text
abbrev pub text_stop : TextError → DrawingStop
text_stop text.Memory = Memory
text_stop (text.Bad bad) = Refused (BadText bad)

-- that world, or the refusal
abbrev pub reprogram_told : Result Contents ReprogramError → Result Contents DrawingStop
reprogram_told (Ok w) = Ok w
reprogram_told (Err e) = Err (reprogram_stop e)

-- what a world comes to with this program for a stat, by the numbers of its board and of itself
abbrev pub Reprograms : Contents → ℕ → ℕ → List ℕ → Result Contents DrawingStop → Type 0
Reprograms w board stat program r = (m : Result Contents ReprogramError) × IsReprogrammed w board stat program m × (r ≡ reprogram_told m)

-- the world of a set of edits, of at most 32,767 bytes a body, or the refusal of the export
abbrev pub IsShown : List Edit → Result Contents DrawingStop → Type 0
IsShown es r = r ≡ export_told (exported 32767 (replay es))

-- that world with this program for a stat
abbrev pub IsChanged : List Edit → ℕ → ℕ → List ℕ → Result Contents DrawingStop → Type 0
IsChanged es board stat program r = Steps (IsShown es) (λ w. Reprograms w board stat program) r

-- what is done with FILE: it takes edits of this replica that lead from its world to that one
unfoldable pub Sets : List ℕ → ℕ → ℕ → ℕ → List ℕ → FileEdits → Result Effect DrawingStop → Type 0
Sets file replica board stat program f r =
    Steps (IsChanged f.1 board stat program) (λ w. Draws file file replica (given f None w)) r

-- the program that a text spells, or the refusal for its first bad place
abbrev pub text_told : Result (List ℕ) Place → Result (List ℕ) DrawingStop
text_told (Ok program) = Ok program
text_told (Err bad) = Err (Refused (BadText bad))

-- what a text is read as
abbrev pub IsSpelled : List ℕ → Result (List ℕ) DrawingStop → Type 0
IsSpelled text r = r ≡ text_told (program_in text)

-- FILE is read last, and gets the program
abbrev pub FileSets : List ℕ → ℕ → ℕ → ℕ → List ℕ → List Input → Result Effect DrawingStop → Type 0
FileSets file replica board stat program files r = Reads (OpensAs None) (λ f. Ends (Sets file replica board stat program f)) files r

-- what setting a program comes to: TEXT is read, and then FILE; its effect, or the first refusal
abbrev pub ProgramComes : List ℕ → ℕ → ℕ → ℕ → List Input → Result Effect DrawingStop → Type 0
ProgramComes file replica board stat files r = Authored replica (Reads (OfFile IsSpelled) (FileSets file replica board stat)) files r

-- what it asks for: TEXT, and then FILE; behind one that is refused nothing
abbrev pub ProgramWants : List ℕ → ℕ → List ℕ → List Input → List ℕ → Type 0
ProgramWants file replica text files wanted =
    AuthorAsks replica (Asks text (OfFile IsSpelled) (λ program. Asks file (OpensAs None) (λ f. AsksNoMore))) files wanted
