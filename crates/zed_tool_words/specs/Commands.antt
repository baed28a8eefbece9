-- What the words of the command line ask for.
use Rattle.std.specs.Prelude.{◌≡◌, ◌<◌, ◌==◌, ◌&&◌, ℕ, Bool, true, false, List, [], ◌∷◌, Option, is_none, Some, None, codes, length, map, nat_le, nat_lt, if◌then◌else◌, option_and_then, option_map, string_bytes}
use Rattle.std.specs.Char.{is_ascii_digit}
use Rattle.std.specs.List.{list_all}
use Rattle.std.specs.Str.{bytes_eq}
use Rattle.clap.specs.Walk.{Row, Text, all_of, first_of, one_of}
use Rattle.clap.specs.Simple.{subcommand_of}
use Rattle.clap.specs.Faults.{fault_of}
use Rattle.clap.specs.Kinds.{IsAmong, Kinds}
use Rattle.clap.specs.declared.error.kind.ErrorKind.TheVariants.{DisplayHelp, DisplayVersion}
use Rattle.zed_types.specs.declared.stamp.Stamp.{Stamp}
use Rattle.zed_words.specs.Commands.{number_of}
use Rattle.zed_set_words.specs.Values.{board_of, first_of as first_stamp_of, last_of as last_stamp_of, stamp_of}
use Rattle.zed_tool_words.specs.declared.asked.Filter.{Filter}
use Rattle.zed_tool_words.specs.declared.asked.Forcing.{Forcing}
use Rattle.zed_tool_words.specs.declared.asked.Forcing.TheVariants.{Careful, Forced}
use Rattle.zed_tool_words.specs.declared.asked.Form.{Form}
use Rattle.zed_tool_words.specs.declared.asked.Form.TheVariants.{Coloured, Plain, Ruled, Svg}
use Rattle.zed_tool_words.specs.declared.asked.Going.{Going}
use Rattle.zed_tool_words.specs.declared.asked.Going.TheVariants.{Stays, On}
use Rattle.zed_tool_words.specs.declared.asked.Length.{Length}
use Rattle.zed_tool_words.specs.declared.asked.Length.TheVariants.{Short, Full}
use Rattle.zed_tool_words.specs.declared.asked.Listing.{Listing}
use Rattle.zed_tool_words.specs.declared.asked.Listing.TheVariants.{Boards, Stats, Program}
use Rattle.zed_tool_words.specs.declared.asked.Strictness.{Strictness}
use Rattle.zed_tool_words.specs.declared.asked.Strictness.TheVariants.{Lenient, Strict}
use Rattle.zed_tool_words.specs.declared.asked.Trial.{Trial}
use Rattle.zed_tool_words.specs.declared.asked.Trial.TheVariants.{Real, Dry}
use Rattle.zed_tool_words.specs.declared.asked.Others.{Others}
use Rattle.zed_tool_words.specs.declared.asked.Others.TheVariants.{Spared, Included}
use Rattle.zed_tool_words.specs.declared.asked.Command.{Command as Spoken}
use Rattle.zed_tool_words.specs.declared.asked.Command.TheVariants as spoken
use Rattle.zed_tool_words.specs.declared.words.ParseError.{ParseError}
use Rattle.zed_tool_words.specs.declared.words.ParseError.TheVariants.{Memory, Refused, Help, Version}
use Rattle.zed_tool_words.specs.Grammar.{tool_app}

-- which edits are undone: those of these stamps, or of any if there is none, that pass all filters; and of these the last so many
pub record Chosen : Type 0 where
  pub stamps : List Stamp
  pub filter : Filter
  pub last : Option ℕ

-- a command with its words
pub data Command : Type 0 where
  Open : (until : Option Stamp) → (forcing : Forcing) → (file : Text) → (world : Text) → Command
  Take : (base : Option Text) → (forcing : Forcing) → (file : Text) → (replica : ℕ) → (world : Text) → Command
  Log : (length : Length) → (filter : Filter) → (files : List Text) → Command
  Lists : (listing : Listing) → (files : List Text) → Command
  Show : (form : Form) → (board : ℕ) → (files : List Text) → Command
  Page : (files : List Text) → Command
  Play : (going : Going) → (rows : Option ℕ) → (words : Option Text) → (keys : Option Text) → (board : ℕ) → (files : List Text) → Command
  Lint : (strictness : Strictness) → (files : List Text) → Command
  Compare : (strictness : Strictness) → (mine : Text) → (theirs : Text) → Command
  Undo : (trial : Trial) → (others : Others) → (file : Text) → (replica : ℕ) → (chosen : Chosen) → Command
  UndoPull : (trial : Trial) → (others : Others) → (file : Text) → (replica : ℕ) → (new : Text) → (old : Text) → Command
  Set : (file : Text) → (replica : ℕ) → (words : List Text) → Command
  ProgramOf : (board : ℕ) → (stat : ℕ) → (files : List Text) → Command
  Programs : (files : List Text) → Command
  SetProgram : (file : Text) → (replica : ℕ) → (board : ℕ) → (stat : ℕ) → (text : Text) → Command

-- what a command of the code says
abbrev pub meaning_of : Spoken → Command
meaning_of (spoken.Open until forcing file world) = Open until forcing file.now world.now
meaning_of (spoken.Take base forcing file replica world) = Take (option_map (λ s. s.now) base) forcing file.now replica world.now
meaning_of (spoken.Log length filter files) = Log length filter (map (λ s. s.now) files.items)
meaning_of (spoken.List listing files) = Lists listing (map (λ s. s.now) files.items)
meaning_of (spoken.Show form board files) = Show form board (map (λ s. s.now) files.items)
meaning_of (spoken.Page files) = Page (map (λ s. s.now) files.items)
meaning_of (spoken.Play going rows words keys board files) =
    Play going rows (option_map (λ s. s.now) words) (option_map (λ s. s.now) keys) board (map (λ s. s.now) files.items)
meaning_of (spoken.Lint strictness files) = Lint strictness (map (λ s. s.now) files.items)
meaning_of (spoken.Compare strictness mine theirs) = Compare strictness mine.now theirs.now
meaning_of (spoken.Undo trial others file replica stamps filter last) =
    Undo trial others file.now replica (record { stamps = stamps.items; filter = filter; last = last })
meaning_of (spoken.UndoPull trial others file replica new old) = UndoPull trial others file.now replica new.now old.now
meaning_of (spoken.Set file replica words) = Set file.now replica (map (λ s. s.now) words.items)
meaning_of (spoken.Program board stat files) = ProgramOf board stat (map (λ s. s.now) files.items)
meaning_of (spoken.Programs files) = Programs (map (λ s. s.now) files.items)
meaning_of (spoken.SetProgram file replica board stat text) = SetProgram file.now replica board stat text.now

-- whether this is the word that a flag has
abbrev pub is_true : Option Text → Bool
is_true None = false
is_true (Some word) = bytes_eq word (codes "true")

-- whether the flag of this name is there; where it isn't, its word is `false`
abbrev pub has_flag : Text → List Row → Bool
has_flag name rows = is_true (first_of name rows)

-- what `--force` says
abbrev pub forcing_of : List Row → Forcing
forcing_of rows = if has_flag (codes "force") rows then Forced else Careful

-- what `--full` says
abbrev pub length_of : List Row → Length
length_of rows = if has_flag (codes "full") rows then Full else Short

-- what `--boards` says
abbrev pub going_of : List Row → Going
going_of rows = if has_flag (codes "boards") rows then On else Stays

-- what `--strict` says
abbrev pub strictness_of : List Row → Strictness
strictness_of rows = if has_flag (codes "strict") rows then Strict else Lenient

-- by whether `--plain` is there, `--ruler`, and `--svg`: one at most
abbrev pub form_by : Bool → Bool → Bool → Option Form
form_by false false false = Some Coloured
form_by true false false = Some Plain
form_by false true false = Some Ruled
form_by false false true = Some Svg
form_by _ _ _ = None

-- the form that is asked for
abbrev pub form_of : List Row → Option Form
form_of rows = form_by (has_flag (codes "plain") rows) (has_flag (codes "ruler") rows) (has_flag (codes "svg") rows)

-- the number of the option of this name, of so many bits, if it is there
abbrev pub option_number : ℕ → Text → List Row → Option ℕ
option_number bits name rows = option_and_then (number_of bits) (one_of name rows)

-- a number from one to another
abbrev pub number_within : ℕ → ℕ → Text → Option ℕ
number_within low high word =
    option_and_then (λ n. if nat_le low n && nat_le n high then Some n else None) (number_of 16 word)

-- a board and a cell on it
abbrev pub cell_by : List Text → Option (ℕ × ℕ × ℕ)
cell_by (b ∷ x ∷ y ∷ []) = option_and_then (λ board. option_and_then (λ column. option_map (λ row.
    (board, column, row)) (number_within 1 25 y)) (number_within 1 60 x)) (number_of 16 b)
cell_by words = None

-- the cell of `--cell`, if that is there; the words are refused where those behind it are no cell
abbrev pub cell_asked : Option (List Text) → Option (Option (ℕ × ℕ × ℕ))
cell_asked None = Some None
cell_asked (Some words) = option_map (λ cell. Some cell) (cell_by words)

-- what the word of an option says, if that is there; the words are refused where it says nothing
abbrev pub asked_by : {A : Type 0} → (Text → Option A) → Option Text → Option (Option A)
asked_by read None = Some None
asked_by read (Some word) = option_map (λ x. Some x) (read word)

-- the filters, where the author's number is behind this name: a board by number or name, a cell, and moments
abbrev pub filter_of : Text → List Row → Option Filter
filter_of author rows = option_and_then (λ board. option_and_then (λ cell. option_and_then (λ since. option_map (λ until.
    record { board = board; cell = cell; replica = option_number 16 author rows; since = since; until = until })
    (asked_by last_stamp_of (first_of (codes "until") rows))) (asked_by first_stamp_of (first_of (codes "since") rows)))
    (cell_asked (all_of (codes "cell") rows))) (asked_by board_of (first_of (codes "board") rows))

-- whether all edits pass
abbrev pub asks_nothing : Filter → Bool
asks_nothing f = is_none f.board && is_none f.cell && is_none f.replica && is_none f.since && is_none f.until

-- what the rows say, for `open`
abbrev pub open_of : List Row → Option Command
open_of rows = option_and_then (λ until. option_and_then (λ file. option_map (λ world.
    Open until (forcing_of rows) file world)
    (first_of (codes "WORLD") rows)) (first_of (codes "FILE") rows)) (asked_by last_stamp_of (first_of (codes "until") rows))

-- for `take`
abbrev pub take_of : List Row → Option Command
take_of rows = option_and_then (λ file. option_and_then (λ replica. option_map (λ world.
    Take (first_of (codes "base") rows) (forcing_of rows) file replica world)
    (first_of (codes "WORLD") rows)) (option_number 16 (codes "REPLICA") rows)) (first_of (codes "FILE") rows)

-- for `log`
abbrev pub log_of : List Row → Option Command
log_of rows = option_and_then (λ filter. option_map (λ files. Log (length_of rows) filter files)
    (all_of (codes "FILES") rows)) (filter_of (codes "replica") rows)

-- a word of decimal digits alone
abbrev pub is_decimal : Text → Bool
is_decimal word = nat_lt 0 (length word) && list_all is_ascii_digit word

-- a listing of these files, of which there is one at least
abbrev pub list_files : Listing → List Text → Option Command
list_files listing [] = None
list_files listing (file ∷ files) = Some (Lists listing (file ∷ files))

-- behind the number of a board
abbrev pub list_board : ℕ → List Text → Option Command
list_board board [] = None
list_board board (word ∷ words) =
    if is_decimal word then option_and_then (λ stat. list_files (Program board stat) words) (number_of 16 word)
    else list_files (Stats board) (word ∷ words)

-- words of digits alone are numbers in front of the files, two at most
abbrev pub list_words : List Text → Option Command
list_words [] = None
list_words (word ∷ words) =
    if is_decimal word then option_and_then (λ board. list_board board words) (number_of 16 word)
    else list_files Boards (word ∷ words)

-- for `list`
abbrev pub list_of : List Row → Option Command
list_of rows = option_and_then list_words (all_of (codes "WORDS") rows)

-- for `show`
abbrev pub show_of : List Row → Option Command
show_of rows = option_and_then (λ form. option_and_then (λ board. option_map (λ files.
    Show form board files) (all_of (codes "FILES") rows)) (option_number 16 (codes "BOARD") rows)) (form_of rows)

-- for `page`
abbrev pub page_of : List Row → Option Command
page_of rows = option_map (λ files. Page files) (all_of (codes "FILES") rows)

-- for `play`
abbrev pub play_of : List Row → Option Command
play_of rows = option_and_then (λ board. option_map (λ files.
    Play (going_of rows) (option_number 16 (codes "rows") rows) (first_of (codes "words") rows) (first_of (codes "keys") rows) board files)
    (all_of (codes "FILES") rows)) (option_number 16 (codes "BOARD") rows)

-- for `lint`
abbrev pub lint_of : List Row → Option Command
lint_of rows = option_map (λ files. Lint (strictness_of rows) files) (all_of (codes "FILES") rows)

-- for `compare`
abbrev pub compare_of : List Row → Option Command
compare_of rows = option_and_then (λ mine. option_map (λ theirs. Compare (strictness_of rows) mine theirs)
    (first_of (codes "THEIRS") rows)) (first_of (codes "MINE") rows)

-- what `--dry-run` says
abbrev pub trial_of : List Row → Trial
trial_of rows = if has_flag (codes "dry-run") rows then Dry else Real

-- what `--with-others` says
abbrev pub others_of : List Row → Others
others_of rows = if has_flag (codes "with-others") rows then Included else Spared

-- the stamps that words spell, each one
abbrev pub stamps_in : List Text → Option (List Stamp)
stamps_in [] = Some []
stamps_in (word ∷ words) = option_and_then (λ stamp. option_map (λ stamps. stamp ∷ stamps) (stamps_in words)) (stamp_of word)

-- those of the words that may be there
abbrev pub stamps_asked : Option (List Text) → Option (List Stamp)
stamps_asked None = Some []
stamps_asked (Some words) = stamps_in words

-- the stamps and the filters, if they are such
abbrev pub chosen_of : List Row → Option Chosen
chosen_of rows = option_and_then (λ stamps. option_map (λ filter. record {
  stamps = stamps;
  filter = filter;
  last = option_number 16 (codes "last") rows;
}) (filter_of (codes "by") rows)) (stamps_asked (all_of (codes "STAMPS") rows))

-- whether no edits are named: no stamp, no filter, no count
abbrev pub names_none : Chosen → Bool
names_none c = (length c.stamps == 0) && asks_nothing c.filter && is_none c.last

-- by the files of a pull, both or neither: edits are named either by these or otherwise
abbrev pub undone_by : Trial → Others → Text → ℕ → Chosen → Option Text → Option Text → Option Command
undone_by trial others file replica chosen None None = if names_none chosen then None else Some (Undo trial others file replica chosen)
undone_by trial others file replica chosen (Some new) (Some old) =
    if names_none chosen then Some (UndoPull trial others file replica new old) else None
undone_by trial others file replica chosen new old = None

-- for `undo`
abbrev pub undo_of : List Row → Option Command
undo_of rows = option_and_then (λ file. option_and_then (λ replica. option_and_then (λ chosen.
    undone_by (trial_of rows) (others_of rows) file replica chosen (first_of (codes "edits-of") rows) (first_of (codes "but") rows))
    (chosen_of rows)) (option_number 16 (codes "REPLICA") rows)) (first_of (codes "FILE") rows)

-- for `set`
abbrev pub set_of : List Row → Option Command
set_of rows = option_and_then (λ file. option_and_then (λ replica. option_map (λ words.
    Set file replica words)
    (all_of (codes "WORDS") rows)) (option_number 16 (codes "REPLICA") rows)) (first_of (codes "FILE") rows)

-- behind the numbers of a board and of a stat: files, of which there is one at least
abbrev pub program_files : ℕ → ℕ → List Text → Option Command
program_files board stat [] = None
program_files board stat (file ∷ files) = Some (ProgramOf board stat (file ∷ files))

-- behind the number of a board: that of a stat, and files
abbrev pub program_board : ℕ → List Text → Option Command
program_board board [] = None
program_board board (word ∷ words) = option_and_then (λ stat. program_files board stat words) (number_of 16 word)

-- behind `program`: both numbers, and files
abbrev pub program_words : List Text → Option Command
program_words [] = None
program_words (word ∷ words) = option_and_then (λ board. program_board board words) (number_of 16 word)

-- with `--set`: a file, the number of a replica, both numbers, and the file of a text
abbrev pub set_program_words : List Text → Option Command
set_program_words (file ∷ r ∷ b ∷ s ∷ text ∷ []) =
    option_and_then (λ replica. option_and_then (λ board. option_map (λ stat.
    SetProgram file replica board stat text) (number_of 16 s)) (number_of 16 b)) (number_of 16 r)
set_program_words words = None

-- by whether `--set` is there, and `--all`: not both
abbrev pub program_by : Bool → Bool → List Text → Option Command
program_by false false words = program_words words
program_by true false words = set_program_words words
program_by false true words = Some (Programs words)
program_by true true words = None

-- for `program`
abbrev pub program_of : List Row → Option Command
program_of rows = option_and_then (λ words.
    program_by (has_flag (codes "set") rows) (has_flag (codes "all") rows) words)
    (all_of (codes "WORDS") rows)

-- by the name of the subcommand
abbrev pub subcommand_asks : Text × List Row → Option Command
subcommand_asks p =
    if bytes_eq p.0 (codes "open") then open_of p.1
    else (if bytes_eq p.0 (codes "take") then take_of p.1
    else (if bytes_eq p.0 (codes "log") then log_of p.1
    else (if bytes_eq p.0 (codes "list") then list_of p.1
    else (if bytes_eq p.0 (codes "show") then show_of p.1
    else (if bytes_eq p.0 (codes "page") then page_of p.1
    else (if bytes_eq p.0 (codes "play") then play_of p.1
    else (if bytes_eq p.0 (codes "lint") then lint_of p.1
    else (if bytes_eq p.0 (codes "compare") then compare_of p.1
    else (if bytes_eq p.0 (codes "undo") then undo_of p.1
    else (if bytes_eq p.0 (codes "set") then set_of p.1
    else (if bytes_eq p.0 (codes "program") then program_of p.1 else None)))))))))))

-- what is asked for where `clap` finds no fault
abbrev pub unless_refused : Kinds → Option Command → Option Command
unless_refused [] command = command
unless_refused (kind ∷ kinds) command = None

-- what the words ask for; or that they are refused, or ask for help
unfoldable pub command_of : List Text → Option Command
command_of words = unless_refused (fault_of tool_app words) (option_and_then subcommand_asks (subcommand_of tool_app words))

-- the words ask for help, as `--help` does
abbrev pub AsksHelp : List Text → Type 0
AsksHelp words = fault_of tool_app words ≡ DisplayHelp ∷ []

-- `clap` may answer with help: to words that ask for it, and to `help` before others, where it refuses a name that is no command
abbrev pub MayAskHelp : List Text → Type 0
MayAskHelp words = IsAmong DisplayHelp (fault_of tool_app words)

-- the words ask for the version, as `--version` does
abbrev pub AsksVersion : List Text → Type 0
AsksVersion words = fault_of tool_app words ≡ DisplayVersion ∷ []

-- `clap` may answer with the version
abbrev pub MayAskVersion : List Text → Type 0
MayAskVersion words = IsAmong DisplayVersion (fault_of tool_app words)

-- why words ask for nothing: they are refused, or ask for help or for the version; want of memory says nothing of them
abbrev pub AsksNothing : List Text → ParseError → Type 0
AsksNothing words Memory = Unit {0}
AsksNothing words (Refused text) = (command_of words ≡ None) × (¬ (AsksHelp words)) × (¬ (AsksVersion words))
AsksNothing words (Help text) = (command_of words ≡ None) × MayAskHelp words
AsksNothing words Version = (command_of words ≡ None) × MayAskVersion words

-- the text that words are answered with isn't empty, be they refused or asking for help
abbrev pub IsAloud : ParseError → Type 0
IsAloud (Refused text) = 0 < length (string_bytes text)
IsAloud (Help text) = 0 < length (string_bytes text)
IsAloud _ = Unit {0}
