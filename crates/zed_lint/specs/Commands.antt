-- What is found of the commands and steps of programs, and the flags that they set.
use Rattle.std.specs.List.{flat_map}
use Rattle.std.specs.Prelude.{ℕ, ◌*◌, ◌&&◌, if◌then◌else◌, List, [], ◌∷◌, length, Option, Some, None}
use Rattle.zed_oop_syntax.specs.declared.commands.OopCommand.TheVariants.{Set}
use Rattle.zed_world.specs.declared.board.BoardData.{BoardData}
use Rattle.zed_world.specs.declared.stat.StatData.{StatData}
use Rattle.zed_log.specs.Program.{own_bytes}
use Rattle.zed_lint.specs.Faults.{fault}
use Rattle.zed_lint.specs.Found.{each_from, noted}
use Rattle.zed_lint.specs.Labels.{begins_commands, starts_line}
use Rattle.zed_lint.specs.Reading.{along, read_at}
use Rattle.zed_lint.specs.declared.finding.Finding.{Finding}
use Rattle.zed_lint.specs.declared.finding.Spot.{Spot}
use Rattle.zed_lint.specs.declared.reading.Read.{Read}
use Rattle.zed_lint.specs.declared.reading.Read.TheVariants.{Command}
use Rattle.zed_lint.specs.declared.reading.Reading.{Reading}
use Rattle.zed_lint.specs.declared.reading.Reading.TheVariants.{Instructing}

-- what comes of all that is read in the line at a place: at most twice as many things as the program has bytes
abbrev pub along_line : {X : Type 0} → (List ℕ → Reading → List X) → List ℕ → ℕ → List X
along_line find p at = along find p (2 * length p) (Some (Instructing at))

-- what is wrong with what is read
abbrev pub fault_findings : Spot → List StatData → List (List ℕ) → List (List ℕ) → List ℕ → Reading → List Finding
fault_findings spot stats held set p r = noted spot (fault stats held set r (read_at p r))

-- what is wrong in the line of commands at a place
unfoldable pub commands_findings : Spot → List StatData → List (List ℕ) → List (List ℕ) → List ℕ → ℕ → List Finding
commands_findings spot stats held set p at = along_line (fault_findings spot stats held set) p at

-- the word of a flag that is set
abbrev pub set_in : Read → Option (List ℕ)
set_in (Command (Some (Set w)) end) = Some w
set_in _ = None

-- the one member, if there is one
abbrev pub member_of : {X : Type 0} → Option X → List X
member_of None = []
member_of (Some x) = x ∷ []

-- the word of a flag that is set where a program is read
abbrev pub words_set : List ℕ → Reading → List (List ℕ)
words_set p r = member_of (set_in (read_at p r))

-- the words of flags that are set in the line of commands at a place
unfoldable pub line_words : List ℕ → ℕ → List (List ℕ)
line_words p at = along_line words_set p at

-- the same at any place of a program, whatever its byte is
abbrev pub place_words : List ℕ → ℕ → ℕ → List (List ℕ)
place_words p at byte = if starts_line p at && begins_commands p at then line_words p at else []

-- the words of flags that a program sets
abbrev pub program_words : List ℕ → List (List ℕ)
program_words p = each_from (place_words p) 0 p

-- the words of flags that the program of a stat sets, if it has one of its own
abbrev pub stat_words : StatData → List (List ℕ)
stat_words s = program_words (own_bytes s.code)

-- the words of flags that the programs of a board set
abbrev pub board_words : BoardData → List (List ℕ)
board_words b = flat_map stat_words b.stats

-- the bytes of a stat's program
abbrev pub stat_bytes : StatData → List ℕ
stat_bytes s = own_bytes s.code

-- the bytes of the programs of a board
abbrev pub board_bytes : BoardData → List ℕ
board_bytes b = flat_map stat_bytes b.stats
