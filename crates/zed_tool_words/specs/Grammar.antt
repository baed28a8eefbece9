-- What `clap` is told of the words.
use Rattle.std.specs.Prelude.{ℕ, List, [], ◌∷◌, ◌++◌, Some, codes, fold, pos, true}
use Rattle.clap.specs.Simple.{App, Shape, new_app, new_rule, new_shape, on_top, with_subcommand}
use Rattle.clap.specs.Walk.{Rule}
use Rattle.clap.specs.Lexer.{usize_max}
use Rattle.clap.specs.declared.builder.action.ArgAction.TheVariants.{SetTrue}
use Rattle.clap.specs.declared.builder.value_parser.ValueParser.TheVariants as value

-- one word, which must be there
abbrev pub required_rule : List ℕ → Rule
required_rule id = record (new_rule id) { required = true }

-- one word or more
abbrev pub several_rule : List ℕ → Rule
several_rule id = record (required_rule id) {
  range = Some (record { start_inclusive = 1; end_inclusive = usize_max });
}

-- any number of words
abbrev pub any_rule : List ℕ → Rule
any_rule id = record (new_rule id) { range = Some (record { start_inclusive = 1; end_inclusive = usize_max }) }

-- a word behind a name with two hyphens
abbrev pub option_rule : List ℕ → Rule
option_rule id = record (new_rule id) { long = Some id; value_names = 1 }

-- a number of at most 16 bits there
abbrev pub number_option : List ℕ → Rule
number_option id = record (option_rule id) { parser = Some (value.Signed (pos 0) (pos 65535)) }

-- `--cell`, with three words behind it
abbrev pub cell_rule : Rule
cell_rule = record (new_rule (codes "cell")) { long = Some (codes "cell"); value_names = 3 }

-- a name with two hyphens, without a value
abbrev pub flag_rule : List ℕ → Rule
flag_rule id = record (new_rule id) { long = Some id; action = Some SetTrue }

-- a number of at most 16 bits, which must be there
abbrev pub number_rule : List ℕ → Rule
number_rule id = record (required_rule id) { parser = Some (value.Signed (pos 0) (pos 65535)) }

-- one word or more, of which all but the first may begin with a hyphen
abbrev pub trailing_rule : List ℕ → Rule
trailing_rule id = record (several_rule id) { trailing_var_arg = true }

-- a subcommand by its name and arguments
abbrev pub shape_with : List ℕ → List Rule → Shape
shape_with name rules = record (new_shape name) { rules = rules }

-- a subcommand with more arguments
abbrev pub shape_and : Shape → List Rule → Shape
shape_and s rules = record s { rules = s.rules ++ rules }

-- `open [--until TIME] [--force] FILE WORLD`
abbrev pub open_shape : Shape
open_shape = shape_with (codes "open")
    (required_rule (codes "FILE") ∷ required_rule (codes "WORLD") ∷ option_rule (codes "until") ∷ flag_rule (codes "force") ∷ [])

-- `take [--force] [--base BASE] FILE REPLICA WORLD`
abbrev pub take_shape : Shape
take_shape = shape_with (codes "take")
    (required_rule (codes "FILE") ∷ number_rule (codes "REPLICA") ∷ required_rule (codes "WORLD") ∷ option_rule (codes "base")
    ∷ flag_rule (codes "force") ∷ [])

-- `log [--full] FILES...`, without what names edits
abbrev pub log_shape_of_files : Shape
log_shape_of_files = shape_with (codes "log") (several_rule (codes "FILES") ∷ flag_rule (codes "full") ∷ [])

-- with `[--board B] [--cell B X Y] [--replica R]`
abbrev pub log_shape_by_place : Shape
log_shape_by_place = shape_and log_shape_of_files (option_rule (codes "board") ∷ cell_rule ∷ number_option (codes "replica") ∷ [])

-- with `[--since TIME] [--until TIME]`: the whole of `log`
abbrev pub log_shape : Shape
log_shape = shape_and log_shape_by_place (option_rule (codes "since") ∷ option_rule (codes "until") ∷ [])

-- `list [B [S]] FILES...`, where numbers and files are words alike
abbrev pub list_shape : Shape
list_shape = shape_with (codes "list") (several_rule (codes "WORDS") ∷ [])

-- `show BOARD FILES...`, without a form
abbrev pub show_shape_of_board : Shape
show_shape_of_board = shape_with (codes "show") (number_rule (codes "BOARD") ∷ several_rule (codes "FILES") ∷ [])

-- with `[--plain] [--ruler] [--svg]`: the whole of `show`
abbrev pub show_shape : Shape
show_shape = shape_and show_shape_of_board (flag_rule (codes "plain") ∷ flag_rule (codes "ruler") ∷ flag_rule (codes "svg") ∷ [])

-- `page FILES...`
abbrev pub page_shape : Shape
page_shape = shape_with (codes "page") (several_rule (codes "FILES") ∷ [])

-- `play [--boards] [--rows ROWS] [--words WORDS] [--keys KEYS] BOARD FILES...`
abbrev pub play_shape : Shape
play_shape = shape_with (codes "play")
    (number_rule (codes "BOARD") ∷ several_rule (codes "FILES") ∷ flag_rule (codes "boards")
    ∷ number_option (codes "rows") ∷ option_rule (codes "words") ∷ option_rule (codes "keys") ∷ [])

-- `lint [--strict] FILES...`
abbrev pub lint_shape : Shape
lint_shape = shape_with (codes "lint") (several_rule (codes "FILES") ∷ flag_rule (codes "strict") ∷ [])

-- `compare [--strict] MINE THEIRS`
abbrev pub compare_shape : Shape
compare_shape = shape_with (codes "compare") (required_rule (codes "MINE") ∷ required_rule (codes "THEIRS") ∷ flag_rule (codes "strict") ∷ [])

-- `undo FILE REPLICA [STAMPS...]`, without what names edits otherwise
abbrev pub undo_shape_of_file : Shape
undo_shape_of_file = shape_with (codes "undo") (required_rule (codes "FILE") ∷ number_rule (codes "REPLICA") ∷ any_rule (codes "STAMPS") ∷ [])

-- with `[--board B] [--cell B X Y] [--by R]`
abbrev pub undo_shape_by_place : Shape
undo_shape_by_place = shape_and undo_shape_of_file (option_rule (codes "board") ∷ cell_rule ∷ number_option (codes "by") ∷ [])

-- with `[--since TIME] [--until TIME] [--last N]`
abbrev pub undo_shape_by_time : Shape
undo_shape_by_time = shape_and undo_shape_by_place (option_rule (codes "since") ∷ option_rule (codes "until") ∷ number_option (codes "last") ∷ [])

-- with `[--edits-of NEW] [--but OLD]`
abbrev pub undo_shape_of_pull : Shape
undo_shape_of_pull = shape_and undo_shape_by_time (option_rule (codes "edits-of") ∷ option_rule (codes "but") ∷ [])

-- with `[--dry-run] [--with-others]`: the whole of `undo`
abbrev pub undo_shape : Shape
undo_shape = shape_and undo_shape_of_pull (flag_rule (codes "dry-run") ∷ flag_rule (codes "with-others") ∷ [])

-- `set FILE REPLICA WORDS...`
abbrev pub set_shape : Shape
set_shape = shape_with (codes "set") (required_rule (codes "FILE") ∷ number_rule (codes "REPLICA") ∷ trailing_rule (codes "WORDS") ∷ [])

-- `program B S FILES...`, `program --all FILES...` and `program --set FILE REPLICA B S TEXT`, where numbers and files are words alike
abbrev pub program_shape : Shape
program_shape = shape_with (codes "program") (several_rule (codes "WORDS") ∷ flag_rule (codes "set") ∷ flag_rule (codes "all") ∷ [])

-- the program without its subcommands; it has a version, and without words it is refused, with a text of help
abbrev pub top_app : App
top_app = on_top (λ s. record s { no_binary_name = true; arg_required_else_help = true; has_version = true }) (new_app (codes "zztool"))

-- the whole command line
abbrev pub tool_app : App
tool_app = fold with_subcommand top_app
    (open_shape ∷ take_shape ∷ log_shape ∷ list_shape ∷ show_shape ∷ page_shape ∷ play_shape ∷ lint_shape ∷ compare_shape ∷ undo_shape ∷ set_shape ∷ program_shape ∷ [])
