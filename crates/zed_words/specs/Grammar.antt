-- What `clap` is told of the words.
use Rattle.std.specs.Prelude.{ℕ, List, [], ◌∷◌, Some, codes, pos, true}
use Rattle.clap.specs.Simple.{App, Shape, new_app, new_rule, new_shape, on_top, with_subcommand}
use Rattle.clap.specs.Walk.{Rule}
use Rattle.clap.specs.Lexer.{usize_max}
use Rattle.clap.specs.declared.builder.action.ArgAction.TheVariants.{SetTrue}
use Rattle.clap.specs.declared.builder.value_parser.ValueParser.TheVariants as value

-- one word, which must be there
abbrev pub required_rule : List ℕ → Rule
required_rule id = record (new_rule id) { required = true }

-- one word or more
abbrev pub several_rule : List ℕ → Rule
several_rule id = record (required_rule id) {
  range = Some (record { start_inclusive = 1; end_inclusive = usize_max });
}

-- a word behind a name with two hyphens
abbrev pub option_rule : List ℕ → Rule
option_rule id = record (new_rule id) { long = Some id; value_names = 1 }

-- `--big`, without a value
abbrev pub big_rule : Rule
big_rule = record (new_rule (codes "big")) { long = Some (codes "big"); action = Some SetTrue }

-- the number of a world
abbrev pub world_rule : Rule
world_rule = record (required_rule (codes "WORLD")) { parser = Some (value.Unsigned 0 18446744073709551615) }

-- the number of a replica
abbrev pub replica_rule : Rule
replica_rule = record (required_rule (codes "REPLICA")) { parser = Some (value.Signed (pos 0) (pos 65535)) }

-- the number of a board
abbrev pub board_rule : Rule
board_rule = record (required_rule (codes "BOARD")) { parser = Some (value.Signed (pos 0) (pos 65535)) }

-- the words of an action
abbrev pub words_rule : Rule
words_rule = several_rule (codes "WORDS")

-- the edit files
abbrev pub files_rule : Rule
files_rule = several_rule (codes "FILES")

-- a subcommand by its name and arguments
abbrev pub shape_with : List ℕ → List Rule → Shape
shape_with name rules = record (new_shape name) { rules = rules }

-- `save [--big] OUT FILES...`
abbrev pub save_shape : Shape
save_shape = shape_with (codes "save") (required_rule (codes "OUT") ∷ files_rule ∷ big_rule ∷ [])

-- `check [--big] FILES...`
abbrev pub check_shape : Shape
check_shape = shape_with (codes "check") (files_rule ∷ big_rule ∷ [])

-- `new OUT WORLD [--from FILE] [--name TEXT]`
abbrev pub create_shape : Shape
create_shape =
    shape_with (codes "new") (required_rule (codes "OUT") ∷ world_rule ∷ option_rule (codes "from") ∷ option_rule (codes "name") ∷ [])

-- `edit FILE REPLICA WORDS...`
abbrev pub edit_shape : Shape
edit_shape = shape_with (codes "edit") (required_rule (codes "FILE") ∷ replica_rule ∷ words_rule ∷ [])

-- `merge OUT WORLD FILES...`
abbrev pub merge_shape : Shape
merge_shape = shape_with (codes "merge") (required_rule (codes "OUT") ∷ world_rule ∷ files_rule ∷ [])

-- `show [--big] BOARD FILES...`
abbrev pub show_shape : Shape
show_shape = shape_with (codes "show") (board_rule ∷ files_rule ∷ big_rule ∷ [])

-- `play [--big] BOARD WORDS FILES...`
abbrev pub play_shape : Shape
play_shape = shape_with (codes "play") (board_rule ∷ required_rule (codes "WORDS") ∷ files_rule ∷ big_rule ∷ [])

-- the program without its subcommands
abbrev pub top_app : App
top_app = on_top (λ s. record s { no_binary_name = true; subcommand_required = true }) (new_app (codes "zzted"))

-- with the commands on edit files
abbrev pub files_app : App
files_app = with_subcommand (with_subcommand (with_subcommand (with_subcommand top_app save_shape) check_shape) create_shape) edit_shape

-- the whole command line
abbrev pub zzted_app : App
zzted_app = with_subcommand (with_subcommand (with_subcommand files_app merge_shape) show_shape) play_shape
