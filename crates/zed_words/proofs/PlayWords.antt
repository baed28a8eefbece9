-- What `clap` makes of `play BOARD WORDS FILES...`.
use Rattle.std.proofs.Common.{◌≡◌, ◌≤◌, ◌++◌, ℕ, arith, true, List, [], ◌∷◌, Some, codes, length, refl}
use Rattle.std.specs.List.{list_all}
use Rattle.clap.specs.Lexer.{usize_max}
use Rattle.clap.specs.Walk.{Row, Text, Walk, finished, idle, nothing_held, walk_from, walked}
use Rattle.clap.specs.Faults.{defaults_fault, turn_fault, walk_fault}
use Rattle.clap.specs.Simple.{Shape}
use Rattle.clap.specs.declared.builder.value_parser.Reading.TheVariants as reading
use Rattle.clap.proofs.OnLiterals.{clap_on_literals}
use Rattle.clap.proofs.WalkLemmas.{both}
use Rattle.zed_words.specs.declared.profile.Profile.{Profile}
use Rattle.zed_words.specs.declared.profile.Profile.TheVariants.{Usual, Big}
use Rattle.zed_words.specs.Grammar.{play_shape}
use Rattle.zed_words.specs.Laws.{with_option}
use Rattle.zed_words.specs.Commands.{Play, command_of, is_plain, number_of, subcommand_asks}
use Rattle.zed_words.proofs.CommandWords.{Enters, Leads, Takes, after_words, asked_by, begun, begun_held, going, holding, leaf, names, option_leads, option_rows, rest_level, row_by, several_at, several_end, several_lead, stopped_at, top, top_level, word_leads}
use Rattle.zed_words.proofs.NumberWords.{number_accepted, number_as_written, number_plain}

abbrev shape : Shape
shape = leaf play_shape

ends : (rest : List Text) → top_level (codes "play" ∷ rest) (stopped_at (codes "play") rest)
    ≡ rest_level shape rest (walk_fault top names (walk_from nothing_held) (codes "play" ∷ rest))
unfolding defaults_fault
ends rest = refl

enters : Enters (codes "play") shape
unfolding clap_on_literals
enters = record { word = refl; fault = refl; ends = ends; rows = λ rest. refl }

option_goes : walked shape.rules [] (walk_from nothing_held) (codes "--big") ≡ begun Big
unfolding clap_on_literals
option_goes = refl

option_passes : turn_fault shape [] (walk_from nothing_held) (codes "--big") ≡ []
unfolding clap_on_literals
option_passes = refl

abbrev at_board : Profile → Text → Walk
at_board profile board = going (holding (option_rows profile) (codes "BOARD") (board ∷ [])) idle 2

abbrev board_rows : Profile → Text → List Row
board_rows profile board = option_rows profile ++ row_by (codes "BOARD") reading.WithoutMinus board ∷ []

abbrev at_chance : Profile → Text → Text → Walk
at_chance profile board chance = going (holding (board_rows profile board) (codes "WORDS") (chance ∷ [])) idle 3

abbrev rows_before : Profile → Text → Text → List Row
rows_before profile board chance =
    option_rows profile ++ row_by (codes "BOARD") reading.WithoutMinus board ∷ row_by (codes "WORDS") reading.AsWritten chance ∷ []

abbrev at_files : Profile → Text → Text → List Text → Walk
at_files profile board chance files = several_at (rows_before profile board chance) (codes "FILES") 3 files

-- the word of the chances ends the board's number, which is read
takes_chance : (profile : Profile) (board chance : Text) (n : ℕ) → number_of 16 board ≡ Some n
    → Takes shape (at_board profile board).held idle 2 chance (at_chance profile board chance)
takes_chance Usual board chance n is =
    record { none = refl; fits = rw (number_accepted board n (number_plain 16 board n is) is) refl; goes = refl }
takes_chance Big board chance n is =
    record { none = refl; fits = rw (number_accepted board n (number_plain 16 board n is) is) refl; goes = refl }

takes_first : (profile : Profile) (board chance file : Text)
    → Takes shape (at_chance profile board chance).held idle 3 file (at_files profile board chance (file ∷ []))
takes_first Usual board chance file = record { none = refl; fits = refl; goes = refl }
takes_first Big board chance file = record { none = refl; fits = refl; goes = refl }

leads : (profile : Profile) (board chance file : Text) (files : List Text) (n : ℕ) → number_of 16 board ≡ Some n
    → list_all is_plain (chance ∷ file ∷ files) ≡ true
    → Leads shape (begun profile) (board ∷ chance ∷ file ∷ files) (at_files profile board chance (file ∷ files))
leads profile board chance file files n is plain =
    let p = both _ _ plain in
    let q = both _ _ p.1 in
    let to = at_files profile board chance (file ∷ files) in
    word_leads shape (begun_held profile) idle 1 board (chance ∷ file ∷ files) (at_board profile board) to (number_plain 16 board n is)
    (record { none = refl; fits = refl; goes = refl })
    (word_leads shape (at_board profile board).held idle 2 chance (file ∷ files) (at_chance profile board chance) to p.0
    (takes_chance profile board chance n is)
    (word_leads shape (at_chance profile board chance).held idle 3 file files (at_files profile board chance (file ∷ [])) to q.0
    (takes_first profile board chance file)
    (several_lead shape (rows_before profile board chance) (codes "FILES") 3 (λ values word. record { none = refl; fits = refl; goes = refl }) (file ∷ []) files q.1)))

end : (profile : Profile) (board chance file : Text) (files : List Text) → length (file ∷ files) ≤ usize_max
    → after_words shape (at_files profile board chance (file ∷ files)).held ≡ []
unfolding clap_on_literals
end Usual board chance file files few = several_end (file ∷ files) (omega arith) few
end Big board chance file files few = several_end (file ∷ files) (omega arith) few

asks : (profile : Profile) (board chance file : Text) (files : List Text) (n : ℕ) → number_of 16 board ≡ Some n
    → subcommand_asks (codes "play", finished shape.rules (at_files profile board chance (file ∷ files)).held)
    ≡ Some (Play profile n chance (file ∷ files))
asks Usual board chance file files n is = rw (number_as_written board (number_plain 16 board n is)) (rw is refl)
asks Big board chance file files n is = rw (number_as_written board (number_plain 16 board n is)) (rw is refl)

-- `play BOARD WORDS FILES...`, where no word of a file begins with a hyphen, and `--big` perhaps in front of these words
pub play_words : (profile : Profile) (board chance file : Text) (files : List Text) (n : ℕ) → number_of 16 board ≡ Some n
    → list_all is_plain (chance ∷ file ∷ files) ≡ true → length (file ∷ files) ≤ usize_max
    → command_of (codes "play" ∷ with_option profile (board ∷ chance ∷ file ∷ files)) ≡ Some (Play profile n chance (file ∷ files))
play_words profile board chance file files n is plain few =
    let to = at_files profile board chance (file ∷ files) in
    let words = board ∷ chance ∷ file ∷ files in
    asked_by (codes "play") shape (with_option profile words) to (Some (Play profile n chance (file ∷ files))) enters
    (option_leads shape profile words to option_goes option_passes (leads profile board chance file files n is plain))
    (end profile board chance file files few) (asks profile board chance file files n is)
