-- What `clap` makes of `show BOARD FILES...`.
use Rattle.std.proofs.Common.{◌≡◌, ◌≤◌, ◌++◌, ℕ, arith, true, List, [], ◌∷◌, Some, codes, length, refl}
use Rattle.std.specs.List.{list_all}
use Rattle.clap.specs.Lexer.{usize_max}
use Rattle.clap.specs.Walk.{Row, Text, Walk, finished, idle, nothing_held, walk_from, walked}
use Rattle.clap.specs.Faults.{defaults_fault, turn_fault, walk_fault}
use Rattle.clap.specs.Simple.{Shape}
use Rattle.clap.specs.declared.builder.value_parser.Reading.TheVariants as reading
use Rattle.clap.proofs.OnLiterals.{clap_on_literals}
use Rattle.clap.proofs.WalkLemmas.{both}
use Rattle.zed_words.specs.declared.profile.Profile.{Profile}
use Rattle.zed_words.specs.declared.profile.Profile.TheVariants.{Usual, Big}
use Rattle.zed_words.specs.Grammar.{show_shape}
use Rattle.zed_words.specs.Laws.{with_option}
use Rattle.zed_words.specs.Commands.{Show, command_of, is_plain, number_of, subcommand_asks}
use Rattle.zed_words.proofs.CommandWords.{Enters, Leads, Takes, after_words, asked_by, begun, begun_held, going, holding, leaf, names, option_leads, option_rows, rest_level, row_by, several_at, several_end, several_lead, stopped_at, top, top_level, word_leads}
use Rattle.zed_words.proofs.NumberWords.{number_accepted, number_as_written, number_plain}

abbrev shape : Shape
shape = leaf show_shape

ends : (rest : List Text) → top_level (codes "show" ∷ rest) (stopped_at (codes "show") rest)
    ≡ rest_level shape rest (walk_fault top names (walk_from nothing_held) (codes "show" ∷ rest))
unfolding defaults_fault
ends rest = refl

enters : Enters (codes "show") shape
unfolding clap_on_literals
enters = record { word = refl; fault = refl; ends = ends; rows = λ rest. refl }

option_goes : walked shape.rules [] (walk_from nothing_held) (codes "--big") ≡ begun Big
unfolding clap_on_literals
option_goes = refl

option_passes : turn_fault shape [] (walk_from nothing_held) (codes "--big") ≡ []
unfolding clap_on_literals
option_passes = refl

abbrev at_board : Profile → Text → Walk
at_board profile board = going (holding (option_rows profile) (codes "BOARD") (board ∷ [])) idle 2

abbrev rows_before : Profile → Text → List Row
rows_before profile board = option_rows profile ++ row_by (codes "BOARD") reading.WithoutMinus board ∷ []

abbrev at_files : Profile → Text → List Text → Walk
at_files profile board files = several_at (rows_before profile board) (codes "FILES") 2 files

-- the first file ends the board's number, which is read
takes_first : (profile : Profile) (board file : Text) (n : ℕ) → is_plain board ≡ true → number_of 16 board ≡ Some n
    → Takes shape (at_board profile board).held idle 2 file (at_files profile board (file ∷ []))
takes_first Usual board file n plain is =
    record { none = refl; fits = rw (number_accepted board n plain is) refl; goes = refl }
takes_first Big board file n plain is =
    record { none = refl; fits = rw (number_accepted board n plain is) refl; goes = refl }

leads : (profile : Profile) (board file : Text) (files : List Text) (n : ℕ) → number_of 16 board ≡ Some n
    → list_all is_plain (file ∷ files) ≡ true
    → Leads shape (begun profile) (board ∷ file ∷ files) (at_files profile board (file ∷ files))
leads profile board file files n is plain =
    let number = number_plain 16 board n is in
    let p = both _ _ plain in
    let to = at_files profile board (file ∷ files) in
    word_leads shape (begun_held profile) idle 1 board (file ∷ files) (at_board profile board) to number
    (record { none = refl; fits = refl; goes = refl })
    (word_leads shape (at_board profile board).held idle 2 file files (at_files profile board (file ∷ [])) to p.0
    (takes_first profile board file n number is)
    (several_lead shape (rows_before profile board) (codes "FILES") 2 (λ values word. record { none = refl; fits = refl; goes = refl }) (file ∷ []) files p.1))

end : (profile : Profile) (board file : Text) (files : List Text) → length (file ∷ files) ≤ usize_max
    → after_words shape (at_files profile board (file ∷ files)).held ≡ []
unfolding clap_on_literals
end Usual board file files few = several_end (file ∷ files) (omega arith) few
end Big board file files few = several_end (file ∷ files) (omega arith) few

asks : (profile : Profile) (board file : Text) (files : List Text) (n : ℕ) → is_plain board ≡ true → number_of 16 board ≡ Some n
    → subcommand_asks (codes "show", finished shape.rules (at_files profile board (file ∷ files)).held)
    ≡ Some (Show profile n (file ∷ files))
asks Usual board file files n plain is = rw (number_as_written board plain) (rw is refl)
asks Big board file files n plain is = rw (number_as_written board plain) (rw is refl)

-- `show BOARD FILES...`, where no file's word begins with a hyphen, and `--big` perhaps in front of these words
pub show_words : (profile : Profile) (board file : Text) (files : List Text) (n : ℕ) → number_of 16 board ≡ Some n
    → list_all is_plain (file ∷ files) ≡ true
    → length (file ∷ files) ≤ usize_max
    → command_of (codes "show" ∷ with_option profile (board ∷ file ∷ files)) ≡ Some (Show profile n (file ∷ files))
show_words profile board file files n is plain few =
    asked_by (codes "show") shape (with_option profile (board ∷ file ∷ files)) (at_files profile board (file ∷ files)) (Some (Show profile n (file ∷ files))) enters
    (option_leads shape profile (board ∷ file ∷ files) (at_files profile board (file ∷ files)) option_goes option_passes (leads profile board file files n is plain))
    (end profile board file files few) (asks profile board file files n (number_plain 16 board n is) is)
