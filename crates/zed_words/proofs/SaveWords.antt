-- What `clap` makes of `save OUT FILES...`.
use Rattle.std.proofs.Common.{◌≡◌, ◌≤◌, ◌++◌, arith, true, List, [], ◌∷◌, Some, codes, length, refl}
use Rattle.std.specs.List.{list_all}
use Rattle.clap.specs.Lexer.{usize_max}
use Rattle.clap.specs.Walk.{Row, Text, Walk, finished, idle, nothing_held, walk_from, walked}
use Rattle.clap.specs.Faults.{defaults_fault, turn_fault, walk_fault}
use Rattle.clap.specs.Simple.{Shape}
use Rattle.clap.specs.declared.builder.value_parser.Reading.TheVariants as reading
use Rattle.clap.proofs.OnLiterals.{clap_on_literals}
use Rattle.clap.proofs.WalkLemmas.{both}
use Rattle.zed_words.specs.declared.profile.Profile.{Profile}
use Rattle.zed_words.specs.declared.profile.Profile.TheVariants.{Usual, Big}
use Rattle.zed_words.specs.Grammar.{save_shape}
use Rattle.zed_words.specs.Laws.{with_option}
use Rattle.zed_words.specs.Commands.{Save, command_of, is_plain, subcommand_asks}
use Rattle.zed_words.proofs.CommandWords.{Enters, Leads, Takes, after_words, asked_by, begun, begun_held, going, holding, leaf, names, option_leads, option_rows, rest_level, row_by, several_at, several_end, several_lead, stopped_at, top, top_level, word_leads}

abbrev shape : Shape
shape = leaf save_shape

ends : (rest : List Text) → top_level (codes "save" ∷ rest) (stopped_at (codes "save") rest)
    ≡ rest_level shape rest (walk_fault top names (walk_from nothing_held) (codes "save" ∷ rest))
unfolding defaults_fault
ends rest = refl

enters : Enters (codes "save") shape
unfolding clap_on_literals
enters = record { word = refl; fault = refl; ends = ends; rows = λ rest. refl }

option_goes : walked shape.rules [] (walk_from nothing_held) (codes "--big") ≡ begun Big
unfolding clap_on_literals
option_goes = refl

option_passes : turn_fault shape [] (walk_from nothing_held) (codes "--big") ≡ []
unfolding clap_on_literals
option_passes = refl

abbrev at_out : Profile → Text → Walk
at_out profile out = going (holding (option_rows profile) (codes "OUT") (out ∷ [])) idle 2

abbrev rows_before : Profile → Text → List Row
rows_before profile out = option_rows profile ++ row_by (codes "OUT") reading.AsWritten out ∷ []

abbrev at_files : Profile → Text → List Text → Walk
at_files profile out files = several_at (rows_before profile out) (codes "FILES") 2 files

takes_first : (profile : Profile) (out file : Text) → Takes shape (at_out profile out).held idle 2 file (at_files profile out (file ∷ []))
takes_first Usual out file = record { none = refl; fits = refl; goes = refl }
takes_first Big out file = record { none = refl; fits = refl; goes = refl }

leads : (profile : Profile) (out file : Text) (files : List Text) → list_all is_plain (out ∷ file ∷ files) ≡ true
    → Leads shape (begun profile) (out ∷ file ∷ files) (at_files profile out (file ∷ files))
leads profile out file files plain =
    let p = both _ _ plain in
    let q = both _ _ p.1 in
    let to = at_files profile out (file ∷ files) in
    word_leads shape (begun_held profile) idle 1 out (file ∷ files) (at_out profile out) to p.0
    (record { none = refl; fits = refl; goes = refl })
    (word_leads shape (at_out profile out).held idle 2 file files (at_files profile out (file ∷ [])) to q.0
    (takes_first profile out file)
    (several_lead shape (rows_before profile out) (codes "FILES") 2 (λ values word. record { none = refl; fits = refl; goes = refl }) (file ∷ []) files q.1))

end : (profile : Profile) (out file : Text) (files : List Text) → length (file ∷ files) ≤ usize_max
    → after_words shape (at_files profile out (file ∷ files)).held ≡ []
unfolding clap_on_literals
end Usual out file files few = several_end (file ∷ files) (omega arith) few
end Big out file files few = several_end (file ∷ files) (omega arith) few

asks : (profile : Profile) (out file : Text) (files : List Text)
    → subcommand_asks (codes "save", finished shape.rules (at_files profile out (file ∷ files)).held)
    ≡ Some (Save profile out (file ∷ files))
asks Usual out file files = refl
asks Big out file files = refl

-- `save OUT FILES...`, where no word begins with a hyphen, and `--big` perhaps in front of these words
pub save_words : (profile : Profile) (out file : Text) (files : List Text) → list_all is_plain (out ∷ file ∷ files) ≡ true
    → length (file ∷ files) ≤ usize_max
    → command_of (codes "save" ∷ with_option profile (out ∷ file ∷ files)) ≡ Some (Save profile out (file ∷ files))
save_words profile out file files plain few =
    let words = out ∷ file ∷ files in
    let to = at_files profile out (file ∷ files) in
    asked_by (codes "save") shape (with_option profile words) to (Some (Save profile out (file ∷ files))) enters
    (option_leads shape profile words to option_goes option_passes (leads profile out file files plain))
    (end profile out file files few) (asks profile out file files)
