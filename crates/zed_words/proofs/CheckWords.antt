-- What `clap` makes of `check FILES...`.
use Rattle.std.proofs.Common.{◌≡◌, ◌≤◌, arith, true, List, [], ◌∷◌, Some, codes, length, refl}
use Rattle.std.specs.List.{list_all}
use Rattle.clap.specs.Lexer.{usize_max}
use Rattle.clap.specs.Walk.{Text, Walk, finished, idle, nothing_held, walk_from, walked}
use Rattle.clap.specs.Faults.{defaults_fault, turn_fault, walk_fault}
use Rattle.clap.specs.Simple.{Shape}
use Rattle.clap.proofs.OnLiterals.{clap_on_literals}
use Rattle.clap.proofs.WalkLemmas.{both}
use Rattle.zed_words.specs.declared.profile.Profile.{Profile}
use Rattle.zed_words.specs.declared.profile.Profile.TheVariants.{Usual, Big}
use Rattle.zed_words.specs.Grammar.{check_shape}
use Rattle.zed_words.specs.Laws.{with_option}
use Rattle.zed_words.specs.Commands.{Check, command_of, is_plain, subcommand_asks}
use Rattle.zed_words.proofs.CommandWords.{Enters, Leads, after_words, asked_by, begun, begun_held, leaf, names, option_leads, option_rows, rest_level, several_at, several_end, several_lead, stopped_at, top, top_level, word_leads}

abbrev shape : Shape
shape = leaf check_shape

ends : (rest : List Text) → top_level (codes "check" ∷ rest) (stopped_at (codes "check") rest)
    ≡ rest_level shape rest (walk_fault top names (walk_from nothing_held) (codes "check" ∷ rest))
unfolding defaults_fault
ends rest = refl

enters : Enters (codes "check") shape
unfolding clap_on_literals
enters = record { word = refl; fault = refl; ends = ends; rows = λ rest. refl }

option_goes : walked shape.rules [] (walk_from nothing_held) (codes "--big") ≡ begun Big
unfolding clap_on_literals
option_goes = refl

option_passes : turn_fault shape [] (walk_from nothing_held) (codes "--big") ≡ []
unfolding clap_on_literals
option_passes = refl

abbrev at_files : Profile → List Text → Walk
at_files profile files = several_at (option_rows profile) (codes "FILES") 1 files

leads : (profile : Profile) (file : Text) (files : List Text) → list_all is_plain (file ∷ files) ≡ true
    → Leads shape (begun profile) (file ∷ files) (at_files profile (file ∷ files))
leads profile file files plain =
    let p = both _ _ plain in
    word_leads shape (begun_held profile) idle 1 file files (at_files profile (file ∷ [])) (at_files profile (file ∷ files)) p.0
    (record { none = refl; fits = refl; goes = refl })
    (several_lead shape (option_rows profile) (codes "FILES") 1 (λ values word. record { none = refl; fits = refl; goes = refl }) (file ∷ []) files p.1)

end : (profile : Profile) (file : Text) (files : List Text) → length (file ∷ files) ≤ usize_max
    → after_words shape (at_files profile (file ∷ files)).held ≡ []
unfolding clap_on_literals
end Usual file files few = several_end (file ∷ files) (omega arith) few
end Big file files few = several_end (file ∷ files) (omega arith) few

asks : (profile : Profile) (file : Text) (files : List Text)
    → subcommand_asks (codes "check", finished shape.rules (at_files profile (file ∷ files)).held) ≡ Some (Check profile (file ∷ files))
asks Usual file files = refl
asks Big file files = refl

-- `check FILES...`, where no word begins with a hyphen, and `--big` perhaps in front of these words
pub check_words : (profile : Profile) (file : Text) (files : List Text) → list_all is_plain (file ∷ files) ≡ true
    → length (file ∷ files) ≤ usize_max
    → command_of (codes "check" ∷ with_option profile (file ∷ files)) ≡ Some (Check profile (file ∷ files))
check_words profile file files plain few =
    asked_by (codes "check") shape (with_option profile (file ∷ files)) (at_files profile (file ∷ files)) (Some (Check profile (file ∷ files))) enters
    (option_leads shape profile (file ∷ files) (at_files profile (file ∷ files)) option_goes option_passes (leads profile file files plain))
    (end profile file files few) (asks profile file files)
