-- What `clap` makes of `merge OUT WORLD FILES...`.
use Rattle.std.proofs.Common.{◌≡◌, ◌≤◌, ℕ, arith, true, List, [], ◌∷◌, Some, codes, length, refl}
use Rattle.std.specs.List.{list_all}
use Rattle.clap.specs.Lexer.{usize_max}
use Rattle.clap.specs.Walk.{Row, Text, Walk, finished, idle, nothing_held, walk_from}
use Rattle.clap.specs.Faults.{defaults_fault, walk_fault}
use Rattle.clap.specs.Simple.{Shape}
use Rattle.clap.specs.declared.builder.value_parser.Reading.TheVariants as reading
use Rattle.clap.proofs.OnLiterals.{clap_on_literals}
use Rattle.clap.proofs.WalkLemmas.{both}
use Rattle.zed_words.specs.declared.profile.Profile.TheVariants.{Usual}
use Rattle.zed_words.specs.Grammar.{merge_shape}
use Rattle.zed_words.specs.Commands.{Merge, command_of, is_plain, number_of, subcommand_asks}
use Rattle.zed_words.proofs.CommandWords.{Enters, Leads, after_words, asked_by, begun, begun_held, going, holding, leaf, names, rest_level, row_by, several_at, several_end, several_lead, stopped_at, top, top_level, word_leads}
use Rattle.zed_words.proofs.NumberWords.{number_plain, world_accepted}

abbrev shape : Shape
shape = leaf merge_shape

ends : (rest : List Text) → top_level (codes "merge" ∷ rest) (stopped_at (codes "merge") rest)
    ≡ rest_level shape rest (walk_fault top names (walk_from nothing_held) (codes "merge" ∷ rest))
unfolding defaults_fault
ends rest = refl

enters : Enters (codes "merge") shape
unfolding clap_on_literals
enters = record { word = refl; fault = refl; ends = ends; rows = λ rest. refl }

abbrev at_out : Text → Walk
at_out out = going (holding [] (codes "OUT") (out ∷ [])) idle 2

abbrev at_world : Text → Text → Walk
at_world out world = going (holding (row_by (codes "OUT") reading.AsWritten out ∷ []) (codes "WORLD") (world ∷ [])) idle 3

abbrev rows_before : Text → Text → List Row
rows_before out world = row_by (codes "OUT") reading.AsWritten out ∷ row_by (codes "WORLD") reading.AsWritten world ∷ []

abbrev at_files : Text → Text → List Text → Walk
at_files out world files = several_at (rows_before out world) (codes "FILES") 3 files

leads : (out world file : Text) (files : List Text) (n : ℕ) → number_of 64 world ≡ Some n → list_all is_plain (out ∷ file ∷ files) ≡ true
    → Leads shape (begun Usual) (out ∷ world ∷ file ∷ files) (at_files out world (file ∷ files))
leads out world file files n is plain =
    let p = both _ _ plain in
    let q = both _ _ p.1 in
    let to = at_files out world (file ∷ files) in
    word_leads shape (begun_held Usual) idle 1 out (world ∷ file ∷ files) (at_out out) to p.0
    (record { none = refl; fits = refl; goes = refl })
    (word_leads shape (at_out out).held idle 2 world (file ∷ files) (at_world out world) to (number_plain 64 world n is)
    (record { none = refl; fits = refl; goes = refl })
    (word_leads shape (at_world out world).held idle 3 file files (at_files out world (file ∷ [])) to q.0
    (record { none = refl; fits = rw (world_accepted world n is) refl; goes = refl })
    (several_lead shape (rows_before out world) (codes "FILES") 3 (λ values word. record { none = refl; fits = refl; goes = refl }) (file ∷ []) files q.1)))

end : (out world file : Text) (files : List Text) → length (file ∷ files) ≤ usize_max
    → after_words shape (at_files out world (file ∷ files)).held ≡ []
unfolding clap_on_literals
end out world file files few = several_end (file ∷ files) (omega arith) few

asks : (out world file : Text) (files : List Text) (n : ℕ) → number_of 64 world ≡ Some n
    → subcommand_asks (codes "merge", finished shape.rules (at_files out world (file ∷ files)).held) ≡ Some (Merge out n (file ∷ files))
asks out world file files n is = rw is refl

-- `merge OUT WORLD FILES...`, where no word begins with a hyphen
pub merge_words : (out world file : Text) (files : List Text) (n : ℕ) → number_of 64 world ≡ Some n
    → list_all is_plain (out ∷ file ∷ files) ≡ true
    → length (file ∷ files) ≤ usize_max → command_of (codes "merge" ∷ out ∷ world ∷ file ∷ files) ≡ Some (Merge out n (file ∷ files))
merge_words out world file files n is plain few =
    asked_by (codes "merge") shape (out ∷ world ∷ file ∷ files) (at_files out world (file ∷ files)) (Some (Merge out n (file ∷ files))) enters
    (leads out world file files n is plain) (end out world file files few) (asks out world file files n is)
