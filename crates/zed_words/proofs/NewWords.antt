-- What `clap` makes of `new OUT WORLD`, and of its options behind these words.
use Rattle.std.proofs.Common.{◌≡◌, ◌++◌, ℕ, true, List, [], ◌∷◌, Option, Some, None, codes, refl}
use Rattle.std.specs.Prelude.{IfSome}
use Rattle.clap.specs.Walk.{Row, Text, Walk, finished, idle, nothing_held, option, walk_from}
use Rattle.clap.specs.Faults.{defaults_fault, walk_fault}
use Rattle.clap.specs.Simple.{Shape}
use Rattle.clap.specs.declared.builder.value_parser.Reading.TheVariants as reading
use Rattle.clap.proofs.OnLiterals.{clap_on_literals}
use Rattle.zed_words.specs.declared.profile.Profile.TheVariants.{Usual}
use Rattle.zed_words.specs.Grammar.{create_shape}
use Rattle.zed_words.specs.Laws.{option_words}
use Rattle.zed_words.specs.Commands.{New, command_of, is_plain, number_of, subcommand_asks}
use Rattle.zed_words.proofs.CommandWords.{Enters, Leads, after_words, asked_by, begun, begun_held, going, holding, leaf, more_lead, names, none_lead, rest_level, row_by, stopped_at, top, top_level, word_leads}
use Rattle.zed_words.proofs.NumberWords.{number_plain, world_accepted}

abbrev shape : Shape
shape = leaf create_shape

ends : (rest : List Text) → top_level (codes "new" ∷ rest) (stopped_at (codes "new") rest)
    ≡ rest_level shape rest (walk_fault top names (walk_from nothing_held) (codes "new" ∷ rest))
unfolding defaults_fault
ends rest = refl

enters : Enters (codes "new") shape
unfolding clap_on_literals
enters = record { word = refl; fault = refl; ends = ends; rows = λ rest. refl }

abbrev out_rows : Text → List Row
out_rows out = row_by (codes "OUT") reading.AsWritten out ∷ []

abbrev world_rows : Text → Text → List Row
world_rows out world = out_rows out ++ row_by (codes "WORLD") reading.AsWritten world ∷ []

abbrev from_rows : Text → Text → Option Text → List Row
from_rows out world None = world_rows out world
from_rows out world (Some file) = world_rows out world ++ row_by (codes "from") reading.AsWritten file ∷ []

abbrev at_out : Text → Walk
at_out out = going (holding [] (codes "OUT") (out ∷ [])) idle 2

abbrev at_world : Text → Text → Walk
at_world out world = going (holding (out_rows out) (codes "WORLD") (world ∷ [])) idle 3

-- the file behind `--from`, if it is there, is read
abbrev at_from : Text → Text → Option Text → Walk
at_from out world None = at_world out world
at_from out world (Some file) = going (holding (world_rows out world) (codes "from") (file ∷ [])) idle 3

abbrev at_name : Text → Text → Option Text → Option Text → Walk
at_name out world from None = at_from out world from
at_name out world from (Some text) = going (holding (from_rows out world from) (codes "name") (text ∷ [])) idle 3

name_leads : (out world : Text) (n : ℕ) (from name : Option Text) → number_of 64 world ≡ Some n → IfSome name (λ text. is_plain text ≡ true)
    → Leads shape (at_from out world from) (option_words (codes "--name") name) (at_name out world from name)
unfolding clap_on_literals
name_leads out world n from None is plain = none_lead shape (at_from out world from)
name_leads out world n None (Some text) is plain =
    let waiting = holding (world_rows out world) (codes "name") [] in
    let to = at_name out world None (Some text) in
    more_lead shape (at_world out world) (going waiting (option (codes "name")) 3) to (codes "--name") (text ∷ [])
    refl (rw (world_accepted world n is) refl)
    (word_leads shape waiting (option (codes "name")) 3 text [] to to plain (record { none = refl; fits = refl; goes = refl }) (none_lead shape to))
name_leads out world n (Some file) (Some text) is plain =
    let waiting = holding (from_rows out world (Some file)) (codes "name") [] in
    let to = at_name out world (Some file) (Some text) in
    more_lead shape (at_from out world (Some file)) (going waiting (option (codes "name")) 3) to (codes "--name") (text ∷ [])
    refl refl
    (word_leads shape waiting (option (codes "name")) 3 text [] to to plain (record { none = refl; fits = refl; goes = refl }) (none_lead shape to))

from_leads : (out world : Text) (n : ℕ) (from name : Option Text) → number_of 64 world ≡ Some n → IfSome from (λ file. is_plain file ≡ true)
    → IfSome name (λ text. is_plain text ≡ true)
    → Leads shape (at_world out world) (option_words (codes "--from") from ++ option_words (codes "--name") name) (at_name out world from name)
unfolding clap_on_literals
from_leads out world n None name is plain_from plain_name = name_leads out world n None name is plain_name
from_leads out world n (Some file) name is plain_from plain_name =
    let rest = option_words (codes "--name") name in
    let waiting = holding (world_rows out world) (codes "from") [] in
    let to = at_name out world (Some file) name in
    more_lead shape (at_world out world) (going waiting (option (codes "from")) 3) to (codes "--from") (file ∷ rest)
    refl (rw (world_accepted world n is) refl)
    (word_leads shape waiting (option (codes "from")) 3 file rest (at_from out world (Some file)) to plain_from
    (record { none = refl; fits = refl; goes = refl }) (name_leads out world n (Some file) name is plain_name))

leads : (out world : Text) (n : ℕ) (from name : Option Text) → number_of 64 world ≡ Some n → is_plain out ≡ true
    → IfSome from (λ file. is_plain file ≡ true)
    → IfSome name (λ text. is_plain text ≡ true)
    → Leads shape (begun Usual) (out ∷ world ∷ option_words (codes "--from") from ++ option_words (codes "--name") name) (at_name out world from name)
leads out world n from name is plain plain_from plain_name =
    let rest = option_words (codes "--from") from ++ option_words (codes "--name") name in
    let to = at_name out world from name in
    word_leads shape (begun_held Usual) idle 1 out (world ∷ rest) (at_out out) to plain
    (record { none = refl; fits = refl; goes = refl })
    (word_leads shape (at_out out).held idle 2 world rest (at_world out world) to (number_plain 64 world n is)
    (record { none = refl; fits = refl; goes = refl })
    (from_leads out world n from name is plain_from plain_name))

end : (out world : Text) (n : ℕ) (from name : Option Text) → number_of 64 world ≡ Some n
    → after_words shape (at_name out world from name).held ≡ []
unfolding clap_on_literals
end out world n None None is = rw (world_accepted world n is) refl
end out world n (Some file) None is = refl
end out world n None (Some text) is = refl
end out world n (Some file) (Some text) is = refl

asks : (out world : Text) (n : ℕ) (from name : Option Text) → number_of 64 world ≡ Some n
    → subcommand_asks (codes "new", finished shape.rules (at_name out world from name).held) ≡ Some (New out n from name)
asks out world n None None is = rw is refl
asks out world n (Some file) None is = rw is refl
asks out world n None (Some text) is = rw is refl
asks out world n (Some file) (Some text) is = rw is refl

-- `new OUT WORLD`, with `--from FILE` or `--name TEXT` behind, or both, where no other word begins with a hyphen
pub new_words : (out world : Text) (from name : Option Text) (n : ℕ) → number_of 64 world ≡ Some n → is_plain out ≡ true
    → IfSome from (λ file. is_plain file ≡ true) → IfSome name (λ text. is_plain text ≡ true)
    → command_of (codes "new" ∷ out ∷ world ∷ option_words (codes "--from") from ++ option_words (codes "--name") name)
    ≡ Some (New out n from name)
new_words out world from name n is plain plain_from plain_name =
    asked_by (codes "new") shape (out ∷ world ∷ option_words (codes "--from") from ++ option_words (codes "--name") name) (at_name out world from name)
    (Some (New out n from name)) enters (leads out world n from name is plain plain_from plain_name) (end out world n from name is)
    (asks out world n from name is)
