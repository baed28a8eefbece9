-- What the words of the command line ask for.
use Rattle.std.specs.Prelude.{ℕ, ◌<◌, Bool, true, not, List, [], ◌∷◌, ◌&&◌, ◌^◌, ◌==◌, Option, Some, None, codes, length, map, nat_lt, if◌then◌else◌, option_and_then, option_map, string_bytes}
use Rattle.std.specs.List.{list_all}
use Rattle.std.specs.Str.{bytes_eq}
use Rattle.std.specs.Str.Parse.{digits_value, without_leading_plus}
use Rattle.std.specs.Char.{digit_value}
use Rattle.clap.specs.Walk.{Row, Text, all_of, first_of, one_of}
use Rattle.clap.specs.Simple.{subcommand_of}
use Rattle.clap.specs.Faults.{fault_of}
use Rattle.clap.specs.Kinds.{Kinds}
use Rattle.zed_words.specs.declared.profile.Profile.{Profile}
use Rattle.zed_words.specs.declared.profile.Profile.TheVariants.{Usual, Big}
use Rattle.zed_words.specs.declared.words.Command.{Command as Spoken}
use Rattle.zed_words.specs.declared.words.Command.TheVariants as spoken
use Rattle.zed_words.specs.declared.words.ParseError.{ParseError}
use Rattle.zed_words.specs.declared.words.ParseError.TheVariants as parse
use Rattle.zed_words.specs.Grammar.{zzted_app}

-- a command with its words
pub data Command : Type 0 where
  Save : (profile : Profile) → (out : Text) → (files : List Text) → Command
  Check : (profile : Profile) → (files : List Text) → Command
  New : (out : Text) → (world : ℕ) → (from : Option Text) → (name : Option Text) → Command
  Edit : (file : Text) → (replica : ℕ) → (words : List Text) → Command
  Merge : (out : Text) → (world : ℕ) → (files : List Text) → Command
  Show : (profile : Profile) → (board : ℕ) → (files : List Text) → Command
  Play : (profile : Profile) → (board : ℕ) → (chance : Text) → (files : List Text) → Command

-- what a command of the code says
abbrev pub meaning_of : Spoken → Command
meaning_of (spoken.Save profile out files) = Save profile out.now (map (λ s. s.now) files.items)
meaning_of (spoken.Check profile files) = Check profile (map (λ s. s.now) files.items)
meaning_of (spoken.New out world from name) = New out.now world (option_map (λ s. s.now) from) (option_map (λ s. s.now) name)
meaning_of (spoken.Edit file replica words) = Edit file.now replica (map (λ s. s.now) words.items)
meaning_of (spoken.Merge out world files) = Merge out.now world (map (λ s. s.now) files.items)
meaning_of (spoken.Show profile board files) = Show profile board (map (λ s. s.now) files.items)
meaning_of (spoken.Play profile board chance files) = Play profile board chance.now (map (λ s. s.now) files.items)

-- the number below 2^bits that digits write, where a plus may stand first
abbrev pub number_of : ℕ → Text → Option ℕ
number_of bits text =
    let ds = without_leading_plus text in
    if nat_lt 0 (length ds) && list_all (λ d. nat_lt (digit_value d) 10) ds && nat_lt (digits_value 10 ds) (2 ^ bits) then Some (digits_value 10 ds) else None

-- the profile by the word of `--big`, which is there as a default too
abbrev pub profile_by : Option Text → Profile
profile_by None = Usual
profile_by (Some word) = if bytes_eq word (codes "true") then Big else Usual

-- the profile that the rows of a subcommand's words ask for
abbrev pub profile_of : List Row → Profile
profile_of rows = profile_by (first_of (codes "big") rows)

-- what the rows say, for `save`
abbrev pub save_of : List Row → Option Command
save_of rows = option_and_then (λ out. option_map (λ files. Save (profile_of rows) out files)
    (all_of (codes "FILES") rows)) (first_of (codes "OUT") rows)

-- for `check`
abbrev pub check_of : List Row → Option Command
check_of rows = option_map (λ files. Check (profile_of rows) files) (all_of (codes "FILES") rows)

-- for `new`
abbrev pub new_of : List Row → Option Command
new_of rows = option_and_then (λ out. option_map (λ world. New out world
    (first_of (codes "from") rows) (first_of (codes "name") rows))
    (option_and_then (number_of 64) (one_of (codes "WORLD") rows))) (first_of (codes "OUT") rows)

-- for `edit`
abbrev pub edit_of : List Row → Option Command
edit_of rows = option_and_then (λ file. option_and_then (λ replica. option_map (λ words.
    Edit file replica words) (all_of (codes "WORDS") rows))
    (option_and_then (number_of 16) (one_of (codes "REPLICA") rows))) (first_of (codes "FILE") rows)

-- for `merge`
abbrev pub merge_of : List Row → Option Command
merge_of rows = option_and_then (λ out. option_and_then (λ world. option_map (λ files.
    Merge out world files) (all_of (codes "FILES") rows))
    (option_and_then (number_of 64) (one_of (codes "WORLD") rows))) (first_of (codes "OUT") rows)

-- for `show`
abbrev pub show_of : List Row → Option Command
show_of rows = option_and_then (λ board. option_map (λ files. Show (profile_of rows) board files)
    (all_of (codes "FILES") rows)) (option_and_then (number_of 16) (one_of (codes "BOARD") rows))

-- for `play`
abbrev pub play_of : List Row → Option Command
play_of rows = option_and_then (λ board. option_and_then (λ chance. option_map (λ files.
    Play (profile_of rows) board chance files) (all_of (codes "FILES") rows))
    (first_of (codes "WORDS") rows)) (option_and_then (number_of 16) (one_of (codes "BOARD") rows))

-- by the name of the subcommand
abbrev pub subcommand_asks : Text × List Row → Option Command
subcommand_asks p =
    if bytes_eq p.0 (codes "save") then save_of p.1
    else (if bytes_eq p.0 (codes "check") then check_of p.1
    else (if bytes_eq p.0 (codes "new") then new_of p.1
    else (if bytes_eq p.0 (codes "edit") then edit_of p.1
    else (if bytes_eq p.0 (codes "merge") then merge_of p.1
    else (if bytes_eq p.0 (codes "show") then show_of p.1
    else (if bytes_eq p.0 (codes "play") then play_of p.1 else None))))))

-- what is asked for where `clap` finds no fault
abbrev pub unless_refused : Kinds → Option Command → Option Command
unless_refused [] command = command
unless_refused (kind ∷ kinds) command = None

-- what the words ask for, or that they are refused; no words save standard input to standard output
unfoldable pub command_of : List Text → Option Command
command_of [] = Some (Save Usual (codes "stdout") (codes "stdin" ∷ []))
command_of (word ∷ words) = unless_refused (fault_of zzted_app (word ∷ words))
    (option_and_then subcommand_asks (subcommand_of zzted_app (word ∷ words)))

-- a word that `clap` takes for a value wherever it stands: it doesn't begin with a hyphen
abbrev pub is_plain : Text → Bool
is_plain [] = true
is_plain (byte ∷ bytes) = not (byte == 45)

-- the words are refused, with a text for the user that isn't empty
abbrev pub IsRefusedAloud : ParseError → Type 0
IsRefusedAloud parse.Memory = ⊥
IsRefusedAloud (parse.Refused text) = 0 < length (string_bytes text)
