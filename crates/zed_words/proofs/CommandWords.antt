-- What `clap` makes of a command and of the plain words behind it.
use Rattle.std.proofs.Common.{◌≡◌, ◌∙◌, ◌≤◌, ◌<◌, ◌++◌, ℕ, true, false, List, [], ◌∷◌, Option, Some, None, codes, length, refl, ap, ap₂, sym, append-nil, append_assoc}
use Rattle.std.specs.Prelude.{option_and_then, is_some}
use Rattle.std.specs.List.{fold, list_all}
use Rattle.clap.specs.Lexer.{usize_max}
use Rattle.clap.specs.Walk.{Held, Names, Row, Step, Text, Waiting, Walk, after_step, finished, idle, nothing_held, plain_word, positional, settled, subcommand_met, subcommand_or_other, walk, walk_from, walked, word_met}
use Rattle.clap.specs.Simple.{Shape, built, built_leaf, entered, inherited, marked_built, names_of, subcommand_of, with_leaf_noted}
use Rattle.clap.specs.Kinds.{Kinds, or_else, range_kinds, values_kinds}
use Rattle.clap.specs.Faults.{check_fault, defaults_fault, entered_fault, fault_of, level_fault, other_fault, settle_fault, step_fault, turn_fault, walk_fault}
use Rattle.clap.specs.declared.builder.value_parser.Reading.{Reading}
use Rattle.clap.specs.declared.builder.value_parser.Reading.TheVariants as reading
use Rattle.clap.specs.declared.builder.value_parser.ValueParser.TheVariants as vp
use Rattle.clap.specs.declared.parser.matches.ValueSource.TheVariants.{CommandLine}
use Rattle.clap.proofs.FaultLemmas.{stopped_fault}
use Rattle.clap.proofs.WalkLemmas.{both, walk_stopped}
use Rattle.zed_words.specs.declared.profile.Profile.{Profile}
use Rattle.zed_words.specs.declared.profile.Profile.TheVariants.{Usual, Big}
use Rattle.zed_words.specs.Grammar.{zzted_app}
use Rattle.zed_words.specs.Laws.{with_option}
use Rattle.zed_words.specs.Commands.{Command, command_of, is_plain, subcommand_asks, unless_refused}
use Rattle.zed_words.proofs.PlainWords.{or_nothing, other_passes, other_plain, several_fit, texts_pass}

-- ---- the command

-- the program above its commands
abbrev pub top : Shape
top = (built zzted_app).top

abbrev pub names : Names
names = names_of (built zzted_app)

abbrev pub stopped_at : Text → List Text → Walk
stopped_at name words = record (walk_from nothing_held) { stopped = Some (name, words) }

-- where the walk stands between two words
abbrev pub going : Held → Waiting → ℕ → Walk
going h waiting position = record { held = h; waiting = waiting; position = position; is_trailing = false; stopped = None }

abbrev pub after_words : Shape → Held → Kinds
after_words s h = or_else (settle_fault s.rules s.args_override_self h)
    (or_else (defaults_fault (settled s.rules h).rows s.rules)
    (check_fault s (finished s.rules h) false))

abbrev pub top_tail : Walk → Kinds
top_tail w = or_else (entered_fault (built zzted_app) w.stopped)
    (or_else (settle_fault top.rules top.args_override_self w.held)
    (or_else (defaults_fault (settled top.rules w.held).rows top.rules)
    (check_fault top (finished top.rules w.held) (is_some (entered (built zzted_app) w.stopped)))))

abbrev pub top_level : List Text → Walk → Kinds
top_level words w = or_else (walk_fault top names (walk_from nothing_held) words) (top_tail w)

abbrev pub rest_level : Shape → List Text → Kinds → Kinds
rest_level s rest ks = or_else ks (or_else (level_fault s [] nothing_held rest false []) [])

-- a first word enters a command, whose words are walked over by this shape
pub record Enters (name : Text) (s : Shape) : Type 0 where
  pub word : walked top.rules names (walk_from nothing_held) name ≡ stopped_at name []
  pub fault : turn_fault top names (walk_from nothing_held) name ≡ []
  pub ends : (rest : List Text)
      → top_level (name ∷ rest) (stopped_at name rest) ≡ rest_level s rest (walk_fault top names (walk_from nothing_held) (name ∷ rest))
  pub rows : (rest : List Text)
      → entered (built zzted_app) (Some (name, rest)) ≡ Some (name, finished s.rules (walk s.rules [] nothing_held rest).held)

top_walk : (name : Text) (s : Shape) (rest : List Text) → Enters name s
    → walk top.rules names nothing_held (name ∷ rest) ≡ stopped_at name rest
top_walk name s rest enters =
    ap (λ w. fold (walked top.rules names) w rest) enters.word
    ∙ sym (walk_stopped top.rules names (walk_from nothing_held) name [] rest)

top_fault : (name : Text) (s : Shape) (rest : List Text) → Enters name s → walk_fault top names (walk_from nothing_held) (name ∷ rest) ≡ []
unfolding walk_fault
top_fault name s rest enters = ap₂ or_else enters.fault
    (ap (λ w. walk_fault top names w rest) enters.word
    ∙ stopped_fault top names (walk_from nothing_held) (name, []) rest)

sub_fault : (name : Text) (s : Shape) (rest : List Text) → Enters name s
    → fault_of zzted_app (name ∷ rest) ≡ level_fault s [] nothing_held rest false []
sub_fault name s rest enters =
    ap (top_level (name ∷ rest)) (top_walk name s rest enters) ∙ enters.ends rest ∙ ap (rest_level s rest) (top_fault name s rest enters)
    ∙ or_nothing (level_fault s [] nothing_held rest false [])

sub_rows : (name : Text) (s : Shape) (rest : List Text) → Enters name s
    → subcommand_of zzted_app (name ∷ rest) ≡ Some (name, finished s.rules (walk s.rules [] nothing_held rest).held)
sub_rows name s rest enters = ap (λ (w : Walk). entered (built zzted_app) w.stopped) (top_walk name s rest enters) ∙ enters.rows rest

-- a command as `clap` builds it
abbrev pub leaf : Shape → Shape
leaf s = built_leaf (inherited (with_leaf_noted (marked_built zzted_app.top)) s)

-- the row of a word
abbrev pub row_by : Text → Reading → Text → Row
row_by id how word = record {
  id = id;
  values = word ∷ [];
  count = None;
  source = Some CommandLine;
  reading = how;
}

-- the rows of the option of a profile
abbrev pub option_rows : Profile → List Row
option_rows Usual = []
option_rows Big = row_by (codes "big") reading.AsWritten (codes "true") ∷ []

-- these rows, and the values of the argument that is being read
abbrev pub holding : List Row → Text → List Text → Held
holding rows id values = record { rows = rows; pending = Some (id, values); skip = 0 }

-- before the first word that is no option
abbrev pub begun_held : Profile → Held
begun_held profile = record { rows = option_rows profile; pending = None; skip = 0 }

abbrev pub begun : Profile → Walk
begun profile = going (begun_held profile) idle 1

-- ---- the words behind it

-- these words lead from one place to another, without a fault
pub record Leads (s : Shape) (from : Walk) (words : List Text) (to : Walk) : Type 0 where
  pub walks : fold (walked s.rules []) from words ≡ to
  pub passes : walk_fault s [] from words ≡ []

-- a plain word there is a value without a fault, and leads there
pub record Takes (s : Shape) (h : Held) (waiting : Waiting) (position : ℕ) (word : Text) (to : Walk) : Type 0 where
  pub none : subcommand_met [] waiting word ≡ None
  pub fits : step_fault s position (plain_word s.rules waiting word h).0 (plain_word s.rules waiting word h).1 ≡ []
  pub goes : after_step s.rules word (going h waiting position) (plain_word s.rules waiting word h).0 (plain_word s.rules waiting word h).1
      ≡ to

pub none_lead : (s : Shape) (w : Walk) → Leads s w [] w
unfolding walk_fault
none_lead s w = record { walks = refl; passes = refl }

-- one word more
pub more_lead : (s : Shape) (w v u : Walk) (word : Text) (rest : List Text) → walked s.rules [] w word ≡ v → turn_fault s [] w word ≡ []
    → Leads s v rest u → Leads s w (word ∷ rest) u
unfolding walk_fault
more_lead s w v u word rest goes passes later = record {
  walks = ap (λ x. fold (walked s.rules []) x rest) goes ∙ later.walks;
  passes = ap₂ or_else passes (ap (λ x. walk_fault s [] x rest) goes ∙ later.passes);
}

value_met : (s : Shape) (h : Held) (waiting : Waiting) (position : ℕ) (word : Text) (v : Walk) → is_plain word ≡ true
    → Takes s h waiting position word v → word_met s.rules [] false waiting position word h ≡ plain_word s.rules waiting word h
value_met s h waiting position word v plain takes =
    ap (λ o. subcommand_or_other s.rules o waiting position word h) takes.none ∙ other_plain s.rules waiting position word h plain

-- one plain word more
pub word_leads : (s : Shape) (h : Held) (waiting : Waiting) (position : ℕ) (word : Text) (rest : List Text) (v u : Walk)
    → is_plain word ≡ true
    → Takes s h waiting position word v → Leads s v rest u → Leads s (going h waiting position) (word ∷ rest) u
unfolding walked
word_leads s h waiting position word rest v u plain takes later =
    let met = value_met s h waiting position word v plain takes in
    more_lead s (going h waiting position) v u word rest
    (ap (λ (m : Held × Step). after_step s.rules word (going h waiting position) m.0 m.1) met ∙ takes.goes)
    (ap₂ or_else (ap (λ o. other_fault s o word h) takes.none ∙ other_passes s word h plain)
    (ap (λ (m : Held × Step). step_fault s position m.0 m.1) met ∙ takes.fits))
    later

-- the words of a positional that takes several
abbrev pub several_at : List Row → Text → ℕ → List Text → Walk
several_at rows id position values = going (holding rows id values) positional position

pub several_lead : (s : Shape) (rows : List Row) (id : Text) (position : ℕ)
    → ((values : List Text) (word : Text) → Takes s (holding rows id values) positional position word (several_at rows id position (values ++ word ∷ [])))
    → (values more : List Text) → list_all is_plain more ≡ true
    → Leads s (several_at rows id position values) more (several_at rows id position (values ++ more))
several_lead s rows id position takes values [] plain =
    rw (append-nil values) (none_lead s (several_at rows id position values))
several_lead s rows id position takes values (word ∷ more) plain =
    let two = both _ _ plain in
    let later = several_lead s rows id position takes (values ++ word ∷ []) more two.1 in
    word_leads s (holding rows id values) positional position word more (several_at rows id position (values ++ word ∷ []))
    (several_at rows id position (values ++ word ∷ more)) two.0 (takes values word)
    (rw append_assoc at later)

-- the option of a profile in front of the words
pub option_leads : (s : Shape) (profile : Profile) (words : List Text) (to : Walk)
    → walked s.rules [] (walk_from nothing_held) (codes "--big") ≡ begun Big → turn_fault s [] (walk_from nothing_held) (codes "--big") ≡ []
    → Leads s (begun profile) words to → Leads s (walk_from nothing_held) (with_option profile words) to
option_leads s Usual words to goes passes later = later
option_leads s Big words to goes passes later = more_lead s (walk_from nothing_held) (begun Big) to (codes "--big") words goes passes later

-- one value or more, and each is a text
pub several_end : (values : List Text) → 0 < length values → length values ≤ usize_max
    → or_else (or_else (range_kinds 1 usize_max (length values)) (values_kinds false vp.String values)) [] ≡ []
several_end values some few = ap (λ ks. or_else ks []) (ap₂ or_else (several_fit (length values) some few) (texts_pass values))

-- where the words behind a command lead to an end without a fault, the whole asks for what that end does
pub asked_by : (name : Text) (s : Shape) (words : List Text) (w : Walk) (command : Option Command) → Enters name s
    → Leads s (walk_from nothing_held) words w → after_words s w.held ≡ []
    → subcommand_asks (name, finished s.rules w.held) ≡ command → command_of (name ∷ words) ≡ command
unfolding command_of
asked_by name s words w command enters leads ends asks =
    let level : level_fault s [] nothing_held words false [] ≡ [] =
    ap₂ or_else leads.passes (ap (λ (v : Walk). after_words s v.held) leads.walks ∙ ends) in
    ap₂ unless_refused (sub_fault name s words enters ∙ level)
    (ap (option_and_then subcommand_asks) (sub_rows name s words enters
    ∙ ap (λ (v : Walk). Some (name, finished s.rules v.held)) leads.walks))
    ∙ asks
