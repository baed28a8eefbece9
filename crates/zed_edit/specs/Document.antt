-- The plain document: what one author has.
use Rattle.std.specs.Prelude.{◌≡◌, ℕ, Bool, if◌then◌else◌, List, [], map, Option, Some, None, option_map}
use Rattle.std.specs.List.{find, flat_map, list_any}
use Rattle.zed_types.specs.declared.names.BoardId.{BoardId}
use Rattle.zed_types.specs.declared.names.StatId.{StatId}
use Rattle.zed_types.specs.declared.names.TextId.{TextId}
use Rattle.zed_types.specs.declared.text.TextByte.{TextByte}
use Rattle.zed_types.specs.Names.{same_board, same_stat, same_text, same_element}
use Rattle.zed_types.specs.Text.{alive_bytes}
use Rattle.zed_edit.specs.Header.{empty_header}
use Rattle.zed_edit.specs.Board.{change_stats}
use Rattle.zed_op.specs.declared.thing.Thing.{Thing}
use Rattle.zed_op.specs.declared.thing.Thing.TheVariants as thing
use Rattle.zed_edit.specs.declared.plain.Board.{Board}
use Rattle.zed_edit.specs.declared.plain.Stat.{Stat}
use Rattle.zed_edit.specs.declared.plain.Text.{Text}
use Rattle.zed_edit.specs.declared.plain.Plain.{Plain}

-- a header of 0 and empty values, no board, no text, and no edit held
abbrev pub empty_document : Plain
empty_document = record { header = empty_header; boards = []; texts = []; held = [] }

-- f of each member that passes a test, the others as they are
abbrev pub change_such : {X : Type 0} → (X → Bool) → (X → X) → List X → List X
change_such test f xs = map (λ x. if test x then f x else x) xs

-- f of a board, if it has this name
abbrev pub board_if : BoardId → (Board → Board) → Board → Board
board_if b f x = if same_board x.id b then f x else x

-- f of the board of a name among boards
abbrev pub change_boards : BoardId → (Board → Board) → List Board → List Board
change_boards b f bs = change_such (λ x. same_board x.id b) f bs

-- f of the board of a name
abbrev pub change_board : BoardId → (Board → Board) → Plain → Plain
change_board b f p = record p { boards = change_boards b f p.boards }

-- f of a stat, if it has this name
abbrev pub stat_if : StatId → (Stat → Stat) → Stat → Stat
stat_if s f x = if same_stat x.id s then f x else x

-- f of the stat of a name among the stats of a board
abbrev pub change_stats_of : StatId → (Stat → Stat) → Board → Board
change_stats_of s f b = change_stats (change_such (λ x. same_stat x.id s) f) b

-- f of the stat of a name, whichever board it is on
abbrev pub change_stat : StatId → (Stat → Stat) → Plain → Plain
change_stat s f p = record p { boards = map (change_stats_of s f) p.boards }

-- f of the bytes of a text
abbrev pub change_elements : (List TextByte → List TextByte) → Text → Text
change_elements f t = record t { elements = f t.elements }

-- f of the bytes of a text, if it has this name
abbrev pub text_if : TextId → (List TextByte → List TextByte) → Text → Text
text_if t f x = if same_text x.id t then change_elements f x else x

-- f of the bytes of the text of a name among texts
abbrev pub change_texts : TextId → (List TextByte → List TextByte) → List Text → List Text
change_texts t f ts = change_such (λ x. same_text x.id t) (change_elements f) ts

-- f of the bytes of the text of a name
abbrev pub change_text : TextId → (List TextByte → List TextByte) → Plain → Plain
change_text t f p = record p { texts = change_texts t f p.texts }

-- the bytes of a text; none has none
abbrev pub elements_in : Option Text → List TextByte
elements_in None = []
elements_in (Some t) = t.elements

-- the text of a name among texts
abbrev pub find_text : TextId → List Text → Option Text
find_text t ts = find (λ x. same_text x.id t) ts

-- the bytes of the text of a name, dead ones too
abbrev pub elements : Plain → TextId → List TextByte
elements p t = elements_in (find_text t p.texts)

-- the alive bytes of the text of a name
abbrev pub text : Plain → TextId → List ℕ
text p t = alive_bytes (elements p t)

-- whether a thing was made, removed or not
abbrev pub has : Plain → Thing → Bool
has p (thing.Board b) = list_any (λ x. same_board x.id b) p.boards
has p (thing.Stat s) = list_any (λ b. list_any (λ x. same_stat x.id s) b.stats) p.boards
has p (thing.Text t) = list_any (λ x. same_text x.id t) p.texts
has p (thing.Element t a) = list_any (λ x. same_element x.id a) (elements p t)

-- every stat that was made
abbrev pub all_stats : Plain → List Stat
all_stats p = flat_map (λ b. b.stats) p.boards

-- the text register of a stat, if the stat was made, removed or not
abbrev pub text_register : Plain → StatId → Option (Option TextId)
text_register p s = option_map (λ x. x.fields.text) (find (λ x. same_stat x.id s) (all_stats p))

-- the elements of a text, if it was made
abbrev pub made_elements : Plain → TextId → Option (List TextByte)
made_elements p t = option_map (λ x. x.elements) (find_text t p.texts)

-- two documents have equal headers, boards and texts; the edits held may differ
abbrev pub HaveSameContent : Plain → Plain → Type 0
HaveSameContent p q = (p.header ≡ q.header) × (p.boards ≡ q.boards) × (p.texts ≡ q.texts)
