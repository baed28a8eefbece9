-- The things that an edit makes, in a list.
use Rattle.std.specs.Prelude.{◌≡◌, Bool, true, List, [], ◌∷◌, ◌++◌, map}
use Rattle.std.specs.List.{list_any, flat_map}
use Rattle.zed_types.specs.declared.stamp.Stamp.{Stamp}
use Rattle.zed_types.specs.declared.names.TextId.{TextId}
use Rattle.zed_types.specs.declared.text.TextByte.{TextByte}
use Rattle.zed_types.specs.Names.{stat_of}
use Rattle.zed_types.specs.Text.{run_from}
use Rattle.zed_op.specs.declared.op.Op.{Op}
use Rattle.zed_op.specs.declared.op.Op.TheVariants.{StatAdd, TextInsert}
use Rattle.zed_op.specs.declared.op.Edit.{Edit}
use Rattle.zed_op.specs.declared.thing.Thing.{Thing}
use Rattle.zed_op.specs.declared.thing.Thing.TheVariants as thing
use Rattle.zed_edit.specs.declared.plain.Board.{Board}
use Rattle.zed_edit.specs.declared.plain.Stat.{Stat}
use Rattle.zed_edit.specs.declared.plain.Text.{Text}
use Rattle.zed_laws.specs.Winners.{made_boards}
use Rattle.zed_laws.specs.Making.{made_texts, makes}
use Rattle.zed_inbox.specs.Waiting.{same_thing}

-- a board as a thing
abbrev pub board_thing : Board → Thing
board_thing b = thing.Board b.id

-- a text as a thing
abbrev pub text_thing : Text → Thing
text_thing t = thing.Text t.id

-- stats as things
abbrev pub stat_things : List Stat → List Thing
stat_things ss = map (λ x. thing.Stat x.id) ss

-- the stats of boards as things
abbrev pub all_stat_things : List Board → List Thing
all_stat_things bs = flat_map (λ b. stat_things b.stats) bs

-- the bytes of a text as things
abbrev pub byte_things : TextId → List TextByte → List Thing
byte_things t xs = map (λ x. thing.Element t x.id) xs

-- the bytes of texts as things
abbrev pub all_byte_things : List Text → List Thing
all_byte_things ts = flat_map (λ t. byte_things t.id t.elements) ts

-- boards and texts as things, with the stats and bytes that they have
abbrev pub things_in : List Board → List Text → List Thing
things_in bs ts = map board_thing bs ++ (all_stat_things bs ++ (map text_thing ts ++ all_byte_things ts))

-- the things that an op makes
abbrev pub things_made : Stamp → Op → List Thing
things_made s (StatAdd b fields) = thing.Stat (stat_of s 0) ∷ []
things_made s (TextInsert t after bytes) = byte_things t (run_from s 0 bytes)
things_made s op = things_in (made_boards s op) (made_texts s op)

-- whether a thing is one of these
abbrev pub is_among : List Thing → Thing → Bool
is_among things x = list_any (λ n. same_thing n x) things

-- all that an edit makes is among these things
abbrev pub AreAllMade : Edit → List Thing → Type 0
AreAllMade e things = (x : Thing) → makes e x ≡ true → is_among things x ≡ true
