-- What edits wait for.
use Rattle.std.specs.Prelude.{Bool, false, ◌&&◌, not, if◌then◌else◌, List, [], ◌∷◌}
use Rattle.std.specs.List.{list_any, filter}
use Rattle.zed_types.specs.declared.stamp.Stamp.{Stamp}
use Rattle.zed_types.specs.Stamp.{same_stamp}
use Rattle.zed_types.specs.Names.{same_board, same_stat, same_text, same_element}
use Rattle.zed_op.specs.declared.op.Edit.{Edit}
use Rattle.zed_op.specs.declared.thing.Thing.{Thing}
use Rattle.zed_op.specs.declared.thing.Thing.TheVariants.{Board as board, Stat as stat, Text as text, Element as element}
use Rattle.zed_op.specs.Names.{names_of}

-- whether two names are of one thing
abbrev pub same_thing : Thing → Thing → Bool
same_thing (board a) (board b) = same_board a b
same_thing (stat a) (stat b) = same_stat a b
same_thing (text a) (text b) = same_text a b
same_thing (element t a) (element u b) = same_text t u && same_element a b
same_thing _ _ = false

-- whether an edit names a thing
abbrev pub names : Thing → Edit → Bool
names x e = list_any (λ n. same_thing n x) (names_of e.op)

-- the edits that name a thing
abbrev pub naming : Thing → List Edit → List Edit
naming x es = filter (names x) es

-- the edits that don't
abbrev pub not_naming : Thing → List Edit → List Edit
not_naming x es = filter (λ e. not (names x e)) es

-- the edits without the one with a stamp
abbrev pub without : Stamp → List Edit → List Edit
without s [] = []
without s (e ∷ es) = if same_stamp e.stamp s then es else e ∷ without s es
