-- How many runs a delivery says that it looked at.
use Rattle.std.specs.Prelude.{◌≡◌, ◌≢◌, ◌≤◌, ◌<◌, ℕ, ◌+◌, ◌*◌, min, List, length, Option, Some, None}
use Rattle.zed_types.specs.declared.names.TextId.{TextId}
use Rattle.zed_op.specs.declared.op.Op.{Op}
use Rattle.zed_op.specs.declared.op.Op.TheVariants.{TextInsert, TextDelete}
use Rattle.zed_op.specs.declared.op.Edit.{Edit}
use Rattle.zed_edit.specs.Document.{elements}
use Rattle.zed_edit.specs.Replay.{replay, taken}
use Rattle.zed_code.specs.Visits.{greatest}
use Rattle.zed_delivery.specs.Counts.{edits_of}
use Rattle.zed_document.specs.declared.delivered.Delivered.{Delivered}
use Rattle.zed_document.specs.declared.delivered.State.TheVariants.{Taken}
use Rattle.zed_document.specs.Counts.{Counts, added, count_of, NoCountFalls}

-- the text whose bytes an op puts in or takes away, if it is such an op
abbrev pub text_changed : Op → Option TextId
text_changed (TextInsert t after bytes) = Some t
text_changed (TextDelete t range) = Some t
text_changed _ = None

-- the most looks at a text: two for each edit of it that was taken, and two; without a text none
abbrev pub most_looks : List Edit → Option TextId → ℕ
most_looks es None = 0
most_looks es (Some t) = 2 * edits_of t (taken es) + 2

-- a text has an element, dead or not
abbrev pub HasElement : List Edit → Option TextId → Type 0
HasElement es None = ⊥
HasElement es (Some t) = 0 < length (elements (replay es) t)

-- the count of a text can still rise
abbrev pub CountHasRoom : Counts → Option TextId → Type 0
CountHasRoom counts None = Unit {0}
CountHasRoom counts (Some t) = count_of t counts < greatest

-- what a delivery tells of its looks: what was added to the counts of all texts, as far as the number told has room. Where it wakes no
-- edit, these are at most two for each edit taken of its text, and two; where it is taken, its text has an element and the count of this
-- text has room, at least one; and where it isn't taken, none
pub record TellsVisits (e : Edit) (es : List Edit) (old new : Counts) (d : Delivered) : Type 0 where
  pub sum : d.visits ≡ min (added old new) greatest
  pub falls : NoCountFalls old new
  pub most : d.woken ≡ 0 → d.visits ≤ most_looks es (text_changed e.op)
  pub some : d.state ≡ Taken → HasElement es (text_changed e.op) → CountHasRoom new (text_changed e.op) → 0 < d.visits
  pub none : d.state ≢ Taken → d.visits ≡ 0
