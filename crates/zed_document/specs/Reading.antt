-- What readers of a document answer.
use Rattle.std.specs.Prelude.{◌≡◌, ◌↔◌, ◌||◌, Bool, if◌then◌else◌, Option, Some, None, Result, Ok, Err, IsOkAnd, IsTrue, MatchBool}
use Rattle.zed_types.specs.declared.names.StatId.{StatId}
use Rattle.zed_types.specs.declared.names.TextId.{TextId}
use Rattle.zed_edit.specs.declared.plain.Plain.{Plain}
use Rattle.zed_op.specs.declared.thing.Thing.TheVariants as thing
use Rattle.zed_edit.specs.Document.{has, text_register}
use Rattle.zed_edit.specs.Replay.{replay}
use Rattle.zed_document.specs.declared.error.DocumentError.{DocumentError}
use Rattle.zed_document.specs.declared.error.DocumentError.TheVariants.{NoSuch, Stale}
use Rattle.zed_document.specs.Replica.{Replica}
use Rattle.zed_document.specs.Same.{AreSame}

-- what a document shows, but for a stale one
abbrev pub unless_stale : {X : Type 0} → Replica → X → Result X DocumentError
unless_stale d x = if d.is_stale then Err Stale else Ok x

-- whether a text was made
abbrev pub has_text : Replica → TextId → Bool
has_text d t = has (replay d.edits) (thing.Text t)

-- what a document shows of a text: Stale, then NoSuch for a text that wasn't made
abbrev pub unless_no_text : {X : Type 0} → Replica → TextId → X → Result X DocumentError
unless_no_text d t x = if d.is_stale then Err Stale else (if has_text d t then Ok x else Err NoSuch)

-- the same of what isn't told: Stale, then NoSuch, else what P says
abbrev pub TellsOfText : Replica → TextId → {X : Type 0} → (Result X DocumentError → Type 0) → Result X DocumentError → Type 0
TellsOfText d t P r = MatchBool d.is_stale (r ≡ Err Stale) (MatchBool (has_text d t) (P r) (r ≡ Err NoSuch))

-- what a register holds: none where there is no register, or where it is empty
abbrev pub joined : {X : Type 0} → Option (Option X) → Option X
joined None = None
joined (Some x) = x

-- the text of a stat, if the stat was made and has one
abbrev pub text_of : Plain → StatId → Option TextId
text_of p s = joined (text_register p s)

-- Stale for either, else whether they are the same
abbrev pub AnswersSame : Replica → Replica → Result Bool DocumentError → Type 0
AnswersSame d o r = MatchBool (d.is_stale || o.is_stale) (r ≡ Err Stale) (IsOkAnd r (λ b. IsTrue b ↔ AreSame d o))
