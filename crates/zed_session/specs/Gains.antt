-- What calls of a session bring into its document.
use Rattle.std.specs.Prelude.{◌≡◌, ◌⊎◌, List, [], ◌∷◌, Result}
use Rattle.std.specs.List.{Contains, flat_map}
use Rattle.zed_op.specs.declared.op.Edit.{Edit}
use Rattle.zed_document.specs.Replica.{Replica}
use Rattle.zed_link.specs.declared.error.LinkError.{LinkError}
use Rattle.zed_link.specs.declared.pulled.Pulled.{Pulled}
use Rattle.zed_session.specs.Links.{LinkSeen, PullsOver}

-- a pull over a link, which handed over bytes that spell these edits
pub record IsPull (spelled : List Edit) (d e : Replica) : Type 0 where
  pub old : LinkSeen
  pub new : LinkSeen
  pub answer : Result Pulled LinkError
  pub pull : PullsOver d old new answer e.edits
  pub spells : spelled ≡ pull.edits

-- a call that doesn't lend the document: it leaves the edits as they are, or pulls over a link
abbrev pub Calls : List Edit → Replica → Replica → Type 0
Calls spelled d e = ((spelled ≡ []) × (e.edits ≡ d.edits)) ⊎ IsPull spelled d e

-- such calls one after the other, each with the edits that were spelled by bytes handed over in it
abbrev pub CallsEach : List (List Edit) → Replica → Replica → Type 0
CallsEach [] d e = e ≡ d
CallsEach (spelled ∷ later) d e = (mid : Replica) × Calls spelled d mid × CallsEach later mid e

-- after them a document has the edits that it had, and such as bytes spelled that were handed over, but no others
abbrev pub EditsAreHandedOver : Type 0
EditsAreHandedOver =
    (calls : List (List Edit)) (d e : Replica) → CallsEach calls d e
    → (f : Edit) → Contains e.edits f → Contains d.edits f ⊎ Contains (flat_map (λ es. es) calls) f
