-- What a session does over one of its links.
use Rattle.std.specs.Prelude.{◌≡◌, ℕ, List, Option, None, Result, Err, slice_index_or}
use Rattle.zed_op.specs.declared.op.Edit.{Edit}
use Rattle.zed_document.specs.Replica.{Replica}
use Rattle.zed_link.specs.Ends.{LinkEnds}
use Rattle.zed_link.specs.Pull.{Pull, StopsAtDelivery}
use Rattle.zed_link.specs.declared.error.LinkError.{LinkError}
use Rattle.zed_link.specs.declared.pulled.Pulled.{Pulled}
use Rattle.zed_link.specs.declared.writes.Writes.{Writes}
use Rattle.zed_session.specs.declared.error.SessionError.{SessionError}
use Rattle.zed_session.specs.Told.{link_refusal}

-- the ends of the link of this place, by those of all links
abbrev pub ends_at : ℕ → List (Option LinkEnds) → Option LinkEnds
ends_at i links = slice_index_or links i None

-- how many writes were made to the link of this place, by those of all links
abbrev pub writes_at : ℕ → List Writes → Writes
writes_at i links = slice_index_or links i (record { made = 0; empty = 0 })

-- what is seen of a link: its ends, and how many reads were made
pub record LinkSeen : Type 0 where
  pub ends : Option LinkEnds
  pub reads : ℕ

-- a link with these ends and so many reads
abbrev pub seen : Option LinkEnds → ℕ → LinkSeen
seen ends reads = record { ends = ends; reads = reads }

-- what is seen of the link of this place, by what is seen of all links
abbrev pub seen_at : ℕ → List LinkSeen → LinkSeen
seen_at i links = slice_index_or links i (seen None 0)

-- a pull over a link, by what was seen of it before and is seen then
abbrev pub PullsOver : Replica → LinkSeen → LinkSeen → Result Pulled LinkError → List Edit → Type 0
PullsOver d old new result left = Pull d old.ends new.ends old.reads new.reads result left

-- memory ran out at a delivery, in a pull over a link that had these ends
abbrev pub StopsOverLink : Replica → Option LinkEnds → List Edit → Type 0
StopsOverLink d ends left = (gone : Option LinkEnds) × StopsAtDelivery d ends gone left

-- a pull is refused, for what its link or the bytes from it came to; and these are the document's edits then
abbrev pub RefusesPull : Replica → LinkSeen → SessionError → List Edit → Type 0
RefusesPull d old e left =
    (why : LinkError) × (e ≡ link_refusal why) × ((gone : LinkSeen) × PullsOver d old gone (Err why) left)
