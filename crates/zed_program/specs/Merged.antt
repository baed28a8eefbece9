-- What pulls over links come to, one after the other.
use Rattle.zed_op.specs.declared.op.Edit.{Edit}
use Rattle.zed_link.specs.Counting.{Counted}
use Rattle.zed_link.specs.Pull.{most_reads}
use Rattle.zed_link.specs.declared.error.LinkError.{LinkError}
use Rattle.zed_link.specs.declared.pulled.Pulled.{Pulled}
use Rattle.zed_files.specs.declared.refusal.Refusal.{Refusal}
use Rattle.zed_files.specs.declared.refusal.Refusal.TheVariants.{Memory, NoLink}
use Rattle.std.specs.Prelude.{◌≡◌, ◌⊎◌, ℕ, zero, suc, List, [], ◌∷◌, length, nat_lt, slice_get, false, Some, MatchBool, Result, Ok, Err}
use Rattle.zed_action.specs.Deeds.{with_edits}
use Rattle.zed_document.specs.Replica.{Replica}
use Rattle.zed_session.specs.Links.{LinkSeen, PullsOver}
use Rattle.zed_files.specs.Refusals.{link_refusal}
use Rattle.zed_editfile.specs.Spelling.{file_text}
use Rattle.zed_files.specs.Lines.{joined_line}
use Rattle.zed_files.specs.Effects.{Effect, Writes}

-- a document of a world, without edits
abbrev pub empty_document : ℕ → Replica
empty_document world = record { world = world; edits = []; is_stale = false; counts = [] }

-- pulls over the first so many links, one after the other, with what is seen of all links then: the edits of the document; or the first refusal
-- of a link, and those behind it are as they were
abbrev pub PullsEach : Replica → ℕ → List LinkSeen → List LinkSeen → Result (List Edit) Refusal → Type 0
PullsEach d zero links news r = (r ≡ Ok d.edits) × (news ≡ links)
PullsEach d (suc n) [] news r = ⊥
PullsEach d (suc n) (link ∷ links) news r =
    ((pulled : Pulled) × (new : LinkSeen) × (left : List Edit) × (more : List LinkSeen)
    × (news ≡ new ∷ more) × PullsOver d link new (Ok pulled) left × PullsEach (with_edits left d) n links more r)
    ⊎ ((e : LinkError) × (new : LinkSeen) × (left : List Edit)
    × (news ≡ new ∷ links) × PullsOver d link new (Err e) left × (r ≡ Err (link_refusal e)))

-- the edits that the first so many links come to, in a document of this world, with what is seen of all links then; or that there are fewer, which
-- are as they were; or the first refusal
abbrev pub IsMerged : ℕ → ℕ → List LinkSeen → List LinkSeen → Result (List Edit) Refusal → Type 0
IsMerged world count links news r =
    MatchBool (nat_lt (length links) count) ((r ≡ Err NoLink) × (news ≡ links)) (PullsEach (empty_document world) count links news r)

-- memory ran out in a pull, or behind the last one; so it hides no refusal of a link
abbrev pub LacksForMerge : List LinkSeen → List LinkSeen → ℕ → ℕ → Type 0
LacksForMerge links news world count =
    IsMerged world count links news (Err Memory) ⊎ ((es : List Edit) × IsMerged world count links news (Ok es))

-- one of these links made as many reads as a pull may make
abbrev pub MadeMostReads : List LinkSeen → List LinkSeen → Type 0
MadeMostReads links news =
    (i : ℕ) × (old : LinkSeen) × (new : LinkSeen)
    × (slice_get links i ≡ Some old) × (slice_get news i ≡ Some new) × Counted most_reads old.reads new.reads

-- an edit file of a world is written, with the line that counts its edits and those held
abbrev pub writes_joined : List ℕ → ℕ → Result (List Edit) Refusal → Result Effect Refusal
writes_joined out world (Ok es) = Ok (Writes out (file_text world es) (joined_line es))
writes_joined out world (Err e) = Err e

-- what `merge` comes to over so many of these links, of which that is seen then: its effect, or the first refusal
abbrev pub ComesToMerge : List LinkSeen → List LinkSeen → List ℕ → ℕ → ℕ → Result Effect Refusal → Type 0
ComesToMerge links news out world count r =
    (m : Result (List Edit) Refusal) × IsMerged world count links news m × (r ≡ writes_joined out world m)
