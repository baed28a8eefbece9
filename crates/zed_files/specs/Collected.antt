-- The set of edits that files come to, or the first refusal.
use Rattle.zed_types.specs.declared.stamp.Stamp.{Stamp}
use Rattle.zed_op.specs.declared.op.Edit.{Edit}
use Rattle.zed_files.specs.declared.refusal.Refusal.{Refusal}
use Rattle.zed_files.specs.declared.refusal.Refusal.TheVariants.{Clash}
use Rattle.std.specs.Prelude.{◌≡◌, ◌⊎◌, false, true, List, [], ◌∷◌, Option, Some, None, Result, Ok, Err, ℕ, is_some, option_map}
use Rattle.zed_op.specs.Set.{Agrees, set_of}
use Rattle.zed_document.specs.Delivery.{DeliversEach, IsFirstClash, unless_clash}
use Rattle.zed_document.specs.Laws.{document_of}
use Rattle.zed_document.specs.Replica.{Replica}
use Rattle.zed_files.specs.Files.{Stream, IsStream}
use Rattle.zed_link.specs.Feed.{FeedState}
use Rattle.zed_host.specs.HostContents.{AreRead, HostContents, file_in}

-- the set of edits, unless a file was refused
abbrev pub set_unless : Option Refusal → List Edit → Result (List Edit) Refusal
set_unless None es = Ok (set_of es)
set_unless (Some e) es = Err e

-- what comes first: a clash of two edits, or the refusal of a file; else the set of all edits
abbrev pub IsCollected : Stream → Result (List Edit) Refusal → Type 0
IsCollected s r =
    ((c : Stamp) × IsFirstClash s.edits c × (r ≡ Err (Clash c)))
    ⊎ (Agrees s.edits × (r ≡ set_unless s.refusal s.edits))

-- what comes first of a clash and the refusal of a file
abbrev pub first_refusal : Option Stamp → Option Refusal → Option Refusal
first_refusal (Some s) refusal = Some (Clash s)
first_refusal None refusal = refusal

-- what the files of these names come to
abbrev pub IsStreamIn : Type 0 → HostContents → List (List ℕ) → Stream → Type 0
IsStreamIn failed t names s =
    (reads : List (Option (List ℕ))) × AreRead failed t names reads × IsStream None reads s

-- the set of edits that the files of these names come to, or the first refusal
abbrev pub Collects : Type 0 → HostContents → List (List ℕ) → Result (List Edit) Refusal → Type 0
Collects failed t names set = (s : Stream) × IsStreamIn failed t names s × IsCollected s set

-- the first of these files is there
abbrev pub FirstIsThere : HostContents → List (List ℕ) → Type 0
FirstIsThere t [] = ⊥
FirstIsThere t (name ∷ names) = is_some (file_in t name) ≡ true

-- a document without edits took these, one after the other, and is this one now
abbrev pub HasTaken : List Edit → Replica → Type 0
HasTaken es d = (d.is_stale ≡ false) × DeliversEach (document_of d.world [] []) es (Ok tt) d.edits

-- what the edits of some files came to: a document that took them all, or the first clash of two
abbrev pub CameTo : List Edit → Replica → Option Stamp → Type 0
CameTo es d None = HasTaken es d
CameTo es d (Some s) = IsFirstClash es s

-- the world of the files, where one was read
abbrev pub world_in : Option FeedState → Option ℕ
world_in feed = option_map (λ f. f.document.world) feed

-- what the edits of some files came to, which went into one feed from the first file on
abbrev pub CameInto : List Edit → Option FeedState → Option Stamp → Type 0
CameInto es None clash = (es ≡ []) × (clash ≡ None)
CameInto es (Some feed) clash = CameTo es feed.document clash

-- a document took edits up to the first that clashes, if one does, and is that of a feed now
abbrev pub TookInto : Replica → List Edit → Option Stamp → FeedState → Type 0
TookInto d es clash feed =
    (feed.document.world ≡ d.world) × (feed.document.is_stale ≡ false) × DeliversEach d es (unless_clash clash) feed.document.edits

-- a document is that of the feed
abbrev pub IsOf : Option FeedState → Replica → Type 0
IsOf feed d = option_map (λ f. f.document) feed ≡ Some d
