-- What deliveries to a document tell a command.
use Rattle.std.proofs.Common.{◌≡◌, ◌∙◌, ◌<◌, ◌≤◌, ℕ, Bool, true, false, List, [], ◌∷◌, ◌++◌, Option, Some, None, Result, Ok, Err, ap, append_assoc, drop, is_some, length, refl, subst, sym}
use Rattle.std.specs.Prelude.{IfNone, IfOk, IfSome, IsSomeAnd, MatchBool, OnErr}
use mathlib.Core.Logic.{◌⊎◌, inl, inr}
use Rattle.zed_types.specs.declared.stamp.Stamp.{Stamp}
use Rattle.zed_op.specs.declared.op.Edit.{Edit}
use Rattle.zed_op.specs.Set.{Agrees, AllFit, set_of}
use Rattle.zed_document.specs.declared.error.DocumentError.{DocumentError}
use Rattle.zed_document.specs.declared.error.DocumentError.TheVariants as document
use Rattle.zed_document.specs.Delivery.{AnswersEach, DeliveriesComeToSets, DeliversEach, IsFirstClash, unless_clash}
use Rattle.zed_document.specs.Laws.{document_of}
use Rattle.zed_document.specs.Replica.{Replica}
use Rattle.zed_document.proofs.CountsAside.{delivers_aside}
use Rattle.zed_link.specs.Laws.{DeliveriesGoOn}
use Rattle.zed_link.specs.Feed.{FeedState}
use Rattle.byteorder.specs.Endian.{little_number}
use Rattle.zed_editfile.specs.declared.error.EditFileError.{EditFileError}
use Rattle.zed_files.specs.Collected.{CameInto, CameTo, HasTaken, TookInto, world_in}
use Rattle.zed_files.specs.Files.{ReadsFile, WantsMemory}
use Rattle.zed_files.proofs.FilesRead.{file_of}
use Rattle.zed_files.proofs.Heads.{cut_file, first_file}
use Rattle.zed_files.proofs.Wanting.{any_wants}
use Rattle.zed_files.specs.declared.refusal.Refusal.{Refusal}
use Rattle.zed_files.specs.declared.refusal.Refusal.TheVariants.{Memory, Clash}
use Rattle.zed_files.specs.Refusals.{document_refusal}
use Rattle.zed_files.proofs.Streams.{file_fits, fit_append}

abbrev pub Delivery : Type 0
Delivery = Result (Unit {0}) DocumentError

abbrev done : Delivery
done = Ok tt

abbrev refused : DocumentError → Delivery
refused e = Err e

same_refusal : (e f : DocumentError) → refused e ≡ refused f → e ≡ f
same_refusal e f same = cc

-- a document that isn't stale answers as its deliveries do
each_of_sound : (d : Replica) (es : List Edit) (r : Delivery) (left : List Edit) → d.is_stale ≡ false → AnswersEach d es r left
    → DeliversEach d es r left
each_of_sound d es r left sound each =
    subst (λ b. MatchBool b ((r ≡ Err document.Stale) × (left ≡ d.edits)) (DeliversEach d es r left)) sound each

-- all were delivered: they agree, and the document has their set
pub all_delivered : DeliveriesComeToSets → (d : Replica) (es left : List Edit) → d.is_stale ≡ false → d.edits ≡ [] → AllFit es
    → (done ≡ Err document.Memory) ⊎ AnswersEach d es (Ok tt) left → Agrees es × (left ≡ set_of es)
all_delivered law d es left sound empty fit why =
    elim why [
      | inl bad ↦ absurd (let no : done ≡ refused document.Memory = bad in cc)
      | inr each ↦ elim (law d es (Ok tt) left sound empty fit (each_of_sound d es (Ok tt) left sound each)) [
        | inl all ↦ (all.1, all.2)
        | inr clash ↦ absurd (let no : done ≡ refused (document.Clash clash.0) = clash.2 in cc)
      ]
    ]

-- one was refused: the first that clashes, unless memory ran out
pub one_refused : DeliveriesComeToSets → (d : Replica) (es left : List Edit) (e : DocumentError) (r : Refusal) → d.is_stale ≡ false
    → d.edits ≡ [] → AllFit es
    → r ≡ document_refusal e → (refused e ≡ Err document.Memory) ⊎ AnswersEach d es (Err e) left
    → (r ≡ Memory) ⊎ ((s : Stamp) × IsFirstClash es s × (r ≡ Clash s))
one_refused law d es left e r sound empty fit is why =
    elim why [
      | inl memory ↦ inl (is ∙ ap document_refusal (same_refusal e document.Memory memory))
      | inr each ↦ elim (law d es (Err e) left sound empty fit (each_of_sound d es (Err e) left sound each)) [
        | inl all ↦ absurd (let no : refused e ≡ done = all.0 in cc)
        | inr clash ↦ inr (clash.0, clash.1, is ∙ ap document_refusal (same_refusal e (document.Clash clash.0) clash.2))
      ]
    ]

lacks_memory : (e : DocumentError) → document_refusal e ≡ Memory → e ≡ document.Memory
lacks_memory document.Memory is = refl
lacks_memory document.OtherWorld is = absurd cc
lacks_memory (document.BadEdit c) is = absurd cc
lacks_memory (document.Clash s) is = absurd cc
lacks_memory document.Stale is = absurd cc
lacks_memory document.NoSuch is = absurd cc
lacks_memory document.OutOfRange is = absurd cc
lacks_memory document.ClockSpent is = absurd cc

pub lacked_memory : (e : DocumentError) → document_refusal e ≡ Memory → refused e ≡ refused document.Memory
lacked_memory e is = ap refused (lacks_memory e is)

-- ---- deliveries after others

pub delivers_to : (d f : Replica) (es : List Edit) (r : Delivery) (left : List Edit) → f ≡ d → DeliversEach f es r left
    → DeliversEach d es r left
delivers_to d f es r left same each = subst (λ x. DeliversEach x es r left) same each

-- edits of which no two clash agree, and the document has their set
pub came_agree : DeliveriesComeToSets → (es : List Edit) (d : Replica) (clash : Option Stamp) → clash ≡ None → AllFit es → CameTo es d clash
    → Agrees es × (d.edits ≡ set_of es)
came_agree law es d clash none fit came =
    let taken : HasTaken es d = subst (CameTo es d) none came in
    elim (law (document_of d.world [] []) es (Ok tt) d.edits refl refl fit taken.1) [
      | inl all ↦ (all.1, all.2)
      | inr two ↦ absurd (let no : done ≡ refused (document.Clash two.0) = two.2 in cc)
    ]

-- deliveries to a document that has taken others are deliveries of all
taken_then : DeliveriesGoOn → (d : Replica) (es more left : List Edit) (r : Delivery) → HasTaken es d → DeliversEach d more r left
    → DeliversEach (document_of d.world [] []) (es ++ more) r left
taken_then law d es more left r taken each =
    let start = document_of d.world [] [] in
    let make : Bool → Replica = λ stale. record { world = d.world; edits = d.edits; is_stale = stale; counts = d.counts } in
    let same : d ≡ make false = ap make taken.0 in
    law start es more d.edits left r taken.1
    (delivers_aside d.counts (record start { edits = d.edits }) more r left (subst (λ q. DeliversEach q more r left) same each))

-- more edits were delivered, up to the first that clashes, if one does
pub more_came : DeliveriesGoOn → DeliveriesComeToSets → (d new : Replica) (es more : List Edit) (clash : Option Stamp) → AllFit es
    → AllFit more → new.world ≡ d.world → new.is_stale ≡ false
    → DeliversEach d more (unless_clash clash) new.edits → CameTo es d None → CameTo (es ++ more) new clash
more_came law sets d new es more None fit fits world sound each came =
    (sound, subst (λ w. DeliversEach (document_of w [] []) (es ++ more) (Ok tt) new.edits) (sym world) (taken_then law d es more new.edits (Ok tt) came each))
more_came law sets d new es more (Some s) fit fits world sound each came =
    elim (sets (document_of d.world [] []) (es ++ more) (Err (document.Clash s)) new.edits refl refl (fit_append es more fit fits) (taken_then law d es more new.edits (Err (document.Clash s)) came each)) [
      | inl whole ↦ absurd (let no : refused (document.Clash s) ≡ done = whole.0 in cc)
      | inr clash ↦ (
          let told : refused (document.Clash s) ≡ refused (document.Clash clash.0) = clash.2 in
          let same : clash.0 ≡ s = cc in
          subst (IsFirstClash (es ++ more)) same clash.1)
    ]

-- behind a clash it stays the first
clash_stays : (es more : List Edit) (s : Stamp) → IsFirstClash es s → IsFirstClash (es ++ more) s
clash_stays es more s h = record {
  before = h.before;
  edit = h.edit;
  after = h.after ++ more;
  whole = ap (λ z. z ++ more) h.whole ∙ append_assoc h.before (h.edit ∷ h.after) more;
  agrees = h.agrees;
  clashes = h.clashes;
  stamp = h.stamp;
}

abbrev pub Told : Type 0
Told = Result (Option EditFileError) Refusal

pub none_clash : (clash : Option Stamp) → is_some clash ≡ false → clash ≡ None
none_clash None is = refl
none_clash (Some s) is = absurd (let no : true ≡ false = is in cc)

-- a file of which nothing is delivered, since two edits clashed before
pub read_behind : (feed : Option FeedState) (clash : Option Stamp) (es : List Edit) (bytes : List ℕ) (r : Told) → is_some clash ≡ true
    → CameInto es feed clash
    → IfOk r (λ fault. (more : List Edit) × (world : Option ℕ) × ReadsFile (world_in feed) bytes more fault world)
    → IfOk r (λ fault. (more : List Edit) × ReadsFile (world_in feed) bytes more fault (world_in feed) × CameInto (es ++ more) feed clash)
read_behind feed clash es bytes (Err e) some came file = tt
read_behind None None es bytes (Ok fault) some came file = absurd cc
read_behind None (Some s) es bytes (Ok fault) some came file = absurd (let no : Some s ≡ None = came.1 in cc)
read_behind (Some f) None es bytes (Ok fault) some came file = absurd cc
read_behind (Some f) (Some s) es bytes (Ok fault) some came file =
    (file.0, file_of f.document.world bytes file.0 fault file.1 file.2, clash_stays es file.0 s came)

-- the first file, whose head is cut
pub read_cut : (feed left : Option FeedState) (clash : Option Stamp) (es : List Edit) (bytes : List ℕ) (r : Told) → feed ≡ None
    → left ≡ None → length bytes < 12 → CameInto es feed clash
    → IfOk r (λ fault. (more : List Edit) × (world : Option ℕ) × ReadsFile None bytes more fault world)
    → IfOk r (λ fault. (more : List Edit) × ReadsFile (world_in feed) bytes more fault (world_in left) × CameInto (es ++ more) left clash)
read_cut (Some f) left clash es bytes r none gone short came file = absurd cc
read_cut None (Some l) clash es bytes r none gone short came file = absurd cc
read_cut None None clash es bytes (Err e) none gone short came file = tt
read_cut None None clash es bytes (Ok fault) none gone short came file =
    let cut = cut_file bytes file.0 fault file.1 short file.2 in
    (file.0, cut.0, (ap (λ z. z ++ file.0) came.0 ∙ cut.1, came.1))

-- the edits of a file fit
read_fits : (w : ℕ) (bytes : List ℕ) (es : List Edit) (fault : Option EditFileError) → ReadsFile (Some w) bytes es fault (Some w)
    → AllFit es
read_fits w bytes es (Some e) file = file_fits (Some w) bytes es (Err e) file
read_fits w bytes es None file = file_fits (Some w) bytes es (Ok file.0) file.2

-- a document that took all edits isn't stale
pub came_sound : (feed : Option FeedState) (es : List Edit) (clash : Option Stamp) → CameInto es feed clash → clash ≡ None
    → IfSome feed (λ f. f.document.is_stale ≡ false)
came_sound None es clash came none = tt
came_sound (Some f) es None came none = came.0
came_sound (Some f) es (Some s) came none = absurd (let no : Some s ≡ None = none in cc)

abbrev pub IsFresh : List ℕ → FeedState → Type 0
IsFresh bytes f =
    (12 ≤ length bytes) × (f.document.world ≡ little_number 8 (drop 4 bytes)) × (f.document.edits ≡ []) × (f.document.is_stale ≡ false)

-- the document of the first file has no edits
pub begun_first : (ahead : Option ℕ) (bytes : List ℕ) (feed : Option FeedState) → world_in feed ≡ ahead → CameInto [] feed None
    → IfSome ahead (λ w. (12 ≤ length bytes) × (w ≡ little_number 8 (drop 4 bytes))) → IfSome feed (IsFresh bytes)
begun_first ahead bytes None world came some = tt
begun_first None bytes (Some f) world came some = absurd (let no : Some f.document.world ≡ None = world in cc)
begun_first (Some w) bytes (Some f) world came some =
    let same : f.document.world ≡ w = (let it : Some f.document.world ≡ Some w = world in cc) in
    (some.0, same ∙ some.1, came.1.1, came.0)

-- and is there, if the head isn't cut
pub begun_none : (ahead : Option ℕ) (bytes : List ℕ) (old feed : Option FeedState) → old ≡ None → world_in feed ≡ ahead
    → IfNone ahead (length bytes < 12)
    → IfNone feed ((old ≡ None) × (length bytes < 12))
begun_none ahead bytes old (Some f) none world short = tt
begun_none None bytes old None none world short = (none, short)
begun_none (Some w) bytes old None none world short = absurd (let no : None ≡ Some w = world in cc)

-- nor is the one that the next file goes into
pub next_sound : (old feed : Option FeedState) (f : FeedState) (bytes : List ℕ) → IfSome old (λ f. f.document.is_stale ≡ false)
    → feed ≡ Some f → IfSome old (λ o. feed ≡ Some o)
    → (old ≡ None → IfSome feed (IsFresh bytes)) → f.document.is_stale ≡ false
next_sound (Some o) feed f bytes sound is same first =
    let one : f ≡ o = (let both : Some f ≡ Some o = sym is ∙ same in cc) in
    ap (λ (x : FeedState). x.document.is_stale) one ∙ sound
next_sound None feed f bytes sound is same first = let told = subst (λ x. IfSome x (IsFresh bytes)) is (first refl) in told.3

-- it lacked memory for the next file
pub next_wants : (old feed : Option FeedState) (f : FeedState) (bytes : List ℕ) (r : Told) → feed ≡ Some f → IfSome old (λ o. feed ≡ Some o)
    → OnErr r (WantsMemory (Some f.document.world) bytes) → OnErr r (WantsMemory (world_in old) bytes)
next_wants old feed f bytes (Ok fault) is same wants = tt
next_wants None feed f bytes (Err e) is same wants = any_wants f.document.world bytes wants
next_wants (Some o) feed f bytes (Err e) is same wants =
    let one : f ≡ o = (let both : Some f ≡ Some o = sym is ∙ same in cc) in
    subst (λ (x : FeedState). WantsMemory (Some x.document.world) bytes) one wants

-- the next file was read into the document
pub read_next : DeliveriesGoOn → DeliveriesComeToSets
    → (old feed new : Option FeedState) (f : FeedState) (was clash : Option Stamp) (es : List Edit) (bytes : List ℕ) (r : Told)
    → AllFit es → was ≡ None → CameInto es old was → feed ≡ Some f → IfSome old (λ o. feed ≡ Some o)
    → (old ≡ None → IfSome feed (IsFresh bytes))
    → IfOk r (λ fault. (more : List Edit) × ReadsFile (Some f.document.world) bytes more fault (Some f.document.world) × IsSomeAnd new (TookInto f.document more clash))
    → IfOk r (λ fault. (more : List Edit) × ReadsFile (world_in old) bytes more fault (world_in new) × CameInto (es ++ more) new clash)
read_next law sets old feed new f was clash es bytes (Err e) fit none came is same first took = tt
read_next law sets old feed None f was clash es bytes (Ok fault) fit none came is same first took = absurd took.2
read_next law sets (Some o) feed (Some g) f was clash es bytes (Ok fault) fit none came is same first took =
    let more = took.0 in
    let file = took.1 in
    let all : TookInto f.document more clash g = took.2 in
    let one : f ≡ o = (let both : Some f ≡ Some o = sym is ∙ same in cc) in
    let here : CameTo es f.document None =
    subst (λ (x : FeedState). CameTo es x.document None) (sym one) (subst (CameTo es o.document) none came) in (
      more,
      subst (λ (x : FeedState). ReadsFile (Some x.document.world) bytes more fault (Some g.document.world)) one (subst (λ w. ReadsFile (Some f.document.world) bytes more fault (Some w)) (sym all.0) file),
      more_came law sets f.document g.document es more clash fit (read_fits f.document.world bytes more fault file) all.0 all.1 all.2 here,
    )
read_next law sets None feed (Some g) f was clash es bytes (Ok fault) fit none came is same first took =
    let more = took.0 in
    let file = took.1 in
    let all : TookInto f.document more clash g = took.2 in
    let told = subst (λ x. IfSome x (IsFresh bytes)) is (first refl) in
    let from : CameTo es f.document None = subst (λ z. CameTo z f.document None) (sym came.0) (told.3, (refl, told.2)) in (
      more,
      subst (λ w. ReadsFile None bytes more fault (Some w)) (sym all.0) (first_file f.document.world bytes more fault told.1 file),
      more_came law sets f.document g.document es more clash fit (read_fits f.document.world bytes more fault file) all.0 all.1 all.2 from,
    )
