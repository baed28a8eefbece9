-- What edit files come to that a command was given, one after the other.
use Rattle.std.proofs.Common.{◌≡◌, ◌∙◌, ◌≤◌, ◌<◌, ℕ, false, List, [], ◌∷◌, ◌++◌, Option, Some, None, Result, Ok, Err, MatchResult, ap, append-nil, append_assoc, length, refl, subst, sym, inl, inr}
use Rattle.std.specs.Prelude.{◌⊎◌, IfOk, IfSome, OnErr, option_map}
use Rattle.std.proofs.lemmas.Option.{slice_get_cases}
use Rattle.zed_types.specs.declared.stamp.Stamp.{Stamp}
use Rattle.zed_op.specs.declared.op.Edit.{Edit}
use Rattle.zed_op.specs.Set.{AllFit, set_of}
use Rattle.zed_editfile.specs.declared.error.EditFileError.{EditFileError}
use Rattle.zed_document.specs.Delivery.{DeliveriesComeToSets}
use Rattle.zed_document.specs.Laws.{document_of}
use Rattle.zed_document.specs.Replica.{Replica}
use Rattle.zed_link.specs.Feed.{FeedState}
use Rattle.zed_driver.specs.declared.command.Stop.{Stop}
use Rattle.zed_driver.specs.declared.command.Stop.TheVariants.{Refused}
use Rattle.zed_driver.specs.declared.input.Input.{Input}
use Rattle.zed_driver.specs.declared.input.Input.TheVariants.{Bytes, Missing, Failed}
use Rattle.zed_refusal.specs.declared.reason.Reason.{Reason}
use Rattle.zed_refusal.specs.declared.reason.Reason.TheVariants.{Clash, NoWorld}
use Rattle.zed_refusal.specs.Stops.{file_stop}
use Rattle.zed_files.specs.Collected.{CameInto, CameTo, HasTaken, IsOf, world_in}
use Rattle.zed_files.specs.Files.{ReadsFile, WantsMemory}
use Rattle.zed_files.specs.Gathers.{AreAll, BeginsWithBytes, Gathered, Gathers, GathersTo, IsClash, first_stop, set_or, stop_in}
use Rattle.zed_files.specs.Tells.{next_of}
use Rattle.zed_files.proofs.Deliveries.{came_agree}
use Rattle.zed_files.proofs.Streams.{file_fits}

-- ---- one file more

-- a file that was read
pub one_read : (asked : Option ℕ) (bytes : List ℕ) (es : List Edit) (fault : Option EditFileError) (world : Option ℕ) → ReadsFile asked bytes es fault world
    → AllFit es × Gathers asked (Bytes bytes ∷ []) es world (option_map file_stop fault)
one_read asked bytes es (Some e) world file = (file_fits asked bytes es (Err e) file, inl (e, file, refl, refl))
one_read asked bytes es None world file =
    (file_fits asked bytes es (Ok file.0) file.2, inr (es, [], file.0, file.2, (refl, file.1, refl), sym (append-nil es)))

-- what a call answers that read it
pub if_read : {F : Type 0} (r : Result (Option (Stop Reason)) F) (asked : Option ℕ) (bytes : List ℕ) (world : Option ℕ) (i : Input) (P : List Edit → Type 0) → i ≡ Bytes bytes
    → IfOk r (λ refusal. (fault : Option EditFileError) × (more : List Edit) × ReadsFile asked bytes more fault world × P more × (refusal ≡ option_map file_stop fault))
    → IfOk r (λ refusal. (more : List Edit) × AllFit more × Gathers asked (i ∷ []) more world refusal × P more)
if_read (Err e) asked bytes world i P at is = tt
if_read (Ok refusal) asked bytes world i P at is =
    let one = one_read asked bytes is.1 is.0 world is.2 in (
      is.1,
      one.0,
      subst (λ x. Gathers asked (x ∷ []) is.1 world refusal) (sym at) (subst (λ told. Gathers asked (Bytes bytes ∷ []) is.1 world told) (sym is.4) one.1),
      is.3,
    )

-- or wants memory for it
pub if_lacks : {X F : Type 0} (r : Result X F) (asked : Option ℕ) (bytes : List ℕ) (i : Input) → i ≡ Bytes bytes → OnErr r (WantsMemory asked bytes)
    → OnErr r ((bytes : List ℕ) × (i ≡ Bytes bytes) × WantsMemory asked bytes)
if_lacks (Ok x) asked bytes i at wants = tt
if_lacks (Err e) asked bytes i at wants = (bytes, at, wants)

-- behind files of which none is refused
pub one_more : (asked mid world : Option ℕ) (files : List Input) (i : Input) (es more : List Edit) (refusal : Option (Stop Reason))
    → Gathers asked files es mid None → Gathers mid (i ∷ []) more world refusal → Gathers asked (files ++ i ∷ []) (es ++ more) world refusal
one_more asked mid world [] i es more refusal is next =
    subst (λ all. Gathers asked (i ∷ []) (all ++ more) world refusal) (sym is.0) (subst (λ w. Gathers w (i ∷ []) more world refusal) is.1 next)
one_more asked mid world (Bytes bytes ∷ files) i es more refusal is next = elim is [
  | inl stop ↦ absurd (let no = stop.2 in cc)
  | inr on ↦ inr (
    on.0,
    on.1 ++ more,
    on.2,
    on.3,
    one_more (Some on.2) mid world files i on.1 more refusal on.4 next,
    ap (λ all. all ++ more) on.5 ∙ append_assoc on.0 on.1 more,
  )
]
one_more asked mid world (Missing ∷ files) i es more refusal is next = absurd (let no = is.1 in cc)
one_more asked mid world (Failed ∷ files) i es more refusal is next = absurd (let no = is.1 in cc)

-- ---- the first file is there

begins : (asked world : Option ℕ) (i : Input) (files more : List Input) (es : List Edit) → Gathers asked (i ∷ files) es world None
    → BeginsWithBytes (i ∷ more)
begins asked world (Bytes bytes) files more es is = tt
begins asked world Missing files more es is = absurd (let no = is.1 in cc)
begins asked world Failed files more es is = absurd (let no = is.1 in cc)

-- where one more is
pub begins_before : (asked world : Option ℕ) (files : List Input) (bytes : List ℕ) (es : List Edit) → Gathers asked files es world None
    → BeginsWithBytes (files ++ Bytes bytes ∷ [])
begins_before asked world [] bytes es is = tt
begins_before asked world (i ∷ files) bytes es is = begins asked world i files (files ++ Bytes bytes ∷ []) es is

abbrev found : List Edit → Result (List Edit) (Stop Reason)
found es = Ok es

abbrev unfound : Stop Reason → Result (List Edit) (Stop Reason)
unfound e = Err e

-- where there is a set of edits
pub begins_set : (names : List (List ℕ)) (files : List Input) (set : List Edit) → GathersTo names files (Ok set) → BeginsWithBytes files
begins_set names files set is = go is.3 is.2 is.1 files is.4 is.7
  where
    go : (clash : Option Stamp) (refusal : Option (Stop Reason)) (world : Option ℕ) (files : List Input) → Gathers None files is.0 world refusal
        → found set ≡ set_or (first_stop clash refusal world) is.0 → BeginsWithBytes files
    go (Some c) refusal world files all same = absurd (let no : found set ≡ unfound (Refused (Clash c)) = same in cc)
    go None (Some e) world files all same = absurd (let no : found set ≡ unfound e = same in cc)
    go None None None files all same = absurd (let no : found set ≡ unfound (Refused NoWorld) = same in cc)
    go None None (Some n) [] all same = absurd (let no : Some n ≡ None = all.1 in cc)
    go None None (Some n) (i ∷ files) all same = begins None (Some n) i files files is.0 all

-- ---- all were read

-- where no other is asked for
pub all_read : (names : List (List ℕ)) (files : List Input) (count : ℕ) (refusal : Option (Stop Reason)) → next_of names count refusal ≡ None
    → count ≡ length files
    → AreAll names files refusal
all_read names files count (Some e) none is = inl refl
all_read names files count None none is = elim (slice_get_cases names count).1 [
  | inl there ↦ absurd (let no : Some there.0 ≡ None = sym there.2 ∙ none in cc)
  | inr past ↦ inr (subst (λ n. length names ≤ n) is past.0)
]

-- ---- what they came to

-- the document of a feed, or of none
pub came_to : (feed : Option FeedState) (es : List Edit) (clash : Option Stamp) → CameInto es feed clash
    → (d : Replica) × CameTo es d clash × ((x : Replica) → IsOf feed x → x ≡ d)
came_to (Some f) es clash came = (f.document, came, λ x own. sym (let it : Some f.document ≡ Some x = own in let one : f.document ≡ x = cc in one))
came_to None es clash came =
    let start = document_of 0 [] [] in (
      start,
      subst (CameTo es start) (sym came.1) (subst (λ z. HasTaken z start) (sym came.0) (refl, (refl, refl))),
      λ x own. absurd (let no : None ≡ Some x = own in cc),
    )

-- a feed that took all edits isn't stale
pub not_stale : (es : List Edit) (feed : Option FeedState) (clash : Option Stamp) → CameInto es feed clash → clash ≡ None
    → IfSome feed (λ f. f.document.is_stale ≡ false)
not_stale es None clash came none = tt
not_stale es (Some f) clash came none = (subst (CameTo es f.document) none came).0

pub its_clash : DeliveriesComeToSets → (es : List Edit) (d : Replica) (clash : Option Stamp) → AllFit es → CameTo es d clash → IsClash es clash
its_clash law es d None fit came = (came_agree law es d None refl fit came).0
its_clash law es d (Some c) fit came = came

-- the set of edits, or what came first
pub gathers_to : DeliveriesComeToSets → (names : List (List ℕ)) (files : List Input) (feed : Option FeedState) (clash : Option Stamp) (refusal : Option (Stop Reason)) (result : Result Replica (Stop Reason))
    → Gathered files feed clash refusal → AreAll names files refusal
    → stop_in result ≡ first_stop clash refusal (world_in feed) → IfOk result (IsOf feed)
    → MatchResult result (λ d. GathersTo names files (Ok d.edits)) (λ e. GathersTo names files (Err e))
gathers_to law names files feed clash refusal (Err e) has all stop own =
    let is = came_to feed has.0 clash has.3 in
    (has.0, world_in feed, refusal, clash, has.2, all, its_clash law has.0 is.0 clash has.1 is.1, ap (λ s. set_or s has.0) stop)
gathers_to law names files feed (Some c) refusal (Ok d) has all stop own = absurd (let no : None ≡ Some (Refused (Clash c)) = stop in cc)
gathers_to law names files feed None refusal (Ok d) has all stop own =
    let is = came_to feed has.0 None has.3 in
    let agree = came_agree law has.0 is.0 None refl has.1 is.1 in
    let same : d.edits ≡ set_of has.0 = ap (λ (r : Replica). r.edits) (is.2 d own) ∙ agree.1 in
    (has.0, world_in feed, refusal, None, has.2, all, agree.0, ap found same ∙ ap (λ s. set_or s has.0) stop)

-- the document isn't stale
pub settled_fresh : (files : List Input) (feed : Option FeedState) (clash : Option Stamp) (refusal : Option (Stop Reason)) (result : Result Replica (Stop Reason))
    → Gathered files feed clash refusal → stop_in result ≡ first_stop clash refusal (world_in feed) → IfOk result (IsOf feed)
    → IfOk result (λ d. d.is_stale ≡ false)
settled_fresh files feed clash refusal (Err e) has stop own = tt
settled_fresh files feed (Some c) refusal (Ok d) has stop own = absurd (let no : None ≡ Some (Refused (Clash c)) = stop in cc)
settled_fresh files feed None refusal (Ok d) has stop own =
    let is = came_to feed has.0 None has.3 in
    ap (λ (r : Replica). r.is_stale) (is.2 d own) ∙ is.1.0
