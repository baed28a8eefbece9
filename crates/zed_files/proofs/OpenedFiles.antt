-- What an edit file comes to that is opened by itself.
use Rattle.zed_types.specs.declared.stamp.Stamp.{Stamp}
use Rattle.zed_op.specs.declared.op.Edit.{Edit}
use Rattle.zed_editfile.specs.declared.error.EditFileError.{EditFileError}
use Rattle.zed_files.specs.declared.refusal.Refusal.{Refusal}
use Rattle.zed_files.specs.declared.refusal.Refusal.TheVariants.{Clash, Memory}
use Rattle.std.proofs.Common.{◌≡◌, ◌∙◌, ℕ, true, List, Option, Some, None, Result, Ok, Err, MatchResult, ap, is_some, refl, subst, sym, inl, inr}
use Rattle.std.specs.Prelude.{◌≢◌, ◌⊎◌, IfOk, option_map}
use Rattle.zed_op.specs.Set.{AllFit, set_of}
use Rattle.zed_document.specs.Delivery.{DeliveriesComeToSets}
use Rattle.zed_document.specs.Replica.{Replica}
use Rattle.zed_link.specs.Feed.{FeedState}
use Rattle.zed_files.specs.Asked.{refusal_in}
use Rattle.zed_files.specs.Collected.{CameInto, IsOf, first_refusal, world_in}
use Rattle.zed_files.specs.Files.{IsFile, ReadsFile, end_of}
use Rattle.zed_files.specs.Opened.{FileEdits, IsOpened}
use Rattle.zed_files.specs.Refusals.{file_refusal}
use Rattle.zed_files.proofs.Deliveries.{came_agree}
use Rattle.zed_files.proofs.FilesRead.{world_asked}
use Rattle.zed_files.proofs.Settled.{came_into, same_told}
use Rattle.zed_files.proofs.Streams.{file_fits}

pub has_ended : (feed : Option FeedState) → end_of (world_in feed) ≡ None → is_some feed ≡ true
has_ended (Some f) is = refl
has_ended None is = absurd cc

-- a file was read to its end, whatever that is
some_end : (asked : Option ℕ) (bytes : List ℕ) (es : List Edit) (fault : Option EditFileError) (world : Option ℕ)
    → ReadsFile asked bytes es fault world
    → (end : Result ℕ EditFileError) × IsFile asked bytes es end
some_end asked bytes es (Some e) world file = (Err e, file)
some_end asked bytes es None world file = (Ok file.0, file.2)

its_fit : (asked : Option ℕ) (bytes : List ℕ) (es : List Edit) (fault : Option EditFileError) (world : Option ℕ)
    → ReadsFile asked bytes es fault world
    → AllFit es
its_fit asked bytes es fault world file = let end = some_end asked bytes es fault world file in file_fits asked bytes es end.0 end.1

-- the document of a feed has the world that was told
own_world : (feed : Option FeedState) (d : Replica) (n : ℕ) → IsOf feed d → world_in feed ≡ Some n → d.world ≡ n
own_world None d n own told = absurd (let no : None ≡ Some d = own in cc)
own_world (Some f) d n own told =
    let same : f.document ≡ d = (let it : Some f.document ≡ Some d = own in cc) in
    let world : f.document.world ≡ n = (let it : Some f.document.world ≡ Some n = told in cc) in
    ap (λ (r : Replica). r.world) (sym same) ∙ world

abbrev answer : ℕ → List Edit → Result FileEdits Refusal
answer w es = Ok (w, es)

-- one file was read, and what came first is told, or the document
pub opened : DeliveriesComeToSets
    → (asked : Option ℕ) (bytes : List ℕ) (feed : Option FeedState) (es : List Edit) (clash : Option Stamp) (fault : Option EditFileError) (result : Result Replica Refusal)
    → ReadsFile asked bytes es fault (world_in feed) → CameInto es feed clash
    → refusal_in result ≡ first_refusal clash (option_map file_refusal fault) → IfOk result (IsOf feed)
    → MatchResult result (λ d. IsOpened asked bytes (Ok (d.world, d.edits))) (λ e. (e ≡ Memory) ⊎ IsOpened asked bytes (Err e))
opened law asked bytes feed es (Some s) fault (Ok d) file came is own = absurd cc
opened law asked bytes None es (Some s) fault (Err e) file came is own = absurd (let no : Some s ≡ None = came.1 in cc)
opened law asked bytes (Some f) es (Some s) fault (Err e) file came is own =
    let end = some_end asked bytes es fault (world_in (Some f)) file in
    inr (es, end.0, end.1, inl (s, came, ap (λ x. Err x) (same_told e (Clash s) is)))
opened law asked bytes feed es None (Some f) (Ok d) file came is own = absurd cc
opened law asked bytes feed es None (Some f) (Err e) file came is own =
    let into = came_into feed es None (Err e) came own in
    let all = came_agree law es into.0 None refl (its_fit asked bytes es (Some f) (world_in feed) file) into.1 in
    inr (es, Err f, file, inr (all.0, ap (λ x. Err x) (same_told e (file_refusal f) is)))
opened law asked bytes feed es None None (Ok d) file came is own =
    let into = came_into feed es None (Ok d) came own in
    let all = came_agree law es into.0 None refl (its_fit asked bytes es None (world_in feed) file) into.1 in
    let set : d.edits ≡ set_of es = ap (λ (r : Replica). r.edits) into.2 ∙ all.1 in
    (es, Ok file.0, file.2, inr (all.0, ap (λ w. answer w d.edits) (own_world feed d file.0 own file.1) ∙ ap (answer file.0) set))
opened law asked bytes feed es None None (Err e) file came is own = absurd cc

-- of the world that was asked for
pub opened_world : (asked : Option ℕ) (bytes : List ℕ) (feed : Option FeedState) (es : List Edit) (clash : Option Stamp) (fault : Option EditFileError) (result : Result Replica Refusal)
    → ReadsFile asked bytes es fault (world_in feed) → refusal_in result ≡ first_refusal clash (option_map file_refusal fault)
    → IfOk result (IsOf feed)
    → IfOk result (λ d. (n : ℕ) → asked ≡ Some n → d.world ≡ n)
opened_world asked bytes feed es clash fault (Err e) file is own = tt
opened_world asked bytes feed es (Some s) fault (Ok d) file is own = absurd cc
opened_world asked bytes feed es None (Some f) (Ok d) file is own = absurd cc
opened_world asked bytes feed es None None (Ok d) file is own = λ n asks.
    own_world feed d file.0 own file.1 ∙ world_asked n bytes es file.0 (subst (λ o. IsFile o bytes es (Ok file.0)) asks file.2)

-- ---- the file of a name
