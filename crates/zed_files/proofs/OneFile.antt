-- One edit file that is opened, and written again.
use Rattle.std.proofs.Common.{◌≡◌, ◌∙◌, ℕ, false, List, [], ◌∷◌, ◌++◌, Option, Some, None, Result, Ok, Err, MatchResult, ap, is_some, refl, subst, sym, true, inl, inr}
use Rattle.std.specs.Prelude.{◌⊎◌, IfOk, option_map}
use Rattle.zed_types.specs.declared.stamp.Stamp.{Stamp}
use Rattle.zed_op.specs.declared.op.Edit.{Edit}
use Rattle.zed_op.specs.Set.{set_of}
use Rattle.zed_editfile.specs.declared.error.EditFileError.{EditFileError}
use Rattle.zed_document.specs.Delivery.{DeliveriesComeToSets}
use Rattle.zed_document.specs.Replica.{Replica}
use Rattle.zed_link.specs.Feed.{FeedState}
use Rattle.zed_driver.specs.declared.command.Stop.{Stop}
use Rattle.zed_driver.specs.declared.command.Stop.TheVariants.{Memory, Refused}
use Rattle.zed_driver.specs.declared.input.Input.{Input}
use Rattle.zed_driver.specs.declared.input.Input.TheVariants.{Bytes, Missing, Failed}
use Rattle.zed_driver.specs.Effects.{Effect}
use Rattle.zed_refusal.specs.declared.reason.Reason.{Reason}
use Rattle.zed_refusal.specs.declared.reason.Reason.TheVariants.{Clash}
use Rattle.zed_refusal.specs.Stops.{file_stop, stop_as}
use Rattle.zed_files.specs.Collected.{CameInto, IsOf, world_in}
use Rattle.zed_files.specs.Files.{IsFile, ReadsFile, WantsMemory}
use Rattle.zed_files.specs.Gathers.{first_stop, stop_in}
use Rattle.zed_files.specs.Opened.{FileEdits}
use Rattle.zed_files.specs.Rewrites.{ActionLacks, IsRewritten, Opens, OpensFile, RewritesCome, RewritesLack, RewritesStand, next_file}
use Rattle.zed_files.proofs.Deliveries.{came_agree}
use Rattle.zed_files.proofs.FilesRead.{world_asked}
use Rattle.zed_files.proofs.Gathers.{came_to, its_clash, one_read}

-- ---- the file

abbrev seen : ℕ → List Edit → Result FileEdits (Stop Reason)
seen world es = Ok (world, es)

abbrev some_stop : Stop Reason → Option (Stop Reason)
some_stop e = Some e

same_stop : (e f : Stop Reason) → some_stop e ≡ some_stop f → e ≡ f
same_stop e f is = cc

-- the document of a feed has the world that was told
own_world : (feed : Option FeedState) (d : Replica) (n : ℕ) → IsOf feed d → world_in feed ≡ Some n → d.world ≡ n
own_world None d n own told = absurd (let no : None ≡ Some d = own in cc)
own_world (Some f) d n own told =
    let same : f.document ≡ d = (let it : Some f.document ≡ Some d = own in cc) in
    let world : f.document.world ≡ n = (let it : Some f.document.world ≡ Some n = told in cc) in
    ap (λ (r : Replica). r.world) (sym same) ∙ world

-- one file was read, and what came first is told, or the document
pub opens : DeliveriesComeToSets
    → (asked : Option ℕ) (bytes : List ℕ) (feed : Option FeedState) (es : List Edit) (clash : Option Stamp) (fault : Option EditFileError) (result : Result Replica (Stop Reason))
    → ReadsFile asked bytes es fault (world_in feed) → CameInto es feed clash
    → stop_in result ≡ first_stop clash (option_map file_stop fault) (world_in feed) → IfOk result (IsOf feed)
    → MatchResult result (λ d. Opens asked bytes (Ok (d.world, d.edits))) (λ e. ((e ≡ Memory) × WantsMemory asked bytes) ⊎ Opens asked bytes (Err e))
opens law asked bytes feed es (Some s) fault (Ok d) file came stop own = absurd (let no : None ≡ some_stop (Refused (Clash s)) = stop in cc)
opens law asked bytes feed es (Some s) (Some f) (Err e) file came stop own =
    let is = came_to feed es (Some s) came in
    inr (es, Err f, file, inl (s, its_clash law es is.0 (Some s) (one_read asked bytes es (Some f) (world_in feed) file).0 is.1, ap (λ x. Err x) (same_stop e (Refused (Clash s)) stop)))
opens law asked bytes feed es (Some s) None (Err e) file came stop own =
    let is = came_to feed es (Some s) came in
    inr (es, Ok file.0, file.2, inl (s, its_clash law es is.0 (Some s) (one_read asked bytes es None (world_in feed) file).0 is.1, ap (λ x. Err x) (same_stop e (Refused (Clash s)) stop)))
opens law asked bytes feed es None (Some f) (Ok d) file came stop own = absurd (let no : None ≡ some_stop (file_stop f) = stop in cc)
opens law asked bytes feed es None (Some f) (Err e) file came stop own =
    let is = came_to feed es None came in
    let agree = came_agree law es is.0 None refl (one_read asked bytes es (Some f) (world_in feed) file).0 is.1 in
    inr (es, Err f, file, inr (agree.0, ap (λ x. Err x) (same_stop e (file_stop f) stop)))
opens law asked bytes feed es None None (Ok d) file came stop own =
    let is = came_to feed es None came in
    let agree = came_agree law es is.0 None refl (one_read asked bytes es None (world_in feed) file).0 is.1 in
    let set : d.edits ≡ set_of es = ap (λ (r : Replica). r.edits) (is.2 d own) ∙ agree.1 in
    (es, Ok file.0, file.2, inr (agree.0, ap (λ w. seen w d.edits) (own_world feed d file.0 own file.1) ∙ ap (seen file.0) set))
opens law asked bytes feed es None None (Err e) file came stop own =
    absurd (let no : some_stop e ≡ None = stop ∙ ap (first_stop None None) file.1 in cc)

-- of the world that was asked for
pub opened_world : (asked : Option ℕ) (bytes : List ℕ) (feed : Option FeedState) (es : List Edit) (clash : Option Stamp) (fault : Option EditFileError) (result : Result Replica (Stop Reason))
    → ReadsFile asked bytes es fault (world_in feed) → stop_in result ≡ first_stop clash (option_map file_stop fault) (world_in feed)
    → IfOk result (IsOf feed)
    → IfOk result (λ d. (n : ℕ) → asked ≡ Some n → d.world ≡ n)
opened_world asked bytes feed es clash fault (Err e) file stop own = tt
opened_world asked bytes feed es (Some s) fault (Ok d) file stop own = absurd (let no : None ≡ some_stop (Refused (Clash s)) = stop in cc)
opened_world asked bytes feed es None (Some f) (Ok d) file stop own = absurd (let no : None ≡ some_stop (file_stop f) = stop in cc)
opened_world asked bytes feed es None None (Ok d) file stop own = λ n asks.
    own_world feed d file.0 own file.1 ∙ world_asked n bytes es file.0 (subst (λ o. IsFile o bytes es (Ok file.0)) asks file.2)

-- it isn't stale
pub opened_fresh : (feed : Option FeedState) (es : List Edit) (clash : Option Stamp) (refusal : Option (Stop Reason)) (result : Result Replica (Stop Reason))
    → CameInto es feed clash → stop_in result ≡ first_stop clash refusal (world_in feed) → IfOk result (IsOf feed)
    → IfOk result (λ d. d.is_stale ≡ false)
opened_fresh feed es clash refusal (Err e) came stop own = tt
opened_fresh feed es (Some c) refusal (Ok d) came stop own = absurd (let no : None ≡ some_stop (Refused (Clash c)) = stop in cc)
opened_fresh feed es None refusal (Ok d) came stop own =
    let is = came_to feed es None came in ap (λ (r : Replica). r.is_stale) (is.2 d own) ∙ is.1.0

-- ---- the document that is held

-- a document is held only behind one file
pub held : {E : Type 0} (refusal : Option E) (files : List Input) (document : Option Replica) (d : Replica) → RewritesStand refusal files document
    → document ≡ Some d
    → (i : Input) × (files ≡ i ∷ []) × (refusal ≡ None) × (d.is_stale ≡ false) × OpensFile None i (Ok (d.world, d.edits))
held refusal [] document d is at = absurd (let no : None ≡ Some d = sym is ∙ at in cc)
held refusal (i ∷ []) document d is at =
    let same : is.1.0 ≡ d = (let it : Some is.1.0 ≡ Some d = sym is.1.1 ∙ at in let one : is.1.0 ≡ d = cc in one) in
    (i, refl, is.0, ap (λ (r : Replica). r.is_stale) (sym same) ∙ is.1.2, subst (λ (r : Replica). OpensFile None i (Ok (r.world, r.edits))) same is.1.3)
held refusal (i ∷ j ∷ files) document d is at = absurd is

-- none is held before the file was read
pub none_held : {E : Type 0} (refusal : Option E) (files : List Input) (document : Option Replica) → RewritesStand refusal files document → document ≡ None
    → files ≡ []
none_held refusal [] document is none = refl
none_held refusal (i ∷ []) document is none = absurd (let no : Some is.1.0 ≡ None = sym is.1.1 ∙ none in cc)
none_held refusal (i ∷ j ∷ files) document is none = absurd is

-- ---- the machine

-- it asks for its file only where it isn't refused, and holds no document
pub awaited : {E : Type 0} (refusal : Option E) (file : List ℕ) (document : Option Replica) → is_some (next_file refusal file document) ≡ true
    → (refusal ≡ None) × (document ≡ None)
awaited (Some e) file document more = absurd (let no : false ≡ true = more in cc)
awaited None file (Some d) more = absurd (let no : false ≡ true = more in cc)
awaited None file None more = (refl, refl)

-- the file was opened
pub now_held : {E : Type 0} (refusal : Option E) (file : List ℕ) (files : List Input) (i : Input) (document : Option Replica) (d : Replica)
    → is_some (next_file refusal file document) ≡ true → RewritesStand refusal files document
    → d.is_stale ≡ false → OpensFile None i (Ok (d.world, d.edits)) → RewritesStand refusal (files ++ i ∷ []) (Some d)
now_held refusal file files i document d more stands fresh opens =
    let none = awaited refusal file document more in
    subst (λ fs. RewritesStand refusal (fs ++ i ∷ []) (Some d)) (sym (none_held refusal files document stands none.1)) (none.0, (d, refl, fresh, opens))

-- or it wasn't
pub not_held : {E : Type 0} (refusal : Option E) (MayTake : FileEdits → Type 0) (Does : FileEdits → Result (List Edit) (Stop E) → Type 0) (told : Reason → E) (file : List ℕ) (files : List Input) (i : Input) (document : Option Replica) (e : Stop Reason)
    → is_some (next_file refusal file document) ≡ true → RewritesStand refusal files document
    → ((e ≡ Memory) × ((bytes : List ℕ) × (i ≡ Bytes bytes) × WantsMemory None bytes)) ⊎ OpensFile None i (Err e)
    → RewritesCome refusal MayTake Does told file (files ++ i ∷ []) (Err (stop_as told e))
not_held refusal MayTake Does told file files i document e more stands why =
    let none = awaited refusal file document more in
    subst (λ fs. RewritesCome refusal MayTake Does told file (fs ++ i ∷ []) (Err (stop_as told e))) (sym (none_held refusal files document stands none.1)) (elim why [
      | inl lack ↦ (none.0, inr (ap (λ x. Err (stop_as told x)) lack.0, subst (λ x. RewritesLack MayTake Does x) (sym lack.1.1) (inl lack.1.2)))
      | inr is ↦ (none.0, inl (Err e, is, refl))
    ])

-- it is refused before its file is read
pub refused_before : {E : Type 0} (refusal : Option E) (MayTake : FileEdits → Type 0) (Does : FileEdits → Result (List Edit) (Stop E) → Type 0) (told : Reason → E) (file : List ℕ) (files : List Input) (document : Option Replica) (e : E)
    → RewritesStand refusal files document → refusal ≡ Some e → RewritesCome refusal MayTake Does told file files (Err (Refused e))
refused_before refusal MayTake Does told file [] document e stands is = (e, is, refl)
refused_before refusal MayTake Does told file (i ∷ []) document e stands is = absurd (let no : None ≡ Some e = sym stands.0 ∙ is in cc)
refused_before refusal MayTake Does told file (i ∷ j ∷ files) document e stands is = absurd stands

-- memory may be lacking behind the reading of a file
opened_lacks : {E : Type 0} (MayTake : FileEdits → Type 0) (Does : FileEdits → Result (List Edit) (Stop E) → Type 0) (i : Input) (f : FileEdits)
    → OpensFile None i (Ok f) → ActionLacks MayTake Does f → RewritesLack MayTake Does i
opened_lacks MayTake Does (Bytes bytes) f is lacks = inr (f, is, lacks)
opened_lacks MayTake Does Missing f is lacks = absurd (let no = is in cc)
opened_lacks MayTake Does Failed f is lacks = absurd (let no = is in cc)

-- the action was done on the document that it holds
pub acted : {E : Type 0} (refusal : Option E) (MayTake : FileEdits → Type 0) (Does : FileEdits → Result (List Edit) (Stop E) → Type 0) (told : Reason → E) (file : List ℕ) (files : List Input) (document : Option Replica) (d : Replica) (result : Result Effect (Stop E))
    → RewritesStand refusal files document → document ≡ Some d
    → MatchResult result (λ x. IsRewritten Does told file (Ok (d.world, d.edits)) (Ok x)) (λ e. ((e ≡ Memory) × ActionLacks MayTake Does (d.world, d.edits)) ⊎ IsRewritten Does told file (Ok (d.world, d.edits)) (Err e))
    → MatchResult result (λ x. RewritesCome refusal MayTake Does told file files (Ok x)) (λ e. RewritesCome refusal MayTake Does told file files (Err e))
acted {E} refusal MayTake Does told file files document d result stands at is = go result is
  where
    has : (i : Input) × (files ≡ i ∷ []) × (refusal ≡ None) × (d.is_stale ≡ false) × OpensFile None i (Ok (d.world, d.edits))
    has = held refusal files document d stands at

    go : (r : Result Effect (Stop E)) → MatchResult r (λ x. IsRewritten Does told file (Ok (d.world, d.edits)) (Ok x)) (λ e. ((e ≡ Memory) × ActionLacks MayTake Does (d.world, d.edits)) ⊎ IsRewritten Does told file (Ok (d.world, d.edits)) (Err e))
        → MatchResult r (λ x. RewritesCome refusal MayTake Does told file files (Ok x)) (λ e. RewritesCome refusal MayTake Does told file files (Err e))
    go (Ok x) so = subst (λ fs. RewritesCome refusal MayTake Does told file fs (Ok x)) (sym has.1) (has.2, inl (Ok (d.world, d.edits), has.4, so))
    go (Err e) so = subst (λ fs. RewritesCome refusal MayTake Does told file fs (Err e)) (sym has.1) (elim so [
      | inl lack ↦ (has.2, inr (ap (λ x. Err x) lack.0, opened_lacks MayTake Does has.0 (d.world, d.edits) has.4 lack.1))
      | inr is ↦ (has.2, inl (Ok (d.world, d.edits), has.4, is))
    ])

-- it isn't finished where it asks for its file
pub unread : {E : Type 0} (refusal : Option E) (file : List ℕ) (document : Option Replica) → next_file refusal file document ≡ None → refusal ≡ None
    → document ≡ None → ⊥
unread (Some e) file document done none empty = let no : Some e ≡ None = none in cc
unread None file (Some d) done none empty = let no : Some d ≡ None = empty in cc
unread None file None done none empty = let no : Some file ≡ None = done in cc
