-- What gathered files come to, by what comes first of a clash and the refusal of a file.
use Rattle.zed_types.specs.declared.stamp.Stamp.{Stamp}
use Rattle.zed_op.specs.declared.op.Edit.{Edit}
use Rattle.zed_files.specs.declared.refusal.Refusal.{Refusal}
use Rattle.zed_files.specs.declared.refusal.Refusal.TheVariants.{Clash, File, Memory, NoWorld}
use Rattle.std.proofs.Common.{◌≡◌, ◌∙◌, ℕ, false, List, [], Option, Some, None, Result, Ok, Err, MatchResult, refl, ap, sym, subst, inl, inr}
use Rattle.std.specs.Prelude.{◌≢◌, ◌⊎◌, IfErr, IfOk, IfSome}
use Rattle.zed_op.specs.Set.{AllFit}
use Rattle.zed_document.specs.Delivery.{DeliveriesComeToSets}
use Rattle.zed_document.specs.Replica.{Replica}
use Rattle.zed_host.specs.Calls.{Ask, Call}
use Rattle.zed_host.specs.Counting.{Rose}
use Rattle.zed_host.specs.HostContents.{HostContents}
use Rattle.zed_files.specs.Asked.{Asks, refusal_in}
use Rattle.zed_document.specs.Laws.{document_of}
use Rattle.zed_link.specs.Feed.{FeedState}
use Rattle.zed_files.specs.Collected.{CameInto, CameTo, Collects, HasTaken, IsOf, IsStreamIn, first_refusal}
use Rattle.zed_files.specs.Faults.{NoneForgotten, TellsFailures}
use Rattle.zed_files.specs.Files.{edits_then, end_of}
use Rattle.zed_files.specs.Refusals.{IsOffStage}
use Rattle.zed_files.proofs.Asked.{refused_instead}
use Rattle.zed_files.proofs.Deliveries.{came_agree}
use Rattle.zed_files.proofs.OffStage.{is_off}
use Rattle.zed_files.proofs.Streams.{all_collected, file_first}

abbrev pub told : Refusal → Option Refusal
told e = Some e

pub same_told : (e f : Refusal) → told e ≡ told f → e ≡ f
same_told e f is = cc

pub settled_collects : DeliveriesComeToSets
    → (failed : Type 0) (t : HostContents) (names : List (List ℕ)) (es : List Edit) (d : Replica) (clash : Option Stamp) (refusal : Option Refusal) (result : Result Replica Refusal)
    → AllFit es → CameTo es d clash → IsStreamIn failed t names (edits_then es refusal) → refusal_in result ≡ first_refusal clash refusal
    → IfOk result (λ x. x ≡ d)
    → MatchResult result (λ x. Collects failed t names (Ok x.edits)) (λ e. (e ≡ Memory) ⊎ Collects failed t names (Err e))
settled_collects law failed t names es d (Some s) refusal (Ok x) fit came reads is same = absurd (cc)
settled_collects law failed t names es d (Some s) refusal (Err e) fit came reads is same =
    inr (edits_then es refusal, reads, inl (s, came, ap (λ x. Err x) (same_told e (Clash s) is)))
settled_collects law failed t names es d None (Some f) (Ok x) fit came reads is same = absurd (cc)
settled_collects law failed t names es d None (Some f) (Err e) fit came reads is same =
    let all = came_agree law es d None refl fit came in
    inr (file_first failed t names es (Some f) e reads all.0 (sym is))
settled_collects law failed t names es d None None (Ok x) fit came reads is same =
    let all = came_agree law es d None refl fit came in
    all_collected failed t names es x.edits None reads all.0 refl (ap (λ (r : Replica). r.edits) same ∙ all.1)
settled_collects law failed t names es d None None (Err e) fit came reads is same = absurd (cc)

pub settled_sound : (es : List Edit) (d : Replica) (clash : Option Stamp) (refusal : Option Refusal) (result : Result Replica Refusal)
    → CameTo es d clash
    → refusal_in result ≡ first_refusal clash refusal → IfOk result (λ x. x ≡ d) → IfOk result (λ x. x.is_stale ≡ false)
settled_sound es d clash refusal (Err e) came is same = tt
settled_sound es d (Some s) refusal (Ok x) came is same = absurd (cc)
settled_sound es d None refusal (Ok x) came is same = ap (λ (r : Replica). r.is_stale) same ∙ came.0

pub settled_off : (clash : Option Stamp) (refusal : Option Refusal) (result : Result Replica Refusal) → IfSome refusal IsOffStage
    → refusal_in result ≡ first_refusal clash refusal
    → IfErr result IsOffStage
settled_off clash refusal (Ok x) off is = tt
settled_off (Some s) refusal (Err e) off is = is_off e (Clash s) (same_told e (Clash s) is) (refl, refl)
settled_off None (Some f) (Err e) off is = is_off e f (same_told e f is) off
settled_off None None (Err e) off is = absurd (cc)

-- without a file there is no world, which wants no memory
pub end_ample : (asked : Option ℕ) → end_of asked ≢ Some Memory
end_ample None is = let no : Some NoWorld ≡ Some Memory = is in cc
end_ample (Some world) is = let no : None ≡ Some Memory = is in cc

-- nor is it told where no file was refused for want of it
pub settled_ample : (P : Type 0) (clash : Option Stamp) (refusal : Option Refusal) (result : Result Replica Refusal) → refusal ≢ Some Memory
    → refusal_in result ≡ first_refusal clash refusal
    → IfErr result (λ e. e ≡ Memory → P)
settled_ample P clash refusal (Ok x) other is = tt
settled_ample P (Some s) refusal (Err e) other is = λ lack. absurd (let same = same_told e (Clash s) is in let no : Memory ≡ Clash s = sym lack ∙ same in cc)
settled_ample P None refusal (Err e) other is = λ lack. absurd (other (sym is ∙ ap (λ x. Some x) lack))

pub settled_asks : {H : Type 0} (called : H → Call → H → Type 0) (reads : List Ask) (clash : Option Stamp) (refusal : Option Refusal) (result : Result Replica Refusal) (old new : H)
    → Asks called reads [] refusal old new
    → refusal_in result ≡ first_refusal clash refusal → Asks called reads [] (refusal_in result) old new
settled_asks called reads (Some s) refusal result old new asks is =
    subst (λ r. Asks called reads [] r old new) (sym is) (refused_instead called reads refusal (Clash s) old new (λ file. cc) (λ lack. cc) asks)
settled_asks called reads None refusal result old new asks is = subst (λ r. Asks called reads [] r old new) (sym is) asks

pub settled_tells : {H : Type 0} (faults failed : H → ℕ) (clash : Option Stamp) (refusal : Option Refusal) (result : Result Replica Refusal) (old new : H)
    → NoneForgotten faults failed old new
    → (refusal ≡ Some File → Rose (failed old) (failed new)) → refusal_in result ≡ first_refusal clash refusal
    → TellsFailures faults failed result old new
settled_tells faults failed clash refusal (Ok x) old new none file is = (none, tt)
settled_tells faults failed (Some s) refusal (Err e) old new none file is = (none, λ lost. absurd (let same = same_told e (Clash s) is in cc))
settled_tells faults failed None refusal (Err e) old new none file is = (none, λ lost. file (sym is ∙ ap (λ x. Some x) lost))

-- the document of a feed, and what came to it
pub came_into : (feed : Option FeedState) (es : List Edit) (clash : Option Stamp) (result : Result Replica Refusal) → CameInto es feed clash
    → IfOk result (IsOf feed)
    → (d : Replica) × CameTo es d clash × IfOk result (λ x. x ≡ d)
came_into (Some f) es clash (Ok x) came same = (f.document, came, sym (let it : Some f.document ≡ Some x = same in let one : f.document ≡ x = cc in one))
came_into (Some f) es clash (Err e) came same = (f.document, came, tt)
came_into None es clash (Ok x) came same = absurd (let no : None ≡ Some x = same in cc)
came_into None es clash (Err e) came same =
    let start = document_of 0 [] [] in
    (start, subst (CameTo es start) (sym came.1) (subst (λ z. HasTaken z start) (sym came.0) (refl, (refl, refl))), tt)
