-- The body of a document, as edits come to it.
use Rattle.std.proofs.Common.{◌≡◌, ◌∙◌, ◌<◌, Bool, true, false, cond, List, [], ◌∷◌, ◌++◌, Some, None, filter, refl, ap, sym, subst}
use mathlib.Core.Logic.{inl, inr}
use Rattle.std.specs.BTreeMap.{is_at}
use Rattle.std.specs.BTreeSet.{insert_key}
use Rattle.std.specs.Prelude.{if◌then◌else◌}
use Rattle.std.specs.Set.{remove_key}
use Rattle.zed_types.specs.declared.stamp.Stamp.{Stamp}
use Rattle.zed_types.specs.Stamp.{same_stamp, stamp_cmp}
use Rattle.zed_types.proofs.StampOrder.{same_stamp-true, same_stamp-itself}
use Rattle.zed_op.specs.declared.op.Edit.{Edit}
use Rattle.zed_op.specs.Fit.{Fits}
use Rattle.zed_op.specs.Set.{AllFit, IsRising, stamps_of, union, with_edit}
use Rattle.zed_op.specs.SetLaws.{EditKeepsFit, EditKeepsRising, UnionKeepsFit, UnionKeepsRising}
use Rattle.zed_op.specs.Sizes.{HasSizes, HaveSizes}
use Rattle.zed_op.proofs.SetLaws.{each-with_edit}
use Rattle.zed_laws.specs.Laws.{HeldAreRemembered, OneMoreIsOneStep}
use Rattle.zed_delivery.specs.declared.body.Body.{Body}
use Rattle.zed_delivery.specs.declared.take.Taken.{Taken}
use Rattle.zed_delivery.specs.Shows.{BodyShows}
use Rattle.zed_delivery.specs.Taking.{CalmEditsHoldTheSame, ComesTo, IsApart, IsEmpty, IsNewTo, ShowsOneMore, Tells, is_held, woken}
use Rattle.zed_delivery.specs.TakingAll.{AllComeTo, AreNewTo, RisingAreApart, ShowsAll}
use Rattle.zed_history.specs.Finding.{edit_with}
use Rattle.zed_document.specs.declared.delivered.Delivered.{Delivered}
use Rattle.zed_document.specs.Delivery.{TellsNew, state_of}
use Rattle.zed_document.specs.Held.{held_stamps, is_among, waits_in}
use Rattle.zed_document.specs.Stretches.{CanFollow}
use Rattle.zed_document.proofs.Following.{follow-apart, follow-fit, follow-held, follow-joined, follow-rising}
use Rattle.zed_document.proofs.Taking.{IsRenewed, held-more, new-among, undone, waking}
use Rattle.zed_document.specs.Kept.{IsKept}

other_way : (a b : Stamp) → same_stamp a b ≡ false → same_stamp b a ≡ false
other_way a b n = go (same_stamp b a) refl
  where
    go : (t : Bool) → same_stamp b a ≡ t → same_stamp b a ≡ false
    go true q =
        let same : b ≡ a = same_stamp-true b a q in
        let yes : same_stamp a b ≡ true = subst (λ x. same_stamp a x ≡ true) (sym same) (same_stamp-itself a) in
        absurd (cc)
    go false q = q

-- an edit whose stamp isn't found has one of its own
pub apart : (e : Edit) (es : List Edit) → edit_with e.stamp es ≡ None → IsApart e es
apart e [] h = tt
apart e (f ∷ fs) h = go (same_stamp f.stamp e.stamp) refl (λ k. apart e fs k)
  where
    go : (t : Bool) → same_stamp f.stamp e.stamp ≡ t → (edit_with e.stamp fs ≡ None → IsApart e fs) → IsApart e (f ∷ fs)
    go true q more = absurd (let bad : Some f ≡ None = rw q at h in cc)
    go false q more = (other_way f.stamp e.stamp q, more (rw q at h))

pub comes : (e : Edit) (es : List Edit) (stamps : List Stamp) (stale : Bool) (b : Body) → IsKept es stamps stale b → stale ≡ false
    → edit_with e.stamp es ≡ None
    → ComesTo e es b
comes e es stamps stale b k sound new = record { rising = k.rising; fit = k.fit; shows = k.shown sound; apart = apart e es new }

pub is_new : (e : Edit) (es : List Edit) (stamps : List Stamp) (stale : Bool) (b : Body) → IsKept es stamps stale b → stale ≡ false
    → edit_with e.stamp es ≡ None
    → IsNewTo e b
is_new e es stamps stale b k sound new = (es, comes e es stamps stale b k sound new)

-- the stamps of those held after one edit more
stamps_now : HeldAreRemembered → CalmEditsHoldTheSame → (e : Edit) (es : List Edit) (was now : List Stamp) (b c : Body) (t : Taken)
    → ComesTo e es b → Fits e → was ≡ held_stamps es → BodyShows (with_edit e es) c → Tells e b t
    → IsRenewed t e c.inbox was now → now ≡ held_stamps (with_edit e es)
stamps_now remembered calm e es was now b c t k fits old shows tells (inl listed) =
    listed ∙ ap stamps_of shows.waiting ∙ remembered (with_edit e es)
stamps_now remembered calm e es was now b c t k fits old shows tells (inr h) = go t.held refl h.1
  where
    told : (t.held ≡ is_held (with_edit e es) e.stamp) × (t.woken ≡ woken es (with_edit e es))
    told = tells es k

    go : (b : Bool) → t.held ≡ b → now ≡ cond b (insert_key stamp_cmp was e.stamp) was → now ≡ held_stamps (with_edit e es)
    go true q is = is ∙ ap (λ ts. insert_key stamp_cmp ts e.stamp) old ∙ sym (held-more e es k.rising k.fit fits k.apart (sym told.0 ∙ q))
    go false q is = is ∙ old ∙ sym (calm e es k.rising k.fit fits k.apart (sym told.0 ∙ q) (sym told.1 ∙ h.0))

-- where a body that took an edit says that it woke others, those of the stamps kept that wait still are all that wait
pub rest_waits : HeldAreRemembered → (e : Edit) (es : List Edit) (was now : List Stamp) (b c : Body) (t : Taken)
    → ComesTo e es b → Fits e → was ≡ held_stamps es → BodyShows (with_edit e es) c → Tells e b t
    → now ≡ (if t.held then insert_key stamp_cmp was e.stamp else was) → 0 < t.woken → filter (waits_in c.inbox) now ≡ stamps_of c.inbox
rest_waits remembered e es was now b c t k fits old shows tells is some =
    let told = tells es k in
    let rest = waking e es k.rising k.fit fits k.apart (subst (λ n. 0 < n) told.1 some) in
    let quiet : t.held ≡ false = told.0 ∙ rest.0 in
    let same : now ≡ held_stamps es = is ∙ ap (λ h. cond h (insert_key stamp_cmp was e.stamp) was) quiet ∙ old in
    ap (λ ts. filter (waits_in c.inbox) ts) same ∙ ap (λ (w : List Edit). filter (waits_in w) (held_stamps es)) shows.waiting ∙ rest.1 ∙ ap stamps_of (sym shows.waiting)

-- a document that took one edit more is kept
pub one_more : HeldAreRemembered → CalmEditsHoldTheSame → EditKeepsRising → EditKeepsFit
    → (e : Edit) (es : List Edit) (was now : List Stamp) (stale : Bool) (b c : Body) (t : Taken)
    → IsKept es was stale b → stale ≡ false → edit_with e.stamp es ≡ None → Fits e → HasSizes e
    → ShowsOneMore e b c → Tells e b t → IsRenewed t e c.inbox was now
    → IsKept (with_edit e es) now false c
one_more remembered calm rises fit e es was now stale b c t k sound new fits sizes shows tells renewed =
    let come = comes e es was stale b k sound new in
    record {
      fit = fit e es fits k.fit;
      sizes = each-with_edit HasSizes e es sizes k.sizes;
      rising = rises e es k.rising;
      held = stamps_now remembered calm e es was now b c t come fits k.held (shows es come) tells renewed;
      shown = λ _. shows es come;
      emptied = λ bad. absurd (cc);
    }

-- where it isn't taken after all, the stamps kept are those before
pub not_kept : (e : Edit) (es : List Edit) (was mid now : List Stamp) (stale : Bool) (b c : Body) (t : Taken) → IsKept es was stale b
    → edit_with e.stamp es ≡ None
    → mid ≡ (if t.held then insert_key stamp_cmp was e.stamp else was)
    → now ≡ (if t.held then remove_key (is_at (stamp_cmp e.stamp)) mid else mid) → IsEmpty c
    → IsKept es now true c
not_kept e es was mid now stale b c t k new put out none = record {
  fit = k.fit;
  sizes = k.sizes;
  rising = k.rising;
  held = go t.held put out ∙ k.held;
  shown = λ bad. absurd (cc);
  emptied = λ _. none;
}
  where
    fresh : is_among was e.stamp ≡ false
    fresh = ap (λ ts. is_among ts e.stamp) k.held ∙ new-among e es (apart e es new)

    go : (h : Bool) → mid ≡ cond h (insert_key stamp_cmp was e.stamp) was → now ≡ cond h (remove_key (is_at (stamp_cmp e.stamp)) mid) mid
        → now ≡ was
    go true q r = r ∙ ap (remove_key (is_at (stamp_cmp e.stamp))) q ∙ undone e.stamp was fresh
    go false q r = r ∙ q

-- and tells of the edit
pub tells_new : (e : Edit) (es : List Edit) (b : Body) (t : Taken) (d : Delivered) → ComesTo e es b → Tells e b t
    → d.state ≡ state_of t.held → d.woken ≡ t.woken
    → TellsNew es (with_edit e es) e d
tells_new e es b t d k tells state woken =
    let told = tells es k in
    (state ∙ ap state_of told.0, woken ∙ told.1)

-- ---- edits that follow one another

pub all_come : RisingAreApart → (more es : List Edit) (stamps : List Stamp) (stale : Bool) (b : Body) → IsKept es stamps stale b
    → stale ≡ false → CanFollow es more
    → AllComeTo more es b
all_come law more es stamps stale b k sound follow = record {
  rising = k.rising;
  fit = k.fit;
  shows = k.shown sound;
  apart = follow-apart es more follow;
  among = law more (follow-rising es more follow);
}

pub are_new : RisingAreApart → (more es : List Edit) (stamps : List Stamp) (stale : Bool) (b : Body) → IsKept es stamps stale b
    → stale ≡ false → CanFollow es more
    → AreNewTo more b
are_new law more es stamps stale b k sound follow = (es, all_come law more es stamps stale b k sound follow)

sizes-union : (es more : List Edit) → HaveSizes es → HaveSizes more → HaveSizes (union es more)
sizes-union es [] a b = a
sizes-union es (e ∷ more) a b = sizes-union (with_edit e es) more (each-with_edit HasSizes e es b.0 a) b.1

-- a document that took edits which followed one another is kept
pub many_more : RisingAreApart → OneMoreIsOneStep → UnionKeepsRising → UnionKeepsFit
    → (more es : List Edit) (stamps : List Stamp) (stale : Bool) (b c : Body)
    → IsKept es stamps stale b → stale ≡ false → CanFollow es more → HaveSizes more → ShowsAll more b c
    → IsKept (es ++ more) stamps false c
many_more law one rises fit more es stamps stale b c k sound follow sizes shows =
    subst (λ all. IsKept all stamps false c) (follow-joined es more follow) (record {
      fit = fit es more k.fit (follow-fit es more follow);
      sizes = sizes-union es more k.sizes sizes;
      rising = rises es more k.rising;
      held = k.held ∙ sym (ap held_stamps (follow-joined es more follow) ∙ follow-held one es more follow);
      shown = λ _. shows es (all_come law more es stamps stale b k sound follow);
      emptied = λ bad. absurd (cc);
    })
