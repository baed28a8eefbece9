-- How a body that takes an edit comes to show it.
use Rattle.std.proofs.Common.{◌≡◌, ◌+◌, ◌∙◌, true, false, ◌||◌, List, [], ◌∷◌, ◌++◌, length, refl, ap, sym, arith}
use Rattle.zed_op.specs.declared.op.Edit.{Edit}
use Rattle.zed_op.specs.Fit.{Fits}
use Rattle.zed_op.specs.Set.{with_edit}
use Rattle.zed_edit.specs.Replay.{can, replay}
use Rattle.zed_delivery.specs.declared.body.Body.{Body}
use Rattle.zed_delivery.specs.declared.take.Taken.{Taken}
use Rattle.zed_delivery.specs.Cascade.{nothing}
use Rattle.zed_delivery.specs.Things.{can_do}
use Rattle.zed_delivery.specs.Shows.{IsBodyHalfway}
use Rattle.zed_delivery.specs.Steps.{IsInHand, IsDone, IsHeldBack, awaited, AreInHand}
use Rattle.zed_delivery.specs.Waking.{IsFollowed}
use Rattle.zed_delivery.specs.Settling.{AreSettled}
use Rattle.zed_delivery.specs.Taking.{ComesTo, IsNewTo, ShowsOneMore, Tells}
use Rattle.zed_delivery.proofs.BodySteps.{body_begins, body_ends}
use Rattle.zed_delivery.proofs.HasThings.{body_can}
use Rattle.zed_delivery.proofs.Woken.{told-done, told-held, woken-done, woken-held}

begins : (e : Edit) (es : List Edit) (b : Body) → Fits e → ComesTo e es b → IsBodyHalfway (with_edit e es) (e ∷ []) nothing b
begins e es b fits k = body_begins e es b k.rising k.fit k.shows fits k.apart

pub new_in_hand : (e : Edit) (b : Body) → Fits e → IsNewTo e b → IsInHand e b
new_in_hand e b fits k = (with_edit e k.0, [], nothing, begins e k.0 b fits k.1)

-- a new edit that is done leaves what it makes to come
first : (e : Edit) (es : List Edit) (b c : Body) → Fits e → IsDone e b c → ComesTo e es b
    → IsBodyHalfway (with_edit e es) [] (awaited nothing ([] ++ e ∷ [])) c
first e es b c fits d k =
    d (with_edit e es) [] nothing (awaited nothing (e ∷ [])) (begins e es b fits k) (λ x h. absurd (cc)) (λ x h. ap (λ v. v || false) h)

pub first_in_hand : (e : Edit) (b c : Body) → Fits e → IsDone e b c → IsNewTo e b → AreInHand [] ([] ++ e ∷ []) c
first_in_hand e b c fits d k = (with_edit e k.0, nothing, first e k.0 b c fits d k.1)

pub woken_in_hand : (e : Edit) (b c : Body) (rest : List Edit) → IsFollowed e b [] c rest → AreInHand [] ([] ++ e ∷ []) b
    → AreInHand [] rest c
woken_in_hand e b c rest w h = (h.0, h.1, w h.0 h.1 h.2)

pub shown_done : (e : Edit) (b c d : Body) (rest : List Edit) (x : Body) → Fits e → IsDone e b c → IsFollowed e c [] d rest
    → AreSettled rest d [] x
    → ShowsOneMore e b x
shown_done e b c d rest x fits done follows settled es k =
    let all = with_edit e es in
    body_ends all (awaited nothing []) x (settled all nothing (follows all nothing (first e es b c fits done k))) (λ y. refl)

pub shown_held : (e : Edit) (b c : Body) → Fits e → IsHeldBack e b c → ShowsOneMore e b c
shown_held e b c fits h es k = body_ends (with_edit e es) nothing c (h (with_edit e es) [] nothing (begins e es b fits k)) (λ y. refl)

-- ---- what is told

able : (e : Edit) (es : List Edit) (b : Body) → ComesTo e es b → can_do b.live.boards b.texts e ≡ can (replay es) e
able e es b k = body_can es b e k.rising k.shows

pub tells_done : (e : Edit) (b c : Body) (t : Taken) → Fits e → can_do b.live.boards b.texts e ≡ true → ShowsOneMore e b c → t.held ≡ false
    → t.woken + length c.inbox ≡ length b.inbox
    → Tells e b t
tells_done e b c t fits can shows is_held count es k =
    let now = sym (able e es b k) ∙ can in
    let all = woken-done e es k.rising k.fit fits k.apart now in
    let was = ap length k.shows.waiting in
    let waits = ap length (shows es k).waiting in
    (is_held ∙ sym (told-done e es k.rising k.fit fits k.apart now), omega (arith, all, was, waits, count))

pub tells_held : (e : Edit) (b : Body) (t : Taken) → Fits e → can_do b.live.boards b.texts e ≡ false → t.held ≡ true → t.woken ≡ 0
    → Tells e b t
tells_held e b t fits cant is_held none es k =
    let now = sym (able e es b k) ∙ cant in
    (is_held ∙ sym (told-held e es k.rising k.fit fits k.apart now), none ∙ sym (woken-held e es k.rising k.fit fits k.apart now))
