-- Each step of a cascade in a body.
use Rattle.std.proofs.Common.{◌≡◌, ◌∙◌, Bool, true, false, ◌||◌, List, [], ◌∷◌, ◌++◌, refl, ap, sym, subst}
use Rattle.std.specs.List.{list_any}
use Rattle.zed_types.proofs.Facts.{or_more}
use mathlib.Core.Logic.{inl}
use Rattle.zed_op.specs.declared.op.Edit.{Edit}
use Rattle.zed_op.specs.declared.thing.Thing.{Thing}
use Rattle.zed_op.specs.Fit.{Fits}
use Rattle.zed_op.specs.Set.{IsRising, AllFit, with_edit}
use Rattle.zed_op.specs.Sizes.{HasSizes}
use Rattle.zed_op.proofs.Sets.{Member-all, with_edit-rising}
use Rattle.zed_edit.specs.Replay.{can, replay, taken, held}
use Rattle.zed_laws.specs.Making.{makes}
use Rattle.zed_inbox.specs.Waiting.{naming, not_naming}
use Rattle.zed_live.specs.declared.document.LiveDocument.{LiveDocument}
use Rattle.zed_live.specs.Document.{DocumentShows, DocumentTakes, document_after}
use Rattle.zed_texts.specs.Texts.{Texts, Elements, elements_of, texts_after}
use Rattle.zed_texts.specs.Shows.{TextsShow, TextsTake, TextsAreReady}
use Rattle.zed_delivery.specs.declared.body.Body.{Body}
use Rattle.zed_delivery.specs.Cascade.{IsHalfway, nothing}
use Rattle.zed_delivery.specs.Things.{can_do, IsPutIn}
use Rattle.zed_delivery.specs.Shows.{ContentShows, IsBodyHalfway}
use Rattle.zed_delivery.specs.Steps.{IsInHand, IsDone, IsHeldBack, awaited, IsTried, IsReleased, AreInHand, AreTried, HandIsReady, BodyBegins, BodyEnds}
use Rattle.zed_delivery.proofs.Cascades.{cascades_begin, edits_arrive, edits_are_done, edits_are_held, things_are_released, cascades_end, first-new, or-last}
use Rattle.zed_delivery.specs.Taking.{IsApart}
use Rattle.zed_delivery.proofs.HasThings.{content_can}
use Rattle.zed_delivery.proofs.Members.{all-members, IsCut, cut, all-behind}
use Rattle.zed_delivery.proofs.Stirring.{few_more}

-- what an edit in hand has of the set of all
pub record Placed (e : Edit) (done : List Edit) : Type 0 where
  pub place : IsCut e done
  pub rises : IsRising (place.low ++ e ∷ place.high)
  pub fits : AllFit (e ∷ place.high)
  pub none : held (place.low ++ place.high) ≡ []

placed : (e : Edit) (all done waits hand : List Edit) (to_come : Thing → Bool) → IsHalfway all done waits (e ∷ hand) to_come → Placed e done
placed e all done waits hand to_come h = record {
  place = k;
  rises = subst IsRising k.with_it (with_edit-rising e done h.done_rise);
  fits = (Member-all Fits all h.fit e (h.hand_in e (inl refl)), all-behind Fits k.low k.high (subst AllFit k.whole all_fit));
  none = subst (λ es. held es ≡ []) k.whole h.none_held;
}
  where
    k : IsCut e done
    k = cut e done (first-new e all done waits hand to_come h)

    all_fit : AllFit done
    all_fit = all-members Fits done (λ f m. Member-all Fits all h.fit f (h.done_in f m))

-- the live parts take an edit that is put in
content_takes : DocumentTakes → TextsTake → (e : Edit) (done : List Edit) (d : LiveDocument) (ts : Texts) (d' : LiveDocument) (ts' : Texts)
    → HasSizes e → IsApart e done → Placed e done → can (replay done) e ≡ true → ContentShows done d ts → IsPutIn e d ts d' ts'
    → ContentShows (with_edit e done) d' ts'
content_takes takes texts_take e done d ts d' ts' sizes new p c was put =
    let k = p.place in
    let now : can (replay (k.low ++ k.high)) e ≡ true = subst (λ es. can (replay es) e ≡ true) k.whole c in
    let live = takes e k.low k.high d p.rises sizes p.none now (subst (λ es. DocumentShows es d) k.whole was.live) in
    let texts = texts_take e k.low k.high (elements_of ts) p.rises p.fits p.none now (subst (λ es. TextsShow es (elements_of ts)) k.whole was.texts) in
    let P : LiveDocument → Type 0 = λ x. DocumentShows (with_edit e done) x in
    let Q : Elements → Type 0 = λ xs. TextsShow (with_edit e done) xs in
    record {
      live = subst P (sym put.0) (subst (λ es. DocumentShows es (document_after e d)) (sym k.with_it) live);
      texts = subst Q (sym put.1) (subst (λ es. TextsShow es (texts_after e.stamp e.op (elements_of ts))) (sym k.with_it) texts);
      few = few_more e done ts ts' new was.few put.2;
    }

tells : (all hand : List Edit) (to_come : Thing → Bool) (b : Body) (e : Edit) (h : IsBodyHalfway all hand to_come b)
    → can_do b.live.boards b.texts e ≡ can (replay h.0) e
tells all hand to_come b e h = content_can h.0 b.live b.texts e h.2.done_rise h.2.none_held h.1

pub is_done : DocumentTakes → TextsTake → (e : Edit) (b c : Body) → HasSizes e → can_do b.live.boards b.texts e ≡ true
    → IsPutIn e b.live b.texts c.live c.texts → c.inbox ≡ b.inbox
    → IsDone e b c
is_done takes texts_take e b c sizes able put same all hand before after h keep made =
    let now : can (replay h.0) e ≡ true = sym (tells all (e ∷ hand) before b e h) ∙ able in
    let next = edits_are_done e all h.0 b.inbox hand before after h.2 now keep made in
    let P : List Edit → Type 0 = λ w. IsHalfway all (with_edit e h.0) w hand after in (
      with_edit e h.0,
      content_takes takes texts_take e h.0 b.live b.texts c.live c.texts sizes (first-new e all h.0 b.inbox hand before h.2) (placed e all h.0 b.inbox hand before h.2) now h.1 put,
      subst P (sym same) next,
    )

pub is_held_back : (e : Edit) (b c : Body) → can_do b.live.boards b.texts e ≡ false → c.live ≡ b.live → c.texts ≡ b.texts
    → c.inbox ≡ with_edit e b.inbox
    → IsHeldBack e b c
is_held_back e b c cant live texts waits all hand to_come h =
    let now : can (replay h.0) e ≡ false = sym (tells all (e ∷ hand) to_come b e h) ∙ cant in
    let next = edits_are_held e all h.0 b.inbox hand to_come h.2 now in
    let P : List Edit → Type 0 = λ w. IsHalfway all h.0 w hand to_come in
    let Q : LiveDocument → Type 0 = λ d. ContentShows h.0 d b.texts in
    let R : Texts → Type 0 = λ t. ContentShows h.0 c.live t in
    (h.0, subst R (sym texts) (subst Q (sym live) h.1), subst P (sym waits) next)

pub is_released : (x : Thing) (b c : Body) → c.live ≡ b.live → c.texts ≡ b.texts → c.inbox ≡ not_naming x b.inbox
    → IsReleased x (naming x b.inbox) b c
is_released x b c live texts waits all before after h goes =
    let next = things_are_released x all h.0 b.inbox before after h.2 goes in
    let P : List Edit → Type 0 = λ w. IsHalfway all h.0 w (naming x b.inbox) after in
    let Q : LiveDocument → Type 0 = λ d. ContentShows h.0 d b.texts in
    let R : Texts → Type 0 = λ t. ContentShows h.0 c.live t in
    (h.0, subst R (sym texts) (subst Q (sym live) h.1), subst P (sym waits) next)

pub hand_is_ready : TextsAreReady → HandIsReady
hand_is_ready ready e b h able =
    let w = h.3 in
    let p = placed e h.0 w.0 b.inbox h.1 h.2 w.2 in
    let k = p.place in
    let now : can (replay w.0) e ≡ true = sym (tells h.0 (e ∷ h.1) h.2 b e w) ∙ able in (
      p.fits.0,
      ready e k.low k.high (elements_of b.texts) p.rises p.fits (subst (λ es. can (replay es) e ≡ true) k.whole now) (subst (λ es. TextsShow es (elements_of b.texts)) k.whole w.1.texts),
    )

pub body_begins : BodyBegins
body_begins e es b r f was fits new =
    let P : List Edit → Type 0 = λ w. IsHalfway es (taken es) w [] nothing in
    (taken es, was.content, edits_arrive e es (taken es) b.inbox nothing (subst P (sym was.waiting) (cascades_begin es r f)) fits new)

pub body_ends : BodyEnds
body_ends all to_come b h none =
    let t = cascades_end all h.0 b.inbox to_come h.2 none in
    let P : List Edit → Type 0 = λ es. ContentShows es b.live b.texts in
    record { content = subst P t.0 h.1; waiting = t.1 }

-- ---- edits that are tried

any-more : (q : Edit → Bool) (es fs : List Edit) → list_any q es ≡ true → list_any q (es ++ fs) ≡ true
any-more q [] fs h = absurd (cc)
any-more q (e ∷ es) fs h = go (q e) h (λ k. any-more q es fs k)
  where
    go : (b : Bool) → (b || list_any q es) ≡ true → (list_any q es ≡ true → list_any q (es ++ fs) ≡ true)
        → (b || list_any q (es ++ fs)) ≡ true
    go true k more = refl
    go false k more = more k

any-last : (q : Edit → Bool) (es : List Edit) (e : Edit) → q e ≡ true → list_any q (es ++ e ∷ []) ≡ true
any-last q [] e h = ap (λ b. b || false) h
any-last q (f ∷ es) e h = ap (λ b. q f || b) (any-last q es e h) ∙ or-last (q f)

pub tried_done : (e : Edit) (b c : Body) (old : List Edit) → IsDone e b c → IsTried e b old c (old ++ e ∷ [])
tried_done e b c old d all hand others h =
    d all hand (awaited others old) (awaited others (old ++ e ∷ [])) h
    (λ x k. or_more (others x) (list_any (λ f. makes f x) old) (list_any (λ f. makes f x) (old ++ e ∷ [])) (any-more (λ f. makes f x) old (e ∷ [])) k)
    (λ x k. ap (λ v. others x || v) (any-last (λ f. makes f x) old e k) ∙ or-last (others x))

pub first_in_hand : (e : Edit) (rest : List Edit) (done : List Edit) (b : Body) → AreInHand (e ∷ rest) done b → IsInHand e b
first_in_hand e rest done b h = (h.0, rest, awaited h.1 done, h.2)

pub tried_one_more : (es : List Edit) (b : Body) (old : List Edit) (e : Edit) (rest : List Edit) (c : Body) (mid : List Edit) (d : Body) (new : List Edit)
    → AreTried es b old (e ∷ rest) c mid → IsTried e c mid d new → AreTried es b old rest d new
tried_one_more es b old e rest c mid d new many one all others h = one all rest others (many all others h)
