-- A cascade keeps which edits are done and which wait, and ends with those taken and those held.
use Rattle.std.proofs.Common.{◌≡◌, Bool, true, false, not, ◌||◌, ◌&&◌, List, [], ◌∷◌, ◌++◌, filter, refl, ap, ◌∙◌, sym, subst}
use Rattle.std.specs.List.{AllByRecursion, list_any, list_all}
use Rattle.std.proofs.lemmas.Bool.{and_parts}
use mathlib.Core.Logic.{◌⊎◌, inl, inr}
use Rattle.zed_types.specs.Stamp.{same_stamp}
use Rattle.zed_types.proofs.StampOrder.{same_stamp-true, same_stamp-itself, same_name-itself}
use Rattle.zed_op.specs.declared.op.Edit.{Edit}
use Rattle.zed_op.specs.declared.thing.Thing.{Thing}
use Rattle.zed_op.specs.declared.thing.Thing.TheVariants.{Board as board, Stat as stat, Text as text, Element as element}
use Rattle.zed_op.specs.Fit.{Fits}
use Rattle.zed_op.specs.Names.{names_of}
use Rattle.zed_op.specs.Set.{IsRising, AllFit, with_edit}
use Rattle.zed_op.proofs.Sets.{Member, Member-all, with_edit-rising, with_edit-members, with_edit-keeps, with_edit-has, rising-agree, rising-same}
use Rattle.zed_op.proofs.SetLaws.{edit_keeps_fit}
use Rattle.zed_edit.specs.declared.plain.Plain.{Plain}
use Rattle.zed_edit.specs.Document.{empty_document, has}
use Rattle.zed_edit.specs.Replay.{can, replay, taken, held}
use Rattle.zed_laws.proofs.SameThings.{can-same}
use Rattle.zed_laws.proofs.LatestWrites.{taken-rising}
use Rattle.zed_laws.proofs.TakenAlone.{taken_make_all, late_edit_holds_none}
use Rattle.zed_laws.specs.Making.{makes}
use Rattle.zed_laws.specs.Settled.{OthersWait}
use Rattle.zed_laws.proofs.EarlierThings.{earlier_decide}
use Rattle.zed_laws.proofs.HeldAlone.{held_takes_nothing}
use Rattle.zed_laws.proofs.Making.{late_edit_makes}
use Rattle.zed_laws.proofs.Settling.{settled_are_taken}
use Rattle.zed_inbox.specs.Waiting.{same_thing, names, naming, not_naming}
use Rattle.zed_delivery.specs.Cascade.{Waits, IsHalfway, CascadesBegin, EditsArrive, EditsAreDone, EditsAreHeld, ThingsAreReleased, CascadesEnd}
use Rattle.zed_delivery.proofs.Members.{all-members, never, later, held-rising, either, taken-in, held-in, not-both, HeldAt, held-at, in-filter, to-filter, filter-rising, IsCut, cut, all-behind}

-- ---- an edit that is held can't be done after all that are taken

pub forgetful : (p : Plain) (x : Thing) → has (record p { held = [] }) x ≡ has p x
forgetful p (board b) = refl
forgetful p (stat s) = refl
forgetful p (text t) = refl
forgetful p (element t a) = refl

still-held : (e : Edit) (low high : List Edit) → IsRising (low ++ e ∷ high) → AllFit (low ++ e ∷ high) → can (replay low) e ≡ false
    → can (replay (taken (low ++ e ∷ high))) e ≡ false
still-held e low high r f c =
    ap (λ es. can (replay es) e) (held_takes_nothing e low high c)
    ∙ ap (λ p. can p e) (taken_make_all (low ++ high)).0
    ∙ can-same (record (replay (low ++ high)) { held = [] }) (replay (low ++ high)) e (forgetful (replay (low ++ high)))
    ∙ earlier_decide e low high r (all-behind Fits low (e ∷ high) f)
    ∙ c

held-waits : (e : Edit) (es : List Edit) → IsRising es → AllFit es → HeldAt empty_document e es → can (replay (taken es)) e ≡ false
held-waits e es r f k =
    ap (λ xs. can (replay (taken xs)) e) k.whole
    ∙ still-held e k.low k.high (subst IsRising k.whole r) (subst AllFit k.whole f) k.held

pub cascades_begin : CascadesBegin
cascades_begin es r f = record {
  rising = r;
  fit = f;
  done_rise = taken-rising empty_document es r;
  waits_rise = held-rising empty_document es r;
  hand_rise = tt;
  none_held = (taken_make_all es).1;
  each = λ e m. elim (either empty_document e es m) [ inl t ↦ inl t | inr h ↦ inr (inl h) ];
  done_in = λ e m. taken-in empty_document e es m;
  waits_in = λ e m. held-in empty_document e es m;
  hand_in = λ e m. absurd m;
  waits_apart = λ e m d. not-both empty_document e es r d m;
  hand_apart = λ e m d. m;
  hand_new = λ e m n. m;
  waiting = λ e m. inl (held-waits e es r f (held-at empty_document e es m));
}

-- ---- an edit that comes

pub edits_arrive : EditsArrive
edits_arrive e all done waits to_come h fits new = record {
  rising = with_edit-rising e all h.rising;
  fit = edit_keeps_fit e all fits h.fit;
  done_rise = h.done_rise;
  waits_rise = h.waits_rise;
  hand_rise = (tt, tt);
  none_held = h.none_held;
  each = λ g m. elim (with_edit-members g e all m) [
    | inl q ↦ inr (inr (inl q))
    | inr k ↦ elim (h.each g k) [ inl d ↦ inl d | inr o ↦ elim o [ inl w ↦ inr (inl w) | inr n ↦ absurd n ] ]
  ];
  done_in = λ g m. with_edit-keeps g e all (h.done_in g m);
  waits_in = λ g m. with_edit-keeps g e all (h.waits_in g m);
  hand_in = λ g m. elim m [ inl q ↦ subst (λ x. Member x (with_edit e all)) q here | inr n ↦ absurd n ];
  waits_apart = h.waits_apart;
  hand_apart = λ g m d. elim m [ inl q ↦ is-new g q (h.done_in g d) | inr n ↦ n ];
  hand_new = λ g m w. elim m [ inl q ↦ is-new g q (h.waits_in g w) | inr n ↦ n ];
  waiting = h.waiting;
}
  where
    is-new : (g : Edit) → e ≡ g → Member g all → ⊥
    is-new g q m =
        let a = Member-all (λ f. same_stamp e.stamp f.stamp ≡ false) all new g m in
        let b = subst (λ (x : Edit). same_stamp e.stamp x.stamp ≡ true) q (same_stamp-itself e.stamp) in
        absurd (cc)

    here : Member e (with_edit e all)
    here = with_edit-has e all (λ f m s.
        let a = Member-all (λ x. same_stamp e.stamp x.stamp ≡ false) all new f m in
        let b = subst (λ t. same_stamp e.stamp t ≡ true) s (same_stamp-itself e.stamp) in
        absurd (cc))

-- ---- an edit in hand

pub first-new : (e : Edit) (all done waits hand : List Edit) (to_come : Thing → Bool) → IsHalfway all done waits (e ∷ hand) to_come
    → AllByRecursion (λ f. same_stamp e.stamp f.stamp ≡ false) done
first-new e all done waits hand to_come h =
    all-members (λ f. same_stamp e.stamp f.stamp ≡ false) done (λ f m. go f m (same_stamp e.stamp f.stamp) refl)
  where
    go : (f : Edit) → Member f done → (b : Bool) → same_stamp e.stamp f.stamp ≡ b → b ≡ false
    go f m false b = refl
    go f m true b =
        let same : e ≡ f = rising-agree all h.rising e f (h.hand_in e (inl refl)) (h.done_in f m) (same_stamp-true e.stamp f.stamp b) in
        absurd (h.hand_apart f (inl same) m)

same_thing-itself : (x : Thing) → same_thing x x ≡ true
same_thing-itself (board b) = same_name-itself b.name
same_thing-itself (stat s) = same_name-itself s.name
same_thing-itself (text t) = same_name-itself t.name
same_thing-itself (element t a) = rw (same_name-itself t.name, same_name-itself a.name) refl

pub or-last : (a : Bool) → (a || true) ≡ true
or-last true = refl
or-last false = refl

or-first : (a b : Bool) → (a || b) ≡ true → b ≡ false → a ≡ true
or-first true b h n = refl
or-first false true h n = absurd (cc)
or-first false false h n = h

-- of names that are not all there before and all there after, one is new
new-name : (p q : Thing → Bool) (ts : List Thing) → list_all p ts ≡ false → list_all q ts ≡ true
    → (x : Thing) × (list_any (λ n. same_thing n x) ts ≡ true) × (p x ≡ false) × (q x ≡ true)
new-name p q [] h k = absurd (cc)
new-name p q (t ∷ ts) h k = go (p t) refl h (λ l. new-name p q ts l parts.1)
  where
    parts : (q t ≡ true) × (list_all q ts ≡ true)
    parts = and_parts (q t) (list_all q ts) k

    go : (b : Bool) → p t ≡ b → (b && list_all p ts) ≡ false
        → (list_all p ts ≡ false → (x : Thing) × (list_any (λ n. same_thing n x) ts ≡ true) × (p x ≡ false) × (q x ≡ true))
        → (x : Thing) × (list_any (λ n. same_thing n x) (t ∷ ts) ≡ true) × (p x ≡ false) × (q x ≡ true)
    go false b l more = (t, rw (same_thing-itself t) refl, b, parts.0)
    go true b l more = let r = more l in (r.0, ap (λ v. same_thing t r.0 || v) r.1 ∙ or-last (same_thing t r.0), r.2, r.3)

pub edits_are_done : EditsAreDone
edits_are_done e all done waits hand to_come after h c keep made = record {
  rising = h.rising;
  fit = h.fit;
  done_rise = with_edit-rising e done h.done_rise;
  waits_rise = h.waits_rise;
  hand_rise = h.hand_rise.1;
  none_held = subst (λ es. held es ≡ []) (sym k.with_it) none;
  each = λ g m. elim (h.each g m) [
    | inl d ↦ inl (with_edit-keeps g e done d)
    | inr o ↦ elim o [
      | inl w ↦ inr (inl w)
      | inr n ↦ elim n [ inl q ↦ inl (subst (λ x. Member x (with_edit e done)) q here) | inr l ↦ inr (inr l) ]
    ]
  ];
  done_in = λ g m. elim (with_edit-members g e done m) [ inl q ↦ h.hand_in g (inl q) | inr d ↦ h.done_in g d ];
  waits_in = h.waits_in;
  hand_in = λ g m. h.hand_in g (inr m);
  waits_apart = λ g m d. elim (with_edit-members g e done d) [ inl q ↦ h.hand_new g (inl q) m | inr l ↦ h.waits_apart g m l ];
  hand_apart = λ g m d. elim (with_edit-members g e done d) [ inl q ↦ never e g q (later e g hand h.hand_rise.0 m) | inr l ↦ h.hand_apart g (inr m) l ];
  hand_new = λ g m n. h.hand_new g (inr m) n;
  waiting =
      λ g m. elim (h.waiting g m) [ inl cant ↦ now g cant (can (replay (with_edit e done)) g) refl | inr a ↦ inr (a.0, a.1, keep a.0 a.2) ];
}
  where
    k : IsCut e done
    k = cut e done (first-new e all done waits hand to_come h)

    here : Member e (with_edit e done)
    here = with_edit-has e done (λ f m s. absurd (h.hand_apart f (inl (rising-agree all h.rising e f (h.hand_in e (inl refl)) (h.done_in f m) s)) m))

    rises : IsRising (k.low ++ e ∷ k.high)
    rises = subst IsRising k.with_it (with_edit-rising e done h.done_rise)

    all_fit : AllFit done
    all_fit = all-members Fits done (λ f m. Member-all Fits all h.fit f (h.done_in f m))

    fits : AllFit (e ∷ k.high)
    fits = (Member-all Fits all h.fit e (h.hand_in e (inl refl)), all-behind Fits k.low k.high (subst AllFit k.whole all_fit))

    none_before : held (k.low ++ k.high) ≡ []
    none_before = subst (λ es. held es ≡ []) k.whole h.none_held

    none : held (k.low ++ e ∷ k.high) ≡ []
    none = late_edit_holds_none e k.low k.high rises fits none_before (sym (earlier_decide e k.low k.high rises fits) ∙ subst (λ es. can (replay es) e ≡ true) k.whole c)

    had : (x : Thing) → has (replay (with_edit e done)) x ≡ (makes e x || has (replay done) x)
    had x =
        ap (λ es. has (replay es) x) k.with_it
        ∙ late_edit_makes e k.low k.high x rises none_before none
        ∙ ap (λ es. makes e x || has (replay es) x) (sym k.whole)

    now : (g : Edit) → can (replay done) g ≡ false → (b : Bool) → can (replay (with_edit e done)) g ≡ b → Waits (with_edit e done) after g
    now g cant false b = inl b
    now g cant true b =
        let n = new-name (has (replay done)) (has (replay (with_edit e done))) (names_of g.op) cant b in
        inr (n.0, n.1, made n.0 (or-first (makes e n.0) (has (replay done) n.0) (sym (had n.0) ∙ n.3) n.2))

pub edits_are_held : EditsAreHeld
edits_are_held e all done waits hand to_come h cant = record {
  rising = h.rising;
  fit = h.fit;
  done_rise = h.done_rise;
  waits_rise = with_edit-rising e waits h.waits_rise;
  hand_rise = h.hand_rise.1;
  none_held = h.none_held;
  each = λ g m. elim (h.each g m) [
    | inl d ↦ inl d
    | inr o ↦ elim o [
      | inl w ↦ inr (inl (with_edit-keeps g e waits w))
      | inr n ↦ elim n [ inl q ↦ inr (inl (subst (λ x. Member x (with_edit e waits)) q here)) | inr l ↦ inr (inr l) ]
    ]
  ];
  done_in = h.done_in;
  waits_in = λ g m. elim (with_edit-members g e waits m) [ inl q ↦ h.hand_in g (inl q) | inr w ↦ h.waits_in g w ];
  hand_in = λ g m. h.hand_in g (inr m);
  waits_apart = λ g m d. elim (with_edit-members g e waits m) [ inl q ↦ h.hand_apart g (inl q) d | inr w ↦ h.waits_apart g w d ];
  hand_apart = λ g m d. h.hand_apart g (inr m) d;
  hand_new = λ g m n. elim (with_edit-members g e waits n) [ inl q ↦ never e g q (later e g hand h.hand_rise.0 m) | inr w ↦ h.hand_new g (inr m) w ];
  waiting = λ g m. elim (with_edit-members g e waits m) [ inl q ↦ subst (Waits done to_come) q (inl cant) | inr w ↦ h.waiting g w ];
}
  where
    here : Member e (with_edit e waits)
    here = with_edit-has e waits (λ f m s. rising-agree all h.rising f e (h.waits_in f m) (h.hand_in e (inl refl)) (sym s))

-- ---- a thing that is released

turned : (b : Bool) → not b ≡ true → b ≡ false
turned true h = absurd (cc)
turned false h = refl

pub things_are_released : ThingsAreReleased
things_are_released x all done waits to_come after h goes = record {
  rising = h.rising;
  fit = h.fit;
  done_rise = h.done_rise;
  waits_rise = filter-rising (λ e. not (names x e)) waits h.waits_rise;
  hand_rise = filter-rising (names x) waits h.waits_rise;
  none_held = h.none_held;
  each = λ g m. elim (h.each g m) [
    | inl d ↦ inl d
    | inr o ↦ elim o [ inl w ↦ inr (side g w (names x g) refl) | inr n ↦ absurd n ]
  ];
  done_in = h.done_in;
  waits_in = λ g m. h.waits_in g (in-filter (λ e. not (names x e)) g waits m).0;
  hand_in = λ g m. h.waits_in g (in-filter (names x) g waits m).0;
  waits_apart = λ g m d. h.waits_apart g (in-filter (λ e. not (names x e)) g waits m).0 d;
  hand_apart = λ g m d. h.waits_apart g (in-filter (names x) g waits m).0 d;
  hand_new = λ g m n. apart g (in-filter (names x) g waits m).1 (turned (names x g) (in-filter (λ e. not (names x e)) g waits n).1);
  waiting = λ g m. stays g (turned (names x g) (in-filter (λ e. not (names x e)) g waits m).1) (h.waiting g (in-filter (λ e. not (names x e)) g waits m).0);
}
  where
    apart : (g : Edit) → names x g ≡ true → names x g ≡ false → ⊥
    apart g a b = absurd (cc)

    side : (g : Edit) → Member g waits → (b : Bool) → names x g ≡ b → Member g (not_naming x waits) ⊎ Member g (naming x waits)
    side g w true b = inr (to-filter (names x) g waits w b)
    side g w false b = inl (to-filter (λ e. not (names x e)) g waits w (ap not b))

    stays : (g : Edit) → names x g ≡ false → Waits done to_come g → Waits done after g
    stays g cant w = elim w [
      | inl c ↦ inl c
      | inr a ↦ elim (goes a.0 a.2) [ inl q ↦ absurd (apart g (subst (λ y. names y g ≡ true) q a.1) cant) | inr t ↦ inr (a.0, a.1, t) ]
    ]

-- ---- the end

abbrev pub is_one_of : List Edit → Edit → Bool
is_one_of es e = list_any (λ d. same_stamp d.stamp e.stamp) es

pub one-of : (e : Edit) (es : List Edit) → is_one_of es e ≡ true → (d : Edit) × Member d es × (same_stamp d.stamp e.stamp ≡ true)
one-of e [] h = absurd (cc)
one-of e (d ∷ es) h = go (same_stamp d.stamp e.stamp) refl h (λ k. one-of e es k)
  where
    go : (b : Bool) → same_stamp d.stamp e.stamp ≡ b → (b || is_one_of es e) ≡ true
        → (is_one_of es e ≡ true → (f : Edit) × Member f es × (same_stamp f.stamp e.stamp ≡ true))
        → (f : Edit) × Member f (d ∷ es) × (same_stamp f.stamp e.stamp ≡ true)
    go true b k more = (d, inl refl, b)
    go false b k more = let r = more k in (r.0, inr r.1, r.2)

pub of-member : (e : Edit) (es : List Edit) → Member e es → is_one_of es e ≡ true
of-member e [] m = absurd m
of-member e (d ∷ es) m = elim m [
  | inl q ↦ ap (λ v. v || is_one_of es e) (subst (λ (x : Edit). same_stamp d.stamp x.stamp ≡ true) q (same_stamp-itself d.stamp))
  | inr k ↦ ap (λ v. same_stamp d.stamp e.stamp || v) (of-member e es k) ∙ or-last (same_stamp d.stamp e.stamp)
]

pub cascades_end : CascadesEnd
cascades_end all done waits to_come h none = (sym (t.0 ∙ these), sym (t.1 ∙ those))
  where
    test : Edit → Bool
    test e = is_one_of done e

    in-done : (e : Edit) → Member e all → test e ≡ true → Member e done
    in-done e m b =
        let o = one-of e done b in
        subst (λ x. Member x done) (rising-agree all h.rising o.0 e (h.done_in o.0 o.1) m (same_stamp-true o.0.stamp e.stamp o.2)) o.1

    these : filter test all ≡ done
    these = rising-same (filter test all) done (filter-rising test all h.rising) h.done_rise (λ e m. let r = in-filter test e all m in in-done e r.0 r.1) (λ e m. to-filter test e all (h.done_in e m) (of-member e done m))

    waits-not : (e : Edit) → Member e waits → (b : Bool) → test e ≡ b → b ≡ false
    waits-not e m false b = refl
    waits-not e m true b = absurd (h.waits_apart e m (in-done e (h.waits_in e m) b))

    in-waits : (e : Edit) → Member e all → test e ≡ false → Member e waits
    in-waits e m b = elim (h.each e m) [
      | inl d ↦ (let a = of-member e done d in absurd (cc))
      | inr o ↦ elim o [ inl w ↦ w | inr n ↦ absurd n ]
    ]

    those : filter (λ e. not (test e)) all ≡ waits
    those = rising-same (filter (λ e. not (test e)) all) waits (filter-rising (λ e. not (test e)) all h.rising) h.waits_rise (λ e m. let r = in-filter (λ x. not (test x)) e all m in in-waits e r.0 (turned (test e) r.1)) (λ e m. to-filter (λ x. not (test x)) e all (h.waits_in e m) (ap not (waits-not e m (test e) refl)))

    waiting : (e : Edit) → Member e waits → can (replay done) e ≡ false
    waiting e m = elim (h.waiting e m) [ inl c ↦ c | inr a ↦ (let n = none a.0 in let y = a.2 in absurd (cc)) ]

    others : OthersWait test all
    others = all-members (λ e. test e ≡ false → can (replay (filter test all)) e ≡ false) all (λ e m b. ap (λ es. can (replay es) e) these ∙ waiting e (in-waits e m b))

    t : (taken all ≡ filter test all) × (held all ≡ filter (λ e. not (test e)) all)
    t = settled_are_taken test all (subst (λ es. held es ≡ []) (sym these) h.none_held) others
