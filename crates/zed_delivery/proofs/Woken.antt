-- What one edit more leaves held, and how many others it wakes.
use Rattle.std.proofs.Common.{◌≡◌, ◌+◌, ◌∙◌, Bool, true, false, not, cond, List, [], ◌∷◌, ◌++◌, length, map, filter, refl, ap, sym, subst, arith}
use Rattle.std.specs.List.{list_any, count_by}
use Rattle.std.proofs.lemmas.List.Filters.{length-filter_both}
use Rattle.std.proofs.lemmas.List.Sums.{length-filter, sum_by-cons}
use mathlib.Core.Logic.{inl, inr}
use Rattle.zed_types.specs.declared.stamp.Stamp.{Stamp}
use Rattle.zed_types.specs.Stamp.{same_stamp}
use Rattle.zed_types.proofs.StampOrder.{same_stamp-true, same_stamp-itself}
use Rattle.zed_op.specs.declared.op.Edit.{Edit}
use Rattle.zed_op.specs.Fit.{Fits}
use Rattle.zed_op.specs.Set.{IsRising, AllFit, with_edit}
use Rattle.zed_op.proofs.Sets.{Member, Member-from, Member-to, Member-all, with_edit-rising, with_edit-keeps, with_edit-has, rising-agree, rising-same}
use Rattle.zed_edit.specs.Document.{empty_document}
use Rattle.zed_edit.specs.Replay.{can, replay, held}
use Rattle.zed_laws.proofs.ReplaySteps.{held_are_remembered}
use Rattle.zed_laws.proofs.TakenAlone.{late_edit_holds_no_other}
use Rattle.zed_laws.proofs.EarlierThings.{earlier_decide}
use Rattle.zed_laws.proofs.HeldAlone.{held_is_one_more}
use Rattle.zed_delivery.specs.Taking.{IsApart, is_held, woken}
use Rattle.zed_delivery.proofs.Members.{never, later, held-rising, held-in, held-at, in-filter, to-filter, filter-rising, IsCut, cut, all-behind}
use Rattle.zed_delivery.proofs.Cascades.{is_one_of, one-of, of-member}

-- ---- a rising list is cut at an edit in one way

in-middle : (e : Edit) (low high : List Edit) → Member e (low ++ e ∷ high)
in-middle e [] high = inl refl
in-middle e (f ∷ low) high = inr (in-middle e low high)

head-same : (e f : Edit) (es fs : List Edit) → e ∷ es ≡ f ∷ fs → e ≡ f
head-same e f es fs q = cc

rest-same : (e f : Edit) (es fs : List Edit) → e ∷ es ≡ f ∷ fs → es ≡ fs
rest-same e f es fs q = cc

one-cut : (e : Edit) (low high below above : List Edit) → IsRising (low ++ e ∷ high) → low ++ e ∷ high ≡ below ++ e ∷ above → low ≡ below
one-cut e [] high [] above r q = refl
one-cut e [] high (x ∷ below) above r q =
    absurd (never e e refl (later e e high r.0 (subst (Member e) (sym (rest-same e x high (below ++ e ∷ above) q)) (in-middle e below above))))
one-cut e (x ∷ low) high [] above r q =
    absurd (never x e (head-same x e (low ++ e ∷ high) above q) (later x e (low ++ e ∷ high) r.0 (in-middle e low high)))
one-cut e (x ∷ low) high (y ∷ below) above r q =
    ap (λ z. z ∷ low) (head-same x y (low ++ e ∷ high) (below ++ e ∷ above) q)
    ∙ ap (λ zs. y ∷ zs) (one-cut e low high below above r.1 (rest-same x y (low ++ e ∷ high) (below ++ e ∷ above) q))

-- ---- the stamps of the edits that are held

any-stamp : (s : Stamp) (es : List Edit)
    → list_any (λ t. same_stamp t s) (map (λ e. e.stamp) es) ≡ list_any (λ (d : Edit). same_stamp d.stamp s) es
any-stamp s [] = refl
any-stamp s (e ∷ es) = rw (any-stamp s es) refl

-- the stamp of an edit is among those held where an edit of its stamp is held
held-one : (es : List Edit) (e : Edit) → is_held es e.stamp ≡ is_one_of (held es) e
held-one es e = ap (list_any (λ t. same_stamp t e.stamp)) (sym (held_are_remembered es)) ∙ any-stamp e.stamp (held es)

count-stamps : (q : Stamp → Bool) (es : List Edit) → count_by q (map (λ e. e.stamp) es) ≡ count_by (λ (e : Edit). q e.stamp) es
count-stamps q [] = refl
count-stamps q (e ∷ es) =
    sum_by-cons (λ s. cond (q s) 1 0) e.stamp (map (λ f. f.stamp) es)
    ∙ ap (λ n. cond (q e.stamp) 1 0 + n) (count-stamps q es)
    ∙ sym (sum_by-cons (λ (f : Edit). cond (q f.stamp) 1 0) e es)

-- how many were held and are no longer
pub woken-edits : (old new : List Edit) → woken old new ≡ length (filter (λ (f : Edit). not (is_held new f.stamp)) (held old))
woken-edits old new =
    ap (count_by (λ s. not (is_held new s))) (sym (held_are_remembered old))
    ∙ count-stamps (λ s. not (is_held new s)) (held old)
    ∙ sym (length-filter (λ (f : Edit). not (is_held new f.stamp)) (held old))

-- ---- one edit more

-- where one edit more stands among others
record Comes (e : Edit) (es : List Edit) : Type 0 where
  pub place : IsCut e es
  pub rises : IsRising (place.low ++ e ∷ place.high)
  pub fits : AllFit (e ∷ place.high)
  pub is_there : Member e (with_edit e es)
  pub apart : (f : Edit) → Member f es → e ≡ f → ⊥

comes : (e : Edit) (es : List Edit) → IsRising es → AllFit es → Fits e → IsApart e es → Comes e es
comes e es r f fits n = record {
  place = k;
  rises = subst IsRising k.with_it (with_edit-rising e es r);
  fits = (fits, all-behind Fits k.low k.high (subst AllFit k.whole f));
  is_there = with_edit-has e es (λ f m s. let d = differs f m in let t = subst (λ x. same_stamp e.stamp x ≡ true) s (same_stamp-itself e.stamp) in absurd (cc));
  apart = λ f m q. let d = differs f m in let t = subst (λ (x : Edit). same_stamp e.stamp x.stamp ≡ true) q (same_stamp-itself e.stamp) in absurd (cc);
}
  where
    k : IsCut e es
    k = cut e es n

    differs : (f : Edit) → Member f es → same_stamp e.stamp f.stamp ≡ false
    differs f m = Member-all (λ g. same_stamp e.stamp g.stamp ≡ false) es n f m

can-there : (e : Edit) (es : List Edit) (c : Comes e es) → can (replay es) e ≡ can (replay c.place.low) e
can-there e es c = ap (λ xs. can (replay xs) e) c.place.whole ∙ earlier_decide e c.place.low c.place.high c.rises c.fits

-- an edit that can be done isn't held
done-not-held : (e : Edit) (es : List Edit) → Comes e es → can (replay es) e ≡ true → Member e (held (with_edit e es)) → ⊥
done-not-held e es c able m =
    let k = c.place in
    let at = held-at empty_document e (with_edit e es) m in
    let same : k.low ≡ at.low = one-cut e k.low k.high at.low at.high c.rises (sym k.with_it ∙ at.whole) in
    let cant : can (replay k.low) e ≡ false = subst (λ xs. can (replay xs) e ≡ false) (sym same) at.held in
    let now : can (replay k.low) e ≡ true = sym (can-there e es c) ∙ able in
    absurd (cc)

-- one that can't be done is one more of those held
held-with : (e : Edit) (es : List Edit) → Comes e es → can (replay es) e ≡ false → held (with_edit e es) ≡ with_edit e (held es)
held-with e es c cant =
    let k = c.place in
    ap held k.with_it
    ∙ held_is_one_more e k.low k.high c.rises (sym (can-there e es c) ∙ cant)
    ∙ ap (λ xs. with_edit e (held xs)) (sym k.whole)

-- the edit held of a stamp that is held
held-same : (e : Edit) (es all : List Edit) → IsRising all → ((f : Edit) → Member f es → Member f all) → Member e all
    → is_one_of es e ≡ true
    → Member e es
held-same e es all r in-all m h =
    let o = one-of e es h in
    subst (λ x. Member x es) (rising-agree all r o.0 e (in-all o.0 o.1) m (same_stamp-true o.0.stamp e.stamp o.2)) o.1

pub told-done : (e : Edit) (es : List Edit) → IsRising es → AllFit es → Fits e → IsApart e es → can (replay es) e ≡ true
    → is_held (with_edit e es) e.stamp ≡ false
told-done e es r f fits n able = held-one (with_edit e es) e ∙ go (is_one_of (held (with_edit e es)) e) refl
  where
    c : Comes e es
    c = comes e es r f fits n

    go : (b : Bool) → is_one_of (held (with_edit e es)) e ≡ b → b ≡ false
    go false h = refl
    go true h = absurd (done-not-held e es c able (held-same e (held (with_edit e es)) (with_edit e es) (with_edit-rising e es r) (λ g m. held-in empty_document g (with_edit e es) m) c.is_there h))

pub told-held : (e : Edit) (es : List Edit) → IsRising es → AllFit es → Fits e → IsApart e es → can (replay es) e ≡ false
    → is_held (with_edit e es) e.stamp ≡ true
told-held e es r f fits n cant =
    held-one (with_edit e es) e
    ∙ ap (λ xs. is_one_of xs e) (held-with e es c cant)
    ∙ of-member e (with_edit e (held es)) (with_edit-has e (held es) (λ g m s. absurd (other g m s)))
  where
    c : Comes e es
    c = comes e es r f fits n

    other : (g : Edit) → Member g (held es) → e.stamp ≡ g.stamp → ⊥
    other g m s =
        let d = Member-all (λ x. same_stamp e.stamp x.stamp ≡ false) es n g (held-in empty_document g es m) in
        let t = subst (λ x. same_stamp e.stamp x ≡ true) s (same_stamp-itself e.stamp) in
        absurd (cc)

-- where it is done, those that are held were held before
still-held-were : (e : Edit) (es : List Edit) → Comes e es → can (replay es) e ≡ true → (g : Edit) → Member g (held (with_edit e es))
    → Member g (held es)
still-held-were e es c able g m =
    let k = c.place in
    let there = Member-to g (held (k.low ++ e ∷ k.high)) (subst (λ xs. Member g (held xs)) k.with_it m) in
    elim (late_edit_holds_no_other e g k.low k.high c.rises c.fits there) [
      | inl q ↦ absurd (done-not-held e es c able (subst (λ x. Member x (held (with_edit e es))) q m))
      | inr h ↦ subst (λ xs. Member g (held xs)) (sym k.whole) (Member-from g (held (k.low ++ k.high)) h)
    ]

-- and they are those held before that are held still
pub still-held : (e : Edit) (es : List Edit) → IsRising es → AllFit es → Fits e → IsApart e es → can (replay es) e ≡ true
    → filter (λ (g : Edit). is_held (with_edit e es) g.stamp) (held es) ≡ held (with_edit e es)
still-held e es r f fits n able =
    rising-same (filter still (held es)) (held new) (filter-rising still (held es) (held-rising empty_document es r)) (held-rising empty_document new rises)
    (λ g m. let h = in-filter still g (held es) m in held-same g (held new) new rises (λ x k. held-in empty_document x new k) (with_edit-keeps g e es (held-in empty_document g es h.0)) (sym (held-one new g) ∙ h.1))
    (λ g m. to-filter still g (held es) (still-held-were e es c able g m) (held-one new g ∙ of-member g (held new) m))
  where
    new : List Edit
    new = with_edit e es

    still : Edit → Bool
    still g = is_held new g.stamp

    c : Comes e es
    c = comes e es r f fits n

    rises : IsRising new
    rises = with_edit-rising e es r

pub woken-done : (e : Edit) (es : List Edit) → IsRising es → AllFit es → Fits e → IsApart e es → can (replay es) e ≡ true
    → woken es (with_edit e es) + length (held (with_edit e es)) ≡ length (held es)
woken-done e es r f fits n able =
    let both = length-filter_both still gone (λ x. refl) (held es) in
    let left : length (filter still (held es)) ≡ length (held new) = ap length (still-held e es r f fits n able) in
    let count = woken-edits es new in
    omega (arith, both, left, count)
  where
    new : List Edit
    new = with_edit e es

    still : Edit → Bool
    still g = is_held new g.stamp

    gone : Edit → Bool
    gone g = not (is_held new g.stamp)

none-pass : (q : Edit → Bool) (es : List Edit) → ((g : Edit) → Member g es → q g ≡ false) → filter q es ≡ []
none-pass q [] h = refl
none-pass q (e ∷ es) h = rw (h e (inl refl)) (none-pass q es (λ g m. h g (inr m)))

pub woken-held : (e : Edit) (es : List Edit) → IsRising es → AllFit es → Fits e → IsApart e es → can (replay es) e ≡ false
    → woken es (with_edit e es) ≡ 0
woken-held e es r f fits n cant =
    woken-edits es (with_edit e es)
    ∙ ap length (none-pass (λ (g : Edit). not (is_held (with_edit e es) g.stamp)) (held es) (λ g m. ap not (stays g m)))
  where
    stays : (g : Edit) → Member g (held es) → is_held (with_edit e es) g.stamp ≡ true
    stays g m =
        held-one (with_edit e es) g
        ∙ of-member g (held (with_edit e es)) (subst (Member g) (sym (held-with e es (comes e es r f fits n) cant)) (with_edit-keeps g e (held es) m))
