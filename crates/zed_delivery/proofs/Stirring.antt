-- How the runs of texts grow as edits are put in, and how their counts rise.
use Rattle.std.proofs.Common.{◌≡◌, ◌∙◌, ℕ, ◌≤◌, ◌+◌, Bool, true, false, cond, List, [], ◌∷◌, length, count_by, Option, Some, None, ap, sym, subst, arith}
use Rattle.std.proofs.lemmas.List.Sums.{sum_by-cons}
use mathlib.Core.Logic.{inl, inr}
use Rattle.zed_types.specs.Stamp.{before, same_stamp}
use Rattle.zed_types.specs.declared.names.TextId.{TextId}
use Rattle.zed_op.specs.declared.op.Edit.{Edit}
use Rattle.zed_op.specs.Set.{with_edit}
use Rattle.zed_code.specs.Pieces.{Shown}
use Rattle.zed_code.specs.Visits.{greatest, raised}
use Rattle.zed_edit.specs.Replay.{taken}
use Rattle.zed_texts.specs.ByName.{text_in}
use Rattle.zed_texts.specs.Texts.{Texts, changes_text, Grows, AllGrow}
use Rattle.zed_delivery.specs.declared.body.Body.{Body}
use Rattle.zed_delivery.specs.declared.take.Taken.{Taken}
use Rattle.zed_delivery.specs.Counts.{edits_of, HasFew, HaveFew, IsNoLess, NoneFalls, Works}
use Rattle.zed_delivery.specs.Steps.{IsInHand}
use Rattle.zed_delivery.specs.Stirring.{Stirs, IsDoneWithAll}
use Rattle.zed_delivery.specs.Taking.{IsApart, IsNewTo}

-- ---- how many edits are of a text

count-cons : (q : Edit → Bool) (e : Edit) (es : List Edit) → count_by q (e ∷ es) ≡ cond (q e) 1 0 + count_by q es
count-cons q e es = sum_by-cons (λ x. cond (q x) 1 0) e es

count-more : (q : Edit → Bool) (e : Edit) (es : List Edit) → IsApart e es → count_by q (with_edit e es) ≡ cond (q e) 1 0 + count_by q es
count-more q e [] new = count-cons q e []
count-more q e (f ∷ fs) new = go (before e.stamp f.stamp) (same_stamp e.stamp f.stamp) new.0 (count-more q e fs new.1)
  where
    go : (a b : Bool) → b ≡ false → count_by q (with_edit e fs) ≡ cond (q e) 1 0 + count_by q fs
        → count_by q (cond a (e ∷ f ∷ fs) (cond b (f ∷ fs) (f ∷ with_edit e fs))) ≡ cond (q e) 1 0 + count_by q (f ∷ fs)
    go true b n more = count-cons q e (f ∷ fs)
    go false true n more = absurd (cc)
    go false false n more =
        let behind = count-cons q f (with_edit e fs) in
        let all = count-cons q f fs in
        omega (arith, more, behind, all)

-- ---- how texts grow

raised-most : (v k : ℕ) → raised v k ≤ greatest
raised-most v k = omega arith

raised-least : (v k : ℕ) → v ≤ greatest → v ≤ raised v k
raised-least v k h = omega (arith, h)

pub few_more : (e : Edit) (done : List Edit) (xs ys : Texts) → IsApart e done → HaveFew done xs → AllGrow (λ t. changes_text t e.op) xs ys
    → HaveFew (with_edit e done) ys
few_more e done xs ys new few grow t =
    go (changes_text t e.op) (count-more (λ f. changes_text t f.op) e done new) (text_in t xs) (text_in t ys) (few t) (grow t)
  where
    go : (c : Bool) → edits_of t (with_edit e done) ≡ cond c 1 0 + edits_of t done → (o p : Option Shown) → HasFew (edits_of t done) o
        → Grows c o p
        → HasFew (edits_of t (with_edit e done)) p
    go c n o None f g = tt
    go c n None (Some y) f g = (omega (arith, g.0), omega (arith, g.1))
    go true n (Some x) (Some y) f g =
        let more : edits_of t (with_edit e done) ≡ 1 + edits_of t done = n in
        (omega (arith, more, f.0, g.0), subst (λ v. v ≤ greatest) (sym g.1.1) (raised-most x.visits g.1.0))
    go false n (Some x) (Some y) f g =
        let same : edits_of t (with_edit e done) ≡ 0 + edits_of t done = n in
        subst (λ z. HasFew (edits_of t (with_edit e done)) (Some z)) g (omega (arith, same, f.0), f.1)

pub few_of_none : HaveFew [] []
few_of_none t = tt

-- ---- how counts rise

less-itself : (o : Option Shown) → IsNoLess o o
less-itself None = tt
less-itself (Some x) = omega arith

pub none_falls-itself : (xs ys : Texts) → ys ≡ xs → NoneFalls xs ys
none_falls-itself xs ys h = subst (NoneFalls xs) (sym h) (λ t. less-itself (text_in t xs))

less-through : (o p q : Option Shown) → IsNoLess o p → IsNoLess p q → IsNoLess o q
less-through None p q a b = tt
less-through (Some x) None q a b = absurd a
less-through (Some x) (Some y) None a b = absurd b
less-through (Some x) (Some y) (Some z) a b = omega (arith, a, b)

pub none_falls-through : (xs ys zs : Texts) → NoneFalls xs ys → NoneFalls ys zs → NoneFalls xs zs
none_falls-through xs ys zs a b t = less-through (text_in t xs) (text_in t ys) (text_in t zs) (a t) (b t)

pub grown_falls_not : (changed : TextId → Bool) (es : List Edit) (xs ys : Texts) → HaveFew es xs → AllGrow changed xs ys → NoneFalls xs ys
grown_falls_not changed es xs ys few grow t = go (changed t) (text_in t xs) (text_in t ys) (few t) (grow t)
  where
    go : (c : Bool) (o p : Option Shown) → HasFew (edits_of t es) o → Grows c o p → IsNoLess o p
    go c None p f g = tt
    go c (Some x) None f g = absurd g
    go true (Some x) (Some y) f g = subst (λ v. x.visits ≤ v) (sym g.1.1) (raised-least x.visits g.1.0 f.1)
    go false (Some x) (Some y) f g = subst (λ (z : Shown). x.visits ≤ z.visits) g (omega arith)

-- ---- a cascade

pub stirs_done : (e : Edit) (b c : Body) → IsInHand e b → AllGrow (λ t. changes_text t e.op) b.texts c.texts → c.inbox ≡ b.inbox
    → Stirs 1 b c
stirs_done e b c hand grow same = record {
  none_falls = grown_falls_not (λ t. changes_text t e.op) hand.3.0 b.texts c.texts hand.3.1.few grow;
  fewer = inr (let n = ap length same in omega (arith, n));
}

pub stirs_on : (n m : ℕ) (b c d : Body) → Stirs n b c → Stirs m c d → Stirs (n + m) b d
stirs_on n m b c d s t = record {
  none_falls = none_falls-through b.texts c.texts d.texts s.none_falls t.none_falls;
  fewer = elim s.fewer [
    | inl a ↦ elim t.fewer [ inl z ↦ inl (z.0 ∙ a.0, omega (arith, a.1, z.1)) | inr l ↦ inr (omega (arith, a.1, l)) ]
    | inr l ↦ inr (elim t.fewer [ inl z ↦ omega (arith, l, z.1) | inr k ↦ omega (arith, l, k) ])
  ];
}

pub stirs_released : (n : ℕ) (b c d : Body) → c.texts ≡ b.texts → n + length c.inbox ≡ length b.inbox → Stirs n c d → Stirs 0 b d
stirs_released n b c d same all s = record {
  none_falls = none_falls-through b.texts c.texts d.texts (none_falls-itself b.texts c.texts same) s.none_falls;
  fewer = elim s.fewer [ inl a ↦ inl (a.0 ∙ same, omega (arith, a.1, all)) | inr l ↦ inr (omega (arith, l, all)) ];
}

-- ---- an edit that is taken

pub done_with_all : (e : Edit) (b c d x : Body) → IsNewTo e b → AllGrow (λ t. changes_text t e.op) b.texts c.texts → c.inbox ≡ b.inbox
    → Stirs 0 c d → Stirs 0 d x
    → IsDoneWithAll e b x
done_with_all e b c d x new grow same wakes settles =
    let on = stirs_on 0 0 c d x wakes settles in
    let was = ap length same in
    record {
      none_falls = none_falls-through b.texts c.texts x.texts (grown_falls_not (λ t. changes_text t e.op) (taken new.0) b.texts c.texts new.1.shows.content.few grow) on.none_falls;
      first = (c.texts, grow, on.none_falls);
      alone = λ le. elim on.fewer [
        | inl a ↦ subst (λ ys. AllGrow (λ t. changes_text t e.op) b.texts ys) (sym a.0) grow
        | inr l ↦ absurd (omega (arith, le, l, was))
      ];
    }

pub works_held : (e : Edit) (t : Taken) (xs ys : Texts) → t.held ≡ true → ys ≡ xs → Works e t xs ys
works_held e t xs ys waits same = record {
  none_falls = none_falls-itself xs ys same;
  held = λ h. same;
  done = λ h. absurd (cc);
  calm = λ h k. absurd (cc);
}

pub works_done : (e : Edit) (t : Taken) (b c : Body) → t.held ≡ false → (t.woken ≡ 0 → length b.inbox ≤ length c.inbox)
    → IsDoneWithAll e b c
    → Works e t b.texts c.texts
works_done e t b c goes count done = record {
  none_falls = done.none_falls;
  held = λ h. absurd (cc);
  done = λ h. done.first;
  calm = λ h k. done.alone (count k);
}
