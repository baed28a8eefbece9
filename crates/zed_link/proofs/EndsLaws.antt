-- What several calls of a link do together.
use Rattle.std.proofs.Common.{◌≡◌, ◌∙◌, ◌++◌, ◌+◌, ◌<◌, ◌≤◌, ℕ, false, List, [], Option, Some, None, refl, sym, ap, subst, append_assoc, arith}
use Rattle.zed_link.specs.Counting.{Counted}
use Rattle.zed_link.specs.Ends.{AtItsEnd, Changed, FailedBehind, HandedAll, HandedOver, LinkEnds, Promise, Took, TookFront}

-- none was counted yet
pub none_counted : (a : ℕ) → Counted 0 a a
none_counted a = (omega arith, λ room. omega arith)

-- so many were counted, and then one more
pub one_more : (n a b c : ℕ) → Counted n a b → Counted 1 b c → Counted (n + 1) a c
one_more n a b c h k =
    let most = h.0 in
    let one = k.0 in (
      omega arith,
      λ room.
          let before : b ≡ a + n = h.1 (omega arith) in
          let last : c ≡ b + 1 = k.1 (omega arith) in
          omega arith,
    )

-- some that may be made were counted, and then one more
pub one_within : (n most a b c : ℕ) → n < most → Counted n a b → Counted 1 b c → c ≤ a + most
one_within n most a b c few h k = let first = h.0 in let one = k.0 in omega arith

-- bytes were taken, and then others
pub took_more : (xs ys : List ℕ) (a b c : Option LinkEnds) → Changed (Took xs) a b → Changed (Took ys) b c → Changed (Took (xs ++ ys)) a c
took_more xs ys None b c h k = tt
took_more xs ys (Some t) b c h k =
    let l = subst (λ b. Changed (Took ys) b c) h.2 k in
    (l.0, (l.1.0 ∙ ap (λ z. z ++ ys) h.1.0 ∙ append_assoc t.taken xs ys, l.1.1 ∙ h.1.1, l.1.2 ∙ h.1.2), l.2)

-- bytes were taken, and then a front of the rest
pub took_front : (xs ys whole : List ℕ) (a b c : Option LinkEnds) → whole ≡ xs ++ ys → Changed (Took xs) a b → Changed (TookFront ys) b c
    → Changed (TookFront whole) a c
took_front xs ys whole None b c is h k = tt
took_front xs ys whole (Some t) b c is h k =
    let l = subst (λ b. Changed (TookFront ys) b c) h.2 k in
    let front = l.1.0 in
    let back = l.1.1 in
    let took = l.1.3 in (
      l.0,
      (
        xs ++ front,
        back,
        is ∙ ap (λ z. xs ++ z) l.1.2 ∙ sym (append_assoc xs front back),
        (took.0 ∙ ap (λ z. z ++ front) h.1.0 ∙ append_assoc t.taken xs front, took.1 ∙ h.1.1, took.2 ∙ h.1.2),
      ),
      l.2,
    )

-- bytes were handed over, and then others
pub handed_more : (xs ys : List ℕ) (a b c : Option LinkEnds) → Changed (HandedOver xs) a b → Changed (HandedOver ys) b c
    → Changed (HandedOver (xs ++ ys)) a c
handed_more xs ys None b c h k = tt
handed_more xs ys (Some t) b c h k =
    let l = subst (λ b. Changed (HandedOver ys) b c) h.2 k in
    (l.0, (h.1.0 ∙ ap (λ z. xs ++ z) l.1.0 ∙ sym (append_assoc xs ys l.0.left), l.1.1 ∙ h.1.1, l.1.2 ∙ h.1.2), l.2)

-- bytes were handed over, and then a read failed
pub fails_behind : (xs : List ℕ) (a b c : Option LinkEnds) → Changed (HandedOver xs) a b → Changed (FailedBehind []) b c
    → Changed (FailedBehind xs) a c
fails_behind xs None b c h k = tt
fails_behind xs (Some t) b c h k =
    let l = subst (λ b. Changed (FailedBehind []) b c) h.2 k in
    (l.0, ((h.1.0 ∙ ap (λ z. xs ++ z) l.1.0.0, l.1.0.1 ∙ h.1.1, l.1.0.2 ∙ h.1.2), ap (λ (p : Promise). p.unfailing) (sym h.1.2) ∙ l.1.1), l.2)

-- nothing was handed over yet
pub none_handed : (a : Option LinkEnds) → Changed (HandedOver []) a a
none_handed None = tt
none_handed (Some t) = (t, (refl, refl, refl), refl)

-- a read of nothing is the end
pub end_comes : (a b : Option LinkEnds) → Changed (HandedOver []) a b → AtItsEnd a → Changed (HandedAll []) a b
end_comes None b h end = tt
end_comes (Some t) b h end = (h.0, (h.1, sym h.1.0 ∙ end), h.2)

-- bytes were handed over, and then none, at the end
pub handed_all : (xs : List ℕ) (a b c : Option LinkEnds) → Changed (HandedOver xs) a b → Changed (HandedAll []) b c
    → Changed (HandedAll xs) a c
handed_all xs None b c h k = tt
handed_all xs (Some t) b c h k =
    let l = subst (λ b. Changed (HandedAll []) b c) h.2 k in
    (l.0, ((h.1.0 ∙ ap (λ z. xs ++ z) l.1.0.0, l.1.0.1 ∙ h.1.1, l.1.0.2 ∙ h.1.2), l.1.1), l.2)

pub handed_over : (xs : List ℕ) (a b : Option LinkEnds) → Changed (HandedAll xs) a b → Changed (HandedOver xs) a b
handed_over xs None b h = tt
handed_over xs (Some t) b h = (h.0, h.1.0, h.2)

pub failed_over : (xs : List ℕ) (a b : Option LinkEnds) → Changed (FailedBehind xs) a b → Changed (HandedOver xs) a b
failed_over xs None b h = tt
failed_over xs (Some t) b h = (h.0, h.1.0, h.2)

-- a link whose ends are told failed, and so it may
pub may_fail : (xs : List ℕ) (t : LinkEnds) (a b : Option LinkEnds) → a ≡ Some t → Changed (FailedBehind xs) a b
    → t.promise.unfailing ≡ false
may_fail xs t a b told h = (subst (λ (o : Option LinkEnds). Changed (FailedBehind xs) o b) told h).1.1
