-- What is listed when an edit begins to wait, and when it no longer does.
use Rattle.std.proofs.Common.{◌≡◌, ◌∙◌, Bool, true, false, cond, not, ◌||◌, ◌&&◌, List, [], ◌∷◌, Some, refl, ap, sym, true≢false}
use Rattle.std.proofs.lemmas.Bool.{and_parts, and_right, or_parts, or_from}
use Rattle.std.specs.List.{find, list_any, AllByRecursion}
use Rattle.zed_types.specs.declared.stamp.Stamp.{Stamp}
use Rattle.zed_types.specs.Stamp.{before, same_stamp}
use Rattle.zed_types.proofs.StampOrder.{same_stamp-true, before_differs_after, same_stamp-sym}
use Rattle.zed_op.specs.declared.op.Edit.{Edit}
use Rattle.zed_op.specs.declared.thing.Thing.{Thing}
use Rattle.zed_op.specs.Set.{IsRising, with_edit}
use Rattle.zed_inbox.specs.Waiting.{names, without}
use Rattle.zed_inbox.specs.Kept.{is_listed, belongs, IsUnlisted, ListsAlso, ListsNoMore, ListsTheSame, AreListed}
use Rattle.zed_inbox.proofs.Stamped.{has_stamp}
use Rattle.zed_inbox.proofs.Taking.{some_or}

-- ---- tests

turn : (a b : Bool) → (a || b) ≡ (b || a)
turn true true = refl
turn true false = refl
turn false true = refl
turn false false = refl

regroup : (a b c : Bool) → (a || (b || c)) ≡ ((a || b) || c)
regroup true b c = refl
regroup false b c = refl

pub and_all : (a : Bool) → (a && true) ≡ a
and_all true = refl
and_all false = refl

-- ---- with an edit

any_with : (test : Edit → Bool) (e : Edit) (es : List Edit) → list_any (has_stamp e.stamp) es ≡ false
    → list_any test (with_edit e es) ≡ (list_any test es || test e)
any_with test e [] none = turn (test e) false
any_with test e (f ∷ fs) none =
    let parts = or_parts (same_stamp f.stamp e.stamp) (list_any (has_stamp e.stamp) fs) none in
    go (before e.stamp f.stamp) (same_stamp e.stamp f.stamp) (same_stamp-sym e.stamp f.stamp ∙ parts.0) (any_with test e fs parts.1)
  where
    go : (b c : Bool) → c ≡ false → list_any test (with_edit e fs) ≡ (list_any test fs || test e)
        → list_any test (cond b (e ∷ f ∷ fs) (cond c (f ∷ fs) (f ∷ with_edit e fs))) ≡ ((test f || list_any test fs) || test e)
    go true c n more = turn (test e) (test f || list_any test fs)
    go false true n more = absurd (true≢false n)
    go false false n more = ap (λ b. test f || b) more ∙ regroup (test f) (list_any test fs) (test e)

pub listed_more : (e : Edit) (es : List Edit) (old new : List (Thing × Stamp)) → list_any (has_stamp e.stamp) es ≡ false → AreListed old es
    → ListsAlso e old new
    → AreListed new (with_edit e es)
listed_more e es old new none are also =
    λ x s. also.each x s ∙ ap (λ b. b || belongs x s e) (are x s) ∙ sym (any_with (belongs x s) e es none)

none_belongs : (x : Thing) (s : Stamp) (es : List Edit) → list_any (has_stamp s) es ≡ false → list_any (belongs x s) es ≡ false
none_belongs x s [] none = refl
none_belongs x s (e ∷ es) none =
    let parts = or_parts (same_stamp e.stamp s) (list_any (has_stamp s) es) none in
    or_from (belongs x s e) (list_any (belongs x s) es) (and_right (names x e) (same_stamp e.stamp s) parts.0) (none_belongs x s es parts.1)

pub unlisted : (s : Stamp) (es : List Edit) (ws : List (Thing × Stamp)) → list_any (has_stamp s) es ≡ false → AreListed ws es
    → IsUnlisted s ws
unlisted s es ws none are = λ x. are x s ∙ none_belongs x s es none

-- nor under its stamp, however it is written
pub unlisted_at : (e : Edit) (ws : List (Thing × Stamp)) (x : Thing) (s : Stamp) → IsUnlisted e.stamp ws → same_stamp e.stamp s ≡ true
    → is_listed x s ws ≡ false
unlisted_at e ws x s none at = ap (λ u. is_listed x u ws) (sym (same_stamp-true e.stamp s at)) ∙ none x

-- ---- without one

found_stamp : (s : Stamp) (es : List Edit) (e : Edit) → find (has_stamp s) es ≡ Some e → same_stamp e.stamp s ≡ true
found_stamp s [] e found = absurd (cc)
found_stamp s (f ∷ fs) e found = go (same_stamp f.stamp s) refl found (λ k. found_stamp s fs e k)
  where
    go : (b : Bool) → same_stamp f.stamp s ≡ b → cond b (Some f) (find (has_stamp s) fs) ≡ Some e
        → (find (has_stamp s) fs ≡ Some e → same_stamp e.stamp s ≡ true)
        → same_stamp e.stamp s ≡ true
    go true is here more = ap (λ (g : Edit). same_stamp g.stamp s) (sym (ap (some_or f) here)) ∙ is
    go false is here more = more here

-- where the edit with a stamp belongs, no other does
only_one : (x : Thing) (t s : Stamp) (e f : Edit) → same_stamp e.stamp s ≡ true → same_stamp f.stamp s ≡ false → belongs x t e ≡ true
    → belongs x t f ≡ false
only_one x t s e f at apart h =
    let parts = and_parts (names x e) (same_stamp e.stamp t) h in
    let one : t ≡ s = sym (same_stamp-true e.stamp t parts.1) ∙ same_stamp-true e.stamp s at in
    and_right (names x f) (same_stamp f.stamp t) (ap (λ u. same_stamp f.stamp u) one ∙ apart)

none_later : (test : Edit → Bool) (f : Edit) (gs : List Edit) → ((g : Edit) → before f.stamp g.stamp ≡ true → test g ≡ false)
    → AllByRecursion (λ g. before f.stamp g.stamp ≡ true) gs
    → list_any test gs ≡ false
none_later test f [] n a = refl
none_later test f (g ∷ gs) n a = or_from (test g) (list_any test gs) (n g a.0) (none_later test f gs n a.1)

without_first : (b c a : Bool) → b ≡ c → (c ≡ true → a ≡ false) → a ≡ ((b || a) && not c)
without_first true true a e n = n refl
without_first true false a e n = absurd (true≢false e)
without_first false true a e n = absurd (true≢false (sym e))
without_first false false a e n = sym (and_all a)

without_next : (b c a : Bool) → (c ≡ true → b ≡ false) → (b || (a && not c)) ≡ ((b || a) && not c)
without_next true true a n = absurd (true≢false (n refl))
without_next true false a n = refl
without_next false c a n = refl

any_without : (test : Edit → Bool) (s : Stamp) (es : List Edit) (e : Edit) → IsRising es → find (has_stamp s) es ≡ Some e
    → ((f : Edit) → same_stamp f.stamp s ≡ false → test e ≡ true → test f ≡ false)
    → list_any test (without s es) ≡ (list_any test es && not (test e))
any_without test s [] e r found only = absurd (cc)
any_without test s (f ∷ fs) e r found only = go (same_stamp f.stamp s) refl found (λ k. any_without test s fs e r.1 k only)
  where
    go : (b : Bool) → same_stamp f.stamp s ≡ b → cond b (Some f) (find (has_stamp s) fs) ≡ Some e
        → (find (has_stamp s) fs ≡ Some e → list_any test (without s fs) ≡ (list_any test fs && not (test e)))
        → list_any test (cond b fs (f ∷ without s fs)) ≡ ((test f || list_any test fs) && not (test e))
    go true is here more =
        let past : (g : Edit) → before f.stamp g.stamp ≡ true → same_stamp g.stamp s ≡ false =
        λ g b. ap (λ t. same_stamp g.stamp t) (sym (same_stamp-true f.stamp s is)) ∙ before_differs_after f.stamp g.stamp b in
        without_first (test f) (test e) (list_any test fs) (ap test (ap (some_or f) here)) (λ k. none_later test f fs (λ g b. only g (past g b) k) r.0)
    go false is here more = ap (λ b. test f || b) (more here) ∙ without_next (test f) (test e) (list_any test fs) (only f is)

pub listed_less : (s : Stamp) (e : Edit) (es : List Edit) (old new : List (Thing × Stamp)) → IsRising es → find (has_stamp s) es ≡ Some e
    → AreListed old es → ListsNoMore e old new
    → AreListed new (without s es)
listed_less s e es old new r found are gone = λ x t.
    gone.each x t ∙ ap (λ b. b && not (belongs x t e)) (are x t)
    ∙ sym (any_without (belongs x t) s es e r found (λ f apart h. only_one x t s e f (found_stamp s es e found) apart h))

pub listed_same : (es : List Edit) (old new : List (Thing × Stamp)) → AreListed old es → ListsTheSame old new → AreListed new es
listed_same es old new are same = λ x s. same.each x s ∙ are x s

-- put in for an edit, and taken out again
back_out : (o b : Bool) → (b ≡ true → o ≡ false) → ((o || b) && not b) ≡ o
back_out true true h = absurd (true≢false (h refl))
back_out false true h = refl
back_out true false h = refl
back_out false false h = refl

pub listed_back : (e : Edit) (es : List Edit) (old mid new : List (Thing × Stamp)) → list_any (has_stamp e.stamp) es ≡ false
    → AreListed old es → ListsAlso e old mid → ListsNoMore e mid new
    → AreListed new es
listed_back e es old mid new none are also gone = λ x s.
    gone.each x s ∙ ap (λ b. b && not (belongs x s e)) (also.each x s)
    ∙ back_out (is_listed x s old) (belongs x s e) (λ h. unlisted_at e old x s (unlisted e.stamp es old none are) (and_parts (names x e) (same_stamp e.stamp s) h).1)
    ∙ are x s
