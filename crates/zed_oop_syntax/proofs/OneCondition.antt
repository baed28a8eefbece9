-- At each place stands one condition.
use Rattle.std.proofs.Common.{◌≡◌, ◌∙◌, ◌⊎◌, ◌+◌, ◌≤◌, inl, inr, ℕ, zero, suc, length, arith, Bool, true, false, not, cond, List, Option, Some, None, refl, sym, ap, subst, codes}
use Rattle.std.specs.Str.{bytes_eq}
use Rattle.zed_oop_syntax.specs.declared.conditions.Query.{Query}
use Rattle.zed_oop_syntax.specs.declared.conditions.Test.{Test}
use Rattle.zed_oop_syntax.specs.declared.conditions.Test.TheVariants.{Aligned, Contact, Blocked, Any, Energized, Flag}
use Rattle.zed_oop_syntax.specs.declared.kinds.TileKind.{TileKind}
use Rattle.zed_oop_syntax.specs.Text.{word_at, word_end}
use Rattle.zed_oop_syntax.specs.Heading.{DirectionAt}
use Rattle.zed_oop_syntax.specs.Kind.{kind_at}
use Rattle.zed_oop_syntax.specs.Condition.{ConditionAt, PartAt, PartBehind, QueryAt, is_question, negation, plain}
use Rattle.zed_oop_syntax.proofs.Building.{Alone, Built, alone_one, built_one, by_either, by_word}
use Rattle.zed_oop_syntax.proofs.ConditionLemmas.{not_moves}
use Rattle.zed_oop_syntax.proofs.OneDirection.{direction_one, direction_there}
use Rattle.zed_oop_syntax.proofs.TextLemmas.{word_end_within}

-- what a word asks
data Asked : Type 0 where
  AsksNot : Asked
  AsksAligned : Asked
  AsksContact : Asked
  AsksBlocked : Asked
  AsksAny : Asked
  AsksEnergized : Asked
  AsksFlag : Asked

asked_by : List ℕ → Asked
asked_by w =
    cond (bytes_eq w (codes "NOT")) AsksNot
    (cond (bytes_eq w (codes "ALLIGNED")) AsksAligned
    (cond (bytes_eq w (codes "CONTACT")) AsksContact
    (cond (bytes_eq w (codes "BLOCKED")) AsksBlocked
    (cond (bytes_eq w (codes "ANY")) AsksAny
    (cond (bytes_eq w (codes "ENERGIZED")) AsksEnergized AsksFlag)))))

asked : List ℕ → Asked
asked w = cond (is_question w) (asked_by w) AsksFlag

flag_asked : (w : List ℕ) → is_question w ≡ false → asked w ≡ AsksFlag
unfolding asked
flag_asked w e = ap (λ b. cond b (asked_by w) AsksFlag) e

-- a kind of which ANY asks
pub kind_one : (p : List ℕ) (at : ℕ) (player : Bool) (k j : Option TileKind) (m n : ℕ) → kind_at p at player ≡ (k, m)
    → kind_at p at player ≡ (j, n)
    → (k ≡ j) × (m ≡ n)
kind_one p at player k j m n x y =
    let same : (k, m) ≡ (j, n) = sym x ∙ y in
    (ap (λ r. r.0) same, ap (λ r. r.1) same)

-- a test, or NOT, by what its word asks
Seen : List ℕ → ℕ → List ℕ → Asked → Option Test → ℕ → Type 0
Seen p at w AsksNot = Alone None at
Seen p at w AsksAligned = Alone (Some Aligned) at
Seen p at w AsksContact = Alone (Some Contact) at
Seen p at w AsksBlocked = Built (λ h. Some (Blocked h)) (DirectionAt p at)
Seen p at w AsksAny = Built (λ k. Some (Any k)) (λ k end. kind_at p at true ≡ (k, end))
Seen p at w AsksEnergized = Alone (Some Energized) at
Seen p at w AsksFlag = Alone (Some (Flag w)) at

seen : (p : List ℕ) (w : List ℕ) (at : ℕ) (o : Option Test) (end : ℕ) → PartBehind p w at o end → Seen p at w (asked w) o end
unfolding Seen asked asked_by is_question
seen p w at None end x = let P : Asked → Type 0 = λ a. Seen p at w a None end in subst P (sym (ap asked x.0)) (refl, x.1)
seen p w at (Some Aligned) end x = let P : Asked → Type 0 = λ a. Seen p at w a (Some Aligned) end in subst P (sym (ap asked x.0)) (refl, x.1)
seen p w at (Some Contact) end x = let P : Asked → Type 0 = λ a. Seen p at w a (Some Contact) end in subst P (sym (ap asked x.0)) (refl, x.1)
seen p w at (Some (Blocked h)) end x = let P : Asked → Type 0 = λ a. Seen p at w a (Some (Blocked h)) end in subst P (sym (ap asked x.0)) (h, (refl, x.1))
seen p w at (Some (Any k)) end x = let P : Asked → Type 0 = λ a. Seen p at w a (Some (Any k)) end in subst P (sym (ap asked x.0)) (k, (refl, x.1))
seen p w at (Some Energized) end x = let P : Asked → Type 0 = λ a. Seen p at w a (Some Energized) end in subst P (sym (ap asked x.0)) (refl, x.1)
seen p w at (Some (Flag f)) end x = let P : Asked → Type 0 = λ a. Seen p at w a (Some (Flag f)) end in subst P (sym (flag_asked w x.0)) (ap (λ v. Some (Flag v)) x.1, x.2)

seen_one : (p : List ℕ) (at : ℕ) (w : List ℕ) (a : Asked) (o q : Option Test) (m n : ℕ) → Seen p at w a o m → Seen p at w a q n
    → (o ≡ q) × (m ≡ n)
unfolding Seen
seen_one p at w AsksNot = alone_one None at
seen_one p at w AsksAligned = alone_one (Some Aligned) at
seen_one p at w AsksContact = alone_one (Some Contact) at
seen_one p at w AsksBlocked = built_one (λ h. Some (Blocked h)) (DirectionAt p at) (direction_one p at)
seen_one p at w AsksAny = built_one (λ k. Some (Any k)) (λ k end. kind_at p at true ≡ (k, end)) (kind_one p at true)
seen_one p at w AsksEnergized = alone_one (Some Energized) at
seen_one p at w AsksFlag = alone_one (Some (Flag w)) at

-- at most one test, or NOT, stands at a place
pub part_one : (p : List ℕ) (at : ℕ) (o q : Option Test) (m n : ℕ) → PartAt p at o m → PartAt p at q n → (o ≡ q) × (m ≡ n)
part_one p at o q m n x y =
    seen_one p (word_end p at) (word_at p at) (asked (word_at p at)) o q m n (seen p (word_at p at) (word_end p at) o m x) (seen p (word_at p at) (word_end p at) q n y)

test_is_not : (t : Test) → None ≡ Some t → ⊥
test_is_not t e = absurd (cc)

-- a condition is a test alone, or begins with a NOT
Opened : List ℕ → ℕ → Bool → Test → ℕ → Type 0
Opened p at b t end =
    ((b ≡ false) × PartAt p at (Some t) end)
    ⊎ ((r : Bool) × ((mid : ℕ) × ((b ≡ not r) × (PartAt p at None mid × ConditionAt p mid r t end))))

opened : (p : List ℕ) (at : ℕ) (b : Bool) (t : Test) (end : ℕ) → ConditionAt p at b t end → Opened p at b t end
unfolding Opened
opened p at b t end (plain a u e w) = inl (refl, w)
opened p at b t end (negation a r u mid e w rest) = inr (r, (mid, (refl, (w, rest))))

-- at most one condition stands at a place
pub condition_one : (p : List ℕ) (at : ℕ) (b : Bool) (t : Test) (m : ℕ) → ConditionAt p at b t m → (d : Bool) (u : Test) (n : ℕ)
    → ConditionAt p at d u n
    → (b ≡ d) × (t ≡ u) × (m ≡ n)
unfolding Opened
condition_one p at b t m (plain a s e w) d u n y = from_test (opened p a d u n y)
  where
    from_test : Opened p a d u n → (false ≡ d) × (s ≡ u) × (e ≡ n)
    from_test (inl z) =
        let one = part_one p a (Some s) (Some u) e n w z.1 in
        let same : Some s ≡ Some u = one.0 in
        let test : s ≡ u = cc in
        (sym z.0, test, one.1)
    from_test (inr z) = absurd (test_is_not s (part_one p a None (Some s) z.1.0 e z.1.1.1.0 w).0)
condition_one p at b t m (negation a r s mid e w rest) d u n y = from_not (opened p a d u n y) (condition_one p mid r s e rest)
  where
    from_not : Opened p a d u n → ((d : Bool) (u : Test) (n : ℕ) → ConditionAt p mid d u n → (r ≡ d) × (s ≡ u) × (e ≡ n))
        → (not r ≡ d) × (s ≡ u) × (e ≡ n)
    from_not (inl z) further = absurd (test_is_not u (part_one p a None (Some u) mid n w z.1).0)
    from_not (inr z) further =
        let at_one = part_one p a None None mid z.1.0 w z.1.1.1.0 in
        let P : ℕ → Type 0 = λ k. ConditionAt p k z.0 u n in
        let one = further z.0 u n (subst P (sym at_one.1) z.1.1.1.1) in
        (ap not one.0 ∙ sym z.1.1.0, one.1, one.2)

pub query_one : (p : List ℕ) (at : ℕ) (q r : Query) (m n : ℕ) → QueryAt p at q m → QueryAt p at r n → (q ≡ r) × (m ≡ n)
query_one p at q r m n x y =
    let one = condition_one p at q.negated q.test m x r.negated r.test n y in
    let make : Bool → Test → Query = λ b t. record { negated = b; test = t } in
    let path : make q.negated q.test ≡ make r.negated r.test = rw (one.0, one.1) refl in
    (path, one.2)

-- ---- that one stands

-- behind a word that asks stands what it asks
question_there : (p w : List ℕ) (at : ℕ) → is_question w ≡ true → (o : Option Test) × ((end : ℕ) × PartBehind p w at o end)
unfolding is_question
question_there p w at =
    by_either _ _
    (by_either _ _
    (by_either _ _
    (by_either _ _
    (by_either _ _
    (by_word w (codes "NOT") (λ e. (None, (at, (e, refl)))))
    (by_word w (codes "ALLIGNED") (λ e. (Some Aligned, (at, (e, refl))))))
    (by_word w (codes "CONTACT") (λ e. (Some Contact, (at, (e, refl))))))
    (by_word w (codes "BLOCKED") (λ e. let d = direction_there p at in (Some (Blocked d.0), (d.1.0, (e, d.1.1))))))
    (by_word w (codes "ANY") (λ e. (Some (Any (kind_at p at true).0), ((kind_at p at true).1, (e, refl))))))
    (by_word w (codes "ENERGIZED") (λ e. (Some Energized, (at, (e, refl)))))

-- a test, or NOT, stands at each place
part_there : (p : List ℕ) (at : ℕ) → (o : Option Test) × ((end : ℕ) × PartAt p at o end)
part_there p at = by_question (is_question (word_at p at)) refl
  where
    by_question : (b : Bool) → is_question (word_at p at) ≡ b → (o : Option Test) × ((end : ℕ) × PartAt p at o end)
    by_question true e = question_there p (word_at p at) (word_end p at) e
    by_question false e = (Some (Flag (word_at p at)), (word_end p at, (e, refl, refl)))

condition_there : (k : ℕ) (p : List ℕ) (at : ℕ) → length p ≤ at + k → (b : Bool) × ((t : Test) × ((end : ℕ) × ConditionAt p at b t end))
condition_there zero p at h = by_part (part_there p at)
  where
    by_part : (o : Option Test) × ((end : ℕ) × PartAt p at o end) → (b : Bool) × ((t : Test) × ((end : ℕ) × ConditionAt p at b t end))
    by_part (Some t, (m, w)) = (false, (t, (m, plain at t m w)))
    by_part (None, (m, w)) =
        let moves = not_moves p at None m w refl in
        let ends = w.1 in
        let within = word_end_within p at in
        absurd (omega arith)
condition_there (suc k) p at h = by_part (part_there p at) (condition_there k p (word_end p at))
  where
    by_part : (o : Option Test) × ((end : ℕ) × PartAt p at o end)
        → (length p ≤ word_end p at + k → (b : Bool) × ((t : Test) × ((end : ℕ) × ConditionAt p (word_end p at) b t end)))
        → (b : Bool) × ((t : Test) × ((end : ℕ) × ConditionAt p at b t end))
    by_part (Some t, (m, w)) further = (false, (t, (m, plain at t m w)))
    by_part (None, (m, w)) further =
        let moves = not_moves p at None m w refl in
        let ends = w.1 in
        let rest = further (omega arith) in
        (not rest.0, (rest.1.0, (rest.1.1.0, negation at rest.0 rest.1.0 (word_end p at) rest.1.1.0 (w.0, refl) rest.1.1.1)))

-- a condition stands at each place
pub query_there : (p : List ℕ) (at : ℕ) → (q : Query) × ((end : ℕ) × QueryAt p at q end)
query_there p at =
    let found = condition_there (length p) p at (omega arith) in
    (record { negated = found.0; test = found.1.0 }, (found.1.1.0, found.1.1.1))
