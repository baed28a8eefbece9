-- At each place stands one direction.
use Rattle.std.proofs.Common.{◌≡◌, ◌∙◌, ℕ, zero, suc, ◌+◌, ◌<◌, ◌≤◌, List, [], ◌∷◌, ◌++◌, length, length-append, Option, Some, None, refl, sym, arith}
use Rattle.zed_oop_syntax.specs.declared.heading.Course.{Course}
use Rattle.zed_oop_syntax.specs.declared.heading.Heading.{Heading}
use Rattle.zed_oop_syntax.specs.declared.heading.Turning.{Turning}
use Rattle.zed_oop_syntax.specs.Text.{word_at, word_end}
use Rattle.zed_oop_syntax.specs.Heading.{DirectionAt, DirectionTakes, HeadingAt, course_of, turning_of}
use Rattle.zed_oop_syntax.proofs.HeadingLemmas.{turning_moves}
use Rattle.zed_oop_syntax.proofs.TextLemmas.{word_end_within}

none_is_some : {A : Type 0} (a : A) → None ≡ Some a → ⊥
none_is_some a e = absurd (cc)

-- the words that turn are the same, and so is what follows them
pub heading_one : (p : List ℕ) (at : ℕ) (ts us : List Turning) (c d : Option Course) (m n : ℕ) → HeadingAt p at ts c m
    → HeadingAt p at us d n
    → (ts ≡ us) × (c ≡ d) × (m ≡ n)
heading_one p at [] [] c d m n x y = (refl, x.1 ∙ sym y.1, x.2 ∙ sym y.2)
heading_one p at [] (u ∷ us) c d m n x y = absurd (none_is_some u (sym x.0 ∙ y.0))
heading_one p at (t ∷ ts) [] c d m n x y = absurd (none_is_some t (sym y.0 ∙ x.0))
heading_one p at (t ∷ ts) (u ∷ us) c d m n x y =
    let rest = heading_one p (word_end p at) ts us c d m n x.1 y.1 in
    let tails : ts ≡ us = rest.0 in
    let heads : Some t ≡ Some u = sym x.0 ∙ y.0 in
    let same : t ∷ ts ≡ u ∷ us = cc in
    (same, rest.1, rest.2)

-- at most one direction stands at a place
pub direction_one : (p : List ℕ) (at : ℕ) (h g : Heading) (m n : ℕ) → DirectionAt p at h m → DirectionAt p at g n → (h ≡ g) × (m ≡ n)
direction_one p at h g m n x y =
    let one = heading_one p at h.turns g.turns h.course g.course m n x y in
    let make : List Turning → Option Course → Heading = λ ts c. record { turns = ts; course = c } in
    let path : make h.turns h.course ≡ make g.turns g.course = rw (one.0, one.1) refl in
    (path, one.2)

-- a direction stands at each place, known or not
heading_there : (k : ℕ) (p : List ℕ) (at : ℕ) → length p ≤ at + k
    → (ts : List Turning) × ((c : Option Course) × ((end : ℕ) × HeadingAt p at ts c end))
heading_there zero p at h = by_turning (turning_of (word_at p at)) refl
  where
    by_turning : (o : Option Turning) → turning_of (word_at p at) ≡ o
        → (ts : List Turning) × ((c : Option Course) × ((end : ℕ) × HeadingAt p at ts c end))
    by_turning None e = ([], (course_of (word_at p at), (word_end p at, (e, refl, refl))))
    by_turning (Some t) e =
        let moves = turning_moves p at t e in
        let within = word_end_within p at in
        absurd (omega arith)
heading_there (suc k) p at h = by_turning (turning_of (word_at p at)) refl (heading_there k p (word_end p at))
  where
    by_turning : (o : Option Turning) → turning_of (word_at p at) ≡ o
        → (length p ≤ word_end p at + k → (ts : List Turning) × ((c : Option Course) × ((end : ℕ) × HeadingAt p (word_end p at) ts c end)))
        → (ts : List Turning) × ((c : Option Course) × ((end : ℕ) × HeadingAt p at ts c end))
    by_turning None e further = ([], (course_of (word_at p at), (word_end p at, (e, refl, refl))))
    by_turning (Some t) e further =
        let moves = turning_moves p at t e in
        let rest = further (omega arith) in
        (t ∷ rest.0, (rest.1.0, (rest.1.1.0, (e, rest.1.1.1))))

pub direction_there : (p : List ℕ) (at : ℕ) → (h : Heading) × ((end : ℕ) × DirectionAt p at h end)
direction_there p at =
    let found = heading_there (length p) p at (omega arith) in
    (record { turns = found.0; course = found.1.0 }, (found.1.1.0, found.1.1.1))

-- where a word turns, the direction has turns
turned_there : (p : List ℕ) (at : ℕ) (t : Turning) → turning_of (word_at p at) ≡ Some t → DirectionTakes p at
turned_there p at t e = by_turns (direction_there p at)
  where
    by_list : (ts : List Turning) (c : Option Course) (end : ℕ) → HeadingAt p at ts c end → 0 < length ts
    by_list [] c end x = absurd (none_is_some t (sym x.0 ∙ e))
    by_list (u ∷ us) c end x = omega arith

    by_turns : (h : Heading) × ((end : ℕ) × DirectionAt p at h end) → DirectionTakes p at
    by_turns (h, (end, stands)) = (h, (end, (stands, by_list h.turns h.course end stands)))

-- the same behind other words that turn
pub turned_on : (p : List ℕ) (at to : ℕ) (ts : List Turning) (t : Turning) → turning_of (word_at p to) ≡ Some t
    → ((us : List Turning) (c : Option Course) (end : ℕ) → HeadingAt p to us c end → HeadingAt p at (ts ++ us) c end)
    → DirectionTakes p at
turned_on p at to ts t e so_far = by_rest (turned_there p to t e)
  where
    by_rest : DirectionTakes p to → DirectionTakes p at
    by_rest (h, (end, (stands, keeps))) =
        let more = length-append ts h.turns in
        let make : List Turning → Option Course → Heading = λ us c. record { turns = us; course = c } in
        let has : 0 < length (ts ++ h.turns) = omega arith in
        (make (ts ++ h.turns) h.course, (end, (so_far h.turns h.course end stands, has)))
