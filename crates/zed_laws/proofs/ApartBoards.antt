-- Boards in the order of their names have different names.
use Rattle.std.proofs.Common.{◌≡◌, ◌∙◌, ◌+◌, ◌≤◌, Bool, true, false, cond, not, List, [], ◌∷◌, count_by, filter, refl, ap, arith}
use Rattle.std.specs.List.{AllByRecursion}
use Rattle.zed_types.specs.declared.names.BoardId.{BoardId}
use Rattle.zed_types.specs.Names.{same_board, NamesRise, is_earlier}
use Rattle.zed_edit.specs.declared.plain.Board.{Board}
use Rattle.zed_edit.specs.Numbers.{AreApart}
use Rattle.zed_edit.proofs.Ordered.{count-cons}
use Rattle.zed_laws.specs.NameOrder.{BoardsThereAreApart}

-- a name that comes after one of this name is another
later-other : (a b id : BoardId) → is_earlier a.name b.name ≡ true → same_board a id ≡ true → same_board b id ≡ false
later-other a b id h k = grind (arith)

none-later : (x : Board) (bs : List Board) (id : BoardId) → same_board x.id id ≡ true
    → AllByRecursion (λ y. is_earlier x.id.name y.id.name ≡ true) bs
    → count_by (λ b. same_board b.id id) bs ≡ 0
none-later x [] id k h = refl
none-later x (y ∷ ys) id k h =
    let c = count-cons (λ (b : Board). same_board b.id id) y ys in
    let e : count_by (λ (b : Board). same_board b.id id) (y ∷ ys) ≡ 0 + count_by (λ (b : Board). same_board b.id id) ys =
    c ∙ ap (λ t. cond t 1 0 + count_by (λ (b : Board). same_board b.id id) ys) (later-other x.id y.id id h.0 k) in
    let more = none-later x ys id k h.1 in
    omega (arith, e, more)

rising-apart : (bs : List Board) → NamesRise (λ b. b.id.name) bs → AreApart bs
rising-apart [] r id = omega arith
rising-apart (x ∷ xs) r id = go (same_board x.id id) refl (rising-apart xs r.1 id)
  where
    q : Board → Bool
    q b = same_board b.id id

    c : count_by q (x ∷ xs) ≡ cond (q x) 1 0 + count_by q xs
    c = count-cons q x xs

    go : (t : Bool) → q x ≡ t → count_by q xs ≤ 1 → count_by q (x ∷ xs) ≤ 1
    go true e few =
        let none : count_by q xs ≡ 0 = none-later x xs id e r.0 in
        let d : count_by q (x ∷ xs) ≡ 1 + count_by q xs = c ∙ ap (λ s. cond s 1 0 + count_by q xs) e in
        omega (arith, none, d)
    go false e few =
        let d : count_by q (x ∷ xs) ≡ 0 + count_by q xs = c ∙ ap (λ s. cond s 1 0 + count_by q xs) e in
        omega (arith, few, d)

fewer : (p q : Board → Bool) (bs : List Board) → count_by q (filter p bs) ≤ count_by q bs
fewer p q [] = omega arith
fewer p q (b ∷ bs) = go (p b) (fewer p q bs)
  where
    c : count_by q (b ∷ bs) ≡ cond (q b) 1 0 + count_by q bs
    c = count-cons q b bs

    go : (t : Bool) → count_by q (filter p bs) ≤ count_by q bs → count_by q (cond t (b ∷ filter p bs) (filter p bs)) ≤ count_by q (b ∷ bs)
    go true l = let d = count-cons q b (filter p bs) in omega (arith, c, d, l)
    go false l = omega (arith, c, l)

pub boards_there_are_apart : BoardsThereAreApart
boards_there_are_apart p h id =
    let a = fewer (λ b. not b.removed) (λ b. same_board b.id id) p.boards in
    let b = rising-apart p.boards h.boards id in
    omega (arith, a, b)
