-- Boards by their numbers, 101 at a time.
use Rattle.std.proofs.Common.{◌≡◌, ◌∙◌, ℕ, zero, suc, ◌+◌, ◌*◌, ◌<◌, ◌≤◌, false, ltb, List, [], ◌∷◌, length, get_or, map, take, drop, slice_get, All, Option, Some, None, option_map, refl, sym, ap, subst, arith}
use Rattle.std.proofs.lemmas.Bool.{ltb-false}
use Rattle.std.proofs.lemmas.List.Elements.{recursion_from_All}
use Rattle.std.proofs.lemmas.Option.{slice_get-get_or, slice_get_past}
use Rattle.zed_edit.specs.declared.plain.Board.{Board}
use Rattle.zed_edit.specs.declared.plain.Plain.{Plain}
use Rattle.zed_edit.specs.Numbers.{alive_boards, board_numbered, boards_there, standing}
use Rattle.zed_edit.proofs.Numbering.{numbered-so}
use Rattle.zed_edit.proofs.Ordered.{all-at, none-past, some-below}
use Rattle.zed_laws.proofs.ApartBoards.{boards_there_are_apart}
use Rattle.zed_laws.specs.NameOrder.{IsOrdered}
use Rattle.zed_view.specs.First.{first_of, is_behind}
use Rattle.zed_view.proofs.Firsts.{first-so, next-so}

take-get : {X : Type 0} (n k : ℕ) (xs : List X) → k < n → slice_get (take n xs) k ≡ slice_get xs k
take-get zero k xs l = absurd (omega (arith, l))
take-get (suc n) k [] l = refl
take-get (suc n) zero (x ∷ xs) l = refl
take-get (suc n) (suc k) (x ∷ xs) l = take-get n k xs (omega (arith, l))

drop-get : {X : Type 0} (n k : ℕ) (xs : List X) → slice_get (drop n xs) k ≡ slice_get xs (n + k)
drop-get zero k xs = ap (slice_get xs) (omega arith)
drop-get (suc n) k [] = refl
drop-get (suc n) k (x ∷ xs) = let e : suc (n + k) ≡ suc n + k = omega arith in drop-get n k xs ∙ ap (slice_get (x ∷ xs)) e

get-image : {X Y : Type 0} (f : X → Y) (xs : List X) (k : ℕ) → slice_get (map f xs) k ≡ option_map f (slice_get xs k)
get-image f [] k = refl
get-image f (x ∷ xs) zero = refl
get-image f (x ∷ xs) (suc k) = get-image f xs k

-- what a slice with the members of a list has at a place
pub got : (ps qs : List ℕ) (k v : ℕ) → qs ≡ ps → k < length qs → v ≡ get_or qs k 0 → slice_get ps k ≡ Some v
got ps qs k v e l h = subst (λ xs. slice_get xs k ≡ Some v) e (slice_get-get_or qs k 0 l ∙ ap (λ j. Some j) (sym h))

pub missed : (ps qs : List ℕ) (k : ℕ) → qs ≡ ps → false ≡ ltb k (length qs) → slice_get ps k ≡ None
missed ps qs k e h = subst (λ xs. slice_get xs k ≡ None) e (slice_get_past qs k (ltb-false k (length qs) (sym h)))

pub holds_at : (P : ℕ → Type 0) (ps : List ℕ) (k v : ℕ) → All P ps → slice_get ps k ≡ Some v → P v
holds_at P ps k v h e = all-at P ps k v (recursion_from_All P ps h) e

module _ (p : Plain) (ordered : IsOrdered p) (at : ℕ → Board) (places : List ℕ) (from : ℕ) (told : map at places ≡ take 101 (drop from (alive_boards p))) where
  -- member k of those told has number from + k
  pub told-at : (k : ℕ) → k < 101 → option_map at (slice_get places k) ≡ slice_get (alive_boards p) (from + k)
  told-at k l =
      sym (get-image at places k) ∙ ap (λ xs. slice_get xs k) told ∙ take-get 101 k (drop from (alive_boards p)) l
      ∙ drop-get from k (alive_boards p)

  number-is : (n : ℕ) → board_numbered p n ≡ option_map (λ b. b.id) (slice_get (alive_boards p) n)
  number-is n = numbered-so (boards_there p) (boards_there_are_apart p ordered) n

  -- the board of the number
  pub is-told : (n k i : ℕ) → k < 101 → n ≡ from + k → slice_get places k ≡ Some i → Some (at i).id ≡ board_numbered p n
  is-told n k i l e h =
      ap (option_map (λ (b : Board). b.id)) (ap (option_map at) (sym h) ∙ told-at k l ∙ ap (slice_get (alive_boards p)) (sym e)) ∙ sym (number-is n)

  -- where it isn't told, no board has the number, nor a higher one
  pub not-told : (n k : ℕ) → k < 101 → from + k ≤ n → slice_get places k ≡ None → None ≡ board_numbered p n
  not-told n k l le h = ap (option_map (λ (b : Board). b.id)) (sym (none (slice_get (alive_boards p) n) refl)) ∙ sym (number-is n)
    where
      past : slice_get (alive_boards p) (from + k) ≡ None
      past = sym (told-at k l) ∙ ap (option_map at) h

      none : (o : Option Board) → slice_get (alive_boards p) n ≡ o → slice_get (alive_boards p) n ≡ None
      none None e = e
      none (Some b) e =
          let a = none-past (alive_boards p) (from + k) past in
          let c = some-below (alive_boards p) n b e in
          absurd (omega (arith, a, c, le))

  -- behind the last of 101 go on those of the next numbers
  pub told-next : (i : ℕ) → slice_get places 100 ≡ Some i
      → first_of 101 (is_behind (Some (standing (at i)))) (boards_there p) ≡ take 101 (drop (from + 101) (alive_boards p))
  told-next i h =
      let there : slice_get (alive_boards p) (from + 100) ≡ Some (at i) = sym (told-at 100 (omega arith)) ∙ ap (option_map at) h in
      let e : from + 100 + 1 ≡ from + 101 = omega arith in
      next-so 101 (boards_there p) (boards_there_are_apart p ordered) (from + 100) (at i) there ∙ ap (λ n. take 101 (drop n (alive_boards p))) e

pub told-first : (p : Plain) → IsOrdered p → first_of 101 (is_behind None) (boards_there p) ≡ take 101 (drop (101 * 0) (alive_boards p))
told-first p ordered = first-so 101 (boards_there p) (boards_there_are_apart p ordered)
