-- Where an insertion goes, by its place in the list.
use Rattle.std.proofs.Common.{◌≡◌, ℕ, ◌+◌, ◌<◌, Bool, true, false, List, [], ◌∷◌, ◌++◌, length, get_or, take, drop, suc, zero, Some, None, refl, ap, sym, arith, add-one, ltb}
use Rattle.std.specs.List.{position, position_or_len}
use Rattle.std.proofs.lemmas.Bool.{ltb-false}
use Rattle.std.proofs.lemmas.List.Sums.{fails_before_first}
use Rattle.std.proofs.lemmas.List.Quantifiers.{position-Some}
use Rattle.zed_types.specs.declared.names.ElemId.{ElemId}
use Rattle.zed_types.specs.declared.text.TextByte.{TextByte}
use Rattle.zed_types.specs.Names.{same_element}
use Rattle.zed_types.specs.Text.{behind, put_after}

behind-at : (a : ElemId) (f : List TextByte → List TextByte) (i : ℕ) (xs : List TextByte) (d : TextByte) → i < length xs
    → same_element (get_or xs i d).id a ≡ true → ((k : ℕ) → k < i → same_element (get_or xs k d).id a ≡ false)
    → behind a f xs ≡ take (suc i) xs ++ f (drop (suc i) xs)
behind-at a f i [] d l t e = absurd (omega arith)
behind-at a f zero (x ∷ xs) d l t e = rw t
behind-at a f (suc i) (x ∷ xs) d l t e =
    let h : same_element x.id a ≡ false = e 0 (omega arith) in
    rw h (ap (λ rest. x ∷ rest) (behind-at a f i xs d (omega arith) t (λ k b. e (suc k) (omega arith))))

behind-none : (a : ElemId) (f : List TextByte → List TextByte) (xs : List TextByte)
    → ((k : ℕ) (d : TextByte) → k < length xs → same_element (get_or xs k d).id a ≡ false)
    → behind a f xs ≡ xs
behind-none a f [] e = refl
behind-none a f (x ∷ xs) e =
    let h : same_element x.id a ≡ false = e 0 x (omega arith) in
    rw h (ap (λ rest. x ∷ rest) (behind-none a f xs (λ k d b. e (suc k) d (omega arith))))

pub put_after-position : (a : ElemId) (run xs : List TextByte) (i : ℕ) → position (λ x. same_element x.id a) xs ≡ Some i
    → (i < length xs) × (take (i + 1) xs ++ (run ++ drop (i + 1) xs) ≡ put_after (Some a) run xs)
put_after-position a run [] i e = absurd (cc)
put_after-position a run (x ∷ xs) i e =
    let h = position-Some (λ y. same_element y.id a) (x ∷ xs) i x e in
    (h.0, rw add-one (sym (behind-at a (λ rest. run ++ rest) i (x ∷ xs) x h.0 h.1 h.2)))

pub put_after-no_position : (a : ElemId) (run xs : List TextByte) → position (λ x. same_element x.id a) xs ≡ None
    → put_after (Some a) run xs ≡ xs
put_after-no_position a run xs e = go (ltb (position_or_len p xs) (length xs)) refl
  where
    p : TextByte → Bool
    p x = same_element x.id a

    go : (b : Bool) → ltb (position_or_len p xs) (length xs) ≡ b → put_after (Some a) run xs ≡ xs
    go true b = absurd (let k = rw b at e in cc)
    go false b =
        let within = ltb-false (position_or_len p xs) (length xs) b in
        behind-none a (λ rest. run ++ rest) xs (λ k d h. fails_before_first p xs k d (omega arith))
