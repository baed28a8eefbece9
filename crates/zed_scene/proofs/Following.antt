-- What a number names after a stat is removed.
use Rattle.std.proofs.Common.{◌≡◌, ◌≢◌, ◌∙◌, ℕ, zero, suc, ◌-◌, ◌<◌, ◌≤◌, ◌==◌, Bool, true, false, cond, List, [], ◌∷◌, remove, map, option_map, slice_get, Option, Some, None, refl, sym, ap, arith, ltb, sub-one}
use Rattle.std.proofs.lemmas.Bool.{eqb-true, ltb-false, ltb-true}
use Rattle.std.proofs.lemmas.Option.{slice_get-map}
use Rattle.zed_scene.specs.declared.stat.Stat.{Stat}
use Rattle.zed_scene.specs.Scene.{Scene, put, stat_of}
use Rattle.zed_scene.specs.Removing.{gone_from, one_less, remove_stat, renumbered, without}

-- what stood before an element that is taken out stands where it stood
below : (xs : List Stat) (i n : ℕ) → n < i → slice_get (remove xs i) n ≡ slice_get xs n
below [] zero n h = absurd (omega arith)
below [] (suc i) n h = refl
below (x ∷ xs) zero n h = absurd (omega arith)
below (x ∷ xs) (suc i) zero h = refl
below (x ∷ xs) (suc i) (suc n) h = below xs i n (omega arith)

-- and what stood behind it, one place before
above : (xs : List Stat) (i n : ℕ) → i ≤ n → slice_get (remove xs i) n ≡ slice_get xs (suc n)
above [] zero n h = refl
above [] (suc i) n h = refl
above (x ∷ xs) zero n h = refl
above (x ∷ xs) (suc i) zero h = absurd (omega arith)
above (x ∷ xs) (suc i) (suc n) h = above xs i n (omega arith)

-- by which side of it the number is
by_side : (s u : Scene) (i n : ℕ) (a : Stat) (b : Bool) → u.stats ≡ map (renumbered i) (remove s.stats i) → slice_get s.stats n ≡ Some a
    → n ≢ i → ltb i n ≡ b
    → stat_of u (cond b (Some (n - 1)) (Some n)) ≡ Some (renumbered i a)
by_side s u i zero a true is at other behind =
    let far : i < zero = ltb-true i zero behind in
    absurd (omega arith)
by_side s u i (suc m) a true is at other behind =
    let far : i < suc m = ltb-true i (suc m) behind in
    let there : slice_get (remove s.stats i) m ≡ Some a = above s.stats i m (omega arith) ∙ at in
    rw sub-one (ap (λ l. slice_get l m) is ∙ slice_get-map (renumbered i) (remove s.stats i) m ∙ ap (option_map (renumbered i)) there)
by_side s u i n a false is at other before =
    let near : n ≤ i = ltb-false i n before in
    let there : slice_get (remove s.stats i) n ≡ Some a = below s.stats i n (omega arith) ∙ at in
    ap (λ l. slice_get l n) is ∙ slice_get-map (renumbered i) (remove s.stats i) n ∙ ap (option_map (renumbered i)) there

differ : (n i : ℕ) (b : Bool) → n ≢ i → (n == i) ≡ b → b ≡ false
differ n i true other e = absurd (other (eqb-true n i e))
differ n i false other e = refl

pub others_are_followed : (s : Scene) (i n : ℕ) (gone a : Stat) → i ≢ 0 → slice_get s.stats i ≡ Some gone → slice_get s.stats n ≡ Some a
    → n ≢ i
    → stat_of (remove_stat i s) (one_less i (Some n)) ≡ Some (renumbered i a)
others_are_followed s i n gone a some is at other =
    let u : Scene = put gone.place gone.under (without i s) in
    let removed : remove_stat i s ≡ u =
    ap (λ b. cond b s (gone_from i (slice_get s.stats i) s)) (differ i 0 (i == 0) some refl) ∙ ap (λ o. gone_from i o s) is in
    let number : one_less i (Some n) ≡ cond (ltb i n) (Some (n - 1)) (Some n) =
    ap (λ b. cond b None (cond (ltb i n) (Some (n - 1)) (Some n))) (differ n i (n == i) other refl) in
    ap (λ t. stat_of t (one_less i (Some n))) removed ∙ ap (stat_of u) number ∙ by_side s u i n a (ltb i n) refl at other refl
