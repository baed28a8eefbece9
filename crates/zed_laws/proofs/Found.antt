-- What stands at a place after a write, and what is found after a change.
use Rattle.std.proofs.Common.{◌≡◌, ℕ, ◌+◌, zero, suc, ◌<◌, Bool, true, false, cond, List, [], ◌∷◌, length, set, get_or, map, eqb, ltb, find, Option, Some, None, refl, ap, ◌∙◌, subst, arith}
use Rattle.std.specs.List.{AllByRecursion}
use Rattle.std.specs.Option.{option_or, option_map, is_some}
use Rattle.std.proofs.lemmas.Bool.{ltb-true}
use Rattle.std.proofs.lemmas.Bool.Decides.{nat_tests}
use mathlib.Core.Logic.{◌⊎◌, inl, inr}
use Rattle.zed_types.specs.declared.stamp.Stamp.{Stamp}
use Rattle.zed_types.specs.declared.names.Name.{Name}
use Rattle.zed_types.specs.Names.{same_name}
use Rattle.zed_types.specs.Table.{map_from}
use Rattle.zed_types.proofs.StampOrder.{same_name-true}
use Rattle.zed_types.proofs.Facts.{some_is}
use Rattle.zed_edit.specs.Document.{change_such}
use Rattle.zed_laws.specs.Registers.{overwritten}
use Rattle.zed_laws.proofs.ChangedTexts.{map_option, find-change_same, find-change_apart}
use Rattle.zed_laws.proofs.NamesInOrder.{StampsAre}

-- ---- places of a table

get-set : {V : Type 0} (d : V) (xs : List V) (i j : ℕ) (v : V) → i < length xs
    → get_or (set xs j v) i d ≡ overwritten (get_or xs i d) (cond (eqb j i) (Some v) None)
get-set d [] i j v h = absurd (omega arith)
get-set d (x ∷ xs) zero zero v h = refl
get-set d (x ∷ xs) zero (suc j) v h = let e : eqb (suc j) 0 ≡ false = grind (arith, nat_tests) in rw e refl
get-set d (x ∷ xs) (suc i) zero v h = let e : eqb 0 (suc i) ≡ false = grind (arith, nat_tests) in rw e refl
get-set d (x ∷ xs) (suc i) (suc j) v h = let e : eqb (suc j) (suc i) ≡ eqb j i = grind (arith, nat_tests) in rw e (get-set d xs i j v (omega arith))

-- a write into a table of n places
pub written-at : {V : Type 0} (d : V) (xs : List V) (n i j : ℕ) (v : V) → length xs ≡ n → ltb i n ≡ true
    → get_or (set xs j v) i d ≡ overwritten (get_or xs i d) (cond (eqb j i) (Some v) None)
written-at d xs n i j v e h = get-set d xs i j v (ltb-true i (length xs) (ap (ltb i) e ∙ h))

pub get-map_from : {V : Type 0} (f : ℕ → V → V) (n : ℕ) (d : V) (xs : List V) (i : ℕ) → i < length xs
    → get_or (map_from f n xs) i d ≡ f (n + i) (get_or xs i d)
get-map_from f n d [] i h = absurd (omega arith)
get-map_from f n d (x ∷ xs) zero h = let e : n + 0 ≡ n = omega arith in rw e refl
get-map_from f n d (x ∷ xs) (suc i) h = let e : n + suc i ≡ (n + 1) + i = omega arith in rw e (get-map_from f (n + 1) d xs i (omega arith))

-- ---- what is found

-- what holds of all holds of the one found
pub found-holds : {X : Type 0} (P : X → Type 0) (q : X → Bool) (xs : List X) → AllByRecursion P xs → (x : X) → find q xs ≡ Some x → P x
found-holds P q [] a x h = absurd (cc)
found-holds P q (y ∷ xs) a x h = go (q y) refl (λ k. found-holds P q xs a.1 x k)
  where
    go : (b : Bool) → q y ≡ b → (find q xs ≡ Some x → P x) → P x
    go true b more = let k : Some y ≡ Some x = rw b at h in subst P (some_is y x k) a.0
    go false b more = more (rw b at h)

-- a name whose stamp fails a test that all pass is not found
pub unfound : {X : Type 0} (name : X → Name) (test : Stamp → Bool) (n : Name) (xs : List X) → StampsAre (λ x. (name x).stamp) test xs
    → test n.stamp ≡ false
    → find (λ x. same_name (name x) n) xs ≡ None
unfound name test n [] a h = refl
unfound name test n (x ∷ xs) a h = go (same_name (name x) n) refl (unfound name test n xs a.1 h)
  where
    go : (b : Bool) → same_name (name x) n ≡ b → find (λ y. same_name (name y) n) xs ≡ None
        → find (λ y. same_name (name y) n) (x ∷ xs) ≡ None
    go true b more =
        let k : test (name x).stamp ≡ test n.stamp = ap (λ (m : Name). test m.stamp) (same_name-true (name x) n b) in
        let t = a.0 in
        absurd (cc)
    go false b more = rw b more

-- ---- what is read of what is found

pub written : {V : Type 0} (w : Option V) (v : V) → Some (overwritten v w) ≡ option_or w (Some v)
written None v = refl
written (Some u) v = refl

-- a change that keeps names and the value
pub value-kept : {X V : Type 0} (value : X → V) (q : X → Bool) (f : X → X) → ((x : X) → q (f x) ≡ q x) → ((x : X) → value (f x) ≡ value x)
    → (xs : List X)
    → option_map value (find q (map f xs)) ≡ option_map value (find q xs)
value-kept value q f names keeps [] = refl
value-kept value q f names keeps (x ∷ xs) =
    ap (λ b. option_map value (cond b (Some (f x)) (find q (map f xs)))) (names x) ∙ go (q x) (value-kept value q f names keeps xs)
  where
    go : (b : Bool) → option_map value (find q (map f xs)) ≡ option_map value (find q xs)
        → option_map value (cond b (Some (f x)) (find q (map f xs))) ≡ option_map value (cond b (Some x) (find q xs))
    go true more = ap Some (keeps x)
    go false more = more

-- a change of the one looked for, where it is there
pub value-set : {X V : Type 0} (value : X → V) (q p : X → Bool) (f : X → X) (w : Option V) → ((x : X) → q (f x) ≡ q x)
    → ((x : X) → p x ≡ q x) → (xs : List X) → is_some (find q xs) ≡ true
    → ((x : X) → find q xs ≡ Some x → value (f x) ≡ overwritten (value x) w)
    → option_map value (find q (change_such p f xs)) ≡ option_or w (option_map value (find q xs))
value-set {X = X} value q p f w names same xs there sets =
    ap (option_map value) (find-change_same q p f names same xs) ∙ go (find q xs) refl there
  where
    go : (o : Option X) → find q xs ≡ o → is_some o ≡ true → option_map value (map_option f o) ≡ option_or w (option_map value o)
    go None e t = absurd (cc)
    go (Some x) e t = ap Some (sets x e) ∙ written w (value x)

-- a change of others
pub value-apart : {X V : Type 0} (value : X → V) (q p : X → Bool) (f : X → X) → ((x : X) → q (f x) ≡ q x)
    → ((x : X) → q x ≡ true → p x ≡ false) → (xs : List X)
    → option_map value (find q (change_such p f xs)) ≡ option_map value (find q xs)
value-apart value q p f names apart xs = ap (option_map value) (find-change_apart q p f names apart xs)

-- what was made before, or is made now
pub value-made : {X V : Type 0} (value : X → V) (o m : Option X) → (o ≡ None) ⊎ (m ≡ None)
    → option_map value (option_or o m) ≡ option_or (option_or (option_map value m) None) (option_map value o)
value-made value None None h = refl
value-made value None (Some x) h = refl
value-made value (Some x) None h = refl
value-made value (Some x) (Some y) h = elim h [ inl e ↦ absurd (cc) | inr e ↦ absurd (cc) ]
