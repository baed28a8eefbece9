-- What is found under each key after a value is put, added or changed, and that the names rise.
use Rattle.std.proofs.Common.{◌≡◌, ◌∙◌, Bool, true, false, cond, [], ◌∷◌, Option, Some, None, refl, ap}
use Rattle.std.specs.List.{AllByRecursion}
use Rattle.std.specs.Option.{option_or, option_map, is_some}
use Rattle.zed_types.specs.declared.names.Name.{Name}
use Rattle.zed_types.proofs.StampOrder.{same_name-true, same_name-apart, same_name-itself}
use Rattle.zed_types.specs.Names.{NamesRise, is_earlier}
use Rattle.zed_stats.specs.ByName.{Under, IsOnlyName, same, under, put, add, add_all, change}
use Rattle.zed_stats.proofs.Order.{earlier-through, other-earlier}

pub or-none : {X : Type 0} (o : Option X) → o ≡ option_or o None
or-none None = refl
or-none (Some x) = refl

pub apart : {K : Type 0} (name : K → Name) (a b : K) → same name a b ≡ false → same name b a ≡ false
apart name a b d = same_name-apart (name a) (name b) (name b) d (same_name-itself (name b))

-- keys of one name are one
pub one : {K : Type 0} (name : K → Name) → IsOnlyName name → (a b : K) → same name a b ≡ true → a ≡ b
one name only a b h = only a b (same_name-true (name a) (name b) h)

module _ {K X : Type 0} (name : K → Name) where
  -- a name that isn't found isn't that of the first, and isn't found behind it
  pub none-first : (c : K) (y : K × X) (ys : Under K X) → under name c (y ∷ ys) ≡ None
      → (same name c y.0 ≡ false) × (under name c ys ≡ None)
  none-first c y ys h = go (same name c y.0) refl h
    where
      go : (u : Bool) → same name c y.0 ≡ u → cond u (Some y.1) (under name c ys) ≡ None → (u ≡ false) × (under name c ys ≡ None)
      go true u h = absurd (cc)
      go false u h = (refl, h)

module _ {K X : Type 0} (name : K → Name) (only : IsOnlyName name) where
  -- ---- what is found

  -- after a change
  pub in-change : (b c : K) (f : X → X) (ys : Under K X)
      → under name b (change name c f ys) ≡ cond (same name b c) (option_map f (under name b ys)) (under name b ys)
  in-change b c f [] = either (same name b c) None
    where
      either : (w : Bool) (o : Option X) → o ≡ cond w o o
      either true o = refl
      either false o = refl
  in-change b c f (y ∷ ys) = go (same name c y.0) refl (same name b y.0) refl (in-change b c f ys)
    where
      go : (u : Bool) → same name c y.0 ≡ u → (v : Bool) → same name b y.0 ≡ v
          → under name b (change name c f ys) ≡ cond (same name b c) (option_map f (under name b ys)) (under name b ys)
          → under name b (cond u ((y.0, f y.1) ∷ ys) (y ∷ change name c f ys))
          ≡ cond (same name b c) (option_map f (under name b (y ∷ ys))) (under name b (y ∷ ys))
      go true u true v more =
          let w : same name b c ≡ true = ap (same name b) (one name only c y.0 u) ∙ v in
          rw (v, w) refl
      go true u false v more =
          let w : same name b c ≡ false = ap (same name b) (one name only c y.0 u) ∙ v in
          rw (v, w) refl
      go false u true v more =
          let w : same name b c ≡ false = same_name-apart (name c) (name y.0) (name b) u v in
          rw (v, w) refl
      go false u false v more = rw v more

  -- after a new one is put
  pub in-put : (b c : K) (x : X) (ys : Under K X) → under name c ys ≡ None
      → under name b (put name c x ys) ≡ cond (same name b c) (Some x) (under name b ys)
  in-put b c x [] none = refl
  in-put b c x (y ∷ ys) none = go (is_earlier (name c) (name y.0)) (same name b y.0) refl (in-put b c x ys (none-first name c y ys none).1)
    where
      go : (e : Bool) → (v : Bool) → same name b y.0 ≡ v → under name b (put name c x ys) ≡ cond (same name b c) (Some x) (under name b ys)
          → under name b (cond e ((c, x) ∷ y ∷ ys) (y ∷ put name c x ys)) ≡ cond (same name b c) (Some x) (under name b (y ∷ ys))
      go true v is more = refl
      go false true is more =
          let w : same name b c ≡ false = same_name-apart (name c) (name y.0) (name b) (none-first name c y ys none).0 is in
          rw (is, w) refl
      go false false is more = rw is more

  -- after one is added
  pub in-add : (b c : K) (x : X) (ys : Under K X)
      → under name b (add name c x ys) ≡ option_or (under name b ys) (cond (same name b c) (Some x) None)
  in-add b c x ys = go (under name c ys) refl (same name b c) refl
    where
      go : (o : Option X) → under name c ys ≡ o → (w : Bool) → same name b c ≡ w
          → under name b (cond (is_some o) ys (put name c x ys)) ≡ option_or (under name b ys) (cond w (Some x) None)
      go (Some z) there true w =
          let same : under name b ys ≡ Some z = ap (λ d. under name d ys) (one name only b c w) ∙ there in
          rw same refl
      go (Some z) there false w = or-none (under name b ys)
      go None there true w =
          let same : under name b ys ≡ None = ap (λ d. under name d ys) (one name only b c w) ∙ there in
          in-put b c x ys there ∙ rw (w, same) refl
      go None there false w = in-put b c x ys there ∙ rw w (or-none (under name b ys))

  -- after many are added
  pub in-add_all : (b : K) (xs ys : Under K X) → under name b (add_all name xs ys) ≡ option_or (under name b ys) (under name b xs)
  in-add_all b [] ys = or-none (under name b ys)
  in-add_all b (x ∷ xs) ys =
      in-add_all b xs (add name x.0 x.1 ys) ∙ ap (λ o. option_or o (under name b xs)) (in-add b x.0 x.1 ys) ∙ go (under name b ys) (same name b x.0)
    where
      go : (o : Option X) (w : Bool)
          → option_or (option_or o (cond w (Some x.1) None)) (under name b xs) ≡ option_or o (cond w (Some x.1) (under name b xs))
      go (Some z) w = refl
      go None true = refl
      go None false = refl

  -- ---- their names rise

  abbrev pub Rise : Under K X → Type 0
  Rise ys = NamesRise (λ y. name y.0) ys

  all-changed : (P : K → Type 0) (c : K) (f : X → X) (ys : Under K X) → AllByRecursion (λ y. P y.0) ys
      → AllByRecursion (λ y. P y.0) (change name c f ys)
  all-changed P c f [] a = tt
  all-changed P c f (y ∷ ys) a = go (same name c y.0) (all-changed P c f ys a.1)
    where
      go : (u : Bool) → AllByRecursion (λ z. P z.0) (change name c f ys)
          → AllByRecursion (λ z. P z.0) (cond u ((y.0, f y.1) ∷ ys) (y ∷ change name c f ys))
      go true more = a
      go false more = (a.0, more)

  pub rise-change : (c : K) (f : X → X) (ys : Under K X) → Rise ys → Rise (change name c f ys)
  rise-change c f [] r = tt
  rise-change c f (y ∷ ys) r = go (same name c y.0) (rise-change c f ys r.1)
    where
      go : (u : Bool) → Rise (change name c f ys) → Rise (cond u ((y.0, f y.1) ∷ ys) (y ∷ change name c f ys))
      go true more = r
      go false more = (all-changed (λ d. is_earlier (name y.0) (name d) ≡ true) c f ys r.0, more)

  all-put : (P : K → Type 0) (c : K) (x : X) (ys : Under K X) → P c → AllByRecursion (λ y. P y.0) ys
      → AllByRecursion (λ y. P y.0) (put name c x ys)
  all-put P c x [] p a = (p, tt)
  all-put P c x (y ∷ ys) p a = go (is_earlier (name c) (name y.0)) (all-put P c x ys p a.1)
    where
      go : (e : Bool) → AllByRecursion (λ z. P z.0) (put name c x ys)
          → AllByRecursion (λ z. P z.0) (cond e ((c, x) ∷ y ∷ ys) (y ∷ put name c x ys))
      go true more = (p, a)
      go false more = (a.0, more)

  -- what a name comes before, an earlier one does
  all-later : (c d : K) (ys : Under K X) → is_earlier (name c) (name d) ≡ true
      → AllByRecursion (λ y. is_earlier (name d) (name y.0) ≡ true) ys
      → AllByRecursion (λ y. is_earlier (name c) (name y.0) ≡ true) ys
  all-later c d [] e a = tt
  all-later c d (y ∷ ys) e a = (earlier-through (name c) (name d) (name y.0) e a.0, all-later c d ys e a.1)

  rise-put : (c : K) (x : X) (ys : Under K X) → under name c ys ≡ None → Rise ys → Rise (put name c x ys)
  rise-put c x [] none r = (tt, tt)
  rise-put c x (y ∷ ys) none r = go (is_earlier (name c) (name y.0)) refl (rise-put c x ys (none-first name c y ys none).1 r.1)
    where
      go : (e : Bool) → is_earlier (name c) (name y.0) ≡ e → Rise (put name c x ys) → Rise (cond e ((c, x) ∷ y ∷ ys) (y ∷ put name c x ys))
      go true e more = ((e, all-later c y.0 ys e r.0), r)
      go false e more =
          let n = none-first name c y ys none in
          (all-put (λ d. is_earlier (name y.0) (name d) ≡ true) c x ys (other-earlier (name c) (name y.0) e (apart name c y.0 n.0)) r.0, more)

  pub rise-add : (c : K) (x : X) (ys : Under K X) → Rise ys → Rise (add name c x ys)
  rise-add c x ys r = go (under name c ys) refl
    where
      go : (o : Option X) → under name c ys ≡ o → Rise (cond (is_some o) ys (put name c x ys))
      go (Some z) there = r
      go None there = rise-put c x ys there r

  pub rise-add_all : (xs ys : Under K X) → Rise ys → Rise (add_all name xs ys)
  rise-add_all [] ys r = r
  rise-add_all (x ∷ xs) ys r = rise-add_all xs (add name x.0 x.1 ys) (rise-add x.0 x.1 ys r)
