-- What an edit does to the elements of texts, found by their names, and to their runs.
use Rattle.std.proofs.Common.{◌≡◌, ◌∙◌, ℕ, zero, suc, ◌+◌, Bool, true, false, not, cond, List, [], ◌∷◌, length, position, slice_get, Option, Some, None, refl, ap, sym, subst, true≢false, arith}
use Rattle.std.specs.List.{AllByRecursion, position_or_len}
use Rattle.std.specs.Option.{option_or, option_map, is_some}
use Rattle.std.specs.Map.{keys_of, values_of}
use Rattle.indexmap.specs.IndexMap.{set_value_at}
use Rattle.zed_types.specs.declared.names.TextId.{TextId}
use Rattle.zed_types.specs.declared.text.TextByte.{TextByte}
use Rattle.zed_types.specs.Names.{same_text, is_earlier}
use Rattle.zed_types.proofs.StampOrder.{same_text-true, same_text-itself}
use Rattle.zed_code.specs.Pieces.{Shown}
use Rattle.zed_code.specs.Text.{elements}
use Rattle.zed_texts.specs.ByName.{text_name, text_in, add, add_all, change}
use Rattle.zed_texts.specs.Texts.{Texts, elements_of, elements_or_none, IsWorked, IsUnworked, Grows, AllGrow}
use Rattle.zed_stats.specs.ByName.{put}
use Rattle.zed_stats.proofs.Changed.{changed, place_of}
use Rattle.zed_stats.proofs.Found.{in-change, in-add_all, apart}
use Rattle.zed_texts.proofs.TextNames.{only_text}

-- ---- their elements

pub in-elements : (t : TextId) (ys : Texts) → text_in t (elements_of ys) ≡ option_map elements (text_in t ys)
in-elements t [] = refl
in-elements t (y ∷ ys) = go (same_text t y.0) (in-elements t ys)
  where
    go : (b : Bool) → text_in t (elements_of ys) ≡ option_map elements (text_in t ys)
        → cond b (Some (elements y.1)) (text_in t (elements_of ys)) ≡ option_map elements (cond b (Some y.1) (text_in t ys))
    go true more = refl
    go false more = more

-- those of a text that is there, and of none
pub of_some_text : (t : TextId) (ys : Texts) (v : Shown) → text_in t ys ≡ Some v
    → elements_or_none (text_in t (elements_of ys)) ≡ elements v
of_some_text t ys v h = ap elements_or_none (in-elements t ys) ∙ ap (λ o. elements_or_none (option_map elements o)) h

pub of_no_text : (t : TextId) (ys : Texts) → text_in t ys ≡ None → elements_or_none (text_in t (elements_of ys)) ≡ []
of_no_text t ys h = ap elements_or_none (in-elements t ys) ∙ ap (λ o. elements_or_none (option_map elements o)) h

put-elements : (t : TextId) (x : Shown) (ys : Texts) → elements_of (put text_name t x ys) ≡ put text_name t (elements x) (elements_of ys)
put-elements t x [] = refl
put-elements t x (y ∷ ys) = go (is_earlier t.name (y.0).name) (put-elements t x ys)
  where
    go : (b : Bool) → elements_of (put text_name t x ys) ≡ put text_name t (elements x) (elements_of ys)
        → elements_of (cond b ((t, x) ∷ y ∷ ys) (y ∷ put text_name t x ys))
        ≡ cond b ((t, elements x) ∷ (y.0, elements y.1) ∷ elements_of ys) ((y.0, elements y.1) ∷ put text_name t (elements x) (elements_of ys))
    go true more = refl
    go false more = ap (λ zs. (y.0, elements y.1) ∷ zs) more

some-mapped : (o : Option Shown) → is_some (option_map elements o) ≡ is_some o
some-mapped None = refl
some-mapped (Some x) = refl

pub add-elements : (t : TextId) (x : Shown) (ys : Texts) → elements_of (add t x ys) ≡ add t (elements x) (elements_of ys)
add-elements t x ys = go (is_some (text_in t ys)) (ap is_some (in-elements t ys) ∙ some-mapped (text_in t ys))
  where
    go : (b : Bool) → is_some (text_in t (elements_of ys)) ≡ b
        → elements_of (cond b ys (put text_name t x ys))
        ≡ cond (is_some (text_in t (elements_of ys))) (elements_of ys) (put text_name t (elements x) (elements_of ys))
    go true h = rw h refl
    go false h = rw h (put-elements t x ys)

pub add_all-elements : (xs ys : Texts) → elements_of (add_all xs ys) ≡ add_all (elements_of xs) (elements_of ys)
add_all-elements [] ys = refl
add_all-elements (x ∷ xs) ys = add_all-elements xs (add x.0 x.1 ys) ∙ ap (add_all (elements_of xs)) (add-elements x.0 x.1 ys)

some-same : (v x : Shown) → Some v ≡ Some x → v ≡ x
some-same v x h = cc

change-elements : (t : TextId) (w : Shown) (f : List TextByte → List TextByte) (ys : Texts) (v : Shown) → text_in t ys ≡ Some v
    → elements w ≡ f (elements v)
    → elements_of (change t (λ _. w) ys) ≡ change t f (elements_of ys)
change-elements t w f [] v h e = refl
change-elements t w f (y ∷ ys) v h e = go (same_text t y.0) h (λ k. change-elements t w f ys v k e)
  where
    go : (b : Bool) → cond b (Some y.1) (text_in t ys) ≡ Some v
        → (text_in t ys ≡ Some v → elements_of (change t (λ _. w) ys) ≡ change t f (elements_of ys))
        → elements_of (cond b ((y.0, w) ∷ ys) (y ∷ change t (λ _. w) ys))
        ≡ cond b ((y.0, f (elements y.1)) ∷ elements_of ys) ((y.0, elements y.1) ∷ change t f (elements_of ys))
    go true k more = ap (λ xs. (y.0, xs) ∷ elements_of ys) (e ∙ ap (λ x. f (elements x)) (sym (some-same y.1 v k)))
    go false k more = ap (λ zs. (y.0, elements y.1) ∷ zs) (more k)

-- where no text has the name, none changes
pub none-elements : (t : TextId) (f : List TextByte → List TextByte) (ys : Texts) → is_some (text_in t ys) ≡ false
    → elements_of ys ≡ change t f (elements_of ys)
none-elements t f [] h = refl
none-elements t f (y ∷ ys) h = go (same_text t y.0) h (none-elements t f ys)
  where
    go : (b : Bool) → is_some (cond b (Some y.1) (text_in t ys)) ≡ false
        → (is_some (text_in t ys) ≡ false → elements_of ys ≡ change t f (elements_of ys))
        → (y.0, elements y.1) ∷ elements_of ys
        ≡ cond b ((y.0, f (elements y.1)) ∷ elements_of ys) ((y.0, elements y.1) ∷ change t f (elements_of ys))
    go true k more = absurd (true≢false k)
    go false k more = ap (λ zs. (y.0, elements y.1) ∷ zs) (more k)

-- ---- what is found by a place

found-from : (t : TextId) (ys : Texts) (i : ℕ) (v : Shown) → i ≡ position_or_len (same_text t) (keys_of ys)
    → slice_get (values_of ys) i ≡ Some v
    → text_in t ys ≡ Some v
found-from t [] i v p q = absurd (cc)
found-from t (y ∷ ys) i v p q = go (same_text t y.0) i p q (found-from t ys)
  where
    go : (b : Bool) (j : ℕ) → j ≡ cond (not b) (1 + position_or_len (same_text t) (keys_of ys)) 0
        → slice_get (values_of (y ∷ ys)) j ≡ Some v
        → ((k : ℕ) (u : Shown) → k ≡ position_or_len (same_text t) (keys_of ys) → slice_get (values_of ys) k ≡ Some u → text_in t ys ≡ Some u)
        → cond b (Some y.1) (text_in t ys) ≡ Some v
    go true zero p q more = q
    go true (suc j) p q more = absurd (omega arith)
    go false zero p q more = absurd (omega arith)
    go false (suc j) p q more = more j v (omega arith) q

pub found-at : (t : TextId) (ys : Texts) (i : ℕ) (v : Shown) → Some i ≡ position (same_text t) (keys_of ys)
    → Some v ≡ slice_get (values_of ys) i
    → text_in t ys ≡ Some v
found-at t ys i v p q = found-from t ys i v (place_of (position_or_len (same_text t) (keys_of ys)) (length (keys_of ys)) i p) (sym q)

-- the elements found there
pub elements-at : (t : TextId) (ys : Texts) (i : ℕ) (v : Shown) → Some i ≡ position (same_text t) (keys_of ys)
    → Some v ≡ slice_get (values_of ys) i
    → elements_or_none (text_in t (elements_of ys)) ≡ elements v
elements-at t ys i v p q = ap elements_or_none (in-elements t ys ∙ ap (option_map elements) (found-at t ys i v p q))

-- a text written where the name was found
pub changed-elements : (t : TextId) (f : List TextByte → List TextByte) (ys : Texts) (i : ℕ) (v w : Shown)
    → Some i ≡ position (same_text t) (keys_of ys) → Some v ≡ slice_get (values_of ys) i → elements w ≡ f (elements v)
    → elements_of (set_value_at ys i w) ≡ change t f (elements_of ys)
changed-elements t f ys i v w p q e =
    ap elements_of (changed text_name t (λ _. w) ys i v w p q refl) ∙ change-elements t w f ys v (found-at t ys i v p q) e

-- ---- how they grow

grows-same : (b : Bool) (o : Option Shown) → b ≡ false → Grows b o o
grows-same false None h = tt
grows-same false (Some x) h = refl
grows-same true o h = absurd (true≢false h)

-- where none is there, none is changed
grows-none : (b : Bool) (o : Option Shown) → o ≡ None → Grows b o o
grows-none b None h = tt
grows-none b (Some x) h = absurd (cc)

pub changed-grow : (t : TextId) (ys : Texts) (i : ℕ) (v w : Shown) → Some i ≡ position (same_text t) (keys_of ys)
    → Some v ≡ slice_get (values_of ys) i → IsWorked v w
    → AllGrow (λ u. same_text t u) ys (set_value_at ys i w)
changed-grow t ys i v w p q k u =
    subst (λ zs. Grows (same_text t u) (text_in u ys) (text_in u zs)) (sym (changed text_name t (λ _. w) ys i v w p q refl))
    (subst (Grows (same_text t u) (text_in u ys)) (sym (in-change text_name only_text u t (λ _. w) ys)) (go (same_text u t) refl))
  where
    go : (b : Bool) → same_text u t ≡ b → Grows (same_text t u) (text_in u ys) (cond b (option_map (λ _. w) (text_in u ys)) (text_in u ys))
    go false b = grows-same (same_text t u) (text_in u ys) (apart text_name u t b)
    go true b =
        let same : u ≡ t = same_text-true u t b in
        let here : text_in u ys ≡ Some v = ap (λ d. text_in d ys) same ∙ found-at t ys i v p q in
        let one : same_text t u ≡ true = ap (same_text t) same ∙ same_text-itself t in
        rw (here, one) k

pub none-grow : (t : TextId) (ys : Texts) → is_some (text_in t ys) ≡ false → AllGrow (λ u. same_text t u) ys ys
none-grow t ys h u = go (same_text t u) refl
  where
    none-there : (o : Option Shown) → is_some o ≡ false → o ≡ None
    none-there None k = refl
    none-there (Some x) k = absurd (true≢false k)

    go : (b : Bool) → same_text t u ≡ b → Grows b (text_in u ys) (text_in u ys)
    go false b = grows-same false (text_in u ys) refl
    go true b = grows-none true (text_in u ys) (ap (λ d. text_in d ys) (sym (same_text-true t u b)) ∙ none-there (text_in t ys) h)

-- what is added grows from nothing
grows-or : (o m : Option Shown) → ((x : Shown) → m ≡ Some x → IsUnworked x) → Grows false o (option_or o m)
grows-or (Some x) m h = refl
grows-or None None h = tt
grows-or None (Some x) h = h x refl

unworked-in : (t : TextId) (xs : Texts) → AllByRecursion (λ y. IsUnworked y.1) xs → (x : Shown) → text_in t xs ≡ Some x → IsUnworked x
unworked-in t [] a x h = absurd (cc)
unworked-in t (y ∷ ys) a x h = go (same_text t y.0) h (unworked-in t ys a.1 x)
  where
    go : (b : Bool) → cond b (Some y.1) (text_in t ys) ≡ Some x → (text_in t ys ≡ Some x → IsUnworked x) → IsUnworked x
    go true k more = subst IsUnworked (some-same y.1 x k) a.0
    go false k more = more k

pub add_all-grow : (xs ys : Texts) → AllByRecursion (λ y. IsUnworked y.1) xs → AllGrow (λ t. false) ys (add_all xs ys)
add_all-grow xs ys a t = subst (Grows false (text_in t ys)) (sym (in-add_all text_name only_text t xs ys)) (grows-or (text_in t ys) (text_in t xs) (unworked-in t xs a))

pub add-grow : (t : TextId) (x : Shown) (ys : Texts) → IsUnworked x → AllGrow (λ u. false) ys (add t x ys)
add-grow t x ys a = add_all-grow ((t, x) ∷ []) ys (a, tt)
