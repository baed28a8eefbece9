-- A new value at a place among sorted names is at its place.
use Rattle.std.proofs.Common.{◌≡◌, ◌≤◌, ◌<◌, ℕ, zero, suc, ◌+◌, Bool, true, false, cond, List, [], ◌∷◌, ◌++◌, length, get_or, insert, refl, sym, ap, subst, ◌∙◌, true≢false, nat_lt, Option, Some, None, arith}
use Rattle.std.specs.List.Sorted.{IsSorted}
use Rattle.std.specs.List.{position_or_len}
use Rattle.std.specs.Option.{is_some}
use Rattle.std.specs.Map.{keys_of, lookup}
use Rattle.indexmap.specs.IndexMap.{insert_entry, index_before, move_index}
use Rattle.indexmap.proofs.MoveLemmas.{push_moved}
use Rattle.std.specs.Ordering.{is_lt}
use Rattle.std.specs.declared.cmp.Ordering.{Ordering}
use Rattle.std.proofs.lemmas.List.MinMax.{ranks_by}
use Rattle.std.proofs.lemmas.List.Sorted.{sorted_far}
use Rattle.std.proofs.lemmas.List.{length-map}
use Rattle.std.proofs.lemmas.Bool.Decides.{nat_tests}
use Rattle.std.specs.Cmp.{IsTotalOrder, on_total}
use Rattle.zed_types.specs.declared.names.Name.{Name}
use Rattle.zed_types.specs.Names.{is_earlier}
use Rattle.zed_stats.specs.ByName.{Under, same, key_cmp, under, put, add}
use Rattle.zed_stats.proofs.Changed.{add-new}
use Rattle.zed_types.proofs.Orderings.{name_less, name_total}
use Rattle.zed_stats.proofs.Order.{other-earlier}
use Rattle.zed_stats.proofs.Found.{none-first}

not_past : (n i : ℕ) → i ≤ n → index_before n i ≡ i
not_past n i h = let e : nat_lt n i ≡ false = grind (arith, nat_tests) in rw e refl

key_total : {K : Type 0} (name : K → Name) → IsTotalOrder (key_cmp name)
key_total name = on_total name name_total

sorted-tail : {K : Type 0} (name : K → Name) (x : K) (xs : List K) → IsSorted (key_cmp name) (x ∷ xs) → IsSorted (key_cmp name) xs
sorted-tail name x xs h k d l m =
    let e : suc k + 1 ≡ suc (k + 1) = omega arith in
    subst (λ n. is_lt (key_cmp name (get_or (x ∷ xs) n d) (get_or xs k d)) ≡ false) e (h (suc k) d (omega arith) (omega arith))

module _ {K X : Type 0} (name : K → Name) where
  -- the new name where it was put
  name_at : (es : Under K X) (i : ℕ) (x : K × X) (d : K) → i ≤ length es → get_or (keys_of (insert es i x)) i d ≡ x.0
  name_at es zero x d l = refl
  name_at [] (suc i) x d l = absurd (omega arith)
  name_at (e ∷ es) (suc i) x d l = name_at es i x d (omega arith)

  within : (es : Under K X) (i : ℕ) (x : K × X) → i ≤ length es → i < length (keys_of (insert es i x))
  within es zero x l = omega arith
  within [] (suc i) x l = absurd (omega arith)
  within (e ∷ es) (suc i) x l = let more = within es i x (omega arith) in omega arith

  pub at-place : (es : Under K X) (i : ℕ) (id : K) (s : X) → i ≤ length es → under name id es ≡ None
      → IsSorted (key_cmp name) (keys_of (insert es i (id, s)))
      → insert es i (id, s) ≡ put name id s es
  at-place [] zero id s l n h = refl
  at-place [] (suc i) id s l n h = absurd (omega arith)
  at-place (e ∷ es) zero id s l n h =
      let apart = (none-first name id e es n).0 in
      let k = other-earlier (name e.0) (name id) (sym (name_less (name e.0) (name id)) ∙ h 0 id (omega arith) (omega arith)) apart in
      rw k refl
  at-place (e ∷ es) (suc i) id s l n h =
      let rest = (none-first name id e es n).1 in
      let long = within es i (id, s) (omega arith) in
      let far = sorted_far (λ x y. is_lt (key_cmp name x y)) (ranks_by (key_total name) (λ x. x)) (keys_of (e ∷ insert es i (id, s))) h 0 (suc i) id (omega arith) (omega arith) in
      let k : is_earlier (name id) (name e.0) ≡ false =
      sym (name_less (name id) (name e.0)) ∙ sym (ap (λ x. is_lt (key_cmp name x e.0)) (name_at es i (id, s) id (omega arith))) ∙ far in
      rw k (ap (λ xs. e ∷ xs) (at-place es i id s (omega arith) rest (sorted-tail name e.0 (keys_of (insert es i (id, s))) h)))

  -- a name that isn't there goes last, before it is moved
  pushed : (id : K) (s : X) (es : Under K X) → is_some (lookup (same name id) es) ≡ false
      → (insert_entry (same name) es id s ≡ es ++ (id, s) ∷ []) × (position_or_len (same name id) (keys_of es) ≡ length es)
  pushed id s [] h = (refl, refl)
  pushed id s (e ∷ es) h = go (same name id e.0) refl h (pushed id s es)
    where
      go : (b : Bool) → same name id e.0 ≡ b → is_some (cond b (Some e.1) (lookup (same name id) es)) ≡ false
          → (is_some (lookup (same name id) es) ≡ false → (insert_entry (same name) es id s ≡ es ++ (id, s) ∷ []) × (position_or_len (same name id) (keys_of es) ≡ length es))
          → (insert_entry (same name) (e ∷ es) id s ≡ e ∷ es ++ (id, s) ∷ [])
          × (position_or_len (same name id) (keys_of (e ∷ es)) ≡ length (e ∷ es))
      go true b h more = absurd (true≢false h)
      go false b h more = let m = more h in let p = m.1 in rw b (ap (λ xs. e ∷ xs) m.0, omega arith)

  none-there : (o : Option X) → is_some o ≡ false → o ≡ None
  none-there None h = refl
  none-there (Some x) h = absurd (true≢false h)

  -- what a sorted insertion of a new name makes
  sorted_insertion : (es : Under K X) (id : K) (s : X) (i to : ℕ)
      → is_some (lookup (same name id) es) ≡ false
      → i ≤ length (keys_of es)
      → to ≡ index_before (position_or_len (same name id) (keys_of es)) i
      → IsSorted (key_cmp name) (keys_of (move_index (insert_entry (same name) es id s) (position_or_len (same name id) (keys_of es)) to))
      → move_index (insert_entry (same name) es id s) (position_or_len (same name id) (keys_of es)) to ≡ add name id s es
  sorted_insertion es id s i to none l t h =
      let m = pushed id s es none in
      let size : length (keys_of es) ≡ length es = length-map es _ in
      let k : i ≤ length es = omega arith in
      let place : to ≡ i = t ∙ ap (λ n. index_before n i) m.1 ∙ not_past (length es) i k in
      let moved : move_index (insert_entry (same name) es id s) (position_or_len (same name id) (keys_of es)) to ≡ insert es i (id, s)
      = rw (m.0, m.1, place) (push_moved es (id, s) i k) in
      moved ∙ at-place es i id s k (none-there (lookup (same name id) es) none) (subst (λ xs. IsSorted (key_cmp name) (keys_of xs)) moved h) ∙ add-new name id s es none

-- so where keys are told apart and ordered by their names
abbrev Inserts : {K : Type 0} → Type 0 → (K → Name) → (K → K → Bool) → (K → K → Ordering) → Type 0
Inserts {K} X name eq cmp =
    (es : Under K X) (id : K) (s : X) (i to : ℕ)
    → is_some (lookup (eq id) es) ≡ false
    → i ≤ length (keys_of es)
    → to ≡ index_before (position_or_len (eq id) (keys_of es)) i
    → (IsSorted cmp (keys_of es) → IsSorted cmp (keys_of (move_index (insert_entry eq es id s) (position_or_len (eq id) (keys_of es)) to)))
    → IsSorted (key_cmp name) (keys_of es)
    → move_index (insert_entry eq es id s) (position_or_len (eq id) (keys_of es)) to ≡ add name id s es

pub inserts : {K X : Type 0} (name : K → Name) (eq : K → K → Bool) (cmp : K → K → Ordering) → eq ≡ same name → cmp ≡ key_cmp name
    → Inserts X name eq cmp
inserts {X = X} name eq cmp e o =
    subst (λ q. Inserts X name q cmp) (sym e)
    (subst (λ q. Inserts X name (same name) q) (sym o) (λ es id s i to none l t rises sorted. sorted_insertion name es id s i to none l t (rises sorted)))
