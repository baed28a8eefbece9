-- Values found under their keys and changed where they stand.
use Rattle.std.proofs.Common.{◌≡◌, ℕ, zero, suc, ◌+◌, Bool, true, false, not, cond, nat_lt, [], ◌∷◌, length, position, slice_get, None, Some, is_some, refl, sym, ap, ◌∙◌, true≢false, arith}
use Rattle.std.specs.List.{position_or_len}
use Rattle.std.specs.Map.{keys_of, values_of, lookup}
use Rattle.indexmap.specs.IndexMap.{set_value_at}
use Rattle.zed_types.specs.declared.names.Name.{Name}
use Rattle.zed_stats.specs.ByName.{Under, same, put, add, change}

pub place_of : (n len i : ℕ) → Some i ≡ cond (nat_lt n len) (Some n) None → i ≡ n
place_of n len i h = go (nat_lt n len) h
  where
    go : (b : Bool) → Some i ≡ cond b (Some n) None → i ≡ n
    go true h = cc
    go false h = cc

module _ {K X : Type 0} (name : K → Name) where
  -- where nothing stands under the key, nothing changes
  pub change-none : (id : K) (f : X → X) (es : Under K X) → is_some (lookup (same name id) es) ≡ false → es ≡ change name id f es
  change-none id f [] h = refl
  change-none id f (e ∷ es) h = go (same name id e.0) refl h (change-none id f es)
    where
      go : (b : Bool) → same name id e.0 ≡ b → is_some (cond b (Some e.1) (lookup (same name id) es)) ≡ false
          → (is_some (lookup (same name id) es) ≡ false → es ≡ change name id f es)
          → e ∷ es ≡ change name id f (e ∷ es)
      go true b h more = absurd (true≢false h)
      go false b h more = rw b (ap (λ xs. e ∷ xs) (more h))

  changed_from : (id : K) (f : X → X) (es : Under K X) (i : ℕ) (v : X) → i ≡ position_or_len (same name id) (keys_of es)
      → slice_get (values_of es) i ≡ Some v
      → set_value_at es i (f v) ≡ change name id f es
  changed_from id f [] i v p q = refl
  changed_from id f (e ∷ es) i v p q = go (same name id e.0) refl i p q (changed_from id f es)
    where
      go : (b : Bool) → same name id e.0 ≡ b → (j : ℕ) → j ≡ cond (not b) (1 + position_or_len (same name id) (keys_of es)) 0
          → slice_get (values_of (e ∷ es)) j ≡ Some v
          → ((k : ℕ) (u : X) → k ≡ position_or_len (same name id) (keys_of es) → slice_get (values_of es) k ≡ Some u → set_value_at es k (f u) ≡ change name id f es)
          → set_value_at (e ∷ es) j (f v) ≡ change name id f (e ∷ es)
      go true b zero p q more =
          let same : e.1 ≡ v = cc in
          rw b (ap (λ u. (e.0, f u) ∷ es) (sym same))
      go true b (suc j) p q more = absurd (omega arith)
      go false b zero p q more = absurd (omega arith)
      go false b (suc j) p q more = rw b (ap (λ xs. e ∷ xs) (more j v (omega arith) q))

  -- a value written where the name was found
  pub changed : (id : K) (f : X → X) (es : Under K X) (i : ℕ) (v w : X) → Some i ≡ position (same name id) (keys_of es)
      → Some v ≡ slice_get (values_of es) i → w ≡ f v
      → set_value_at es i w ≡ change name id f es
  changed id f es i v w p q r =
      let here = place_of (position_or_len (same name id) (keys_of es)) (length (keys_of es)) i p in
      ap (set_value_at es i) r ∙ changed_from id f es i v here (sym q)

  -- a value written back where it stands
  pub unchanged : (es : Under K X) (i : ℕ) (v : X) → slice_get (values_of es) i ≡ Some v → set_value_at es i v ≡ es
  unchanged [] i v q = refl
  unchanged (e ∷ es) zero v q =
      let same : e.1 ≡ v = cc in
      ap (λ u. (e.0, u) ∷ es) (sym same)
  unchanged (e ∷ es) (suc i) v q = ap (λ xs. e ∷ xs) (unchanged es i v q)

  pub add-new : (id : K) (x : X) (es : Under K X) → is_some (lookup (same name id) es) ≡ false → put name id x es ≡ add name id x es
  add-new id x es h = rw h refl
