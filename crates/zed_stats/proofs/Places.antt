-- Where a key stands: at one place alone.
use Rattle.std.proofs.Common.{◌≡◌, ◌∙◌, ℕ, ◌<◌, false, List, length, get_or, position, slice_get, Some, option_map, sym, ap, refl, subst, arith, lt-ltb}
use Rattle.std.specs.List.{IsDistinct, position_or_len}
use Rattle.std.specs.Map.{keys_of, values_of}
use Rattle.std.proofs.lemmas.List.Sums.{position_or_len_is}
use Rattle.std.proofs.lemmas.Map.Keys.{apart_from_distinct}
use Rattle.std.proofs.lemmas.Option.{slice_get_within, slice_get-map, get_or_from_slice_get}
use Rattle.zed_types.specs.declared.names.Name.{Name}
use Rattle.zed_types.proofs.StampOrder.{same_name-itself}
use Rattle.zed_stats.specs.ByName.{Under, same}
use Rattle.zed_stats.proofs.Found.{apart}

module _ {K : Type 0} (name : K → Name) where
  pub stands : (t : K) (ts : List K) (i : ℕ) → IsDistinct (same name) ts → slice_get ts i ≡ Some t → position (same name t) ts ≡ Some i
  stands t ts i distinct is =
      let within : i < length ts = slice_get_within ts i t is in
      let here : get_or ts i t ≡ t = get_or_from_slice_get ts i t t is in
      let before : (k : ℕ) → k < i → same name t (get_or ts k t) ≡ false = λ k lt.
      apart name (get_or ts k t) t (subst (λ (u : K). same name (get_or ts k t) u ≡ false) here (apart_from_distinct (same name) ts k i t distinct lt within)) in
      let n : position_or_len (same name t) ts ≡ i =
      position_or_len_is (same name t) ts i t (omega arith) before (λ _. rw here (same_name-itself (name t))) in
      rw (n, lt-ltb i (length ts) within) refl

-- the key and the value of an entry stand where the entry does
pub key_at : {K X : Type 0} (es : Under K X) (i : ℕ) (t : K) (x : X) → Some (t, x) ≡ slice_get es i → slice_get (keys_of es) i ≡ Some t
key_at es i t x is = slice_get-map (λ e. e.0) es i ∙ ap (option_map (λ e. e.0)) (sym is)

pub value_at : {K X : Type 0} (es : Under K X) (i : ℕ) (t : K) (x : X) → Some (t, x) ≡ slice_get es i → slice_get (values_of es) i ≡ Some x
value_at es i t x is = slice_get-map (λ e. e.1) es i ∙ ap (option_map (λ e. e.1)) (sym is)
