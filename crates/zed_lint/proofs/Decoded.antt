-- Whether bytes decode as UTF-8.
use Rattle.std.proofs.Common.{◌≡◌, ℕ, List, Bool, true, false, refl, sym}
use Rattle.std.specs.Str.{IsUtf8, is_utf8}
use Rattle.std.proofs.lemmas.Str.{IsUtf8-from_is_utf8, is_utf8-from_IsUtf8}

pub decoded : (bs : List ℕ) → IsUtf8 bs → true ≡ is_utf8 bs
decoded bs is = sym (is_utf8-from_IsUtf8 bs is)

pub not_decoded : (bs : List ℕ) → (IsUtf8 bs → ⊥) → false ≡ is_utf8 bs
not_decoded bs isnt = go (is_utf8 bs) refl
  where
    go : (b : Bool) → is_utf8 bs ≡ b → false ≡ is_utf8 bs
    go true e = absurd (isnt (IsUtf8-from_is_utf8 bs e))
    go false e = sym e
