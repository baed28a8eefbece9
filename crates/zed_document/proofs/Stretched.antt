-- Stretches found from the left are those cut from the right.
use Rattle.std.proofs.Common.{◌≡◌, ℕ, zero, suc, ◌+◌, Bool, true, false, List, [], ◌∷◌, ◌++◌, set, length, refl, ap, ◌∙◌, arith}
use Rattle.std.specs.Prelude.{slice_index_or}
use Rattle.std.proofs.lemmas.Bool.{and_parts}
use Rattle.zed_types.specs.declared.names.ElemId.{ElemId}
use Rattle.zed_types.specs.declared.text.TextByte.{TextByte}
use Rattle.zed_types.specs.declared.text.ByteRange.{ByteRange}
use Rattle.zed_types.specs.Stamp.{same_stamp}
use Rattle.zed_document.specs.Authoring.{alone, goes_before, with_byte, stretches}
use Rattle.zed_document.specs.Stretches.{ends_before, stretched, with_last}
use Rattle.zed_types.proofs.StampOrder.{same_stamp-true}

-- the last stretch goes on, or doesn't
pub last-stretched : (rs : List ByteRange) (i : ℕ) (a : ElemId) (r : ByteRange) → i + 1 ≡ length rs → r ≡ slice_index_or rs i r
    → ends_before r a ≡ true
    → with_last rs a ≡ set rs i (stretched r a)
last-stretched [] i a r l is e = absurd (omega arith)
last-stretched (x ∷ []) zero a r l is e = let t : ends_before x a ≡ true = rw (← is) e in rw (t, is) refl
last-stretched (x ∷ []) (suc i) a r l is e = absurd (omega arith)
last-stretched (x ∷ y ∷ ys) zero a r l is e = absurd (omega arith)
last-stretched (x ∷ y ∷ ys) (suc i) a r l is e = ap (λ rest. x ∷ rest) (last-stretched (y ∷ ys) i a r (omega arith) is e)

pub last-alone : (rs : List ByteRange) (i : ℕ) (a : ElemId) (r : ByteRange) → i + 1 ≡ length rs → r ≡ slice_index_or rs i r
    → ends_before r a ≡ false
    → with_last rs a ≡ rs ++ alone a ∷ []
last-alone [] i a r l is e = absurd (omega arith)
last-alone (x ∷ []) zero a r l is e = let t : ends_before x a ≡ false = rw (← is) e in rw t refl
last-alone (x ∷ []) (suc i) a r l is e = absurd (omega arith)
last-alone (x ∷ y ∷ ys) zero a r l is e = absurd (omega arith)
last-alone (x ∷ y ∷ ys) (suc i) a r l is e = ap (λ rest. x ∷ rest) (last-alone (y ∷ ys) i a r (omega arith) is e)

pub none-alone : (rs : List ByteRange) (a : ElemId) → length rs ≡ 0 → with_last rs a ≡ rs ++ alone a ∷ []
none-alone [] a l = refl
none-alone (x ∷ xs) a l = absurd (omega arith)

-- a byte in front and a byte behind: in either order
one-one : (b a : ElemId) → with_byte b (alone a ∷ []) ≡ with_last (alone b ∷ []) a
one-one b a = go (goes_before b (alone a)) refl
  where
    go : (t : Bool) → goes_before b (alone a) ≡ t → with_byte b (alone a ∷ []) ≡ with_last (alone b ∷ []) a
    go true t = rw t refl
    go false t = rw t refl

pub front-behind : (b a : ElemId) (rs : List ByteRange) → with_byte b (with_last rs a) ≡ with_last (with_byte b rs) a
front-behind b a [] = one-one b a
front-behind b a (r ∷ []) = go (goes_before b r) refl (ends_before r a) refl
  where
    go : (t : Bool) → goes_before b r ≡ t → (u : Bool) → ends_before r a ≡ u
        → with_byte b (with_last (r ∷ []) a) ≡ with_last (with_byte b (r ∷ [])) a
    go true t true u =
        let s : r.stamp ≡ a.name.stamp = same_stamp-true r.stamp a.name.stamp (and_parts (same_stamp r.stamp a.name.stamp) _ u).0 in
        let t' : goes_before b (stretched r a) ≡ true = rw s at t in
        rw (t, u, t') refl
    go true t false u = rw (t, u, t) refl
    go false t true u =
        let s : r.stamp ≡ a.name.stamp = same_stamp-true r.stamp a.name.stamp (and_parts (same_stamp r.stamp a.name.stamp) _ u).0 in
        let t' : goes_before b (stretched r a) ≡ false = rw s at t in
        rw (t, u, t') refl
    go false t false u = rw (t, u, t) refl
front-behind b a (r ∷ s ∷ rs) = go (goes_before b r) refl
  where
    go : (t : Bool) → goes_before b r ≡ t → with_byte b (with_last (r ∷ s ∷ rs) a) ≡ with_last (with_byte b (r ∷ s ∷ rs)) a
    go true t = rw t refl
    go false t = rw t refl

-- one more byte behind others
pub stretches-behind : (xs : List TextByte) (x : TextByte) → stretches (xs ++ x ∷ []) ≡ with_last (stretches xs) x.id
stretches-behind [] x = refl
stretches-behind (y ∷ ys) x = ap (with_byte y.id) (stretches-behind ys x) ∙ front-behind y.id x.id (stretches ys)
