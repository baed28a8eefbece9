-- How many stretches bytes make is counted without the stretches.
use Rattle.std.proofs.Common.{◌≡◌, ℕ, zero, suc, ◌+◌, ◌≤◌, Bool, true, false, cond, List, [], ◌∷◌, ◌++◌, length, Option, Some, None, refl, sym, arith}
use Rattle.zed_types.specs.declared.names.ElemId.{ElemId}
use Rattle.zed_types.specs.declared.text.ByteRange.{ByteRange}
use Rattle.zed_types.specs.declared.text.TextByte.{TextByte}
use Rattle.zed_types.specs.Names.{byte_of}
use Rattle.zed_document.specs.Authoring.{alone, goes_before, with_byte, stretches, part}
use Rattle.zed_document.specs.Stretches.{ends_before, with_last, begun}
use Rattle.zed_document.proofs.Stretched.{stretches-behind}

-- the byte that ends the last of some stretches, or that before them
abbrev pub end_of : Option ElemId → List ByteRange → Option ElemId
end_of b [] = b
end_of b (r ∷ rs) = end_of (Some (byte_of r.stamp r.last)) rs

end-with : (b : Option ElemId) (rs : List ByteRange) (a : ElemId) → end_of b (with_last rs a) ≡ Some a
end-with b [] a = refl
end-with b (r ∷ []) a = go (ends_before r a) refl
  where
    go : (t : Bool) → ends_before r a ≡ t → end_of b (with_last (r ∷ []) a) ≡ Some a
    go true t = rw t refl
    go false t = rw t refl
end-with b (r ∷ s ∷ rs) a = end-with (Some (byte_of r.stamp r.last)) (s ∷ rs) a

count-behind : (b : Option ElemId) (r : ByteRange) (rs : List ByteRange) (a : ElemId)
    → length (with_last (r ∷ rs) a) ≡ length (r ∷ rs) + begun (end_of b (r ∷ rs)) a
count-behind b r [] a = go (ends_before r a) refl
  where
    go : (t : Bool) → ends_before r a ≡ t → length (with_last (r ∷ []) a) ≡ 1 + begun (end_of b (r ∷ [])) a
    go true t = rw t refl
    go false t = rw t refl
count-behind b r (s ∷ rs) a = let more = count-behind (Some (byte_of r.stamp r.last)) s rs a in omega arith

count-with : (rs : List ByteRange) (a : ElemId) → length (with_last rs a) ≡ length rs + begun (end_of None rs) a
count-with [] a = refl
count-with (r ∷ rs) a = count-behind None r rs a

-- a count of the stretches of bytes, and the last of the bytes
abbrev pub Counts : ℕ → Option ElemId → List TextByte → Type 0
Counts n b xs = (n ≡ length (stretches xs)) × (b ≡ end_of None (stretches xs))

pub count-next : (n : ℕ) (b : Option ElemId) (xs : List TextByte) (x : TextByte) → Counts n b xs
    → Counts (n + begun b x.id) (Some x.id) (xs ++ x ∷ [])
count-next n b xs x h = rw (stretches-behind xs x, h.0, h.1) (sym (count-with (stretches xs) x.id), sym (end-with None (stretches xs) x.id))

begun-most : (b : Option ElemId) (a : ElemId) → begun b a ≤ 1
begun-most None a = omega arith
begun-most (Some b) a = go (ends_before (alone b) a)
  where
    go : (t : Bool) → cond t 0 1 ≤ 1
    go true = omega arith
    go false = omega arith

-- bytes make no more stretches than there are bytes
byte-most : (a : ElemId) (rs : List ByteRange) → length (with_byte a rs) ≤ length rs + 1
byte-most a [] = omega arith
byte-most a (r ∷ rs) = go (goes_before a r) refl
  where
    go : (t : Bool) → goes_before a r ≡ t → length (with_byte a (r ∷ rs)) ≤ length (r ∷ rs) + 1
    go true t = rw t (omega arith)
    go false t = rw t (omega arith)

stretches-most : (xs : List TextByte) → length (stretches xs) ≤ length xs
stretches-most [] = omega arith
stretches-most (x ∷ xs) = let one = byte-most x.id (stretches xs) in let more = stretches-most xs in omega arith

part-most : (f t : ℕ) (xs : List TextByte) → length (part f t xs) ≤ t
part-most zero zero xs = omega arith
part-most zero (suc t) [] = omega arith
part-most zero (suc t) (x ∷ xs) = let more = part-most zero t xs in omega arith
part-most (suc f) zero xs = omega arith
part-most (suc f) (suc t) [] = omega arith
part-most (suc f) (suc t) (x ∷ xs) = let more = part-most f t xs in omega arith

pub count-few : (n : ℕ) (b : Option ElemId) (a : ElemId) (f t : ℕ) (all : List TextByte) → Counts n b (part f t all) → n + begun b a ≤ t + 1
count-few n b a f t all h =
    let one = begun-most b a in
    let few = stretches-most (part f t all) in
    let many = part-most f t all in
    let k = h.0 in
    omega arith
