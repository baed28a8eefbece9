-- A block that is halved: what stands where.
use Rattle.std.proofs.Common.{◌≡◌, ◌≤◌, ◌<◌, ℕ, zero, suc, ◌+◌, ◌-◌, min, Bool, true, false, cond, List, [], ◌∷◌, ◌++◌, length, take, set, map, get_or, slice_get, Some, length-append, append_assoc, refl, ap, ◌∙◌, sym, subst, arith, ltb}
use Rattle.std.specs.List.{insert}
use Rattle.std.proofs.lemmas.List.{length-map}
use Rattle.zed_types.specs.declared.names.ElemId.{ElemId}
use Rattle.zed_code.specs.declared.run.Run.{Run}
use Rattle.zed_code.specs.declared.block.Block.{Block}
use Rattle.zed_code.specs.declared.block.Spot.{Spot}
use Rattle.zed_code.specs.Blocks.{lists, joined, list_at, IsIn, NoneEmpty}
use Rattle.zed_code.specs.Halving.{IsSameText, IsMoved, spot_behind}
use Rattle.zed_code.specs.Kept.{NoneFrom, AreHints, moved}
use Rattle.zed_code.specs.Visits.{greatest}
use Rattle.zed_code.proofs.Joins.{joined-take, length-lists, list_at-is}
use Rattle.zed_code.proofs.Puts.{lists-set}

-- lists, of which one is halved
abbrev pub halved : List (List Run) → ℕ → List Run → List Run → List (List Run)
halved ls b xs ys = insert (set ls b xs) (suc b) ys

pub lists-insert : (bs : List Block) (i : ℕ) (b : Block) → lists (insert bs i b) ≡ insert (lists bs) i b.runs.items
lists-insert [] zero b = refl
lists-insert [] (suc i) b = refl
lists-insert (q ∷ bs) zero b = refl
lists-insert (q ∷ bs) (suc i) b = ap (λ xs. q.runs.items ∷ xs) (lists-insert bs i b)

module _ (xs ys : List Run) where
  pub joined-halved : (ls : List (List Run)) (b : ℕ) → b < length ls → list_at b ls ≡ xs ++ ys → joined (halved ls b xs ys) ≡ joined ls
  joined-halved [] b l e = absurd (omega (arith, l))
  joined-halved (rs ∷ ls) zero l e = sym (append_assoc xs ys (joined ls)) ∙ ap (λ zs. zs ++ joined ls) (sym e)
  joined-halved (rs ∷ ls) (suc b) l e = ap (λ zs. rs ++ zs) (joined-halved ls b (omega (arith, l)) e)

  pub full-halved : (ls : List (List Run)) (b : ℕ) → b < length ls → 0 < length xs → 0 < length ys → NoneEmpty ls
      → NoneEmpty (halved ls b xs ys)
  full-halved [] b l m n full = absurd (omega (arith, l))
  full-halved (rs ∷ ls) zero l m n full = (m, (n, full.1))
  full-halved (rs ∷ ls) (suc b) l m n full = (full.0, full-halved ls b (omega (arith, l)) m n full.1)

  pub length-halved : (ls : List (List Run)) (b : ℕ) → b < length ls → length (halved ls b xs ys) ≡ suc (length ls)
  length-halved [] b l = absurd (omega (arith, l))
  length-halved (rs ∷ ls) zero l = refl
  length-halved (rs ∷ ls) (suc b) l = ap suc (length-halved ls b (omega (arith, l)))

  pub first-half : (ls : List (List Run)) (b : ℕ) → b < length ls → list_at b (halved ls b xs ys) ≡ xs
  first-half [] b l = absurd (omega (arith, l))
  first-half (rs ∷ ls) zero l = refl
  first-half (rs ∷ ls) (suc b) l = first-half ls b (omega (arith, l))

  pub second-half : (ls : List (List Run)) (b : ℕ) → b < length ls → list_at (suc b) (halved ls b xs ys) ≡ ys
  second-half [] b l = absurd (omega (arith, l))
  second-half (rs ∷ ls) zero l = refl
  second-half (rs ∷ ls) (suc b) l = second-half ls b (omega (arith, l))

  pub take-halved : (ls : List (List Run)) (b : ℕ) → b < length ls → take b (halved ls b xs ys) ≡ take b ls
  take-halved [] b l = absurd (omega (arith, l))
  take-halved (rs ∷ ls) zero l = refl
  take-halved (rs ∷ ls) (suc b) l = ap (λ zs. rs ∷ zs) (take-halved ls b (omega (arith, l)))

  before-halved : (ls : List (List Run)) (b p : ℕ) → b < length ls → p ≤ b → joined (take p (halved ls b xs ys)) ≡ joined (take p ls)
  before-halved [] b p l m = absurd (omega (arith, l))
  before-halved (rs ∷ ls) b zero l m = refl
  before-halved (rs ∷ ls) zero (suc p) l m = absurd (omega (arith, m))
  before-halved (rs ∷ ls) (suc b) (suc p) l m = ap (λ zs. rs ++ zs) (before-halved ls b p (omega (arith, l)) (omega (arith, m)))

  behind-halved : (ls : List (List Run)) (b p : ℕ) → b < length ls → b < p → list_at b ls ≡ xs ++ ys
      → joined (take (suc p) (halved ls b xs ys)) ≡ joined (take p ls)
  behind-halved [] b p l m e = absurd (omega (arith, l))
  behind-halved (rs ∷ ls) b zero l m e = absurd (omega (arith, m))
  behind-halved (rs ∷ ls) zero (suc p) l m e = sym (append_assoc xs ys (joined (take p ls))) ∙ ap (λ zs. zs ++ joined (take p ls)) (sym e)
  behind-halved (rs ∷ ls) (suc b) (suc p) l m e = ap (λ zs. rs ++ zs) (behind-halved ls b p (omega (arith, l)) (omega (arith, m)) e)

  take-all : (ls : List (List Run)) (p : ℕ) → length ls ≤ p → joined (take p ls) ≡ joined ls
  take-all [] zero l = refl
  take-all [] (suc p) l = refl
  take-all (rs ∷ ls) zero l = absurd (omega (arith, l))
  take-all (rs ∷ ls) (suc p) l = ap (λ zs. rs ++ zs) (take-all ls p (omega (arith, l)))

  pub moved-halved : (ls : List (List Run)) (b p : ℕ) → b < length ls → length ls < greatest → list_at b ls ≡ xs ++ ys
      → joined (take (moved b p) (halved ls b xs ys)) ≡ joined (take p ls)
  moved-halved ls b p l small e = go (ltb b p) refl
    where
      top : (k : Bool) → ltb p greatest ≡ k → b < p → joined (take (min (p + 1) greatest) (halved ls b xs ys)) ≡ joined (take p ls)
      top true k m = let n : min (p + 1) greatest ≡ suc p = grind (arith) in rw n (behind-halved ls b p l m e)
      top false k m =
          let n : min (p + 1) greatest ≡ greatest = grind (arith) in
          let long : length (halved ls b xs ys) ≤ greatest = omega (arith, small, length-halved ls b l) in
          let far : length ls ≤ p = grind (arith) in
          rw n (take-all (halved ls b xs ys) greatest long ∙ joined-halved ls b l e ∙ sym (take-all ls p far))

      go : (k : Bool) → ltb b p ≡ k → joined (take (cond k (min (p + 1) greatest) p) (halved ls b xs ys)) ≡ joined (take p ls)
      go true k = top (ltb p greatest) refl (grind (arith))
      go false k = before-halved ls b p l (grind (arith))

get-moved : (f : ℕ → ℕ) (ps qs : List ℕ) (i p : ℕ) → i < length ps → slice_get (map f ps ++ qs) i ≡ Some p
    → (q : ℕ) × (slice_get ps i ≡ Some q) × (p ≡ f q)
get-moved f [] qs i p l e = absurd (omega (arith, l))
get-moved f (x ∷ ps) qs zero p l e = (x, refl, sym (some-is (f x) p e))
  where
    some-is : (m n : ℕ) → Some m ≡ Some n → m ≡ n
    some-is m n e = cc
get-moved f (x ∷ ps) qs (suc i) p l e = get-moved f ps qs i p (omega (arith, l)) e

pub hints-halved : (xs ys : List Run) (ls : List (List Run)) (b : ℕ) (places : List ℕ) (hs : List (ElemId × ℕ)) → b < length ls
    → length ls < greatest → list_at b ls ≡ xs ++ ys → AreHints hs places ls
    → AreHints hs (map (moved b) places ++ ((b + 1) ∷ [])) (halved ls b xs ys)
hints-halved xs ys ls b places hs l small e are hint one =
    let was = are hint one in
    record {
      within = omega (arith, was.within, length-append (map (moved b) places) ((b + 1) ∷ []), length-map places (moved b));
      some = rw (joined-halved xs ys ls b l e) was.some;
      none = λ p g.
          let from = get-moved (moved b) places ((b + 1) ∷ []) hint.1 p was.within g in
          let Q : List Run → Type 0 = λ rs. NoneFrom hint.0.name.stamp hint.0.name.index rs in
          rw from.2 (rw (moved-halved xs ys ls b from.0 l small e) (was.none from.0 from.1));
    }

pub same-halved : (xs ys : List Run) (ls : List (List Run)) (b : ℕ) (places : List ℕ) → b < length ls → length ls < greatest
    → list_at b ls ≡ xs ++ ys → 0 < length xs → 0 < length ys
    → IsSameText ls (halved ls b xs ys) places (map (moved b) places ++ ((b + 1) ∷ []))
same-halved xs ys ls b places l small e m n = record {
  runs = joined-halved xs ys ls b l e;
  full = full-halved xs ys ls b l m n;
  hints = λ hs. hints-halved xs ys ls b places hs l small e;
}

-- a place in the first half, and one in the second
pub stays-halved : (xs ys : List Run) (ls : List (List Run)) (at : Spot) → IsIn at 0 ls → at.place < length xs
    → IsMoved ls (halved ls at.block xs ys) at at
stays-halved xs ys ls at h l = record {
  place = ap (λ qs. length (joined qs) + at.place) (take-halved xs ys ls at.block h.block);
  within = λ n most there. record {
    block = omega (arith, there.block, length-halved xs ys ls at.block h.block);
    place = rw (first-half xs ys ls at.block h.block) (omega (arith, l, most));
  };
}

pub goes-halved : (xs ys : List Run) (ls : List (List Run)) (at : Spot) → IsIn at 0 ls → length xs ≤ at.place
    → list_at at.block ls ≡ xs ++ ys
    → IsMoved ls (halved ls at.block xs ys) at (record { block = at.block + 1; place = at.place - length xs })
goes-halved xs ys ls at h l e =
    let more = length-halved xs ys ls at.block h.block in
    let inside : at.block < length (halved ls at.block xs ys) = omega (arith, more, h.block) in
    let next : at.block + 1 ≡ suc at.block = omega arith in
    let two : list_at (at.block + 1) (halved ls at.block xs ys) ≡ ys = rw next (second-half xs ys ls at.block h.block) in
    record {
      place =
          let t = ap length (joined-take (halved ls at.block xs ys) at.block inside ∙ ap (λ qs. joined qs ++ list_at at.block (halved ls at.block xs ys)) (take-halved xs ys ls at.block h.block) ∙ ap (λ zs. joined (take at.block ls) ++ zs) (first-half xs ys ls at.block h.block)) in
          omega (arith, t, length-append (joined (take at.block ls)) xs, l);
      within = λ n most there. record {
        block = omega (arith, there.block, more);
        place = rw two (omega (arith, there.place, ap length e, length-append xs ys, l));
      };
    }

pub same-kept : (ls : List (List Run)) (ps qs : List ℕ) → qs ≡ ps → IsSameText ls ls ps qs
same-kept ls ps qs e = record {
  runs = refl;
  full = λ full. full;
  hints = λ hs are. let P : List ℕ → Type 0 = λ xs. AreHints hs xs ls in subst P (sym e) are;
}

pub moves-halved : (xs ys : List Run) (ls : List (List Run)) (at : Spot) → IsIn at 0 ls → list_at at.block ls ≡ xs ++ ys
    → IsMoved ls (halved ls at.block xs ys) at (spot_behind (length xs) at)
moves-halved xs ys ls at h e = go (ltb at.place (length xs)) refl
  where
    go : (b : Bool) → ltb at.place (length xs) ≡ b
        → IsMoved ls (halved ls at.block xs ys) at (cond b at (record { block = at.block + 1; place = at.place - length xs }))
    go true b = stays-halved xs ys ls at h (grind (arith))
    go false b = goes-halved xs ys ls at h (grind (arith)) e

list_at-set : (ls : List (List Run)) (i : ℕ) (xs : List Run) → i < length ls → list_at i (set ls i xs) ≡ xs
list_at-set [] i xs l = absurd (omega (arith, l))
list_at-set (rs ∷ ls) zero xs l = refl
list_at-set (rs ∷ ls) (suc i) xs l = list_at-set ls i xs (omega (arith, l))

-- what a split leaves of blocks, of which one is halved
module _ (old kept new : List Block) (at : Spot) (was front back : Block) (k : kept ≡ old) (h : IsIn at 0 (lists old)) (e : was ≡ get_or kept at.block was) (parts : was.runs.items ≡ front.runs.items ++ back.runs.items) (made : new ≡ insert (set kept at.block front) (at.block + 1) back) where
  becomes : lists new ≡ halved (lists old) at.block front.runs.items back.runs.items
  becomes =
      let n : at.block + 1 ≡ suc at.block = omega arith in
      ap lists (made ∙ ap (λ m. insert (set kept at.block front) m back) n ∙ ap (λ bs. insert (set bs at.block front) (suc at.block) back) k)
      ∙ lists-insert (set old at.block front) (suc at.block) back ∙ ap (λ ls. insert ls (suc at.block) back.runs.items) (lists-set old at.block front)

  here : list_at at.block (lists old) ≡ front.runs.items ++ back.runs.items
  here =
      let l = h.block in
      let m = ap length k in
      ap (λ bs. list_at at.block (lists bs)) (sym k) ∙ list_at-is kept at.block was (omega (arith, l, length-lists old, m)) e ∙ parts

  pub split-same : (places more news : List ℕ) → length old < greatest → 0 < length front.runs.items → 0 < length back.runs.items
      → more ≡ places → news ≡ map (moved at.block) more ++ ((at.block + 1) ∷ [])
      → IsSameText (lists old) (lists new) places news
  split-same places more news small m n kept-places moved-places =
      let same = same-halved front.runs.items back.runs.items (lists old) at.block places h.block (omega (arith, small, length-lists old)) here m n in
      let P : List (List Run) → Type 0 = λ ls. IsSameText (lists old) ls places (map (moved at.block) places ++ ((at.block + 1) ∷ [])) in
      let Q : List ℕ → Type 0 = λ ps. IsSameText (lists old) (lists new) places ps in
      subst Q (sym (moved-places ∙ ap (λ ps. map (moved at.block) ps ++ ((at.block + 1) ∷ [])) kept-places)) (subst P (sym becomes) same)

  pub split-moved : (half : List Run) → half ≡ list_at at.block (lists (set kept at.block front))
      → IsMoved (lists old) (lists new) at (spot_behind (length half) at)
  split-moved half read =
      let l = h.block in
      let n = ap length k in
      let m : length half ≡ length front.runs.items = ap length (read ∙ ap (list_at at.block) (lists-set kept at.block front) ∙ list_at-set (lists kept) at.block front.runs.items (omega (arith, l, n, length-lists old, length-lists kept))) in
      let P : List (List Run) → Type 0 = λ ls. IsMoved (lists old) ls at (spot_behind (length front.runs.items) at) in
      let Q : ℕ → Type 0 = λ i. IsMoved (lists old) (lists new) at (spot_behind i at) in
      subst Q (sym m) (subst P (sym becomes) (moves-halved front.runs.items back.runs.items (lists old) at h here))
