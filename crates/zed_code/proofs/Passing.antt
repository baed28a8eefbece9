-- What an insertion passes, said of runs and of the pieces that they stand for.
use Rattle.std.proofs.Common.{◌≡◌, ◌≤◌, ◌<◌, ◌∙◌, ◌&&◌, ℕ, zero, suc, ◌+◌, ◌-◌, min, Bool, true, false, cond, List, [], ◌∷◌, length, map, drop, Option, Some, None, refl, ap, arith, leb, ltb}
use Rattle.std.specs.List.{AllByRecursion}
use Rattle.std.proofs.lemmas.List.{length-map}
use Rattle.std.proofs.lemmas.List.Sums.{sum_by-cons}
use Rattle.zed_types.specs.declared.stamp.Stamp.{Stamp}
use Rattle.zed_types.specs.declared.names.ElemId.{ElemId}
use Rattle.zed_types.specs.declared.text.ByteRange.{ByteRange}
use Rattle.zed_types.specs.Stamp.{before, same_stamp}
use Rattle.zed_code.specs.declared.run.Run.{Run}
use Rattle.zed_code.specs.Cutting.{bytes_in, piece_in}
use Rattle.zed_code.specs.Kept.{IsRun}
use Rattle.zed_code.specs.Looks as looks
use Rattle.zed_code.specs.Runs.{behind, found, has, looks_to_put, passed, passed_after, touched, touches, up_to}
use Rattle.zed_code.proofs.Spelling.{bytes-count}

pub passed-most : (s : Stamp) (rs : List Run) → passed s rs ≤ length rs
passed-most s [] = omega arith
passed-most s (r ∷ rs) = go (before s r.stamp) (passed-most s rs)
  where
    go : (b : Bool) → passed s rs ≤ length rs → cond b (suc (passed s rs)) 0 ≤ suc (length rs)
    go true m = omega (arith, m)
    go false m = omega arith

-- ---- behind a byte of a run

abbrev rest : List Run → List Run
rest [] = []
rest (x ∷ xs) = xs

module _ (a : ElemId) (r : Run) where
  abbrev first : List Run → Run
  first [] = r
  first (x ∷ xs) = x

  -- the run itself, with what follows it
  behind-at : (rs qs : List Run) → found a rs < length rs → drop (found a rs) rs ≡ r ∷ qs → behind a rs ≡ cond (ltb (up_to a r) r.len) [] qs
  behind-at [] qs l e = absurd (omega (arith, l))
  behind-at (q ∷ rs) qs l e = go (λ m f. behind-at rs qs m f) (has a q) l e
    where
      go : (found a rs < length rs → drop (found a rs) rs ≡ r ∷ qs → behind a rs ≡ cond (ltb (up_to a r) r.len) [] qs) → (b : Bool)
          → cond b 0 (suc (found a rs)) < suc (length rs) → drop (cond b 0 (suc (found a rs))) (q ∷ rs) ≡ r ∷ qs
          → cond b (cond (ltb (up_to a q) q.len) [] rs) (behind a rs) ≡ cond (ltb (up_to a r) r.len) [] qs
      go more true l e =
          ap (λ (x : Run). cond (ltb (up_to a x) x.len) [] rs) (ap first e) ∙ ap (λ xs. cond (ltb (up_to a r) r.len) [] xs) (ap rest e)
      go more false l e = more (omega (arith, l)) e

  pub behind-inside : (rs qs : List Run) → found a rs < length rs → drop (found a rs) rs ≡ r ∷ qs → ltb (up_to a r) r.len ≡ true
      → behind a rs ≡ []
  behind-inside rs qs l e c = behind-at rs qs l e ∙ ap (λ b. cond b [] qs) c

  pub behind-whole : (rs qs : List Run) → found a rs < length rs → drop (found a rs) rs ≡ r ∷ qs → ltb (up_to a r) r.len ≡ false
      → behind a rs ≡ qs
  behind-whole rs qs l e c = behind-at rs qs l e ∙ ap (λ b. cond b [] qs) c

-- the runs behind the first of some
pub drop-rest : (rs qs : List Run) (r : Run) (n : ℕ) → drop n rs ≡ r ∷ qs → drop (suc n) rs ≡ qs
drop-rest [] qs r zero e = absurd (cc)
drop-rest [] qs r (suc n) e = absurd (cc)
drop-rest (x ∷ rs) qs r zero e = ap rest e
drop-rest (x ∷ rs) qs r (suc n) e = drop-rest rs qs r n e

-- ---- pieces

-- what a run that passes counts
abbrev one : Bool → ℕ
one b = cond b 1 0

module _ (store : List ℕ) where
  later-pieces : (s : Stamp) (rs : List Run) → looks.later s (map (piece_in store) rs) ≡ passed s rs
  later-pieces s [] = refl
  later-pieces s (r ∷ rs) = ap (λ n. cond (before s r.stamp) (suc n) 0) (later-pieces s rs)

  has-piece : (a : ElemId) (r : Run) → IsRun store r → looks.has a (piece_in store r) ≡ has a r
  has-piece a r h =
      ap (λ n. same_stamp r.stamp a.name.stamp && (leb r.first a.name.index && ltb a.name.index (r.first + n))) (bytes-count store r h)

  behind-pieces : (a : ElemId) (rs : List Run) → AllByRecursion (IsRun store) rs
      → looks.behind a (map (piece_in store) rs) ≡ map (piece_in store) (behind a rs)
  behind-pieces a [] each = refl
  behind-pieces a (r ∷ rs) each =
      ap (λ b. cond b (cond (ltb (suc (a.name.index - r.first)) (length (bytes_in store r))) [] (map (piece_in store) rs)) (looks.behind a (map (piece_in store) rs))) (has-piece a r each.0)
      ∙ ap (λ n. cond (has a r) (cond (ltb (suc (a.name.index - r.first)) n) [] (map (piece_in store) rs)) (looks.behind a (map (piece_in store) rs))) (bytes-count store r each.0)
      ∙ ap (λ ps. cond (has a r) (cond (ltb (up_to a r) r.len) [] (map (piece_in store) rs)) ps) (behind-pieces a rs each.1)
      ∙ go (has a r) (ltb (up_to a r) r.len)
    where
      go : (b c : Bool)
          → cond b (cond c [] (map (piece_in store) rs)) (map (piece_in store) (behind a rs))
          ≡ map (piece_in store) (cond b (cond c [] rs) (behind a rs))
      go true true = refl
      go true false = refl
      go false c = refl

  passed-pieces : (after : Option ElemId) (s : Stamp) (rs : List Run) → AllByRecursion (IsRun store) rs
      → looks.passed after s (map (piece_in store) rs) ≡ passed_after after s rs
  passed-pieces None s rs each = later-pieces s rs
  passed-pieces (Some a) s rs each = ap (looks.later s) (behind-pieces a rs each) ∙ later-pieces s (behind a rs)

  pub looks-to-insert : (after : Option ElemId) (s : Stamp) (rs : List Run) → AllByRecursion (IsRun store) rs
      → looks.looks_to_insert after s (map (piece_in store) rs) ≡ looks_to_put after s rs
  looks-to-insert after s rs each = omega (arith, passed-pieces after s rs each, length-map rs (piece_in store))

  changed-piece : (x : ByteRange) (r : Run) → IsRun store r → looks.is_changed x (piece_in store r) ≡ touches x r
  changed-piece x r h =
      ap (λ n. r.alive && (same_stamp r.stamp x.stamp && ltb (x.first - r.first) (min n (suc x.last - r.first)))) (bytes-count store r h)

  pub looks-to-delete : (x : ByteRange) (rs : List Run) → AllByRecursion (IsRun store) rs
      → looks.looks_to_delete x (map (piece_in store) rs) ≡ touched x rs
  looks-to-delete x [] each = refl
  looks-to-delete x (r ∷ rs) each =
      let p = sum_by-cons (λ q. cond (looks.is_changed x q) 1 0) (piece_in store r) (map (piece_in store) rs) in
      let q = sum_by-cons (λ q. cond (touches x q) 1 0) r rs in
      let here : cond (looks.is_changed x (piece_in store r)) 1 0 ≡ cond (touches x r) 1 0 = ap one (changed-piece x r each.0) in
      omega (arith, p, q, here, looks-to-delete x rs each.1)
