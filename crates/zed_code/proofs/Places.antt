-- Counts that add up, and what a run has that was found.
use Rattle.std.proofs.Common.{◌≡◌, ◌≤◌, ◌<◌, ℕ, zero, suc, ◌+◌, Bool, true, false, ◌&&◌, List, [], ◌∷◌, drop, ap, subst, arith, leb, ltb}
use Rattle.std.specs.List.{AllByRecursion}
use Rattle.zed_types.specs.declared.names.ElemId.{ElemId}
use Rattle.zed_types.specs.Stamp.{same_stamp}
use Rattle.zed_code.specs.declared.run.Run.{Run}
use Rattle.zed_code.specs.Runs.{has}
use Rattle.zed_code.specs.Visits.{raised}

pub raised-twice : (v m n : ℕ) → raised (raised v m) n ≡ raised v (m + n)
raised-twice v m n = omega arith

bounds-of : (s : Bool) (n i l : ℕ) → (s && (leb n i && ltb i (n + l))) ≡ true → (n ≤ i) × (i < n + l)
bounds-of false n i l h = absurd (cc)
bounds-of true n i l h = (grind (arith), grind (arith))

pub held-bounds : (a : ElemId) (r : Run) → has a r ≡ true → (r.first ≤ a.name.index) × (a.name.index < r.first + r.len)
held-bounds a r h = bounds-of (same_stamp r.stamp a.name.stamp) r.first a.name.index r.len h

-- the first run
abbrev head_or : Run → List Run → Run
head_or r [] = r
head_or r (q ∷ rs) = q

pub all-behind : (P : Run → Type 0) (rs : List Run) (i : ℕ) (r : Run) (ts : List Run) → AllByRecursion P rs → drop i rs ≡ r ∷ ts → P r
all-behind P [] zero r ts h e = absurd (cc)
all-behind P [] (suc i) r ts h e = absurd (cc)
all-behind P (q ∷ rs) zero r ts h e = let f : q ≡ r = ap (head_or r) e in subst P f h.0
all-behind P (q ∷ rs) (suc i) r ts h e = all-behind P rs i r ts h.1 e
