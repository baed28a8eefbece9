-- Edits without those that are marked.
use Rattle.std.proofs.Common.{◌≡◌, Bool, true, false, not, cond, List, [], ◌∷◌, refl, ap, filter, map}
use Rattle.std.specs.List.{AllByRecursion}
use Rattle.zed_types.specs.Stamp.{before}
use Rattle.zed_op.specs.declared.op.Edit.{Edit}
use Rattle.zed_op.specs.Fit.{Fits}
use Rattle.zed_op.specs.Set.{AllFit, IsRising}
use Rattle.zed_undo.specs.Leaving.{left_by, without}

-- where the edits that pass a test are marked, the others are left
pub left_map : (gone : Edit → Bool) (es : List Edit) → left_by (map gone es) es ≡ without gone es
left_map gone [] = refl
left_map gone (e ∷ es) = go (gone e) (left_map gone es)
  where
    go : (b : Bool) → left_by (map gone es) es ≡ without gone es
        → cond b (left_by (map gone es) es) (e ∷ left_by (map gone es) es) ≡ cond (not b) (e ∷ without gone es) (without gone es)
    go true more = more
    go false more = ap (λ (xs : List Edit). e ∷ xs) more

-- what holds of all holds of those that are left
all_left : (P : Edit → Type 0) (ms : List Bool) (es : List Edit) → AllByRecursion P es → AllByRecursion P (left_by ms es)
all_left P ms [] all = tt
all_left P [] (e ∷ es) all = tt
all_left P (m ∷ ms) (e ∷ es) all = go m (all_left P ms es all.1)
  where
    go : (b : Bool) → AllByRecursion P (left_by ms es) → AllByRecursion P (cond b (left_by ms es) (e ∷ left_by ms es))
    go true more = more
    go false more = (all.0, more)

pub left_fit : (ms : List Bool) (es : List Edit) → AllFit es → AllFit (left_by ms es)
left_fit ms es fit = all_left Fits ms es fit

pub left_rising : (ms : List Bool) (es : List Edit) → IsRising es → IsRising (left_by ms es)
left_rising ms [] rising = tt
left_rising [] (e ∷ es) rising = tt
left_rising (m ∷ ms) (e ∷ es) rising = go m (left_rising ms es rising.1) (all_left (λ f. before e.stamp f.stamp ≡ true) ms es rising.0)
  where
    go : (b : Bool) → IsRising (left_by ms es) → AllByRecursion (λ f. before e.stamp f.stamp ≡ true) (left_by ms es)
        → IsRising (cond b (left_by ms es) (e ∷ left_by ms es))
    go true more later = more
    go false more later = (later, more)
